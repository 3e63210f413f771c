-- `label::halved` meets its contract: the labels that are left are searched as chunks of 8 bytes. What the code makes of the number that the
-- search finds is left to arithmetic, so that code of another form is refused only where it gives another number.
use Rattle.std.proofs.Common.{rules, tests, arith, ℕ, ◌+◌, List, subst}
use Rattle.std.proofs.Math.Dec.{leb}
use Rattle.std.proofs.lemmas.List.Sorted.{IsPartitionPoint-from_clause}
use Rattle.meaning.specs.Bytes.{u32_at}
use Rattle.label.specs.Started.{Started}
use Rattle.label.proofs.Halving.{chunks_parted, chunks_settle}
use Rattle.label.proofs.halved.Goals as goal

pub returns : goal.returns
returns c =
    let a = c.args in
    let r = c.requires in
    let f = c.as_chunks.ensures in
    let p = c.partition_point-settled in
    let found : Started a.s.now a.at a.n a.v (a.low + p.result) =
    chunks_settle a.s.now a.at a.n a.v a.low a.high r.ascends r.between _ _ _ f.front f.front_len (omega arith) (omega arith) p.result p.ensures.bound
    (IsPartitionPoint-from_clause (λ (y : List ℕ). leb (u32_at y 0) a.v) _ p.result p.ensures.partitioned
    (chunks_parted a.s.now a.at a.n a.v a.low a.high r.ascends r.between _ _ _ f.front f.front_len (omega arith) (omega arith))
    (λ x q g k. search (rules, tests))) in
    subst (Started a.s.now a.at a.n a.v) (grind arith) found
