-- From the least key to what comes next.
use Prim.Native.Nat.{ℕ, ◌+◌, ◌*◌, ◌/◌, ◌%◌, ◌≤◌, ◌<◌}
use native.Mathlib.Nat.{eq-or-lt_of_le, lt_of_not-le}
use native.Mathlib.Decide.{dec_le}
use native.Mathlib.Omega.{arith}
use mathlib.Core.Path.{◌≡◌, sym, ap, ◌∙◌}
use mathlib.Core.Logic.{⊎_elim}
use mathlib.Core.List.{List}
use lib.ListN.{length}
use Rattle.meaning.specs.Limits.{most_tags}
use Rattle.meaning.specs.Labels.{Lists}
use Rattle.order.specs.Walk.{Ascend, Waits, start_of, next, Comes, Done}
use Rattle.order.specs.Standing.{Names}
use Rattle.meaning.specs.Bytes.{at}
use Rattle.tournament.specs.Tournament.{past, Least}
use Rattle.order.specs.Keys.{Keys}
use Rattle.order.proofs.WalkLaws.{precedes_by, first_of_all}

-- A list j whose next label comes next, and which a key names.
record NamesList (t : Lists) (pos : ℕ → ℕ) (key j : ℕ) : Type 0 where
  comes : Comes t pos j
  list : j ≡ key % most_tags
  start : key / most_tags ≡ start_of t (next pos j)

module _ (t : Lists) (pos : ℕ → ℕ) (xs : List ℕ) (key : ℕ) (ascend : Ascend t) (few : t.many ≤ most_tags) (keys : Keys t pos xs) (root : Least xs key) where
  -- A least key that is not past all keys names the list that has the label that comes next.
  named : key < past → (j : ℕ) × NamesList t pos key j
  named h = ⊎_elim (λ e. absurd (omega (arith, root.none (sym e)))) (λ some. go (root.one some)) (eq-or-lt_of_le {n = 0} {m = length xs} (omega arith))
    where
      go : (j : ℕ) × (j < length xs) × (at xs j ≡ key) → (j : ℕ) × NamesList t pos key j
      go (j, k, e) = here (dec_le (t.count j) (pos j))
        where
          l : j < t.many
          l = omega (arith, keys.many)

          here : Dec (t.count j ≤ pos j) → (j : ℕ) × NamesList t pos key j
          here (yes k) = absurd (omega (arith, (keys.key j l).none k))
          here (no d) =
              let room : pos j < t.count j = lt_of_not-le d in
              let is : key ≡ most_tags * start_of t (next pos j) + j = omega (arith, e, (keys.key j l).some room) in
              let small : j < most_tags = omega (arith, l) in
              let waits : Waits t pos (next pos j) = record { holds = record { list_lt = l; at_lt = room }; ahead = omega arith } in (
                j,
                record {
                  comes = first_of_all t ascend pos j waits (λ s sl sc. precedes_by t (next pos j) (next pos s) small (omega arith) (omega (arith, is, root.below s (omega (arith, keys.many)), (keys.key s sl).some sc)));
                  list = omega arith;
                  start = omega arith;
                },
              )

  -- A least key that is past all keys says that all were handed out.
  all_done : past ≤ key → Done t pos
  all_done h r l = go (dec_le (t.count r) (pos r))
    where
      go : Dec (t.count r ≤ pos r) → t.count r ≤ pos r
      go (yes k) = k
      go (no d) = absurd (omega (arith, (keys.key r l).small (lt_of_not-le d), root.below r (omega (arith, keys.many))))

  -- No least key is more than one past all keys.
  at_most_past : key ≤ past
  at_most_past = ⊎_elim (λ e. omega (arith, root.none (sym e))) (λ some. go (root.one some)) (eq-or-lt_of_le {n = 0} {m = length xs} (omega arith))
    where
      go : (j : ℕ) × (j < length xs) × (at xs j ≡ key) → key ≤ past
      go (j, k, e) = here (dec_le (t.count j) (pos j))
        where
          l : j < t.many
          l = omega (arith, keys.many)

          here : Dec (t.count j ≤ pos j) → key ≤ past
          here (yes k) = omega (arith, (keys.key j l).none k)
          here (no d) = omega (arith, (keys.key j l).small (lt_of_not-le d))

  -- So the least key names what comes next.
  pub names_of : Names t pos key
  names_of = record {
    some = λ h. let n = named h in rw (← n.1.list) n.1.comes;
    start = λ h. let n = named h in n.1.start ∙ ap (λ (r : ℕ). start_of t (next pos r)) n.1.list;
    none = all_done;
    most = at_most_past;
  }
