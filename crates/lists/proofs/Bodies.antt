-- What is wrong in a row's body by itself is what is wrong in the row's list.
use Prim.Native.Nat.{ℕ, ◌*◌, ◌<◌}
use native.Mathlib.Omega.{arith}
use mathlib.Core.Path.{◌≡◌, ap}
use mathlib.Core.List.{List}
use lib.ListN.{length}
use Rattle.meaning.specs.Day.{tags, offset, count, label_at, lists_of}
use Rattle.meaning.specs.declared.Label.{Label}
use Rattle.meaning.proofs.Laws.Bytes.{label_part}
use Rattle.reader.specs.Reading.{labels}
use Rattle.contents.specs.Parts.{Placed, row_body}
use Rattle.contents.proofs.BodyLaws.{body_length}
use Rattle.lists.specs.Ordering.{BodyWrong, ListWrong, backward, descent}

module _ (b : List ℕ) (r : ℕ) (p : Placed b) (l : r < tags b) where
  -- The body has as many whole labels as the list.
  many : labels (row_body b r) ≡ count b r
  many = let long : length (row_body b r) ≡ 8 * count b r = body_length b r (p.held r l) in omega (arith, long)

  -- Its labels are the list's.
  one : (i : ℕ) → i < count b r → label_at (row_body b r) 0 i ≡ (lists_of b).label r i
  one i il = label_part b (offset b r) (8 * count b r) i (omega arith)

  start : (i : ℕ) → i < count b r → (label_at (row_body b r) 0 i).start ≡ ((lists_of b).label r i).start
  start i il = ap (λ (v : Label). v.start) (one i il)

  end : (i : ℕ) → i < count b r → (label_at (row_body b r) 0 i).end ≡ ((lists_of b).label r i).end
  end i il = ap (λ (v : Label). v.end) (one i il)

  pub list_by_body : BodyWrong (row_body b r) → ListWrong (lists_of b) r
  list_by_body (backward i il d) =
      let here : i < count b r = omega (arith, many) in
      backward i here (omega (arith, start i here, end i here))
  list_by_body (descent i j ij jl d) =
      let here : j < count b r = omega (arith, many) in
      descent i j ij here (omega (arith, start i (omega arith), start j here))

  pub body_by_list : ListWrong (lists_of b) r → BodyWrong (row_body b r)
  body_by_list (backward i il d) = backward i (omega (arith, many)) (omega (arith, start i il, end i il))
  body_by_list (descent i j ij jl d) = descent i j ij (omega (arith, many)) (omega (arith, start i (omega arith), start j jl))
