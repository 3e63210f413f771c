-- The loop of `body_wrong`, with no mention of memory: what holds between turns, and that a turn keeps it.
use Prim.Native.Nat.{ℕ, ◌+◌, ◌≤◌, ◌<◌}
use mathlib.Core.Path.{◌≡◌, sym, ap, subst, ◌∙◌}
use mathlib.Core.Logic.{◌⊎◌, inl, inr}
use mathlib.Core.List.{List}
use Rattle.std.specs.Prelude.{Option, Some, None}
use Rattle.std.specs.Borrow.{Bor}
use Rattle.meaning.specs.declared.Label.{Label}
use Rattle.meaning.specs.Day.{label_at}
use Rattle.reader.specs.declared.Reader.{Reader}
use Rattle.reader.specs.Reading.{labels, reader_at, Gives}
use Rattle.reader.proofs.ReaderLaws.{Says, next_says}
use Rattle.lists.specs.Ordering.{BodyWrong, Looked, backward, wrong_label, right_label}
use Rattle.lists.proofs.Listing.{Listing, listing_begin, listing_descent, listing_on, listing_end}

-- What is kept between turns: the reader is the body's, and the labels before its place are right, the next of which has to start at `low` or later.
abbrev pub Kept : List ℕ → Reader → ℕ → Type 0
Kept b r low = (r.body.now ≡ b) × Listing (labels b) (label_at b 0) r.at low

-- The reader at its first label keeps it.
pub kept_first : (body : Bor (List ℕ)) (r : Reader) → r ≡ reader_at body 0 → Kept body.now r 0
kept_first body r e = (
  ap (λ (q : Reader). q.body.now) e,
  subst (λ (q : Reader). Listing (labels body.now) (label_at body.now 0) q.at 0) (sym e) (listing_begin (labels body.now) (label_at body.now 0)),
)

module _ (b : List ℕ) (r then : Reader) (low : ℕ) (k : Kept b r low) where
  -- What comes next at the reader's place, by cases.
  says : (given : Option Label) → Gives r given then → Says b r.at given
  says given g = subst (λ (c : List ℕ). Says c r.at given) k.0 (subst (Says r.body.now r.at) (sym g.0) (next_says r.body.now r.at))

  -- A label that is refused is wrong.
  pub kept_wrong : (label : Label) → Gives r (Some label) then → Looked low label None → BodyWrong b
  kept_wrong label g (wrong_label h) = go (says (Some label) g) h
    where
      go : Says b r.at (Some label) → (label.end ≤ label.start) ⊎ (label.start < low) → BodyWrong b
      go (below, is) (inl l) = backward r.at below (subst (λ (m : Label). m.end ≤ m.start) is l)
      go (below, is) (inr l) = listing_descent (labels b) (label_at b 0) r.at low k.1 below (subst (λ (m : Label). m.start < low) is l)

  -- A label that is right is right after those before it.
  pub kept_on : (label : Label) (next : ℕ) → Gives r (Some label) then → Looked low label (Some next) → Kept b then next
  kept_on label next g (right_label o h) =
      let is : label ≡ label_at b 0 r.at = (says (Some label) g).1 in
      let on = listing_on (labels b) (label_at b 0) r.at low k.1 (subst (λ (m : Label). m.start < m.end) is o) (subst (λ (m : Label). low ≤ m.start) is h) in (
        ap (λ (q : Reader). q.body.now) g.1 ∙ k.0,
        subst (λ (q : Reader). Listing (labels b) (label_at b 0) q.at (label.start + 1)) (sym g.1) (subst (λ (m : Label). Listing (labels b) (label_at b 0) (r.at + 1) (m.start + 1)) (sym is) on),
      )

  -- Where no label comes next, none is wrong.
  pub kept_end : Gives r None then → BodyWrong b → ⊥
  kept_end g = listing_end (labels b) (label_at b 0) r.at low k.1 (says None g)
