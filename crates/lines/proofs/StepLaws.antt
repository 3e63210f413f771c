-- Records that are written one behind the other, with blanks between them, up to the line feed.
use Prim.Native.Nat.{ℕ, suc, ◌+◌, ◌*◌, ◌≤◌, ◌<◌}
use native.Mathlib.Omega.{arith}
use native.Mathlib.Numerals.{add-one}
use mathlib.Core.Path.{◌≡◌, refl, sym, ap, subst, ◌∙◌}
use mathlib.Core.List.{List, [], ◌∷◌, ◌++◌, append_assoc}
use native.Mathlib.Decide.{dec_lt}
use lib.ListN.{length, length-append, take, drop, length-drop}
use lib.Seq.{drop-cons}
use Rattle.std.proofs.Common.{get_or-take, get_or-drop, length-take-le}
use mathlib.Core.Logic.{◌⊎◌, inl, inr}
use Rattle.meaning.specs.Bytes.{at}
use Rattle.meaning.specs.declared.Label.{Label}
use Rattle.meaning.specs.Printing.{RecordText, StepsText, one, more}
use Rattle.meaning.proofs.Laws.Printing.{steps_some}
use Rattle.lines.specs.Adding.{most_record, most_line, AddsNumber, AddsRecord, Written}

-- A start, a colon and an end, written one behind the other, are a record.
pub record_of : {l : Label} {entry first second exit : List ℕ} → AddsNumber l.start entry first → second ≡ first ++ 58 ∷ [] → AddsNumber l.end second exit
    → AddsRecord l entry exit
record_of {entry = entry} {first} {second} x y z = record {
  part = x.part ++ 58 ∷ z.part;
  is = record { start = x.part; end = z.part; start_is = x.is; end_is = z.is; written = refl };
  most = omega (arith, length-append x.part (58 ∷ z.part), x.most, z.most);
  adds = z.adds ∙ ap (λ (t : List ℕ). t ++ z.part) (y ∙ ap (λ (t : List ℕ). t ++ 58 ∷ []) x.adds) ∙ simp append_assoc;
}

-- Most bytes that a step takes of a line: its record, and a blank or the line feed.
abbrev pub most_step : ℕ
most_step = most_record + 1

-- The loop's invariant: nothing is written yet, or the records of the first s steps, with room for a blank or the line feed.
pub data LineBegun (label : ℕ → Label) (line : List ℕ) (s : ℕ) : Type 0 where
  nothing : s ≡ 0 → line ≡ [] → LineBegun label line s
  some : StepsText label s line → length line < most_step * s → LineBegun label line s

-- What a record can be written behind: nothing, or the records of the first s steps and a blank.
pub data MayWrite (label : ℕ → Label) (line : List ℕ) (s : ℕ) : Type 0 where
  first : s ≡ 0 → line ≡ [] → MayWrite label line s
  next : {v : List ℕ} → StepsText label s v → line ≡ v ++ 32 ∷ [] → length line ≤ most_step * s → MayWrite label line s

module _ {label : ℕ → Label} {line : List ℕ} {s : ℕ} where
  -- With a step behind it, there is room for a blank or the line feed.
  pub begun_room : LineBegun label line s → 0 < s → length line < most_step * s
  begun_room (nothing e f) l = absurd (omega arith)
  begun_room (some t r) l = r

  -- So much of a line is taken before a record is written.
  pub write_room : MayWrite label line s → length line ≤ most_step * s
  write_room (first e f) = omega (arith, ap length f)
  write_room (next t e r) = r

  -- Before the first record nothing has to be written.
  pub write_first : LineBegun label line s → s ≤ 0 → MayWrite label line s
  write_first (nothing e f) l = first e f
  write_first (some t r) l = absurd (omega (arith, steps_some t))

  -- Before each other record there is a blank.
  pub write_next : {exit : List ℕ} → LineBegun label line s → 0 < s → exit ≡ line ++ 32 ∷ [] → MayWrite label exit s
  write_next (nothing e f) l a = absurd (omega arith)
  write_next (some t r) l a = next t a (omega (arith, ap length a, length-append line (32 ∷ [])))

  -- With the record of step s one step more is written.
  pub begun_more : {exit : List ℕ} → MayWrite label line s → AddsRecord (label s) line exit → LineBegun label exit (s + 1)
  begun_more {exit} (first e f) a = some text (omega (arith, ap length alone, a.most))
    where
      alone : exit ≡ a.part
      alone = a.adds ∙ ap (λ (t : List ℕ). t ++ a.part) f

      text : StepsText label (s + 1) exit
      text = subst (λ (n : ℕ). StepsText label n exit) (omega arith) (one (subst (λ (n : ℕ). RecordText (label n) exit) e (subst (RecordText (label s)) (sym alone) a.is)))
  begun_more {exit} (next {v} t e r) a = some text (omega (arith, ap length a.adds, length-append line a.part, a.most))
    where
      behind : exit ≡ v ++ 32 ∷ a.part
      behind = a.adds ∙ ap (λ (l : List ℕ). l ++ a.part) e ∙ append_assoc v (32 ∷ []) a.part

      text : StepsText label (s + 1) exit
      text = rw add-one (subst (StepsText label (suc s)) (sym behind) (more t a.is))

  -- The line feed behind the records of all steps makes the line.
  pub line_of : {exit : List ℕ} → LineBegun label line s → 0 < s → most_step * s ≤ most_line → exit ≡ line ++ 10 ∷ [] → Written label s exit
  line_of (nothing e f) l m a = absurd (omega arith)
  line_of (some t r) l m a = record { text = record { records = line; records_are = t; written = a }; within = omega (arith, ap length a, length-append line (10 ∷ [])) }

-- Where a list from place s on is some element and more, the element stands at s, and more is the list from the next place on.
next_of : (xs left : List ℕ) (s x : ℕ) → x ∷ left ≡ drop s xs → (s < length xs) × (x ≡ at xs s) × (left ≡ drop (s + 1) xs)
next_of xs left s x e = go (dec_lt s (length xs))
  where
    go : Dec (s < length xs) → (s < length xs) × (x ≡ at xs s) × (left ≡ drop (s + 1) xs)
    go (yes l) = let f : x ∷ left ≡ at xs s ∷ drop (s + 1) xs = e ∙ rw add-one (drop-cons xs s 0 l) in (l, cc, cc)
    go (no l) = absurd (omega (arith, ap length e, length-drop s xs))

-- The positions of the row of k steps that stands in `rows` from `from` on.
abbrev pub row_of : List ℕ → ℕ → ℕ → List ℕ
row_of rows from k = take k (drop from rows)

-- What is at hand at step s: its offset and its position, and those of the steps after it.
pub record AtStep (offsets rows : List ℕ) (from s offset i : ℕ) (offsets_left row_left : List ℕ) : Type 0 where
  pub within : s < length offsets
  pub offset_is : offset ≡ at offsets s
  pub i_is : i ≡ at rows (from + s)
  pub offsets_are : offsets_left ≡ drop (s + 1) offsets
  pub row_is : row_left ≡ drop (s + 1) (row_of rows from (length offsets))

pub at_step : (offsets rows : List ℕ) (from s offset i : ℕ) (offsets_left row_left : List ℕ) → offset ∷ offsets_left ≡ drop s offsets
    → i ∷ row_left ≡ drop s (row_of rows from (length offsets)) → AtStep offsets rows from s offset i offsets_left row_left
at_step offsets rows from s offset i offsets_left row_left e f =
    let x = next_of offsets offsets_left s offset e in
    let y = next_of (row_of rows from (length offsets)) row_left s i f in
    record {
      within = x.0;
      offset_is = x.1;
      i_is = y.1 ∙ get_or-take (length offsets) (drop from rows) s 0 x.0 ∙ get_or-drop from rows s 0;
      offsets_are = x.2;
      row_is = y.2;
    }

-- An iterator that gives no more has nothing left, in one of the two that it goes over or in the other.
pub over : {A B : Type 0} {P : A → Type 0} {Q : B → Type 0} {a b : ℕ} → ((x : A) × ((a ≡ 0) × P x)) ⊎ ((x : B) × ((b ≡ 0) × Q x)) → (a ≡ 0) ⊎ (b ≡ 0)
over (inl p) = inl p.1.0
over (inr p) = inr p.1.0

-- Where no offset or no position is left, the step is the one behind the last.
pub all_steps : (offsets rows : List ℕ) (from s : ℕ) {offsets_left row_left : List ℕ} → from + length offsets ≤ length rows → s ≤ length offsets → offsets_left ≡ drop s offsets
    → row_left ≡ drop s (row_of rows from (length offsets)) → (length offsets_left ≡ 0) ⊎ (length row_left ≡ 0) → s ≡ length offsets
all_steps offsets rows from s ended within e f (inl n) = omega (arith, ap length e, length-drop s offsets)
all_steps offsets rows from s ended within e f (inr n) =
    omega (arith, ap length f, length-drop s (row_of rows from (length offsets)), length-take-le (length offsets) (drop from rows) (omega (arith, length-drop from rows)), length-drop from rows)
