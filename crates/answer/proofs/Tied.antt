-- The marked cases of document 01 are tied to the code: what a call that meets its promise gives is what the table says, in the result and in
-- the whole buffer.
use Prim.Native.Nat.{ℕ}
use mathlib.Core.Path.{◌≡◌}
use mathlib.Core.List.{List}
use lib.ListN.{length}
use Rattle.std.specs.Prelude.{Result}
use Rattle.meaning.specs.declared.Page.{Page}
use Rattle.meaning.specs.declared.refusal.Refusal.{Refusal}
use Rattle.meaning.specs.Numbers.{refusal_of}
use Rattle.meaning.specs.Refusals.{Judged, check_table}
use Rattle.meaning.specs.Picks.{asked}
use Rattle.meaning.specs.Pages.{answer_room, evidence_room}
use Rattle.meaning.specs.Promises.{Checked, Answered, Shown}
use Rattle.meaning.proofs.Laws.Table.{checked_fixed}
use Rattle.meaning.proofs.Laws.Numbers.{judged_verdict}
use Rattle.meaning.proofs.Laws.Promise.{answered_fixed, shown_fixed}
use Rattle.meaning.proofs.Cases.{Asking, Case, ask, check, empty, IsRoom, joined, result_of, over, Right, Every, every_as}
use Rattle.meaning.proofs.Cases.Stars.{stars, stars_right}

-- Whatever buffer of the table's room is lent, the answer call and the evidence call give the table's outcome.
pub record AskTied (c : Asking) : Type 0 where
  pub answered : (entry exit : List ℕ) (r : Result Page Refusal) → IsRoom c.room (length c.positions) (answer_room (asked c.index c.tree) (length entry))
      → Answered c.index c.text c.place entry exit r → (r ≡ result_of c) × (exit ≡ over c.positions entry)
  pub shown : (entry exit : List ℕ) (r : Result Page Refusal) → IsRoom c.room (length c.positions) (evidence_room (asked c.index c.tree) (length entry))
      → Shown c.index c.text c.place entry exit r → (r ≡ result_of c) × (exit ≡ over (joined c.rows) entry)

-- The check call gives the table's number: over the C interface that number itself, and in Rattle the refusal of that number, or none where it is 0.
pub record CheckTied (b : List ℕ) (n : ℕ) : Type 0 where
  pub checked : (m : ℕ) → Checked b m → m ≡ n
  pub judged : (r : Result (Unit {0}) Refusal) → Judged (check_table b) r → refusal_of r ≡ n

abbrev pub Tied : Case → Type 0
Tied (ask c) = AskTied c
Tied (check b n) = CheckTied b n
Tied (empty b) = CheckTied b 0

check_tied : (b : List ℕ) (n : ℕ) → Checked b n → CheckTied b n
check_tied b n right = record {
  checked = λ m x. checked_fixed b m n x right;
  judged = λ r x. checked_fixed b (refusal_of r) n (judged_verdict (check_table b) r x) right;
}

-- What is right is tied, since each promise fixes its outcome.
tied : (c : Case) → Right c → Tied c
tied (ask c) right = record {
  answered = λ entry exit r fits x. answered_fixed x (right.answered entry fits);
  shown = λ entry exit r fits x. shown_fixed x (right.shown entry fits);
}
tied (check b n) right = check_tied b n right
tied (empty b) right = check_tied b 0 right.0

-- On every marked case the calls give what the table says.
pub stars_tied : Every Tied stars
stars_tied = every_as tied stars stars_right
