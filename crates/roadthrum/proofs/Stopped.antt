-- What a refusal of the evidence call gives, and that reading a question that was answered refuses nothing.
use Prim.Native.Nat.{ℕ}
use mathlib.Core.Path.{◌≡◌, subst}
use mathlib.Core.List.{List}
use Rattle.std.specs.Prelude.{Result, Err}
use Rattle.meaning.specs.declared.Page.{Page}
use Rattle.meaning.specs.declared.refusal.Refusal.{Refusal}
use Rattle.meaning.specs.Numbers.{number_of}
use Rattle.meaning.specs.Refusals.{Given, call_table, question_table}
use Rattle.meaning.specs.Promises.{Shown, refused}
use Rattle.meaning.proofs.Laws.Table.{clear_not_given}
use Rattle.question.specs.Promise.{ReadAs}
use Rattle.question.proofs.Fixed.{read_judged}
use Rattle.roadthrum.proofs.Accepted.{Accepted}

-- A refusal of the evidence call is the one that the table gives.
pub shown_given : (b text : List ℕ) (place : ℕ) (entry rows : List ℕ) (e : Refusal) → Shown b text place entry rows (Err e) → Given (call_table b text) (number_of e)
shown_given b text place entry rows e (refused {e = d} g x) =
    let no : ◌≡◌ {A = Result Page Refusal} (Err e) (Err d) = x.refusal in
    let same : d ≡ e = cc in
    subst (λ (k : Refusal). Given (call_table b text) (number_of k)) same g

-- A question that was answered is not refused when it is read again.
pub not_refused : (b text : List ℕ) (place : ℕ) (entry rows : List ℕ) (r : Page) (e : Refusal) → Accepted b text place entry rows r → ReadAs text (Err e) → ⊥
not_refused b text place entry rows r e x h = clear_not_given (question_table text) (number_of e) x.read (read_judged text (Err e) h)
