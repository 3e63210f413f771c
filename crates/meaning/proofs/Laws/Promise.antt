-- The promise of each public call fixes its outcome: two outcomes that satisfy it are equal, in the result and in the whole buffer, on
-- refusal too. (That of the check call is `checked_fixed` of Laws.Table.)
use Prim.Native.Nat.{ℕ}
use mathlib.Core.Path.{◌≡◌, sym, ap, subst, ◌∙◌}
use mathlib.Core.List.{List}
use lib.ListN.{length}
use Rattle.std.specs.Prelude.{Result, Ok}
use Rattle.meaning.specs.declared.Page.{Page}
use Rattle.meaning.specs.declared.refusal.Refusal.{Refusal}
use Rattle.meaning.specs.Numbers.{number_of}
use Rattle.meaning.specs.Notation.{Path}
use Rattle.meaning.specs.Picks.{Asked, asked}
use Rattle.meaning.specs.Pages.{Paged, FirstUnknown, Refused}
use Rattle.meaning.specs.Refusals.{Table, row, followed, Clear}
use Rattle.meaning.specs.Promises.{Outcome, refused, page, Answered, Shown}
use Rattle.meaning.proofs.Laws.Notation.{one_tree}
use Rattle.meaning.proofs.Laws.Table.{given_one, clear_not_given, given_without, given_with, clear_without, clear_with}
use Rattle.meaning.proofs.Laws.Numbers.{number_one}
use Rattle.meaning.proofs.Laws.Evidence.{evidence_one}
use Rattle.meaning.proofs.Laws.Found.{first_one}
use Rattle.meaning.proofs.Laws.Page.{One, paged_fixed, refused_fixed}

-- Where a record's row is one, a call's promise fixes its outcome, whatever its table.
outcome_fixed : {t : Table} {Row : Asked → ℕ → List ℕ → Type 0} {room : Asked → ℕ → ℕ} {b text entry exit exit' : List ℕ} {place : ℕ} {r r' : Result Page Refusal} → ((a : Asked) → One (Row a))
    → Outcome t Row room b text place entry exit r → Outcome t Row room b text place entry exit' r' → (r ≡ r') × (exit ≡ exit')
outcome_fixed {t = t} {entry = entry} {exit = exit} one (refused {e = d} {r = r} g x) (refused {e = e} h y) =
    refused_fixed (subst (λ (k : Refusal). Refused k entry exit r) (number_one d e (given_one t (number_of d) (number_of e) g h)) x) y
outcome_fixed {t = t} one (refused {e = e} g x) (page c f p u) = absurd (clear_not_given t (number_of e) c g)
outcome_fixed {t = t} one (page c f p u) (refused {e = e} h y) = absurd (clear_not_given t (number_of e) c h)
outcome_fixed {t} {Row} {room} {b} {text} {entry} {exit} {exit'} {place} one (page {p = r} c f p u) (page {p = r'} d g q v) =
    let P : Path → Type 0 = λ p. Paged (asked b p) (Row (asked b p)) place (room (asked b p) (length entry)) entry exit r in
    let (same, buffer) = paged_fixed (one (asked b g.tree)) (first_one (subst (λ (p : Path). FirstUnknown b p r.unknown) (one_tree f g) u) v) (subst P (one_tree f g) p) q in
    (ap Ok same, buffer)

-- The answer call's promise fixes its result and every number of the buffer.
pub answered_fixed : {b text entry exit exit' : List ℕ} {place : ℕ} {r r' : Result Page Refusal} → Answered b text place entry exit r → Answered b text place entry exit' r' → (r ≡ r') × (exit ≡ exit')
answered_fixed = outcome_fixed (λ a i v w x y. x ∙ sym y)

-- The evidence call's promise fixes its result and every number of the buffer.
pub shown_fixed : {b text entry exit exit' : List ℕ} {place : ℕ} {r r' : Result Page Refusal} → Shown b text place entry exit r → Shown b text place entry exit' r' → (r ≡ r') × (exit ≡ exit')
shown_fixed = outcome_fixed evidence_one

-- A row whose reason never applies where no reason before it does may stand in the table or be left out: a call keeps the promise with the
-- one table exactly if it keeps it with the other.
module _ (t u : Table) (n : ℕ) (reason : Type 0) (never : Clear t → reason → ⊥) {Row : Asked → ℕ → List ℕ → Type 0} {room : Asked → ℕ → ℕ} {b text entry exit : List ℕ} {place : ℕ} where
  pub kept_without : {r : Result Page Refusal} → Outcome (followed t (row n reason u)) Row room b text place entry exit r → Outcome (followed t u) Row room b text place entry exit r
  kept_without (refused {e = e} g x) = refused (given_without t u n reason never (number_of e) g) x
  kept_without (page c f p s) = page (clear_without t u n reason never c) f p s

  pub kept_with : {r : Result Page Refusal} → Outcome (followed t u) Row room b text place entry exit r → Outcome (followed t (row n reason u)) Row room b text place entry exit r
  kept_with (refused {e = e} g x) = refused (given_with t u n reason never (number_of e) g) x
  kept_with (page c f p s) = page (clear_with t u n reason never c) f p s
