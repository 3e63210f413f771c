-- What a call from C gives is fixed: two outcomes that satisfy its promise are equal in all numbers of the result and in the whole buffer.
use Prim.Native.Nat.{ℕ}
use mathlib.Core.Path.{◌≡◌, sym, ap, ◌∙◌}
use mathlib.Core.List.{List}
use Rattle.std.specs.Prelude.{Result}
use Rattle.meaning.specs.declared.Page.{Page}
use Rattle.meaning.specs.declared.refusal.Refusal.{Refusal}
use Rattle.meaning.specs.Numbers.{figure_numbers}
use Rattle.meaning.specs.Promises.{Answered, Shown, Tabled}
use Rattle.meaning.proofs.Laws.Promise.{answered_fixed, shown_fixed}
use Rattle.meaning.proofs.Laws.Tabled.{tabled_fixed}
use Rattle.roadthrum_c.specs.Boundary.{numbers, PassedOn}

-- Outcomes that are equal are passed on by equal numbers.
numbers_fixed : {A : Type 0} {numbers_of : A → List ℕ} {P Q : A → Type 0} {v w : List ℕ} (p : PassedOn numbers_of P v) (q : PassedOn numbers_of Q w) → p.outcome ≡ q.outcome → v ≡ w
numbers_fixed {numbers_of = numbers_of} p q e = p.numbered ∙ ap numbers_of e ∙ sym q.numbered

-- Where a promise fixes the page and the buffer, what is passed on is fixed.
passed_fixed : {Promise : List ℕ → Result Page Refusal → Type 0} {exit exit' v w : List ℕ}
    → ((x x' : List ℕ) (r r' : Result Page Refusal) → Promise x r → Promise x' r' → (r ≡ r') × (x ≡ x'))
    → PassedOn numbers (Promise exit) v → PassedOn numbers (Promise exit') w → (v ≡ w) × (exit ≡ exit')
passed_fixed fixed p q = let both = fixed _ _ _ _ p.promised q.promised in (numbers_fixed p q both.0, both.1)

pub answer_fixed : {b text entry exit exit' v w : List ℕ} {place : ℕ}
    → PassedOn numbers (Answered b text place entry exit) v → PassedOn numbers (Answered b text place entry exit') w → (v ≡ w) × (exit ≡ exit')
answer_fixed {b = b} {text = text} {entry = entry} {place = place} = passed_fixed {Promise = Answered b text place entry} (λ x x' r r' y z. answered_fixed y z)

pub evidence_fixed : {b text entry exit exit' v w : List ℕ} {place : ℕ}
    → PassedOn numbers (Shown b text place entry exit) v → PassedOn numbers (Shown b text place entry exit') w → (v ≡ w) × (exit ≡ exit')
evidence_fixed {b = b} {text = text} {entry = entry} {place = place} = passed_fixed {Promise = Shown b text place entry} (λ x x' r r' y z. shown_fixed y z)

pub waits_fixed : {b times v w : List ℕ} → PassedOn figure_numbers (Tabled b times) v → PassedOn figure_numbers (Tabled b times) w → v ≡ w
waits_fixed p q = numbers_fixed p q (tabled_fixed p.promised q.promised)
