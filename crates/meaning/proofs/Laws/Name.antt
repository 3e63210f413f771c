-- Names in a text: where a name ends is seen from what follows it, so that a text begins with one name only. And which of two comes first.
use Prim.Native.Nat.{ℕ, ◌≤◌, ◌<◌}
use native.Mathlib.Omega.{arith}
use mathlib.Core.Path.{◌≡◌, refl, sym, ◌∙◌, subst}
use mathlib.Core.Logic.{⊎_elim}
use mathlib.Core.Bool.{true, ◌&&◌, true≢false, false≢true, and-eq-true_iff}
use mathlib.Core.List.{List, [], ◌∷◌, ◌++◌}
use lib.ListN.{length, get_or}
use borrow.Author.Tests.{leb-true}
use Rattle.meaning.specs.Limits.{most_name}
use Rattle.meaning.specs.Names.{initial, further, all_further, short, is_name, Name, Sooner}
use Rattle.meaning.specs.Ends.{NoFurther}
use Rattle.meaning.proofs.Decide.{or_not, lt_decides}

-- A name's first character may also stand behind the first.
pub initial_further : (c : ℕ) → initial c ≡ true → further c ≡ true
unfolding further
initial_further c e = simp e

-- All characters of a name may stand behind the first.
pub name_further : (n : List ℕ) → Name n → all_further n ≡ true
unfolding is_name all_further
name_further [] h = absurd (false≢true h)
name_further (c ∷ cs) h =
    let a = (and-eq-true_iff (initial c) (all_further cs && short (c ∷ cs))).0 h in
    let b = (and-eq-true_iff (all_further cs) (short (c ∷ cs))).0 a.1 in
    (and-eq-true_iff (further c) (all_further cs)).1 (initial_further c a.0, b.0)

-- A name has at most 16 characters.
pub name_short : (n : List ℕ) → Name n → length n ≤ most_name
unfolding is_name short
name_short [] h = absurd (false≢true h)
name_short (c ∷ cs) h =
    let a = (and-eq-true_iff (initial c) (all_further cs && short (c ∷ cs))).0 h in
    leb-true (length (c ∷ cs)) most_name ((and-eq-true_iff (all_further cs) (short (c ∷ cs))).0 a.1).1

-- No name comes before itself, so that rows which ascend by name have different names.
pub sooner_proper : (x : List ℕ) → Sooner x x → ⊥
sooner_proper x s = omega (arith, s.less)

-- Where two lists differ in their first bytes, the one with the lesser byte comes first.
pub sooner_first : (c d : ℕ) (x y : List ℕ) → c < d → Sooner (c ∷ x) (d ∷ y)
sooner_first c d x y l = record { place = 0; same = λ i h. absurd (omega arith); less = omega arith }

-- What comes before something comes before what is behind that.
pub sooner_on : {x y z : List ℕ} → Sooner x y → Sooner y z → Sooner x z
sooner_on {x} {y} {z} p q = ⊎_elim before (λ n. ⊎_elim after (λ m. both (omega arith)) (or_not (lt_decides q.place p.place))) (or_not (lt_decides p.place q.place))
  where
    before : p.place < q.place → Sooner x z
    before l = record { place = p.place; same = λ i h. p.same i h ∙ q.same i (omega arith); less = omega (arith, p.less, q.same p.place l) }

    after : q.place < p.place → Sooner x z
    after l = record { place = q.place; same = λ i h. p.same i (omega arith) ∙ q.same i h; less = omega (arith, q.less, p.same q.place l) }

    both : p.place ≡ q.place → Sooner x z
    both e =
        let on : get_or y p.place 0 < get_or z p.place 0 = subst (λ (k : ℕ). get_or y k 0 < get_or z k 0) (sym e) q.less in
        record { place = p.place; same = λ i h. p.same i h ∙ q.same i (omega arith); less = omega (arith, p.less, on) }

-- A text that does not go on with such a character does not begin with some of them.
further_stops : (c : ℕ) (cs r s : List ℕ) → all_further (c ∷ cs) ≡ true → NoFurther r → r ≡ c ∷ cs ++ s → ⊥
unfolding all_further
further_stops c cs r s h k e =
    let a = (and-eq-true_iff (further c) (all_further cs)).0 h in
    true≢false (sym a.0 ∙ subst NoFurther e k)

-- Where two lists of such characters are followed by something else, equal texts have equal lists and go on equally.
further_same : (m n r s : List ℕ) → all_further m ≡ true → all_further n ≡ true → NoFurther r → NoFurther s → m ++ r ≡ n ++ s → (m ≡ n) × (r ≡ s)
unfolding all_further
further_same [] [] r s hm hn hr hs e = (refl, e)
further_same [] (y ∷ n) r s hm hn hr hs e = absurd (further_stops y n r s hn hr e)
further_same (x ∷ m) [] r s hm hn hr hs e = absurd (further_stops x m s r hm hs (sym e))
further_same (x ∷ m) (y ∷ n) r s hm hn hr hs e =
    let a = (and-eq-true_iff (further x) (all_further m)).0 hm in
    let b = (and-eq-true_iff (further y) (all_further n)).0 hn in
    let t = further_same m n r s a.1 b.1 hr hs (cc) in
    (cc, t.1)

-- Where two names are followed by something else, equal texts have equal names and go on equally.
pub name_same : (m n r s : List ℕ) → Name m → Name n → NoFurther r → NoFurther s → m ++ r ≡ n ++ s → (m ≡ n) × (r ≡ s)
name_same m n r s hm hn hr hs e = further_same m n r s (name_further m hm) (name_further n hn) hr hs e
