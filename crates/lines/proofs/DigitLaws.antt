-- How long the digits of a number are, and that as many as it has are the number.
use Prim.Native.Nat.{ℕ, zero, suc, ◌+◌, ◌-◌, ◌*◌, ◌^◌, ◌/◌, ◌%◌, ◌≤◌, ◌<◌}
use native.Mathlib.Omega.{arith}
use native.Mathlib.Numerals.{unary_clauses}
use mathlib.Core.Path.{◌≡◌, refl, sym, subst, ◌∙◌}
use mathlib.Core.List.{List, [], ◌∷◌, ◌++◌}
use lib.ListN.{length, length-append}
use Rattle.std.specs.Prelude.{Option, Some, None, IfSome, IfNone, unwrap_or}
use Rattle.meaning.specs.Printing.{digits}
use Rattle.lines.specs.Adding.{Places, AddsNumber}

-- The last k digits of a number are k characters.
pub length_digits : (k n : ℕ) → length (digits k n) ≡ k
length_digits zero n = refl
length_digits (suc k) n = length-append (digits k (n / 10)) ((48 + n % 10) ∷ []) ∙ omega (arith, length_digits k (n / 10))

-- One more than a number's logarithm is how many digits it has, and 0, which has none, has one digit.
pub places_of : (n m : ℕ) (log : Option ℕ) → m ≡ n → IfNone log (m ≡ 0) → IfSome log (λ k. 10 ^ k ≤ m) → IfSome log (λ k. m < 10 * 10 ^ k) → IfSome log (λ k. k < 10)
    → Places n (1 + unwrap_or log 0)
places_of n m None e none low high few = record { some = omega arith; most = omega arith; held = omega (arith, e, none); few = λ l. absurd (omega arith) }
places_of n m (Some k) e none low high few =
    let more : 1 + k ≡ suc k = omega arith in
    let less : 1 + k - 1 ≡ k = omega arith in
    record {
      some = omega arith;
      most = omega (arith, few);
      held = subst (λ (d : ℕ). n < 10 ^ d) (sym more) (simp unary_clauses (omega (arith, e, high)));
      few = λ _. subst (λ (d : ℕ). 10 ^ d ≤ n) (sym less) (omega (arith, e, low));
    }

-- As many digits as a number has, written, are the number.
pub number_of : {n k : ℕ} {entry exit : List ℕ} → Places n k → exit ≡ entry ++ digits k n → AddsNumber n entry exit
number_of {n} {k} p a = record {
  part = digits k n;
  is = record { places = k; some = p.some; held = p.held; few = p.few; written = refl };
  most = omega (arith, length_digits k n, p.most);
  adds = a;
}
