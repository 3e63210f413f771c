-- The byte at a place of a text, and the text from there on.
use Prim.Native.Nat.{ℕ, ◌+◌, ◌<◌}
use native.Mathlib.Numerals.{add-one}
use native.Mathlib.Omega.{arith}
use mathlib.Core.Path.{◌≡◌, sym, ap, ap₂, ◌∙◌}
use mathlib.Core.List.{List, ◌∷◌}
use lib.ListN.{length, drop, get_or, length-drop}
use lib.Seq.{drop-cons}

-- The text t from place `at` on.
module _ (t : List ℕ) (at : ℕ) where
  -- A place of the text with the byte there.
  pub byte_at : (b : ℕ) → at < length t → get_or t at 0 ≡ b → drop at t ≡ b ∷ drop (at + 1) t
  byte_at b h e = drop-cons t at 0 h ∙ ap₂ (λ (x : ℕ) (l : List ℕ). x ∷ l) e (ap (λ (j : ℕ). drop j t) (sym (add-one at)))

  -- The byte at a place where the text goes on.
  pub byte_is : (b : ℕ) (s : List ℕ) → drop at t ≡ b ∷ s → (at < length t) × (get_or t at 0 ≡ b)
  byte_is b s e =
      let h : at < length t = omega (arith, length-drop at t, ap length e) in
      (h, ap (λ (l : List ℕ). get_or l 0 0) (sym (drop-cons t at 0 h) ∙ e))
