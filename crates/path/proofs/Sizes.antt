-- Where trees end in a text: how many bytes each part of a tree is written in, and how a text is cut at the end of such a part.
use Prim.Native.Nat.{ℕ, ◌+◌, ◌≤◌}
use native.Mathlib.Omega.{arith}
use mathlib.Core.Path.{◌≡◌, refl, sym, ap, ap₂, ◌∙◌}
use mathlib.Core.List.{List, [], ◌∷◌, ◌++◌, append_assoc}
use lib.ListN.{length, drop, length-append}
use lib.Seq.{drop-drop, drop-append_seam}
use Rattle.std.specs.Prelude.{Option}
use Rattle.meaning.specs.Notation.{Path, path, After, finish, bracket, next, write, write_after, steps, steps_after}
use Rattle.path.specs.Stored.{size, size_after, stored, stored_after}

mutual
  unfolding write

  -- A path before a text is the path's own bytes and then that text.
  pub write_before : (p : Path) (r : List ℕ) → write p r ≡ write p [] ++ r
  write_before (path n a) r = ap (λ (x : List ℕ). 47 ∷ 47 ∷ x) (ap (λ (x : List ℕ). n ++ x) (after_before a r) ∙ sym (append_assoc n (write_after a []) r))

  -- The same of what follows a name.
  pub after_before : (a : After) (r : List ℕ) → write_after a r ≡ write_after a [] ++ r
  after_before finish r = refl
  after_before (bracket p a) r =
      let own : write p (93 ∷ write_after a []) ++ r ≡ (write p [] ++ 93 ∷ write_after a []) ++ r = ap (λ (x : List ℕ). x ++ r) (write_before p (93 ∷ write_after a [])) in
      ap (λ (x : List ℕ). 91 ∷ x) (write_before p (93 ∷ write_after a r) ∙ ap (λ (x : List ℕ). write p [] ++ 93 ∷ x) (after_before a r) ∙ sym (own ∙ append_assoc (write p []) (93 ∷ write_after a []) r))
  after_before (next p) r = write_before p r

-- A path takes its first step's `//`, the name and what follows the name.
pub size_path : (n : List ℕ) (a : After) → size (path n a) ≡ 2 + length n + size_after a
unfolding write
size_path n a = omega (arith, length-append n (write_after a []))

-- A bracket and what follows it take `[`, the path, `]` and what follows.
pub size_bracket : (p : Path) (a : After) → size_after (bracket p a) ≡ 1 + size p + 1 + size_after a
unfolding write
size_bracket p a = omega (arith, ap length (write_before p (93 ∷ write_after a [])), length-append (write p []) (93 ∷ write_after a []))

mutual
  unfolding steps write

  -- Each step of a path takes a byte.
  pub steps_size : (p : Path) → steps p ≤ size p
  steps_size (path n a) = omega (arith, after_size a, size_path n a)

  -- The same of what follows a name.
  pub after_size : (a : After) → steps_after a ≤ size_after a
  after_size finish = omega arith
  after_size (bracket p a) = omega (arith, steps_size p, after_size a, size_bracket p a)
  after_size (next p) = steps_size p

mutual
  unfolding steps stored

  -- As many steps are stored as the path has.
  pub stored_long : (p : Path) (hang : Option ℕ) (k at : ℕ) → length (stored p hang k at) ≡ steps p
  stored_long (path n a) hang k at = omega (arith, after_long a k (k + 1) (at + 2 + length n))

  -- The same of what follows a name.
  pub after_long : (a : After) (me k at : ℕ) → length (stored_after a me k at) ≡ steps_after a
  after_long finish me k at = refl
  after_long (bracket p a) me k at = length-append (stored p _ k (at + 1)) (stored_after a _ (k + steps p) (at + 1 + size p + 1)) ∙ ap₂ ◌+◌ (stored_long p _ k (at + 1)) (after_long a _ (k + steps p) (at + 1 + size p + 1))
  after_long (next p) me k at = stored_long p _ k at

-- The text t from place `at` on.
module _ (t : List ℕ) (at : ℕ) where
  -- Behind the first byte comes the rest.
  pub cut_byte : {b : ℕ} {s : List ℕ} → drop at t ≡ b ∷ s → drop (at + 1) t ≡ s
  cut_byte e = sym (drop-drop 1 at t) ∙ ap (drop 1) e

  -- Behind some bytes comes what follows them.
  pub cut_text : (x s : List ℕ) → drop at t ≡ x ++ s → drop (at + length x) t ≡ s
  cut_text x s e = sym (drop-drop (length x) at t) ∙ ap (drop (length x)) e ∙ drop-append_seam x s

  -- Behind a path comes what follows it.
  pub cut_path : (p : Path) (s : List ℕ) → drop at t ≡ write p s → drop (at + size p) t ≡ s
  cut_path p s e = cut_text (write p []) s (e ∙ write_before p s)
