-- Tests of names that antt computes: whether a name, filled up with zero bytes, stands in a field, and which of two fields comes first.
use Prim.Native.Nat.{ℕ, suc, ◌-◌, ◌<◌}
use native.Mathlib.Omega.{arith}
use mathlib.Core.Path.{◌≡◌, sym, ap, subst, ◌∙◌}
use mathlib.Core.Logic.{⊎_elim}
use mathlib.Core.Bool.{Bool, true, false}
use mathlib.Core.List.{List}
use lib.Dec.{ltb, eqb}
use lib.ListN.{length, take, get_or, replicate, get_or-eq_default}
use lib.Seq.{take-append_seam}
use Rattle.meaning.specs.Answers.{Decides}
use Rattle.meaning.specs.Limits.{most_name}
use Rattle.meaning.specs.Names.{is_name, Name, filled, Sooner, same}
use Rattle.meaning.proofs.Decide.{true_decides, decides_as, or_not, lt_decides, eq_decides, each, each_decides, some, some_decides, both_decides}
use Rattle.meaning.proofs.Laws.Name.{name_short}
use Rattle.meaning.proofs.Laws.Same.{same_decides}

-- A name, filled up, stands in the field.
pub record NameIn (f : List ℕ) : Type 0 where
  pub name : List ℕ
  pub is_name : Name name
  pub here : f ≡ filled name

-- The list is a name that, filled up, is the field.
unfoldable pub fills_b : List ℕ → List ℕ → Bool
fills_b f n = elim (is_name n) [ true ↦ same f (filled n) | false ↦ false ]

-- Some beginning of the field, of at most 16 bytes, is a name that, filled up, is the field.
unfoldable pub field_b : List ℕ → Bool
field_b f = some (suc most_name) (λ n. fills_b f (take n f))

-- That test decides it.
fills_decides : (f n : List ℕ) → Decides (Name n × (f ≡ filled n)) (fills_b f n)
unfolding fills_b
fills_decides f n = both_decides (true_decides (is_name n)) (same_decides f (filled n))

-- A name that, filled up, is the field is the field's beginning of the name's length.
name_take : (f n : List ℕ) → f ≡ filled n → take (length n) f ≡ n
name_take f n e = ap (take (length n)) e ∙ take-append_seam n (replicate (most_name - length n) 0)

-- That test decides whether a name stands in the field: the name is the field's beginning of its own length.
pub field_decides : (f : List ℕ) → Decides (NameIn f) (field_b f)
unfolding field_b
field_decides f = decides_as to from (some_decides (suc most_name) (λ n l. fills_decides f (take n f)))
  where
    to : (n : ℕ) × (n < suc most_name) × (Name (take n f) × (f ≡ filled (take n f))) → NameIn f
    to h = record { name = take h.0 f; is_name = h.2.0; here = h.2.1 }

    from : NameIn f → (n : ℕ) × (n < suc most_name) × (Name (take n f) × (f ≡ filled (take n f)))
    from h = (length h.name, omega (arith, name_short h.name h.is_name), subst (λ (n : List ℕ). Name n × (f ≡ filled n)) (sym (name_take f h.name h.here)) (h.is_name, h.here))

-- At place k, x has the lesser byte, and before it the two have the same.
unfoldable pub sooner_at : List ℕ → List ℕ → ℕ → Bool
sooner_at x y k = elim (ltb (get_or x k 0) (get_or y k 0)) [ true ↦ each k (λ i. eqb (get_or x i 0) (get_or y i 0)) | false ↦ false ]

-- x comes before y: a place in y shows it.
unfoldable pub sooner_b : List ℕ → List ℕ → Bool
sooner_b x y = some (length y) (sooner_at x y)

-- Past the end of y there is no byte greater than one of x.
less_within : (x y : List ℕ) (k : ℕ) → get_or x k 0 < get_or y k 0 → k < length y
less_within x y k l = ⊎_elim (λ h. h) (λ n. absurd (omega (arith, get_or-eq_default y 0 {n = k} (omega arith)))) (or_not (lt_decides k (length y)))

-- That test decides which field comes first.
pub sooner_decides : (x y : List ℕ) → Decides (Sooner x y) (sooner_b x y)
unfolding sooner_b sooner_at
sooner_decides x y = decides_as to from (some_decides (length y) (λ k l. both_decides (lt_decides (get_or x k 0) (get_or y k 0)) (each_decides k (λ i m. eq_decides (get_or x i 0) (get_or y i 0)))))
  where
    to : (k : ℕ) × (k < length y) × ((get_or x k 0 < get_or y k 0) × ((i : ℕ) → i < k → get_or x i 0 ≡ get_or y i 0)) → Sooner x y
    to h = record { place = h.0; same = h.2.1; less = h.2.0 }

    from : Sooner x y → (k : ℕ) × (k < length y) × ((get_or x k 0 < get_or y k 0) × ((i : ℕ) → i < k → get_or x i 0 ≡ get_or y i 0))
    from h = (h.place, less_within x y h.place h.less, (h.less, h.same))
