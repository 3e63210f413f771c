-- The fields of 16 bytes in which names stand: when a name stands in one, and which of two comes first.
use Prim.Native.Nat.{ℕ, zero, suc, ◌+◌, ◌-◌, ◌≤◌, ◌<◌}
use native.Mathlib.Nat.{eq-or-lt_of_le}
use native.Mathlib.Omega.{arith}
use borrow.Author.Tests.{eqb-true, eqb-false}
use mathlib.Core.Path.{◌≡◌, refl, sym, ap, subst, ◌∙◌}
use mathlib.Core.Logic.{◌≢◌, ◌⊎◌, inl, inr, ⊎_elim}
use mathlib.Core.Bool.{Bool, true, false, ◌&&◌, false≢true}
use mathlib.Core.List.{List, [], ◌∷◌, ◌++◌}
use lib.ListN.{length, take, drop, get_or, replicate, length-append, length-drop, length-replicate, get_or-append}
use lib.Seq.{ext_get_or, get_or-append-add, get_or-take, length-take-le}
use Rattle.std.specs.Prelude.{nat_eq, ◌==◌, Some}
use Rattle.std.specs.List.{list_all, starts_with}
use Rattle.std.specs.Ordering.{is_lt, is_some_and, nat_cmp, partial_ordering_then, MatchOrdering}
use Rattle.std.specs.Cmp.Lexicographic.{slice_partial_cmp}
use Rattle.std.specs.declared.cmp.Ordering.{Ordering}
use Rattle.std.specs.declared.cmp.Ordering.TheVariants.{Less, Equal, Greater}
use Rattle.std.proofs.lemmas.Cmp.{ranked}
use Rattle.std.proofs.lemmas.List.{get_or-drop, take_rest}
use Rattle.std.proofs.lemmas.Bool.{cases_lt}
use Rattle.std.proofs.lemmas.Bool.Decides.{Decides-eqb}
use Rattle.std.proofs.lemmas.Slice.Eq.{starts_is}
use Rattle.meaning.specs.Answers.{Decides, holds, fails}
use Rattle.meaning.specs.Limits.{most_name}
use Rattle.meaning.specs.Names.{initial, further, is_name, Name, filled, Sooner}
use Rattle.meaning.specs.Ends.{NoFurther}
use Rattle.meaning.proofs.Decide.{decides_as}
use Rattle.meaning.proofs.Laws.Bytes.{zero_at}
use Rattle.name.specs.Runs.{name_run}
use Rattle.name.proofs.RunLaws.{run_name, run_of_name, run_within}
use Rattle.filled.specs.Fields.{ZeroFrom, HasName}

-- A name that is filled up has 16 bytes.
pub filled_length : (n : List ℕ) → length n ≤ most_name → length (filled n) ≡ most_name
filled_length n l = simp (length-append, length-replicate) (omega arith)

-- It begins with the name's own bytes.
pub filled_byte : (n : List ℕ) (i : ℕ) → i < length n → get_or (filled n) i 0 ≡ get_or n i 0
filled_byte n i l = get_or-append n (replicate (most_name - length n) 0) 0 i l

-- Behind these are zeros.
pub filled_zero : (n : List ℕ) (i : ℕ) → length n ≤ i → get_or (filled n) i 0 ≡ 0
filled_zero n i l =
    let z : List ℕ = replicate (most_name - length n) 0 in
    let e : i ≡ length n + (i - length n) = omega arith in
    ap (λ (j : ℕ). get_or (n ++ z) j 0) e ∙ get_or-append-add n z (i - length n) 0 ∙ zero_at (most_name - length n) (i - length n)

-- A field that begins with a name's bytes, and has zeros behind them, is the name filled up.
pub is_filled : (f n : List ℕ) → length f ≡ most_name → length n ≤ most_name → ((i : ℕ) → i < length n → get_or f i 0 ≡ get_or n i 0) → ZeroFrom f (length n) → f ≡ filled n
is_filled f n long short same zeros = ext_get_or 0 f (filled n) (long ∙ sym (filled_length n short)) bytes
  where
    bytes : (i : ℕ) → i < length f → get_or f i 0 ≡ get_or (filled n) i 0
    bytes i l = ⊎_elim (λ h. same i h ∙ sym (filled_byte n i h)) (λ h. zeros i h l ∙ sym (filled_zero n i h)) (cases_lt i (length n))

-- Behind a name that is filled up the field has zeros.
pub filled_zeros : (f n : List ℕ) → f ≡ filled n → ZeroFrom f (length n)
filled_zeros f n e i l m = ap (λ (s : List ℕ). get_or s i 0) e ∙ filled_zero n i l

-- A field begins with the bytes of a name that stands in it, filled up.
pub filled_begins : (f n : List ℕ) (r : Bool) → r ≡ starts_with nat_eq f n → f ≡ filled n → r ≡ true
filled_begins f n r e h = (starts_is Decides-eqb f n r e).1 (replicate (most_name - length n) 0) h

-- A field that begins with a name's bytes, and has zeros behind them, is the name filled up, and not otherwise.
pub is_filled_by : (f n : List ℕ) (r zeros : Bool) → length f ≡ most_name → r ≡ starts_with nat_eq f n → r ≡ true → length n ≤ length f → Decides (ZeroFrom f (length n)) zeros → Decides (f ≡ filled n) zeros
is_filled_by f n r zeros long e begun l d = decides_as (is_filled f n long (omega arith) same) (filled_zeros f n) d
  where
    begins : f ≡ n ++ drop (length n) f
    begins = (starts_is Decides-eqb f n r e).0 begun

    same : (i : ℕ) → i < length n → get_or f i 0 ≡ get_or n i 0
    same i m = ap (λ (s : List ℕ). get_or s i 0) begins ∙ get_or-append n (drop (length n) f) 0 i m

-- Bytes are all zero where each passes that test.
zeros_decide : (s : List ℕ) → Decides (ZeroFrom s 0) (list_all (λ byte. byte == 0) s)
zeros_decide [] = holds (λ i a l. absurd (omega arith))
zeros_decide (b ∷ s) = go (b == 0) refl (zeros_decide s)
  where
    all : b ≡ 0 → ZeroFrom s 0 → ZeroFrom (b ∷ s) 0
    all e h zero a l = e
    all e h (suc i) a l = h i (omega arith) (omega arith)

    go : (v : Bool) → (b == 0) ≡ v → Decides (ZeroFrom s 0) (list_all (λ byte. byte == 0) s) → Decides (ZeroFrom (b ∷ s) 0) (v && list_all (λ byte. byte == 0) s)
    go true e d = decides_as (all (eqb-true b 0 e)) (λ h i a l. h (suc i) (omega arith) (omega arith)) d
    go false e d = fails (λ h. eqb-false b 0 e (h 0 (omega arith) (omega arith)))

-- So are those from place n on where each behind the first n does.
pub zeros_from : (s : List ℕ) (n : ℕ) (r : Bool) → n ≤ length s → r ≡ list_all (λ byte. byte == 0) (take (length s - n) (drop n s)) → Decides (ZeroFrom s n) r
zeros_from s n r l e = rw (e, take_rest s n) (decides_as there back (zeros_decide (drop n s)))
  where
    there : ZeroFrom (drop n s) 0 → ZeroFrom s n
    there h i a m = let k : i ≡ n + (i - n) = omega arith in ap (λ (j : ℕ). get_or s j 0) k ∙ sym (get_or-drop n s (i - n) 0) ∙ h (i - n) (omega arith) (omega (arith, length-drop n s))

    back : ZeroFrom s n → ZeroFrom (drop n s) 0
    back h i a m = get_or-drop n s i 0 ∙ h (n + i) (omega arith) (omega (arith, length-drop n s))

-- Zeros are no characters of a name.
zeros_stop : (k : ℕ) → NoFurther (replicate k 0)
unfolding further initial
zeros_stop zero = tt
zeros_stop (suc k) = refl

-- A name is not empty.
name_some : (n : List ℕ) → Name n → 0 < length n
unfolding is_name
name_some [] h = absurd (false≢true h)
name_some (c ∷ cs) h = omega arith

-- A name in a field, by the run r of name characters at the field's beginning.
module _ (f : List ℕ) (r : ℕ) (run : r ≡ name_run f) where
  -- The name that stands in the field is the whole run.
  run_is : (h : HasName f) → r ≡ length h.name
  run_is h = run ∙ ap name_run h.here ∙ run_of_name h.name (replicate (most_name - length h.name) 0) h.is_name (zeros_stop (most_name - length h.name))

  -- A field that begins with no name character has no name.
  pub unnamed : r ≡ 0 → HasName f → ⊥
  unnamed e h = omega (arith, run_is h, name_some h.name h.is_name)

  -- A field with a run, and zeros behind it, has a name.
  pub named : length f ≡ most_name → r ≢ 0 → ZeroFrom f r → HasName f
  named long some zeros =
      let l : r ≤ length f = rw run (run_within f) in
      let n : length (take r f) ≡ r = length-take-le r f l in
      record {
        name = take r f;
        is_name = rw run (run_name f (subst (λ (k : ℕ). 0 < k) run (⊎_elim (λ e. absurd (some (sym e))) (λ m. m) (eq-or-lt_of_le {n = 0} {m = r} (omega arith)))) (omega (arith, run)));
        here = is_filled f (take r f) long (omega arith) (λ i m. sym (get_or-take r f i 0 (omega arith))) (λ i m. zeros i (omega arith));
      }

  -- Behind the run of a field that has a name are zeros.
  pub named_zeros : HasName f → ZeroFrom f r
  named_zeros h i l = filled_zeros f h.name h.here i (omega (arith, run_is h))

-- What `<` tests of two lists: the first pair of bytes that differ decides.
abbrev before : List ℕ → List ℕ → Bool
before x y = is_some_and is_lt (slice_partial_cmp (λ a b. Some (nat_cmp a b)) x y)

-- Two fields by their first bytes and what is behind these.
module _ (a b : ℕ) (x y : List ℕ) where
  -- Where the first bytes are the same the others decide.
  sooner_behind : a ≡ b → Sooner x y → Sooner (a ∷ x) (b ∷ y)
  sooner_behind e s = record { place = suc s.place; same = same; less = s.less }
    where
      same : (i : ℕ) → i < suc s.place → get_or (a ∷ x) i 0 ≡ get_or (b ∷ y) i 0
      same zero l = e
      same (suc i) l = s.same i (omega arith)

  -- Otherwise the first bytes do.
  sooner_at : Sooner (a ∷ x) (b ∷ y) → (a < b) ⊎ ((a ≡ b) × Sooner x y)
  sooner_at s = go s.place s.same s.less
    where
      go : (place : ℕ) → ((i : ℕ) → i < place → get_or (a ∷ x) i 0 ≡ get_or (b ∷ y) i 0) → get_or (a ∷ x) place 0 < get_or (b ∷ y) place 0 → (a < b) ⊎ ((a ≡ b) × Sooner x y)
      go zero same less = inl less
      go (suc place) same less = inr (same 0 (omega arith), record { place = place; same = λ i l. same (suc i) (omega arith); less = less })

-- So `<` decides which of two names in fields comes first: they are equally long, so that neither ends before the other.
pub sooner_decides : (x y : List ℕ) → length x ≡ length y → Decides (Sooner x y) (before x y)
sooner_decides [] [] e = fails (λ s. absurd (omega (arith, s.less)))
sooner_decides [] (b ∷ y) e = absurd (omega arith)
sooner_decides (a ∷ x) [] e = absurd (omega arith)
sooner_decides (a ∷ x) (b ∷ y) e = go (nat_cmp a b) (ranked a b (nat_cmp a b) refl) (sooner_decides x y (omega arith))
  where
    go : (o : Ordering) → MatchOrdering o (a < b) (a ≡ b) (b < a) → Decides (Sooner x y) (before x y) → Decides (Sooner (a ∷ x) (b ∷ y)) (is_some_and is_lt (partial_ordering_then (Some o) (slice_partial_cmp (λ c d. Some (nat_cmp c d)) x y)))
    go Less h d = holds (record { place = 0; same = λ i l. absurd (omega arith); less = h })
    go Equal h d = decides_as (sooner_behind a b x y h) (λ s. ⊎_elim (λ l. absurd (omega arith)) (λ t. t.1) (sooner_at a b x y s)) d
    go Greater h d = fails (λ s. ⊎_elim (λ l. omega arith) (λ t. omega (arith, t.0)) (sooner_at a b x y s))
