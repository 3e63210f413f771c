-- Runs of name characters: what is in them, what follows them, and that a name's own run is the whole name.
use Prim.Native.Nat.{ℕ, suc, ◌+◌, ◌≤◌, ◌<◌}
use native.Mathlib.Numerals.{add-one}
use native.Mathlib.Omega.{arith}
use mathlib.Core.Path.{◌≡◌, refl, ap}
use mathlib.Core.Bool.{Bool, true, false, cond, ◌&&◌, false≢true, and-eq-true_iff}
use mathlib.Core.List.{List, [], ◌∷◌, ◌++◌}
use lib.ListN.{length, take, drop, get_or, drop_of_length-le}
use lib.Seq.{drop-cons, length-take-le}
use borrow.Author.Tests.{le-leb}
use Rattle.std.specs.List.{prefix_len}
use Rattle.meaning.specs.Limits.{most_name}
use Rattle.meaning.specs.Names.{initial, further, all_further, short, is_name, Name}
use Rattle.meaning.specs.Ends.{NoFurther}
use Rattle.name.specs.Runs.{run, name_run}

-- A run is as many characters as are taken while they may stand behind a name's first.
run_is : (s : List ℕ) → run s ≡ prefix_len further s
unfolding run
run_is [] = refl
run_is (c ∷ cs) = go (further c) (run_is cs)
  where
    go : (v : Bool) → run cs ≡ prefix_len further cs → cond v (suc (run cs)) 0 ≡ cond v (1 + prefix_len further cs) 0
    go true e = omega (arith, e)
    go false e = refl

-- A text whose first byte may begin a name has a run of one more than the characters behind it that may go on with it.
pub begins : (s : List ℕ) (c : ℕ) (rest : List ℕ) → s ≡ c ∷ rest → initial c ≡ true → name_run s ≡ 1 + prefix_len further rest
unfolding name_run
begins s c rest here e = rw here (simp e (omega (arith, run_is rest)))

-- A text whose first byte may not begin a name has no run.
pub begins_not : (s : List ℕ) (c : ℕ) (rest : List ℕ) → s ≡ c ∷ rest → initial c ≡ false → name_run s ≡ 0
unfolding name_run
begins_not s c rest here e = rw here (simp e)

-- An empty text has no run.
pub begins_empty : (s : List ℕ) → length s ≡ 0 → name_run s ≡ 0
unfolding name_run
begins_empty [] h = refl
begins_empty (c ∷ cs) h = absurd (omega arith)

-- The run from place i of a text, by the byte there.
module _ (s : List ℕ) (i : ℕ) where
  -- A byte that may follow makes it one longer than from the next place.
  pub run_on : i < length s → further (get_or s i 0) ≡ true → run (drop i s) ≡ suc (run (drop (i + 1) s))
  unfolding run
  run_on h e = rw (add-one, drop-cons s i 0 h) (simp e)

  -- A byte that may not follow ends it.
  pub run_stops : i < length s → further (get_or s i 0) ≡ false → run (drop i s) ≡ 0
  unfolding run
  run_stops h e = rw (drop-cons s i 0 h) (simp e)

  -- The text's end ends it.
  pub run_ends : length s ≤ i → run (drop i s) ≡ 0
  unfolding run
  run_ends h = rw (drop_of_length-le s h)

-- What is known of the first n bytes of a text and of what follows them: n is within the text, the bytes may all stand behind a name's
-- first, and what follows them may not.
record RunReach (n : ℕ) (s : List ℕ) : Type 0 where
  within : n ≤ length s
  inside : all_further (take n s) ≡ true
  after : NoFurther (drop n s)

-- The run reaches so far.
run_reach : (s : List ℕ) → RunReach (run s) s
unfolding run all_further
run_reach [] = record { within = omega arith; inside = refl; after = tt }
run_reach (c ∷ cs) = go (further c) refl (run_reach cs)
  where
    go : (v : Bool) → further c ≡ v → RunReach (run cs) cs → RunReach (cond v (suc (run cs)) 0) (c ∷ cs)
    go true e h = record {
      within = omega (arith, h.within);
      inside = (and-eq-true_iff (further c) (all_further (take (run cs) cs))).1 (e, h.inside);
      after = h.after;
    }
    go false e h = record { within = omega arith; inside = refl; after = e }

-- A run lies within its text.
pub run_within : (s : List ℕ) → name_run s ≤ length s
unfolding name_run
run_within [] = omega arith
run_within (c ∷ cs) = go (initial c)
  where
    go : (v : Bool) → cond v (suc (run cs)) 0 ≤ suc (length cs)
    go true = omega (arith, (run_reach cs).within)
    go false = omega arith

-- A run that is not empty and not too long is a name.
pub run_name : (s : List ℕ) → 0 < name_run s → name_run s ≤ most_name → Name (take (name_run s) s)
unfolding name_run is_name short
run_name [] some most = absurd (omega arith)
run_name (c ∷ cs) some most = go (initial c) refl some most
  where
    go : (v : Bool) → initial c ≡ v → 0 < cond v (suc (run cs)) 0 → cond v (suc (run cs)) 0 ≤ most_name → Name (take (cond v (suc (run cs)) 0) (c ∷ cs))
    go true e h l =
        let r = run_reach cs in
        let n = take (run cs) cs in
        let fits : short (c ∷ n) ≡ true = le-leb (suc (length n)) most_name (omega (arith, length-take-le (run cs) cs r.within)) in
        (and-eq-true_iff (initial c) (all_further n && short (c ∷ n))).1 (e, (and-eq-true_iff (all_further n) (short (c ∷ n))).1 (r.inside, fits))
    go false e h l = absurd (omega arith)

-- What follows a run does not go on with a character of a name.
pub run_after : (s : List ℕ) → 0 < name_run s → NoFurther (drop (name_run s) s)
unfolding name_run
run_after [] some = absurd (omega arith)
run_after (c ∷ cs) some = go (initial c) some
  where
    go : (v : Bool) → 0 < cond v (suc (run cs)) 0 → NoFurther (drop (cond v (suc (run cs)) 0) (c ∷ cs))
    go true h = (run_reach cs).after
    go false h = absurd (omega arith)

-- Characters that may follow, before something else, are the whole run.
run_of_further : (n rest : List ℕ) → all_further n ≡ true → NoFurther rest → run (n ++ rest) ≡ length n
unfolding run all_further
run_of_further [] [] h k = refl
run_of_further [] (c ∷ cs) h k = simp k
run_of_further (c ∷ cs) rest h k =
    let a = (and-eq-true_iff (further c) (all_further cs)).0 h in
    simp a.0 (ap suc (run_of_further cs rest a.1 k))

-- A name before something else is the whole run.
pub run_of_name : (n rest : List ℕ) → Name n → NoFurther rest → name_run (n ++ rest) ≡ length n
unfolding name_run is_name
run_of_name [] rest h k = absurd (false≢true h)
run_of_name (c ∷ cs) rest h k =
    let a = (and-eq-true_iff (initial c) (all_further cs && short (c ∷ cs))).0 h in
    let b = (and-eq-true_iff (all_further cs) (short (c ∷ cs))).0 a.1 in
    simp a.0 (ap suc (run_of_further cs rest b.0 k))
