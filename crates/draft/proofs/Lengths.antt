-- A step at a place of a text: what stands there, and that a name's run decides it.
use Prim.Native.Nat.{ℕ, ◌-◌, ◌+◌, ◌≤◌, ◌<◌}
use native.Mathlib.Omega.{arith}
use mathlib.Core.Path.{◌≡◌, sym, ap, ◌∙◌, subst}
use mathlib.Core.Bool.{true, false, false≢true}
use mathlib.Core.List.{List, [], ◌∷◌, ◌++◌}
use lib.ListN.{length, take, drop, take-append-drop, length-drop}
use lib.Dec.{eqb}
use lib.Seq.{drop-drop, length-take-le}
use denote.Ref.{Bor}
use Rattle.std.specs.Prelude.{Option, Some, None, Ok}
use Rattle.std.specs.Cmp.Lexicographic.{pointwise}
use Rattle.std.proofs.lemmas.List.{take_rest}
use Rattle.std.proofs.lemmas.Bool.Decides.{Decides-eqb}
use Rattle.std.proofs.lemmas.Slice.Eq.{strip_prefix_is}
use Rattle.meaning.specs.Limits.{most_name}
use Rattle.meaning.specs.Names.{is_name, Name}
use Rattle.meaning.specs.Ends.{NoFurther}
use Rattle.meaning.proofs.Laws.Name.{name_short}
use Rattle.name.specs.Runs.{name_run}
use Rattle.name.proofs.RunLaws.{run_within, run_name, run_after, run_of_name}
use Rattle.draft.specs.declared.Draft.{Draft}
use Rattle.draft.specs.Drafts.{grown}
use Rattle.draft.specs.Steps.{Space, MayRead, FoundStep, NoStep, LengthAt, long, none, StepRead, taken}

-- A name has a character.
name_some : (n : List ℕ) → Name n → 1 ≤ length n
unfolding is_name
name_some [] h = absurd (false≢true h)
name_some (c ∷ cs) h = omega arith

-- `//`.
abbrev slashes : List ℕ
slashes = 47 ∷ 47 ∷ []

-- Where no `//` stands, no step stands.
pub no_slashes : (t : List ℕ) (at : ℕ) → pointwise eqb (take 2 (take (length t - at) (drop at t))) slashes ≡ false → NoStep t at
no_slashes t at h n s hn hs e = strip_prefix_is Decides-eqb (take (length t - at) (drop at t)) slashes None h (n ++ s) (take_rest t at ∙ e)

-- Where `//` stands, what is left without it stands behind it.
pub behind_slashes : (t : List ℕ) (at : ℕ) (x : Bor (List ℕ)) → (pointwise eqb (take 2 (take (length t - at) (drop at t))) slashes ≡ true) × (x.now ≡ drop 2 (take (length t - at) (drop at t))) × (length x.now + 2 ≡ length (take (length t - at) (drop at t))) → drop at t ≡ 47 ∷ 47 ∷ x.now
behind_slashes t at x h = sym (take_rest t at) ∙ strip_prefix_is Decides-eqb (take (length t - at) (drop at t)) slashes (Some x) h

-- The text t from place `at` on, where `//` stands before r.
module _ (t : List ℕ) (at : ℕ) (r : List ℕ) (e : drop at t ≡ 47 ∷ 47 ∷ r) where
  -- A name that stands there is as long as its run.
  name_long : (n s : List ℕ) → Name n → NoFurther s → drop at t ≡ 47 ∷ 47 ∷ n ++ s → name_run r ≡ length n
  name_long n s hn hs w = ap name_run (ap (drop 2) (sym e ∙ w)) ∙ run_of_name n s hn hs

  -- Where the run is empty or too long for a name, no step stands.
  pub no_name : (k : ℕ) → k ≡ name_run r → (0 < k → most_name < k) → NoStep t at
  no_name k f h n s hn hs w = omega (arith, name_long n s hn hs w, name_some n hn, name_short n hn)

  -- Where it has 1 to 16 characters, a step stands.
  pub step_found : (k : ℕ) → k ≡ name_run r → 0 < k → k ≤ most_name → FoundStep t at (at + 2 + k)
  step_found k f p m =
      let l : k ≤ length r = omega (arith, run_within r) in
      let behind : drop k r ≡ drop (at + 2 + k) t = ap (drop k) (sym (ap (drop 2) e) ∙ drop-drop 2 at t) ∙ drop-drop k (at + 2) t in
      record {
        name = take k r;
        proper = rw f (run_name r (omega arith) (omega arith));
        text = e ∙ ap (λ (l : List ℕ). 47 ∷ 47 ∷ l) (sym (take-append-drop k r) ∙ ap (λ (l : List ℕ). take k r ++ l) behind);
        stop = ap (λ (j : ℕ). at + 2 + j) (sym (length-take-le k r l));
        within = omega (arith, length-drop at t, ap length e);
        halts = subst NoFurther (ap (λ (j : ℕ). drop j r) (sym f) ∙ behind) (run_after r (omega arith));
      }

-- A length is that of the name of the step that stands there.
pub some_length : {t : List ℕ} {at k : ℕ} → LengthAt t at (Some k) → FoundStep t at (at + 2 + k)
some_length (long f) = f

-- Where there is no length no step stands.
pub no_length : {t : List ℕ} {at : ℕ} → LengthAt t at None → NoStep t at
no_length (none n) = n

-- The step that stands there has room in the draft.
pub step_room : {t : List ℕ} {hang : Option ℕ} {d k : ℕ} {q : Draft} → MayRead t hang d q → FoundStep t q.at (q.at + 2 + k) → Space k hang q
step_room h f = record {
  room = h.room;
  few = omega (arith, h.few, h.short, f.within);
  short = omega (arith, h.short, f.within);
  narrow = h.narrow;
}

-- The draft that is grown by the step is behind it.
pub step_taken : {t : List ℕ} {hang : Option ℕ} {d : ℕ} {q r : Draft} (k : ℕ) → FoundStep t q.at (q.at + 2 + k) → r ≡ grown q (record { start = q.at + 2; length = k; hangs = hang } ∷ []) d (q.at + 2 + k) q.count → StepRead t hang d q (Ok r)
unfolding grown
step_taken {t} {hang} {d} {q} {r} k f w =
    let place : q.at + 2 + k ≡ r.at = sym (ap (λ (x : Draft). x.at) w) in
    let long : k ≡ length f.name = omega (arith, f.stop) in
    let here : FoundStep t q.at r.at = record {
      name = f.name;
      proper = f.proper;
      text = f.text ∙ ap (λ (e : ℕ). 47 ∷ 47 ∷ f.name ++ drop e t) place;
      stop = sym place ∙ f.stop;
      within = omega (arith, f.within);
      halts = subst (λ (e : ℕ). NoFurther (drop e t)) place f.halts;
    } in
    taken here (w ∙ ap (λ (j : ℕ). grown q (record { start = q.at + 2; length = j; hangs = hang } ∷ []) d (q.at + 2 + j) q.count) long)
