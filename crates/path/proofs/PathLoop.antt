-- The loop that reads a path: what it keeps, what each turn does to that, and what it has found when it ends.
use Prim.Native.Nat.{ℕ, ◌+◌, ◌≤◌, ◌<◌, max}
use native.Mathlib.Omega.{arith}
use mathlib.Core.Path.{◌≡◌, sym, ap, ◌∙◌, subst}
use mathlib.Core.List.{List, ◌∷◌}
use lib.ListN.{length, drop, get_or}
use lib.Seq.{length-sets}
use Rattle.std.specs.Prelude.{Option, Some, Result, Ok, Err, IsErr}
use Rattle.meaning.specs.Limits.{most_text, most_steps}
use Rattle.meaning.specs.Notation.{steps, depth}
use Rattle.meaning.specs.Ends.{Stops}
use Rattle.meaning.proofs.Laws.Step.{steps_some}
use Rattle.draft.specs.declared.Broken.{Broken}
use Rattle.draft.specs.declared.Draft.{Draft}
use Rattle.draft.specs.Drafts.{handed_on, moved, grown, stepped}
use Rattle.draft.specs.Steps.{Narrow, MayRead, FoundStep, StepRead, taken, missing, ShutAt, LeftBracket, shut, unshut}
use Rattle.draft.proofs.Bytes.{byte_at, byte_is}
use Rattle.draft.proofs.Closing.{end_stops}
use Rattle.path.specs.Stored.{size}
use Rattle.path.specs.Reach.{Reach, ReachPath, PathRead, whole, torn}
use Rattle.path.proofs.Sizes.{steps_size, stored_long}
use Rattle.path.proofs.Reaching.{one_path, at_end, from_next, to_next, from_bracket, to_bracket, shut_path, open_path, no_path}

-- Where the loop is, d brackets deep: a path from q, whose first step hangs from `hang`, reaches the drafts that what follows the name of
-- the last step reaches from r.
pub record Going (t : List ℕ) (hang : Option ℕ) (d : ℕ) (q r : Draft) : Type 0 where
  pub room : length r.steps ≡ most_steps
  pub low : q.at < r.at
  pub within : r.at ≤ length t
  pub few : r.count ≤ r.at
  pub mine : r.last < r.count
  pub shallow : d ≤ r.at
  pub deep : d ≤ r.deepest
  pub to : (x : Draft) → ReachPath t hang d q x → Reach t d r x
  pub back : (x : Draft) → Reach t d r x → ReachPath t hang d q x

-- Where no path can end, the text goes on.
pub goes_on : (t : List ℕ) (at : ℕ) → (Stops (drop at t) → ⊥) → at < length t
goes_on t at none = let before : length t ≤ at → ⊥ = λ h. none (end_stops t at h) in omega (arith, before)

-- Where no path can end and the byte is `[`, a bracket begins.
pub opens : (t : List ℕ) (at : ℕ) {i j : ℕ} → (Stops (drop i t) → ⊥) → i ≡ at → j ≡ at → get_or t j 0 ≡ 91 → drop at t ≡ 91 ∷ drop (at + 1) t
opens t at {i} none p q b = byte_at t at 91 (omega (arith, goes_on t i none)) (rw q at b)

-- Where it is another byte, none does.
pub opens_not : (t : List ℕ) (at : ℕ) {j : ℕ} → j ≡ at → (get_or t j 0 ≡ 91 → ⊥) → (s : List ℕ) → drop at t ≡ 91 ∷ s → ⊥
opens_not t at q n s e = n (rw q (byte_is t at 91 s e).1)

-- What is known of a draft r that was grown from q by a step or a path, d brackets deep.
record Advanced (d : ℕ) (q r : Draft) : Type 0 where
  room : length r.steps ≡ length q.steps
  moves : q.at < r.at
  more : q.count < r.count
  few : r.count + q.at ≤ q.count + r.at
  deep : d ≤ r.deepest

-- A number that is at most the second of two is at most their maximum.
max_right : (a b c : ℕ) → a ≤ c → a ≤ max b c
max_right a b c h = omega arith

-- The draft behind a step.
behind_step : {t : List ℕ} (hang : Option ℕ) (d : ℕ) (q r : Draft) (f : FoundStep t q.at r.at) → r ≡ stepped q hang d f.name → Advanced d q r
unfolding grown
behind_step hang d q r f w =
    let many : r.count ≡ q.count + 1 = ap (λ (x : Draft). x.count) w in
    record {
      room = ap (λ (x : Draft). length x.steps) w ∙ simp length-sets;
      moves = omega (arith, f.stop);
      more = omega arith;
      few = omega (arith, f.stop);
      deep = rw (ap (λ (x : Draft). x.deepest) w) (max_right d q.deepest d (omega arith));
    }

-- The draft behind a path.
behind_path : {t : List ℕ} {hang : Option ℕ} {d : ℕ} {q r : Draft} → ReachPath t hang d q r → Advanced d q r
unfolding grown
behind_path {t} {hang} {d} {q} {r} p =
    let w = p.gives in
    let many : r.count ≡ q.count + steps p.tree = ap (λ (x : Draft). x.count) w ∙ ap (λ (j : ℕ). q.count + j) (stored_long p.tree hang q.count q.at) in
    let place : r.at ≡ q.at + size p.tree = ap (λ (x : Draft). x.at) w in
    record {
      room = ap (λ (x : Draft). length x.steps) w ∙ simp length-sets;
      moves = omega (arith, steps_size p.tree, steps_some p.tree);
      more = omega (arith, steps_some p.tree);
      few = omega (arith, steps_size p.tree);
      deep = rw (ap (λ (x : Draft). x.deepest) w) (max_right d q.deepest (d + depth p.tree) (omega arith));
    }

-- Where the loop begins: behind the first step.
pub start : {t : List ℕ} {hang : Option ℕ} {d : ℕ} {q r : Draft} → MayRead t hang d q → StepRead t hang d q (Ok r) → Going t hang d q r
unfolding grown
start {t} {hang} {d} {q} {r} h (taken f w) =
    let b = behind_step hang d q r f w in
    let last : r.last ≡ q.count = ap (λ (x : Draft). x.last) w in
    record {
      room = b.room ∙ h.room;
      low = b.moves;
      within = f.within;
      few = omega (arith, b.few, h.few);
      mine = omega (arith, b.more);
      shallow = omega (arith, b.moves, h.shallow);
      deep = b.deep;
      to = λ x y. open_path t f w y;
      back = λ x y. shut_path t f w y;
    }

-- No path stands where q is.
abbrev pub NoPath : List ℕ → Option ℕ → ℕ → Draft → Type 0
NoPath t hang d q = (x : Draft) → ReachPath t hang d q x → ⊥

-- Then an error is right, whatever the draft is that is left with it.
pub nothing_read : {t : List ℕ} {hang : Option ℕ} {d : ℕ} {q : Draft} (e : Result (Unit {0}) Broken) (r : Draft) → IsErr e → NoPath t hang d q → PathRead t hang d q (handed_on e r)
nothing_read (Ok u) r i n = cc
nothing_read (Err b) r i n = torn n

-- Where no first step stands there is no path.
pub no_start : {t : List ℕ} {hang : Option ℕ} {d : ℕ} {q : Draft} {b : Broken} → StepRead t hang d q (Err b) → NoPath t hang d q
no_start {t} (missing n) x y = no_path t n y

-- The loop at r.
module _ {t : List ℕ} {hang : Option ℕ} {d : ℕ} {q r : Draft} (g : Going t hang d q r) where
  -- What a path in a bracket here asks.
  pub bracket_ready : {i : Option ℕ} {e : ℕ} → length t ≤ most_text → r.at < length t → e ≤ r.at + 1 → (r.count < most_steps → Narrow i) → MayRead t i e (moved r (r.at + 1) r.last)
  unfolding moved
  bracket_ready s h k n = record {
    short = s;
    room = g.room;
    within = omega arith;
    few = omega (arith, g.few);
    shallow = k;
    narrow = n;
  }

  -- What a further step here asks.
  pub next_ready : length t ≤ most_text → MayRead t (Some r.last) d r
  next_ready s = record {
    short = s;
    room = g.room;
    within = g.within;
    few = g.few;
    shallow = g.shallow;
    narrow = λ k. omega (arith, g.mine);
  }

  -- A bracket that was read: its path and its `]`.
  bracket_on : {p s : Draft} → drop r.at t ≡ 91 ∷ drop (r.at + 1) t → ReachPath t (Some r.last) (d + 1) (moved r (r.at + 1) r.last) p → LeftBracket t r.last p (Ok s) → (r.at < s.at) × Going t hang d q s
  unfolding moved
  bracket_on {p} {s} e y (shut z w) =
      let b = behind_path y in
      let place : s.at ≡ p.at + 1 = ap (λ (x : Draft). x.at) w in
      let many : s.count ≡ p.count = ap (λ (x : Draft). x.count) w in
      let last : s.last ≡ r.last = ap (λ (x : Draft). x.last) w in
      let deepest : s.deepest ≡ p.deepest = ap (λ (x : Draft). x.deepest) w in (
        omega (arith, b.moves),
        record {
          room = ap (λ (x : Draft). length x.steps) w ∙ b.room ∙ g.room;
          low = omega (arith, b.moves, g.low);
          within = omega (arith, (byte_is t p.at 93 (drop (p.at + 1) t) z).0);
          few = omega (arith, b.few, g.few);
          mine = omega (arith, b.more, g.mine);
          shallow = omega (arith, b.moves, g.shallow);
          deep = omega (arith, b.deep);
          to = λ x l.
              let i = to_bracket t e (g.to x l) in
              subst (λ (u : Draft). Reach t d u x) (sym w) (subst (λ (u : Draft). Reach t d (moved u (u.at + 1) r.last) x) (one_path t i.walk y) i.rest);
          back = λ x l. g.back x (from_bracket t e (record { inner = p; walk = y; close = z; rest = subst (λ (u : Draft). Reach t d u x) w l }));
        },
      )

  -- The path that was read in a bracket here, where what it hangs from and how deep it is are given by numbers that have to be the right ones.
  inside : {i e : ℕ} {o : Result Draft Broken} → PathRead t (Some i) e (moved r (r.at + 1) r.last) o → i ≡ r.last → e ≡ d + 1 → PathRead t (Some r.last) (d + 1) (moved r (r.at + 1) r.last) o
  inside {i} {o = o} y hung deep =
      let here : Draft = moved r (r.at + 1) r.last in
      subst (λ (j : ℕ). PathRead t (Some j) (d + 1) here o) hung (subst (λ (k : ℕ). PathRead t (Some i) k here o) deep y)

  -- A turn with a bracket.
  pub bracket_turn : {i e : ℕ} {p s : Draft} → drop r.at t ≡ 91 ∷ drop (r.at + 1) t → PathRead t (Some i) e (moved r (r.at + 1) r.last) (Ok p) → LeftBracket t r.last p (Ok s) → i ≡ r.last → e ≡ d + 1 → (r.at < s.at) × Going t hang d q s
  bracket_turn b y z hung deep = elim (inside y hung deep) [ whole x ↦ bracket_on b x z ]

  -- Where a bracket begins and no path stands in it, there is no path.
  pub bracket_empty : {i e : ℕ} {b : Broken} → drop r.at t ≡ 91 ∷ drop (r.at + 1) t → PathRead t (Some i) e (moved r (r.at + 1) r.last) (Err b) → i ≡ r.last → e ≡ d + 1 → NoPath t hang d q
  bracket_empty b y hung deep x l = elim (inside y hung deep) [ torn n ↦ n _ (to_bracket t b (g.to x l)).walk ]

  -- Nor where no `]` stands behind that path.
  pub bracket_open : {i e : ℕ} {p : Draft} {b : Broken} → drop r.at t ≡ 91 ∷ drop (r.at + 1) t → PathRead t (Some i) e (moved r (r.at + 1) r.last) (Ok p) → LeftBracket t r.last p (Err b) → i ≡ r.last → e ≡ d + 1 → NoPath t hang d q
  bracket_open {i} {e} {p} b y (unshut n) hung deep x l =
      let f = to_bracket t b (g.to x l) in
      elim (inside y hung deep) [ whole w ↦ n (subst (λ (u : Draft). ShutAt t u.at) (one_path t f.walk w) f.close) ]

  -- A further step that was read.
  pub next_on : {s : Draft} → (Stops (drop r.at t) → ⊥) → ((u : List ℕ) → drop r.at t ≡ 91 ∷ u → ⊥) → StepRead t (Some r.last) d r (Ok s) → (r.at < s.at) × Going t hang d q s
  unfolding grown
  next_on {s} no_stop no-bracket (taken f w) =
      let b = behind_step (Some r.last) d r s f w in
      let last : s.last ≡ r.count = ap (λ (x : Draft). x.last) w in (
        b.moves,
        record {
          room = b.room ∙ g.room;
          low = omega (arith, b.moves, g.low);
          within = f.within;
          few = omega (arith, b.few, g.few);
          mine = omega (arith, b.more);
          shallow = omega (arith, b.moves, g.shallow);
          deep = b.deep;
          to = λ x l. open_path t f w (to_next t no_stop no-bracket (g.to x l));
          back = λ x l. g.back x (from_next t (shut_path t f w l));
        },
      )

  -- Where neither the path ends, nor a bracket begins, nor a step stands, there is no path.
  pub next_missing : {b : Broken} → (Stops (drop r.at t) → ⊥) → ((u : List ℕ) → drop r.at t ≡ 91 ∷ u → ⊥) → StepRead t (Some r.last) d r (Err b) → NoPath t hang d q
  next_missing no_stop no-bracket (missing n) x l = no_path t n (to_next t no_stop no-bracket (g.to x l))

  -- Where a path can end, what was read is one.
  pub ended : Stops (drop r.at t) → PathRead t hang d q (Ok r)
  ended s = whole (g.back r (at_end t g.deep s))
