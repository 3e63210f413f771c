-- The plan of a tree over a lawful index: it fits, and agrees with the question of the tree.
use Prim.Native.Nat.{ℕ, ◌+◌, ◌≤◌, ◌<◌}
use native.Mathlib.Omega.{arith}
use mathlib.Core.Path.{◌≡◌, refl, sym, ap, subst, ◌∙◌}
use mathlib.Core.Logic.{◌⊎◌, inl, inr, ◌≢◌, ⊎_elim}
use mathlib.Core.List.{List}
use lib.ListN.{set, replicate, get_or, length-set}
use Rattle.std.specs.Prelude.{Option, Some, None}
use Rattle.std.proofs.lemmas.List.{get_or-replicate, get_or_past, get_or-set_same, set-set}
use lib.Seq.{ext_get_or}
use Rattle.meaning.specs.declared.Label.{Label}
use Rattle.meaning.specs.declared.Body.{Body}
use Rattle.meaning.specs.declared.Question.{Question}
use Rattle.meaning.specs.Limits.{most_steps}
use Rattle.meaning.specs.Labels.{Inside, Apart}
use Rattle.meaning.specs.Day.{label_at, Finds, list_of}
use Rattle.meaning.specs.Notation.{Path, Hook, nothing, from, steps, returned_step}
use Rattle.meaning.specs.Picks.{Asked, asked, step_at}
use Rattle.meaning.specs.Pages.{First, nowhere, NoRow, FirstUnknown}
use Rattle.meaning.specs.Refusals.{Lawful}
use Rattle.meaning.proofs.Decide.{or_not, lt_decides}
use Rattle.meaning.specs.Fit.{Fit}
use Rattle.meaning.proofs.Laws.Day.{lawful_fit, list_small}
use Rattle.meaning.proofs.Laws.Notation.{one_tree}
use Rattle.meaning.proofs.Laws.Found.{known_list, unknown_list, first_on, first_one}
use Rattle.meaning.proofs.Laws.Few.{lawful_small}
use Rattle.contents.proofs.FindLaws.{list_within}
use Rattle.question.specs.Questions.{hook_number, kept}
use Rattle.question.proofs.StoredSteps.{StoredAs, stored_step}
use Rattle.cursors.specs.Plan.{hook_of, blank, planned_step, plan_of, Planned}
use Rattle.cursors.specs.declared.Plan.{Plan}
use Rattle.cursors.specs.declared.PlanStep.{PlanStep}
use Rattle.plan.specs.Drawn.{drawn_step, Column, Drawn, FirstOf, Asks, Draws}
use Rattle.cursors.proofs.Moves.{set_cases}
use Rattle.plan.proofs.Agreeing.{Agree}
use Rattle.plan.proofs.Telling.{first_here}

-- A hook is found again from its number.
hook_again : (h : Hook) → hook_of (hook_number h) ≡ h
hook_again nothing = refl
hook_again (from u) = refl

-- Two questions that agree are both fit, if the second has no records behind its steps.
pub fit_agree : (a b : Asked) → Agree a b → Fit a → ((s : ℕ) → a.steps ≤ s → b.count s ≡ 0) → Fit b
fit_agree a b g fit blank = record {
  returned_lt = omega (arith, g.returned, g.steps, fit.returned_lt);
  upward = λ s u l e. let k : s < a.steps = omega (arith, g.steps) in fit.upward s u k (g.hook s k ∙ e);
  ordered = λ s i l. let k : s < a.steps = inside s i l in subst (λ (z : Label). z.start < z.end) (g.label s i k) (fit.ordered s i (omega (arith, g.count s k)));
  ascending = λ s i j ij l.
      let k : s < a.steps = inside s j l in
      let up = fit.ascending s i j ij (omega (arith, g.count s k)) in
      omega (arith, up, ap (λ (z : Label). z.start) (g.label s i k), ap (λ (z : Label). z.start) (g.label s j k));
  laminar = λ s i u j il jl.
      let k : s < a.steps = inside s i il in
      let m : u < a.steps = inside u j jl in
      subst (λ (z : Label). Related z (b.label u j)) (g.label s i k) (subst (λ (z : Label). Related (a.label s i) z) (g.label u j m) (fit.laminar s i u j (omega (arith, g.count s k)) (omega (arith, g.count u m))));
}
  where
    Related : Label → Label → Type 0
    Related z w = (z ≡ w) ⊎ Inside z w ⊎ Inside w z ⊎ Apart z w

    -- Where there is a record there is a step.
    inside : (s i : ℕ) → i < b.count s → s < a.steps
    inside s i l = ⊎_elim (λ h. h) (λ n. absurd (omega (arith, blank s (omega arith)))) (or_not (lt_decides s a.steps))

module _ (b : List ℕ) (p : Path) (d : Plan) (law : Lawful b) (few : steps p ≤ most_steps) (is : Drawn b p d) where
  -- Each step of the plan is that of the tree.
  step_is : (s : ℕ) → s < steps p → planned_step d s ≡ drawn_step b p s
  step_is = is.steps_are.are

  -- The question of the tree and the plan agree.
  pub drawn_agrees : Agree (asked b p) (plan_of b d)
  unfolding asked plan_of
  drawn_agrees = record {
    steps = sym is.count_is;
    returned = sym is.returned_is;
    hook = λ s l. sym (ap (λ (x : PlanStep). hook_of x.hangs) (step_is s l) ∙ hook_again (step_at p s).hook);
    count = λ s l. sym (ap (λ (x : PlanStep). x.list.count) (step_is s l));
    label = λ s i l. sym (ap (λ (x : PlanStep). label_at b x.list.offset i) (step_is s l));
  }

  pub drawn_fit : Fit (plan_of b d)
  unfolding asked plan_of
  drawn_fit = fit_agree (asked b p) (plan_of b d) drawn_agrees (lawful_fit b p law) (λ s l. ap (λ (x : PlanStep). x.list.count) (is.steps_are.blank s l))

  -- Each list lies within a lawful index.
  pub drawn_planned : Planned b d
  drawn_planned = record {
    few = omega (arith, is.count_is);
    held = λ s l. rw (step_is s (omega (arith, is.count_is))) (list_within b (step_at p s).name law);
    small = λ s l. rw (step_is s (omega (arith, is.count_is))) (omega (arith, list_small b (step_at p s).name, lawful_small b law));
    fit = drawn_fit;
  }

-- An array of blank entries holds nothing yet.
column_begin : (f : ℕ → PlanStep) (xs : List PlanStep) → xs ≡ replicate 32 blank → Column 0 f xs
column_begin f xs e = record {
  long = rw e refl;
  are = λ j l. absurd (omega arith);
  blank = λ j l. rw e (⊎_elim (λ k. get_or-replicate 32 j blank blank k) (λ n. get_or_past (replicate 32 blank) j blank (omega arith)) (or_not (lt_decides j 32)));
}

-- One entry more.
column_on : (f : ℕ → PlanStep) (s : ℕ) (x : PlanStep) (xs : List PlanStep) → Column s f xs → s < 32 → x ≡ f s → Column (s + 1) f (set xs s x)
column_on f s x xs w m e = record {
  long = simp length-set w.long;
  are = set_cases blank (λ j y. j < s + 1 → y ≡ f j) xs s x (omega (arith, w.long)) (λ _. e) (λ j n k. w.are j (before j n k));
  blank = set_cases blank (λ j y. s + 1 ≤ j → y ≡ blank) xs s x (omega (arith, w.long)) (λ k. absurd (omega arith)) (λ j n k. w.blank j (omega arith));
}
  where
    before : (j : ℕ) → j ≢ s → j < s + 1 → j < s
    before j n k = omega arith

-- Such an array is one.
column_one : (k : ℕ) (f : ℕ → PlanStep) (xs ys : List PlanStep) → Column k f xs → Column k f ys → xs ≡ ys
column_one k f xs ys x y = ext_get_or blank xs ys (x.long ∙ sym y.long) (λ i l. go i (or_not (lt_decides i k)))
  where
    go : (i : ℕ) → (i < k) ⊎ (i < k → ⊥) → get_or xs i blank ≡ get_or ys i blank
    go i (inl l) = x.are i l ∙ sym (y.are i l)
    go i (inr n) = x.blank i (omega arith) ∙ sym (y.blank i (omega arith))

-- The loop of `draw`: the first s steps are in the array, blank entries stand behind them, and the first unknown of these steps is told.
pub record Drawing (b : List ℕ) (p : Path) (s : ℕ) (xs : List PlanStep) (unknown : Option ℕ) : Type 0 where
  pub s_le : s ≤ steps p
  pub steps_are : Column s (drawn_step b p) xs
  pub told : First (NoRow b p) s unknown

pub draw_begin : (b : List ℕ) (p : Path) → Drawing b p 0 (replicate 32 blank) None
draw_begin b p = record {
  s_le = omega arith;
  steps_are = column_begin (drawn_step b p) (replicate 32 blank) refl;
  told = nowhere (λ j l. absurd (omega arith));
}

module _ {b : List ℕ} {p : Path} {s : ℕ} {xs : List PlanStep} {unknown : Option ℕ} (w : Drawing b p s xs unknown) (l : s < steps p) (m : s < 32) {hangs : Option ℕ} (h : hangs ≡ hook_number (step_at p s).hook) where
  -- What was found of the step's name is the entry's list.
  entry_on : (list : Body) → list ≡ list_of b (step_at p s).name → Column (s + 1) (drawn_step b p) (set xs s (record { hangs = hangs; list = list }))
  entry_on list e = column_on (drawn_step b p) s (record { hangs = hangs; list = list }) xs w.steps_are m (cc (h, e))

  -- The step's entry when what it hangs from was written: its list is as before, a blank one.
  abbrev hung : PlanStep
  hung = record { hangs = hangs; list = (get_or xs s blank).list }

  -- One step more, whose name is unknown: its list stays blank.
  pub draw_unknown : (first : Option ℕ) → Finds b (step_at p s).name None → FirstOf unknown s first → Drawing b p (s + 1) (set xs s hung) first
  draw_unknown first no_row f = record {
    s_le = omega arith;
    steps_are = entry_on hung.list (ap (λ (x : PlanStep). x.list) (w.steps_are.blank s (omega arith)) ∙ sym (unknown_list b (step_at p s).name no_row));
    told = first_here w.told no_row f;
  }

  -- One step more, whose name is known, with both written at once.
  known : (list : Body) → Lawful b → Finds b (step_at p s).name (Some list) → Drawing b p (s + 1) (set xs s (record { hangs = hangs; list = list })) unknown
  known list law found = record {
    s_le = omega arith;
    steps_are = entry_on list (known_list b law (step_at p s).name list found);
    told = first_on (s + 1) refl w.told (λ no_row. no_row found.0 found.1);
  }

  -- One step more, whose name is known: the list is written after what it hangs from.
  pub draw_known : (list : Body) → Lawful b → Finds b (step_at p s).name (Some list)
      → Drawing b p (s + 1) (set (set xs s hung) s (record { hangs = (get_or (set xs s hung) s blank).hangs; list = list })) unknown
  draw_known list law found =
      let kept : (get_or (set xs s hung) s blank).hangs ≡ hangs = ap (λ (x : PlanStep). x.hangs) (get_or-set_same xs s hung blank (omega (arith, w.steps_are.long))) in
      let once : set (set xs s hung) s (record { hangs = (get_or (set xs s hung) s blank).hangs; list = list }) ≡ set xs s (record { hangs = hangs; list = list }) =
      set-set xs s hung (record { hangs = (get_or (set xs s hung) s blank).hangs; list = list }) ∙ ap (λ (g : Option ℕ). set xs s (record { hangs = g; list = list })) kept in
      subst (λ (ys : List PlanStep). Drawing b p (s + 1) ys unknown) (sym once) (known list law found)

-- All steps are in the array.
pub draw_end : {b : List ℕ} {p : Path} {s count returned : ℕ} {xs : List PlanStep} {unknown : Option ℕ} → Drawing b p s xs unknown → count ≡ steps p → count ≤ s → returned ≡ returned_step p
    → Drawn b p (record { steps = xs; count = count; returned = returned }) × FirstUnknown b p unknown
draw_end {b} {p} {s} {xs = xs} {unknown = unknown} w e l r =
    let all : s ≡ steps p = omega (arith, w.s_le) in (
      record { count_is = e; returned_is = r; steps_are = subst (λ (n : ℕ). Column n (drawn_step b p) xs) all w.steps_are },
      subst (λ (n : ℕ). First (NoRow b p) n unknown) all w.told,
    )

abbrev made : List PlanStep → ℕ → ℕ → Plan
made xs k r = record { steps = xs; count = k; returned = r }

-- Two plans with the same steps, count and returned step are one.
plan_one : {c d : Plan} → c.steps ≡ d.steps → c.count ≡ d.count → c.returned ≡ d.returned → c ≡ d
plan_one {c} {d} e f g = ap (λ (xs : List PlanStep). made xs c.count c.returned) e ∙ ap (λ (k : ℕ). made d.steps k c.returned) f ∙ ap (λ (r : ℕ). made d.steps d.count r) g

-- What `draw` promises fixes all that it gives.
pub draws_fixed : {b text : List ℕ} {d e : Plan} {u v : Option ℕ} → Draws b text d u → Draws b text e v → (d ≡ e) × (u ≡ v)
draws_fixed {b} {d = d} {e = e} {u = u} x y =
    let z : Drawn b y.writes.tree d = subst (λ (t : Path). Drawn b t d) (one_tree x.writes y.writes) x.drawn in (
      plan_one (column_one _ _ _ _ z.steps_are y.drawn.steps_are) (z.count_is ∙ sym y.drawn.count_is) (z.returned_is ∙ sym y.drawn.returned_is),
      first_one (subst (λ (t : Path). FirstUnknown b t u) (one_tree x.writes y.writes) x.told) y.told,
    )

-- A step of a question that was read: where its name stands, that it is the tree's, and what it hangs from.
pub asked_step : (text : List ℕ) (q : Question) (a : Asks text q) (s : ℕ) → s < steps a.writes.tree → StoredAs text (kept q s) (step_at a.writes.tree s)
asked_step text q a s l = subst (λ (x : Question). StoredAs text (kept x s) (step_at a.writes.tree s)) (sym a.is) (stored_step a.writes s l)

-- What was found of a name, where the name and what was found are told in other words.
pub found_as : (b : List ℕ) {m n : List ℕ} {f g : Option Body} → m ≡ n → f ≡ g → Finds b m f → Finds b n g
found_as b {n = n} {f = f} d e h = subst (Finds b n) e (subst (λ (k : List ℕ). Finds b k f) d h)
