-- What the program may rest on once the evidence call has given a page: the index is lawful, the question was read, and the rows hold
-- positions of the steps' lists.
use Prim.Native.Nat.{ℕ, zero, suc, ◌+◌, ◌-◌, ◌*◌, ◌/◌, ◌≤◌, ◌<◌}
use native.Mathlib.Nat.{suc-mul, div-eq-sub-div}
use native.Mathlib.Omega.{arith}
use mathlib.Core.Path.{◌≡◌, refl, sym, ap, subst, ◌∙◌}
use mathlib.Core.Logic.{⊎_elim}
use mathlib.Core.Bool.{true, true≢false}
use mathlib.Core.List.{List, [], ◌∷◌, ◌++◌}
use lib.ListN.{length, take, drop, length-append, get_or-append}
use lib.Seq.{length-take-le, get_or-append-add}
use Rattle.std.specs.Prelude.{Ok, Err, Option, IfSome}
use Rattle.meaning.specs.declared.Page.{Page}
use Rattle.meaning.specs.declared.Question.{Question}
use Rattle.meaning.specs.Limits.{most_steps}
use Rattle.meaning.specs.Day.{list_of}
use Rattle.meaning.specs.Notation.{Path, Follows, steps}
use Rattle.meaning.specs.Bytes.{at}
use Rattle.meaning.specs.Picks.{Asked, Evidence, asked, step_at}
use Rattle.meaning.specs.Pages.{Rows, none, row, Paged, First, here, nowhere, FirstUnknown, evidence_room}
use Rattle.meaning.specs.Refusals.{Clear, Lawful, check_table, question_table}
use Rattle.meaning.specs.Promises.{Shown, refused, page}
use Rattle.meaning.proofs.Laws.Table.{clear_first, clear_after}
use Rattle.meaning.proofs.Laws.Notation.{one_tree}
use Rattle.meaning.proofs.Laws.Step.{steps_some}
use Rattle.meaning.proofs.Laws.Page.{page_onward}
use Rattle.meaning.proofs.Laws.Few.{few_steps}
use Rattle.contents.proofs.FindLaws.{list_within}
use Rattle.cursors.specs.declared.Plan.{Plan}
use Rattle.cursors.specs.declared.PlanStep.{PlanStep}
use Rattle.cursors.specs.Plan.{planned_step}
use Rattle.question.specs.Promise.{ReadAs}
use Rattle.question.specs.Promise as reading
use Rattle.plan.specs.Drawn.{Asks, Drawn}
use Rattle.roadthrum.specs.PageRows.{Tells, RowAt}

-- What an accepted call has found.
pub record Accepted (b text : List ℕ) (place : ℕ) (entry rows : List ℕ) (r : Page) : Type 0 where
  pub lawful : Lawful b
  pub read : Clear (question_table text)
  pub follows : Follows text
  pub few : steps follows.tree ≤ most_steps
  pub paged : Paged (asked b follows.tree) (Evidence (asked b follows.tree)) place (evidence_room (asked b follows.tree) (length entry)) entry rows r
  pub told : FirstUnknown b follows.tree r.unknown

pub accepted : (b text : List ℕ) (place : ℕ) (entry rows : List ℕ) (r : Page) → Shown b text place entry rows (Ok r) → Accepted b text place entry rows r
accepted b text place entry rows r (refused {e = n} g x) = absurd (let no : Ok r ≡ Err n = x.refusal in cc)
accepted b text place entry rows r (page c f p u) =
    let read = clear_after (check_table b) (question_table text) c in
    record {
      lawful = clear_first (check_table b) (question_table text) c;
      read = read;
      follows = f;
      few = few_steps read f;
      paged = p;
      told = u;
    }

-- Reading the question again gives it.
pub asks : (text : List ℕ) (q : Question) → ReadAs text (Ok q) → Asks text q
asks text q (reading.read c f e) = record { writes = f; few = few_steps c f; is = e }

-- Row j of some rows of evidence, which begins at `from`, holds for each step a position of the step's list.
row_part : (a : Asked) (is ws : List ℕ) → Rows (Evidence a) is ws → (j from s : ℕ) → from ≡ j * a.steps → j < length is → s < a.steps
    → (from + s < length ws) × (at ws (from + s) < a.count s)
row_part a [] ws none j from s at_j l m = absurd (omega arith)
row_part a (i ∷ is) ws (row {w = w} {ws = more} e rest) zero from s at_j l m =
    let place : from + s ≡ s = omega (arith, at_j) in (
      omega (arith, length-append w more, e.long, place),
      subst (λ (n : ℕ). n < a.count s) (sym (ap (at (w ++ more)) place ∙ get_or-append w more 0 s (omega (arith, e.long)))) (e.pick.within s m),
    )
row_part a (i ∷ is) ws (row {w = w} {ws = more} e rest) (suc j) from s at_j l m =
    let deeper = row_part a is more rest j (j * a.steps) s refl (omega arith) m in
    let place : from + s ≡ length w + (j * a.steps + s) = omega (arith, at_j, suc-mul j a.steps, e.long) in (
      omega (arith, length-append w more, place, deeper.0),
      subst (λ (n : ℕ). n < a.count s) (sym (ap (at (w ++ more)) place ∙ get_or-append-add w more (j * a.steps + s) 0)) deeper.1,
    )

module _ (b text : List ℕ) (place : ℕ) (entry rows : List ℕ) (r : Page) (x : Accepted b text place entry rows r) where
  abbrev question : Asked
  question = asked b x.follows.tree

  whole : length (take r.rows x.paged.all) ≡ r.rows
  whole = length-take-le r.rows x.paged.all (omega (arith, x.paged.rows))

  -- Row j of the page, which begins at `from`, holds for each step a position of the step's list.
  position : (j from s : ℕ) → from ≡ j * question.steps → j < r.rows → s < question.steps → (from + s < length rows) × (at rows (from + s) < question.count s)
  position j from s at_j l m =
      let held = row_part question _ x.paged.written x.paged.rows_written j from s at_j (omega (arith, whole)) m in
      let behind = drop (length x.paged.written) entry in (
        omega (arith, held.0, ap length x.paged.buffer, length-append x.paged.written behind),
        subst (λ (n : ℕ). n < question.count s) (sym (ap (λ (t : List ℕ). at t (from + s)) x.paged.buffer ∙ get_or-append x.paged.written behind 0 _ held.0)) held.1,
      )

  -- Row j can be printed, where the offsets are those of the question's plan.
  pub labelled : (plan : Plan) (offsets : List ℕ) (f : Follows text) → Drawn b f.tree plan → length offsets ≡ plan.count
      → ((s : ℕ) → s < plan.count → at offsets s ≡ (planned_step plan s).list.offset) → (j : ℕ) → j < r.rows → RowAt b offsets rows (j * length offsets)
  unfolding asked
  labelled plan offsets f d long are j l =
      let same : x.follows.tree ≡ f.tree = one_tree x.follows f in
      let k_is : steps x.follows.tree ≡ length offsets = ap steps same ∙ sym d.count_is ∙ sym long in
      let begins : j * length offsets ≡ j * steps x.follows.tree = ap (λ (n : ℕ). j * n) (sym k_is) in
      let name : ℕ → List ℕ = λ s. (step_at x.follows.tree s).name in
      let last = position j (j * length offsets) (length offsets - 1) begins l (omega (arith, k_is, steps_some x.follows.tree)) in
      record {
        some = omega (arith, k_is, steps_some x.follows.tree);
        few = omega (arith, k_is, x.few);
        ended = omega (arith, last.0, k_is, steps_some x.follows.tree);
        labels = λ s m.
            let of_tree : at offsets s ≡ (list_of b (name s)).offset =
            are s (omega (arith, long)) ∙ ap (λ (z : PlanStep). z.list.offset) (d.steps_are.are s (omega (arith, long, d.count_is))) ∙
            ap (λ (t : Path). (list_of b (step_at t s).name).offset) (sym same) in
            omega (arith, of_tree, (position j (j * length offsets) s begins l (omega (arith, k_is))).1, list_within b (name s) x.lawful);
      }

  -- The step that the page tells is one of the question's.
  pub tells : Tells text r.unknown
  tells = record { read = x.read; follows = x.follows; step = below x.told }
    where
      below : {Such : ℕ → Type 0} {many : ℕ} {n : Option ℕ} → First Such many n → IfSome n (λ s. s < many)
      below (here l such before) = l
      below (nowhere _) = tt

  -- With room for the longest row, a page that leaves a record over names a later place.
  pub onward : most_steps ≤ length entry → r.more ≡ true → place < r.next
  unfolding asked
  onward long more =
      let k : ℕ = steps x.follows.tree in
      let some = steps_some x.follows.tree in
      let room : 1 ≤ length entry / k = omega (arith, div-eq-sub-div {m = k} {n = length entry} some (omega (arith, x.few))) in
      ⊎_elim (λ e. absurd (true≢false (sym more ∙ e))) (λ l. l) (page_onward x.paged room)
