-- From what the parts of a call promise to the promise of the call.
use Prim.Native.Nat.{ℕ, ◌/◌}
use mathlib.Core.Path.{◌≡◌, refl, sym, subst}
use mathlib.Core.List.{List}
use lib.ListN.{length}
use Rattle.std.specs.Prelude.{Option, Ok, Err}
use Rattle.meaning.specs.declared.Page.{Page}
use Rattle.meaning.specs.declared.Question.{Question}
use Rattle.meaning.specs.declared.refusal.Refusal.{Refusal}
use Rattle.meaning.specs.Picks.{Asked}
use Rattle.meaning.specs.Numbers.{number_of}
use Rattle.meaning.specs.Pages.{Paged, FirstUnknown}
use Rattle.meaning.specs.Refusals.{Given, Clear, Lawful, check_table, question_table, call_table}
use Rattle.meaning.specs.Promises.{refused, page}
use Rattle.meaning.proofs.Laws.Table.{given_first, given_after, clear_both}
use Rattle.meaning.proofs.Laws.Few.{few_steps}
use Rattle.question.specs.Promise.{ReadAs, read}
use Rattle.question.specs.Promise as reading
use Rattle.cursors.specs.declared.Plan.{Plan}
use Rattle.cursors.specs.Plan.{plan_of, Planned}
use Rattle.plan.specs.Drawn.{Asks, Draws}
use Rattle.plan.proofs.Drawing.{drawn_planned}
use Rattle.pages.specs.RowParts.{PartOf}
use Rattle.pages.specs.RowKinds.{RowKind}
use Rattle.response.specs.Response.{Responds}
use Rattle.response.proofs.Ending.{plan_page}

-- A call refuses with the refusal that its table gives, and changes nothing.
refuses : {Row : Asked → ℕ → List ℕ → Type 0} {room : Asked → ℕ → ℕ} {b text : List ℕ} {place : ℕ} {entry : List ℕ} (e : Refusal) → Given (call_table b text) (number_of e)
    → Responds Row room b text place entry entry (Err e)
refuses e g = refused g (record { buffer = refl; refusal = refl })

-- The index is refused.
pub refuse_index : {Row : Asked → ℕ → List ℕ → Type 0} {room : Asked → ℕ → ℕ} {b text : List ℕ} {place : ℕ} {entry : List ℕ} (e : Refusal) → Given (check_table b) (number_of e)
    → Responds Row room b text place entry entry (Err e)
refuse_index {b = b} {text = text} e g = refuses e (given_first (check_table b) (question_table text) (number_of e) g)

-- The question is refused.
pub refuse_text : {Row : Asked → ℕ → List ℕ → Type 0} {room : Asked → ℕ → ℕ} {b text : List ℕ} {place : ℕ} {entry : List ℕ} (e : Refusal) → Lawful b → ReadAs text (Err e)
    → Responds Row room b text place entry entry (Err e)
refuse_text {b = b} {text = text} e law (reading.refused g) = refuses e (given_after (check_table b) (question_table text) (number_of e) law g)

-- What reading says where it refuses nothing.
pub clear_of : {text : List ℕ} {q : Question} → ReadAs text (Ok q) → Clear (question_table text)
clear_of (read c f e) = c

pub asks_of : {text : List ℕ} {q : Question} → ReadAs text (Ok q) → Asks text q
asks_of (read c f e) = record { writes = f; few = few_steps c f; is = e }

-- What is drawn over a lawful index is planned.
pub planned_of : {b text : List ℕ} {d : Plan} {unknown : Option ℕ} → Lawful b → Draws b text d unknown → Planned b d
planned_of {b} law d = drawn_planned b d.writes.tree _ law d.few d.drawn

-- The engine's page is what the call promises.
pub give : {first width : ℕ → ℕ → ℕ} {Row : Asked → ℕ → List ℕ → Type 0} {room : Asked → ℕ → ℕ} → RowKind first width Row room
    → {b text : List ℕ} {d : Plan} {unknown : Option ℕ} {place : ℕ} {entry exit : List ℕ} {r : Page}
    → Lawful b → Clear (question_table text) → Draws b text d unknown
    → Paged (plan_of b d) (PartOf (plan_of b d) (first d.count d.returned) (width d.count d.returned)) place (length entry / width d.count d.returned) entry exit r → r.unknown ≡ unknown
    → Responds Row room b text place entry exit (Ok r)
give kind {b} {text} {d} {unknown} {place} {entry} {exit} {r} law clear drawn paged told =
    page (clear_both (check_table b) (question_table text) law clear) drawn.writes (plan_page kind b drawn.writes.tree d law drawn.few drawn.drawn place entry exit r paged)
    (subst (FirstUnknown b drawn.writes.tree) (sym told) drawn.told)
