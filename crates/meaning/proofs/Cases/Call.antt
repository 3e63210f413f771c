-- Calls written out in full: what is said of one, and a test that antt computes, proved to agree with the definitions. A refusal has every
-- field of its result here, and a page the whole buffer before and after.
use Prim.Native.Nat.{ℕ, ◌≤◌, ◌<◌}
use native.Mathlib.Omega.{arith}
use mathlib.Core.Path.{◌≡◌, sym, ap, subst, ◌∙◌}
use mathlib.Core.Logic.{◌⊎◌, inl, inr}
use mathlib.Core.Bool.{Bool, true, false, ◌&&◌}
use mathlib.Core.List.{List, [], ◌∷◌}
use lib.Dec.{T, leb, ltb, eqb}
use lib.ListN.{length}
use mir.Facts.{and_yes}
use Rattle.std.specs.Prelude.{Err}
use Rattle.meaning.specs.declared.refusal.Refusal.{Refusal}
use Rattle.meaning.specs.Answers.{Decides}
use Rattle.meaning.specs.Limits.{most_text, most_steps, most_depth}
use Rattle.meaning.specs.Names.{same}
use Rattle.meaning.specs.Notation.{Path, write, Named, Follows, steps, depth, TooLong}
use Rattle.meaning.specs.Picks.{asked}
use Rattle.meaning.specs.Ends.{Stops}
use Rattle.meaning.specs.Pages.{answer_room, evidence_room}
use Rattle.meaning.specs.Numbers.{number_of, numbers}
use Rattle.meaning.specs.Refusals.{Given, check_table, question_table, call_table}
use Rattle.meaning.specs.Promises.{Checked, refused, Answered, Shown}
use Rattle.meaning.proofs.Decide.{passed, le_decides, lt_decides, eq_decides, and_decides, either_decides}
use Rattle.meaning.proofs.Decide.Day.{check_of, check_agrees}
use Rattle.meaning.proofs.Decide.Notation.{named_b, named_decides}
use Rattle.meaning.proofs.Laws.Same.{same_decides}
use Rattle.meaning.proofs.Laws.Notation.{path_no_stop}
use Rattle.meaning.proofs.Laws.Page.{refusal_told, refusal_is}
use Rattle.meaning.proofs.Laws.Table.{checked_lawful, verdict_given, given_first, given_after}
use Rattle.meaning.proofs.Cases.{Room, ample, just, Asking, IsRoom, joined, result_of, over, AskRight, Every, every_as}
use Rattle.meaning.proofs.Cases.Test.{ask_b, ask_sound, right_b}

-- What shows that a call refuses: the check call gives the number; or the index is lawful, and the text is too long, or has no byte, or is
-- that of a tree that is too large.
pub data Why : Type 0 where
  unlawful : Why
  long : Why
  blank : Why
  large : Path → Why

-- A call: a question that is accepted, with its outcome for whatever buffer is lent; the answer call or the evidence call with the buffer
-- before and after; or an index and a text with the refusal that both calls for rows give, and its number in document 01.
pub data Call : Type 0 where
  accepts : Asking → Call
  answers : Asking → List ℕ → List ℕ → Call
  shows : Asking → List ℕ → List ℕ → Call
  refuses : List ℕ → List ℕ → Why → Refusal → ℕ → Call

-- Both calls for rows refuse so, whatever the place, and leave whatever buffer is lent; and the numbers of that are the refusal's, which a
-- case writes out, and 0 rows, no further record, next place 0 and unknown step 32.
pub record RefuseRight (b text : List ℕ) (e : Refusal) (n : ℕ) : Type 0 where
  pub answered : (place : ℕ) (entry : List ℕ) → Answered b text place entry entry (Err e)
  pub shown : (place : ℕ) (entry : List ℕ) → Shown b text place entry entry (Err e)
  pub told : numbers (Err e) ≡ n ∷ 0 ∷ 0 ∷ 0 ∷ 32 ∷ []

-- What is said of a call.
abbrev pub CallRight : Call → Type 0
CallRight (accepts c) = AskRight c
CallRight (answers c entry exit) = Answered c.index c.text c.place entry exit (result_of c)
CallRight (shows c entry exit) = Shown c.index c.text c.place entry exit (result_of c)
CallRight (refuses b text why e n) = RefuseRight b text e n

-- What the test finds about a refusal.
abbrev Due : List ℕ → List ℕ → Why → ℕ → Type 0
Due b text unlawful n = (check_of b ≡ n) × (0 < n)
Due b text long n = (check_of b ≡ 0) × ((most_text < length text) × (n ≡ 7))
Due b text blank n = (check_of b ≡ 0) × ((text ≡ []) × (n ≡ 8))
Due b text (large t) n =
    (check_of b ≡ 0) × (((write t [] ≡ text) × (Named t × (length text ≤ most_text))) × (((most_steps < steps t) ⊎ (most_depth < depth t)) × (n ≡ 9)))

unfoldable pub due_b : List ℕ → List ℕ → Why → ℕ → Bool
due_b b text unlawful n = eqb (check_of b) n && ltb 0 n
due_b b text long n = eqb (check_of b) 0 && (ltb most_text (length text) && eqb n 7)
due_b b text blank n = eqb (check_of b) 0 && (same text [] && eqb n 8)
due_b b text (large t) n =
    eqb (check_of b) 0 && ((same (write t []) text && (named_b t && leb (length text) most_text)) && (elim (ltb most_steps (steps t)) [ true ↦ true | false ↦ ltb most_depth (depth t) ] && eqb n 9))

-- The test decides it.
due_decides : (b text : List ℕ) (why : Why) (n : ℕ) → Decides (Due b text why n) (due_b b text why n)
unfolding due_b
due_decides b text unlawful n = and_decides (eq_decides (check_of b) n) (lt_decides 0 n)
due_decides b text long n = and_decides (eq_decides (check_of b) 0) (and_decides (lt_decides most_text (length text)) (eq_decides n 7))
due_decides b text blank n = and_decides (eq_decides (check_of b) 0) (and_decides (same_decides text []) (eq_decides n 8))
due_decides b text (large t) n =
    and_decides (eq_decides (check_of b) 0)
    (and_decides (and_decides (same_decides (write t []) text) (and_decides (named_decides t) (le_decides (length text) most_text)))
    (and_decides (either_decides (lt_decides most_steps (steps t)) (lt_decides most_depth (depth t))) (eq_decides n 9)))

-- So the table gives the number.
module _ (b text : List ℕ) (n : ℕ) where
  -- On a lawful index the question's part of the table does.
  behind : check_of b ≡ 0 → Given (question_table text) n → Given (call_table b text) n
  behind e g = given_after (check_table b) (question_table text) n (checked_lawful b (check_of b) e (check_agrees b)) g

  given_due : (why : Why) → Due b text why n → Given (call_table b text) n
  given_due unlawful (e, l) = given_first (check_table b) (question_table text) n (verdict_given (check_table b) n l (subst (Checked b) e (check_agrees b)))
  given_due long (e, (l, is)) = behind e (inl (l, is))
  given_due blank (e, (none, is)) =
      let short : TooLong text → ⊥ = λ l. omega (arith, subst (λ (w : List ℕ). length w ≤ 0) (sym none) (omega arith)) in
      behind e (inr (short, inl (λ f. path_no_stop f.tree [] text (subst Stops (sym none) tt) f.written, is)))
  given_due (large t) (e, ((text_of, (named, l)), (much, is))) =
      let f : Follows text = record { tree = t; named = named; written = text_of } in
      behind e (inr (λ k. omega (arith, k, l), inr (λ nf. nf f, inl ((f, much), is))))

-- The room is as the case says.
abbrev room_b : Room → ℕ → ℕ → Bool
room_b ample n room = leb n room
room_b (just m) n room = eqb room m

room_decides : (r : Room) (n room : ℕ) → Decides (IsRoom r n room) (room_b r n room)
room_decides ample n room = le_decides n room
room_decides (just m) n room = eq_decides room m

-- A page leaves the buffer that the case says: these rows, where there is this room, are written over its beginning.
unfoldable pub buffer_b : Asking → ℕ → List ℕ → List ℕ → List ℕ → Bool
buffer_b c room rows entry exit = room_b c.room (length c.positions) room && same (over rows entry) exit

buffer_decides : (c : Asking) (room : ℕ) (rows entry exit : List ℕ) → Decides (IsRoom c.room (length c.positions) room × (over rows entry ≡ exit)) (buffer_b c room rows entry exit)
unfolding buffer_b
buffer_decides c room rows entry exit = and_decides (room_decides c.room (length c.positions) room) (same_decides (over rows entry) exit)

-- The test of a call. Whoever unfolds it unfolds all that it computes with.
unfoldable pub call_b : Call → Bool
unfolding right_b due_b buffer_b
call_b (accepts c) = ask_b c
call_b (answers c entry exit) = buffer_b c (answer_room (asked c.index c.tree) (length entry)) c.positions entry exit && ask_b c
call_b (shows c entry exit) = buffer_b c (evidence_room (asked c.index c.tree) (length entry)) (joined c.rows) entry exit && ask_b c
call_b (refuses b text why e n) = due_b b text why n && eqb (number_of e) n

-- A call that passes its test is right.
pub call_right : (c : Call) → T (call_b c) → CallRight c
unfolding call_b
call_right (accepts c) t = ask_sound c t
call_right (answers c entry exit) t =
    let room : ℕ = answer_room (asked c.index c.tree) (length entry) in
    let b = and_yes (buffer_b c room c.positions entry exit) (ask_b c) t in
    let f = passed (buffer_decides c room c.positions entry exit) b.0 in
    subst (λ (x : List ℕ). Answered c.index c.text c.place entry x (result_of c)) f.1 ((ask_sound c b.1).answered entry f.0)
call_right (shows c entry exit) t =
    let room : ℕ = evidence_room (asked c.index c.tree) (length entry) in
    let b = and_yes (buffer_b c room (joined c.rows) entry exit) (ask_b c) t in
    let f = passed (buffer_decides c room (joined c.rows) entry exit) b.0 in
    subst (λ (x : List ℕ). Shown c.index c.text c.place entry x (result_of c)) f.1 ((ask_sound c b.1).shown entry f.0)
call_right (refuses b text why e n) t =
    let f = passed (and_decides (due_decides b text why n) (eq_decides (number_of e) n)) t in
    let g : Given (call_table b text) (number_of e) = subst (Given (call_table b text)) (sym f.1) (given_due b text n why f.0) in
    record {
      answered = λ place entry. refused g (refusal_is e entry);
      shown = λ place entry. refused g (refusal_is e entry);
      told = refusal_told e ∙ ap (λ (k : ℕ). k ∷ 0 ∷ 0 ∷ 0 ∷ 32 ∷ []) f.1;
    }

-- Every call of a table is right.
abbrev pub CallsRight : List Call → Type 0
CallsRight = Every CallRight

-- A table that passes is right, call by call.
pub calls_right : (cs : List Call) → Every (λ c. T (call_b c)) cs → CallsRight cs
calls_right = every_as call_right
