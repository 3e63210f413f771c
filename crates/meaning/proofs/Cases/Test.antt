-- A test of the cases that antt computes, proved to agree with the definitions: a table that passes it is right.
use Prim.Native.Nat.{ℕ, ◌≤◌, min}
use native.Mathlib.Omega.{arith}
use mathlib.Core.Path.{◌≡◌, refl, sym, ap, subst, ◌∙◌}
use mathlib.Core.Logic.{inl, inr}
use mathlib.Core.Bool.{Bool, true, false, ◌&&◌}
use mathlib.Core.List.{List, [], ◌∷◌}
use lib.Dec.{T, leb, ltb, eqb}
use lib.ListN.{length, take, get_or}
use lib.Seq.{length-take-le}
use Rattle.meaning.specs.Answers.{Decides, holds, fails}
use Rattle.meaning.specs.Limits.{most_text, most_steps, most_depth}
use Rattle.meaning.specs.Bytes.{u32_at}
use Rattle.meaning.specs.Names.{initial, further, all_further, short, is_name, same}
use Rattle.meaning.specs.Day.{labels, total, list_among}
use Rattle.meaning.specs.Notation.{write, Named, Follows, steps, depth, list, last_step, TooLong, TooLarge}
use Rattle.meaning.specs.Picks.{Asked, Evidence, asked}
use Rattle.meaning.specs.Pages.{Rows, none, row, Position, Paged, FirstUnknown, evidence_room}
use Rattle.meaning.specs.Refusals.{Clear, Lawful, check_table, question_table, call_table}
use Rattle.meaning.specs.Promises.{Checked, page}
use Rattle.meaning.proofs.Decide.{each, some, passed, le_decides, eq_decides, and_decides, after_decides, same_bool, bool_decides}
use Rattle.meaning.proofs.Laws.Same.{same_decides}
use Rattle.meaning.proofs.Decide.Notation.{named_b, named_decides}
use Rattle.meaning.proofs.Laws.Notation.{one_tree}
use Rattle.meaning.proofs.Laws.Table.{checked_lawful, clear_both}
use Rattle.meaning.specs.Fit.{Fit}
use Rattle.meaning.proofs.Laws.Day.{lawful_fit}
use Rattle.meaning.proofs.Decide.Day.{check_of, check_agrees}
use Rattle.meaning.proofs.Decide.Unknown.{no_row_b, first_passing, unknown_of, same_step, unknown_decides}
use Rattle.meaning.proofs.Decide.Picks.{choose, edge_b, hung_b, pick_b, some_pick, returned_b, undercut_b, evidence_b, evidence_decides}
use Rattle.meaning.proofs.Laws.Record.{filtered, records_of, records_found}
use Rattle.meaning.proofs.Cases.{Room, ample, just, Asking, Case, ask, check, empty, IsRoom, joined, page_in, over, AskRight, Right, Every, every_as, All}

-- How many of n records are written.
abbrev pub writes : Room → ℕ → ℕ
writes ample n = n
writes (just m) n = min m n

-- Each of these rows is the evidence for its record.
abbrev Each : Asked → List ℕ → List (List ℕ) → Type 0
Each a [] [] = Unit
Each a [] (w ∷ ws) = ⊥
Each a (i ∷ is) [] = ⊥
Each a (i ∷ is) (w ∷ ws) = Evidence a i w × Each a is ws

unfoldable pub each_b : Asked → List ℕ → List (List ℕ) → Bool
each_b a [] [] = true
each_b a [] (w ∷ ws) = false
each_b a (i ∷ is) [] = false
each_b a (i ∷ is) (w ∷ ws) = evidence_b a i w && each_b a is ws

each_decides : (a : Asked) → Fit a → (is : List ℕ) (ws : List (List ℕ)) → Decides (Each a is ws) (each_b a is ws)
unfolding each_b
each_decides a fit [] [] = holds tt
each_decides a fit [] (w ∷ ws) = fails (λ h. h)
each_decides a fit (i ∷ is) [] = fails (λ h. h)
each_decides a fit (i ∷ is) (w ∷ ws) = and_decides (evidence_decides a fit i w) (each_decides a fit is ws)

each_rows : (a : Asked) (is : List ℕ) (ws : List (List ℕ)) → Each a is ws → Rows (Evidence a) is (joined ws)
each_rows a [] [] h = none
each_rows a [] (w ∷ ws) h = absurd h
each_rows a (i ∷ is) [] h = absurd h
each_rows a (i ∷ is) (w ∷ ws) h = row h.0 (each_rows a is ws h.1)

position_rows : (is : List ℕ) → Rows Position is is
position_rows [] = none
position_rows (i ∷ is) = row {w = i ∷ []} refl (position_rows is)

-- The records of a question from its place on, and how many of them are written.
abbrev all_of : Asking → List ℕ
all_of c = records_of (asked c.index c.tree) c.place

abbrev written_of : Asking → List ℕ → ℕ
written_of c all = writes c.room (length all)

-- What the test finds about the records, of which `all` is the list: the first are those of the table, and so are more and next place.
abbrev Listed : Asking → List ℕ → Type 0
Listed c all =
    (take (written_of c all) all ≡ c.positions) × ((ltb (written_of c all) (length all) ≡ c.more)
    × ((get_or all (written_of c all) ((asked c.index c.tree).count (asked c.index c.tree).returned) ≡ c.next) × Each (asked c.index c.tree) c.positions c.rows))

-- What the test finds about the text: it is the tree's, and small enough.
abbrev Written : Asking → Type 0
Written c = (write c.tree [] ≡ c.text) × (Named c.tree × ((length c.text ≤ most_text) × ((steps c.tree ≤ most_steps) × (depth c.tree ≤ most_depth))))

-- What the test finds about a question.
abbrev Facts : Asking → Type 0
Facts c = (check_of c.index ≡ 0) × (Written c × (FirstUnknown c.index c.tree c.unknown × Listed c (all_of c)))

unfoldable pub listed_b : Asking → List ℕ → Bool
listed_b c all =
    same (take (written_of c all) all) c.positions && (same_bool (ltb (written_of c all) (length all)) c.more
    && (eqb (get_or all (written_of c all) ((asked c.index c.tree).count (asked c.index c.tree).returned)) c.next && each_b (asked c.index c.tree) c.positions c.rows))

unfoldable pub written_b : Asking → Bool
written_b c = same (write c.tree []) c.text && (named_b c.tree && (leb (length c.text) most_text && (leb (steps c.tree) most_steps && leb (depth c.tree) most_depth)))

unfoldable pub ask_b : Asking → Bool
ask_b c = elim (eqb (check_of c.index) 0) [ true ↦ written_b c && (same_step (unknown_of c.index c.tree) c.unknown && listed_b c (all_of c)) | false ↦ false ]

listed_decides : (c : Asking) → Fit (asked c.index c.tree) → (all : List ℕ) → Decides (Listed c all) (listed_b c all)
unfolding listed_b
listed_decides c fit all =
    let a : Asked = asked c.index c.tree in
    let n : ℕ = written_of c all in
    and_decides (same_decides (take n all) c.positions) (and_decides (bool_decides (ltb n (length all)) c.more)
    (and_decides (eq_decides (get_or all n (a.count a.returned)) c.next) (each_decides a fit c.positions c.rows)))

written_decides : (c : Asking) → Decides (Written c) (written_b c)
unfolding written_b
written_decides c =
    and_decides (same_decides (write c.tree []) c.text) (and_decides (named_decides c.tree)
    (and_decides (le_decides (length c.text) most_text) (and_decides (le_decides (steps c.tree) most_steps) (le_decides (depth c.tree) most_depth))))

-- An index to which the computed number is 0 is lawful.
zero_lawful : (b : List ℕ) → check_of b ≡ 0 → Lawful b
zero_lawful b e = checked_lawful b (check_of b) e (check_agrees b)

-- The test decides these facts.
ask_decides : (c : Asking) → Decides (Facts c) (ask_b c)
unfolding ask_b
ask_decides c =
    after_decides (eq_decides (check_of c.index) 0)
    (λ e. and_decides (written_decides c)
    (and_decides (unknown_decides c.index c.tree c.unknown) (listed_decides c (lawful_fit c.index c.tree (zero_lawful c.index e)) (all_of c))))

-- These facts are what is said of the question.
module _ (c : Asking) (e : check_of c.index ≡ 0) (w : Written c) (u : FirstUnknown c.index c.tree c.unknown) (l : Listed c (all_of c)) where
  abbrev a : Asked
  a = asked c.index c.tree

  law : Lawful c.index
  law = zero_lawful c.index e

  abbrev follows : Follows c.text
  follows = record { tree = c.tree; named = w.1.0; written = w.0 }

  clear : Clear (call_table c.index c.text)
  clear = clear_both (check_table c.index) (question_table c.text) law (long, (λ n. n follows, (large, tt)))
    where
      long : TooLong c.text → ⊥
      long h = omega (arith, w.1.1.0)

      large : TooLarge c.text → ⊥
      large (f, inl h) = omega (arith, w.1.1.1.0, ap steps (one_tree f follows))
      large (f, inr h) = omega (arith, w.1.1.1.1, ap depth (one_tree f follows))

  few : (r : Room) (k : ℕ) → writes r k ≤ k
  few ample k = omega arith
  few (just m) k = omega arith

  enough : (r : Room) (n k room : ℕ) → n ≡ writes r k → IsRoom r n room → n ≡ min room k
  enough ample n k room x y = omega arith
  enough (just m) n k room x y = omega arith

  -- The page of a call, from the rows that it writes.
  page_of : (Row : ℕ → List ℕ → Type 0) (rows : List ℕ) → Rows Row c.positions rows → (room : ℕ) (entry : List ℕ) → IsRoom c.room (length c.positions) room
      → Paged a Row c.place room entry (over rows entry) (page_in c)
  page_of Row rows are room entry fits =
      let all : List ℕ = all_of c in
      let n : ℕ = written_of c all in
      let long : length c.positions ≡ n = sym (ap length l.0) ∙ length-take-le n all (few c.room (length all)) in
      record {
        all = all;
        records = records_found a (lawful_fit c.index c.tree law) c.place;
        written = rows;
        rows_written = subst (λ (is : List ℕ). Rows Row is rows) (sym l.0 ∙ ap (λ (k : ℕ). take k all) (sym long)) are;
        buffer = refl;
        rows = enough c.room (length c.positions) (length all) room long fits;
        more = sym l.1.0 ∙ ap (λ (k : ℕ). ltb k (length all)) (sym long);
        next = sym l.1.1.0 ∙ ap (λ (k : ℕ). get_or all k (a.count a.returned)) (sym long);
      }

  ask_right : AskRight c
  ask_right = record {
    answered = λ entry fits. page clear follows (page_of Position c.positions (position_rows c.positions) (length entry) entry fits) u;
    shown = λ entry fits. page clear follows (page_of (Evidence a) (joined c.rows) (each_rows a c.positions c.rows l.1.1.1) (evidence_room a (length entry)) entry fits) u;
  }

-- A question that passes its test is right.
pub ask_sound : (c : Asking) → T (ask_b c) → AskRight c
ask_sound c t = let f = passed (ask_decides c) t in ask_right c f.0 f.1.0 f.1.1.0 f.1.1.1

-- The test of a case. Whoever unfolds it unfolds all that it computes with.
unfoldable pub right_b : Case → Bool
unfolding check_of u32_at labels list_among initial further all_further short is_name same write steps depth list last_step asked each some choose edge_b hung_b pick_b some_pick returned_b undercut_b evidence_b filtered records_of named_b no_row_b first_passing unknown_of same_step each_b listed_b written_b ask_b
right_b (ask c) = ask_b c
right_b (check b n) = eqb (check_of b) n
right_b (empty b) = eqb (check_of b) 0 && eqb (total b) 0

-- A case that passes its test is right.
pub right : (c : Case) → T (right_b c) → Right c
unfolding right_b
right (ask c) t = ask_sound c t
right (check b n) t = subst (Checked b) (passed (eq_decides (check_of b) n) t) (check_agrees b)
right (empty b) t =
    let f = passed (and_decides (eq_decides (check_of b) 0) (eq_decides (total b) 0)) t in
    (subst (Checked b) f.0 (check_agrees b), f.1)

-- A table every case of which passes is right. Each is a fact of its own, so that one which fails is named.
pub all_right : (cs : List Case) → Every (λ c. T (right_b c)) cs → All cs
all_right = every_as right
