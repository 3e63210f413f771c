-- The page loop: each settling gives the next returned record and its evidence, or says that there is none.
use Prim.Native.Nat.{ℕ, zero, suc, ◌+◌, ◌*◌, ◌/◌, ◌≤◌, ◌<◌, min}
use native.Mathlib.Nat.{eq-or-lt_of_le, ne_of_lt, suc-mul, mul-le-mul_right, div-mul-le_self}
use native.Mathlib.Numerals.{add-one}
use native.Mathlib.Omega.{arith}
use borrow.Author.Tests.{lt-ltb, le-ltb}
use mathlib.Core.Path.{◌≡◌, refl, sym, ap, ap₂, subst, ◌∙◌}
use mathlib.Core.Logic.{inl, inr, ⊎_elim}
use mathlib.Core.Bool.{Bool, true, false, true≢false, false≢true}
use mathlib.Core.List.{List, [], ◌∷◌, ◌++◌, append-nil, append_assoc}
use lib.Dec.{ltb}
use lib.ListN.{length, get_or, set, replicate, take, drop, take-append-drop, length-append, length-drop, length-set}
use lib.Seq.{paste, take_all, get_or-take, length-take-le, get_or-set_same, get_or-set_other, take-append_seam, take-take, take-nil, drop-drop}
use Rattle.std.specs.Prelude.{Option}
use Rattle.std.proofs.lemmas.List.{get_or-drop, length-take}
use Rattle.std.proofs.lemmas.List.Edits.{length-paste, take-paste, drop-paste}
use Rattle.meaning.specs.declared.Page.{Page}
use Rattle.meaning.specs.Limits.{most_labels}
use Rattle.meaning.specs.Bytes.{at}
use Rattle.meaning.specs.Picks.{Asked, Pick, Returned, Evidence}
use Rattle.meaning.specs.Pages.{Records, Rows, none, row, Paged}
use Rattle.meaning.specs.Fit.{Fit}
use Rattle.meaning.proofs.Laws.Bytes.{zero_at}
use Rattle.meaning.proofs.Laws.Pick.{same_pick}
use Rattle.meaning.proofs.Laws.Record.{records_of, records_found}
use Rattle.cursors.specs.declared.Plan.{Plan}
use Rattle.cursors.specs.Plan.{plan_of, Planned}
use Rattle.cursors.specs.Cursors.{AtMost, LeastPick, NoPick, Settled, found, ended, Unbroken}
use Rattle.pages.specs.RowParts.{PartOf, Put}
use Rattle.cursors.proofs.Moves.{set_cases, edge_of, unbroken_before}

-- i is the first returned record at `place` or later.
pub record NextRecord (a : Asked) (place i : ℕ) : Type 0 where
  pub found : Returned a i
  pub later : place ≤ i
  pub least : (j : ℕ) → Returned a j → place ≤ j → i ≤ j

-- The first record before the records behind it makes the records of a place.
pub records_next : (a : Asked) (place i : ℕ) (is : List ℕ) → NextRecord a place i → Records a (i + 1) is → Records a place (i ∷ is)
records_next a place i is n r = record {
  ascending = (λ j h. omega (arith, (r.each j h).1), r.ascending);
  each = λ j h. ⊎_elim (λ e. (subst (Returned a) (sym e) n.found, omega (arith, e, n.later))) (λ m. ((r.each j m).0, omega (arith, (r.each j m).1, n.later))) h;
  every = λ j x l. ⊎_elim (λ e. inl (sym e)) (λ m. inr (r.every j x (omega arith))) (eq-or-lt_of_le (n.least j x l));
}

-- Where no record is returned from a place on, the place has no records.
pub records_none : (a : Asked) (place : ℕ) → ((j : ℕ) → Returned a j → place ≤ j → ⊥) → Records a place []
records_none a place h = record { ascending = tt; each = λ i x. absurd x; every = λ i x l. absurd (h i x l) }

-- One row more behind the rows.
pub rows_more : {Row : ℕ → List ℕ → Type 0} {is ws : List ℕ} (i : ℕ) (w : List ℕ) → Rows Row is ws → Row i w → Rows Row (is ++ (i ∷ [])) (ws ++ w)
rows_more {Row} i w none x = subst (λ (v : List ℕ). Rows Row (i ∷ []) v) (append-nil w) (row x none)
rows_more {Row} i w (row {i = j} {w = v} {is = is} {ws = vs} y r) x = subst (λ (u : List ℕ). Rows Row (j ∷ is ++ (i ∷ [])) u) (sym (append_assoc v vs w)) (row y (rows_more i w r x))

-- The cursors xs are at or before every pick whose returned record is at the returned cursor or later.
abbrev pub Floor : Asked → List ℕ → Type 0
Floor a xs = (q : ℕ → ℕ) → Pick a q → at xs a.returned ≤ q a.returned → AtMost a (at xs) q

module _ (a : Asked) (fit : Fit a) (xs : List ℕ) (f : Floor a xs) where
  pub done_of : NoPick a (at xs) → Records a (at xs a.returned) []
  done_of no-pick = records_none a (at xs a.returned) (λ j x l. no-pick x.0 x.1 (f x.0 x.1 (omega (arith, x.2))))

  module _ (ys : List ℕ) (least : LeastPick a (at xs) (at ys)) where
    pub next_of : NextRecord a (at xs a.returned) (at ys a.returned)
    next_of = record {
      found = (at ys, least.pick, refl);
      later = least.later a.returned fit.returned_lt;
      least = λ j r l. omega (arith, r.2, least.least r.0 r.1 (f r.0 r.1 (omega (arith, r.2))) a.returned fit.returned_lt);
    }

    -- The first positions of the least pick are the evidence for its returned record.
    pub evidence_of : a.steps ≤ length ys → Evidence a (at ys a.returned) (take a.steps ys)
    evidence_of l =
        let on : (s : ℕ) → s < a.steps → at ys s ≡ at (take a.steps ys) s = λ s k. sym (get_or-take a.steps ys s 0 k) in
        record {
          long = length-take-le a.steps ys l;
          pick = same_pick a fit (at ys) (at (take a.steps ys)) on least.pick;
          here = sym (on a.returned fit.returned_lt);
          earliest = λ q p e s k. omega (arith, on s k, least.least q p (f q p (omega (arith, e, least.later a.returned fit.returned_lt))) s k);
        }

    -- With the returned cursor one further, the cursors are a floor again, and nothing below the returned step has changed.
    pub floor_next : a.returned < length ys → Floor a (set ys a.returned (at ys a.returned + 1))
    floor_next rl q pick l =
        let up : at ys a.returned + 1 ≤ q a.returned = rw (get_or-set_same ys a.returned (at ys a.returned + 1) 0 rl) at l in
        let over = f q pick (omega (arith, least.later a.returned fit.returned_lt)) in
        set_cases 0 (λ j x. j < a.steps → x ≤ q j) ys a.returned (at ys a.returned + 1) rl (λ _. up) (λ j _ k. least.least q pick over j k)

    -- Below the returned step the least pick's edges stay as they are when the returned cursor is raised.
    pub held_next : (v : ℕ) → Unbroken a (at (set ys a.returned v)) a.returned
    held_next v = record {
      ranged = λ j l. rw (same j l) (least.pick.within j (omega (arith, fit.returned_lt)));
      touches = λ j l u e.
          let jk : j < a.steps = omega (arith, fit.returned_lt) in
          let ul : u < j = fit.upward j u jk e in
          let edge = edge_of a (at ys) j u (a.hook j) e (least.pick.hung j jk) in
          record {
            after = rw (same j l, same u (omega arith)) edge.after;
            reached = rw (same j l, same u (omega arith)) (omega (arith, edge.before, fit.ordered j (at ys j) (least.pick.within j jk)));
          };
    }
      where
        same : (j : ℕ) → j < a.returned → at (set ys a.returned v) j ≡ at ys j
        same j l = get_or-set_other ys a.returned j v 0 (ne_of_lt l)

-- The loop's invariant: n rows are written for the records `is`, and the records from the returned cursor on complete those of the page's
-- place.
pub record Writing (a : Asked) (Row : ℕ → List ℕ → Type 0) (place room width : ℕ) (entry out xs : List ℕ) (n first : ℕ) : Type 0 where
  pub len : length xs ≡ 32
  pub same : length out ≡ length entry
  pub n_le : n ≤ room
  pub floor : Floor a xs
  pub first_le : first ≤ a.steps
  pub held : Unbroken a (at xs) first
  pub is : List ℕ
  pub long : length is ≡ n
  pub rows : Rows Row is (take (n * width) out)
  pub kept : drop (n * width) out ≡ drop (n * width) entry
  pub rest : (js : List ℕ) → Records a (at xs a.returned) js → Records a place (is ++ js)

-- The row after n rows begins a row's width further.
pub row_on : (n width : ℕ) → (n + 1) * width ≡ n * width + width
row_on n width = omega (arith, suc-mul n width, ap (λ (k : ℕ). k * width) (add-one n))

module _ {a : Asked} (fit : Fit a) {Row : ℕ → List ℕ → Type 0} {place room width : ℕ} {entry out xs : List ℕ} {n first : ℕ}
    (w : Writing a Row place room width entry out xs n first) (fits : n * width ≤ length entry) where
  -- What is written is the buffer's beginning, and the rest is as it was.
  buffer : out ≡ take (n * width) out ++ drop (length (take (n * width) out)) entry
  buffer =
      sym (take-append-drop (n * width) out) ∙ ap (λ (t : List ℕ). take (n * width) out ++ t) (w.kept ∙ ap (λ (k : ℕ). drop k entry) (sym (length-take-le (n * width) out (omega (arith, w.same)))))

  -- The page where all records from the returned cursor on are known.
  ending : (js : List ℕ) → Records a (at xs a.returned) js → (r : Page) → r.rows ≡ n → r.rows ≡ min room (n + length js)
      → r.more ≡ ltb n (n + length js) → r.next ≡ get_or js 0 (a.count a.returned) → Paged a Row place room entry out r
  ending js rec r e₁ e₂ e₃ e₄ =
      let long : length (w.is ++ js) ≡ n + length js = length-append w.is js ∙ ap (λ (k : ℕ). k + length js) w.long in
      record {
        all = w.is ++ js;
        records = w.rest js rec;
        written = take (n * width) out;
        rows_written = subst (λ (ks : List ℕ). Rows Row ks (take (n * width) out)) (sym (ap (λ (k : ℕ). take k (w.is ++ js)) (e₁ ∙ sym w.long) ∙ take-append_seam w.is js)) w.rows;
        buffer = buffer;
        rows = e₂ ∙ ap (min room) (sym long);
        more = e₃ ∙ ap₂ ltb (sym e₁) (sym long);
        next = e₄ ∙ sym (ap (λ (k : ℕ). get_or (w.is ++ js) k (a.count a.returned)) (e₁ ∙ sym w.long) ∙ seam w.is js (a.count a.returned));
      }
    where
      seam : (ks ls : List ℕ) (d : ℕ) → get_or (ks ++ ls) (length ks) d ≡ get_or ls 0 d
      seam [] ls d = refl
      seam (k ∷ ks) ls d = seam ks ls d

  -- No record is left.
  pub page_done : NoPick a (at xs) → (m : ℕ) → m ≡ n → (unknown : Option ℕ) → Paged a Row place room entry out (record { rows = m; more = false; next = a.count a.returned; unknown = unknown })
  page_done no-pick m e unknown =
      ending [] (done_of a fit xs w.floor no-pick) (record { rows = m; more = false; next = a.count a.returned; unknown = unknown }) e (omega (arith, w.n_le, e)) (sym (le-ltb n (n + 0) (omega arith))) refl

  module _ (ys : List ℕ) (least : LeastPick a (at xs) (at ys)) where
    -- A record is left, and the page is full.
    pub page_full : (m : ℕ) → m ≡ n → n ≡ room → (unknown : Option ℕ) → Paged a Row place room entry out (record { rows = m; more = true; next = at ys a.returned; unknown = unknown })
    page_full m e full unknown =
        let i : ℕ = at ys a.returned in
        let js : List ℕ = records_of a (i + 1) in
        let rec : Records a (at xs a.returned) (i ∷ js) = records_next a (at xs a.returned) i js (next_of a fit xs w.floor ys least) (records_found a fit (i + 1)) in
        ending (i ∷ js) rec (record { rows = m; more = true; next = i; unknown = unknown }) e (omega (arith, e, full)) (sym (lt-ltb n (n + suc (length js)) (omega arith))) refl

    -- A row v is written behind the others, from `to` on. The cursors are settled again from the returned step on, or from a step before it.
    pub page_row : n < room → length ys ≡ 32 → a.steps ≤ 32 → (v : List ℕ) → Row (at ys a.returned) v → length v ≡ width → (n + 1) * width ≤ length out
        → (new : List ℕ) (to k here first' : ℕ) → new ≡ paste out to v k → to ≡ n * width → k ≡ width → here ≡ at ys a.returned + 1 → first' ≤ a.returned
        → Writing a Row place room width entry new (set ys a.returned here) (n + 1) first'
    page_row l yl k32 v is_row vl within new to k here first' new_is to_is k_is here_is fl =
        let i : ℕ = at ys a.returned in
        let rl : a.returned < length ys = omega (arith, fit.returned_lt) in
        let next : (n + 1) * width ≡ n * width + width = row_on n width in
        let end : (n + 1) * width ≡ to + k = omega (arith, next) in
        let head : take ((n + 1) * width) (paste out to v k) ≡ take (n * width) out ++ v =
        ap (λ (t : ℕ). take t (paste out to v k)) end ∙ take-paste out to v k (omega (arith, end)) (omega arith) ∙ ap₂ (λ (t : ℕ) (u : List ℕ). take t out ++ u) to_is (take_all k v (omega arith)) in
        let tail : drop ((n + 1) * width) (paste out to v k) ≡ drop ((n + 1) * width) out =
        ap (λ (t : ℕ). drop t (paste out to v k)) end ∙ drop-paste out to v k (omega (arith, end)) (omega arith) ∙ ap (λ (t : ℕ). drop t out) (sym end) in
        rw (new_is, here_is) (record {
          len = simp length-set yl;
          same = length-paste out to v k (omega (arith, end)) (omega arith) ∙ w.same;
          n_le = omega arith;
          floor = floor_next a fit xs w.floor ys least rl;
          first_le = omega (arith, fit.returned_lt);
          held = unbroken_before a.returned first' fl (held_next a fit xs w.floor ys least (i + 1));
          is = w.is ++ (i ∷ []);
          long = length-append w.is (i ∷ []) ∙ omega (arith, w.long);
          rows = subst (λ (u : List ℕ). Rows Row (w.is ++ (i ∷ [])) u) (sym head) (rows_more i v w.rows is_row);
          kept = tail ∙ ap (λ (t : ℕ). drop t out) next ∙ sym (drop-drop width (n * width) out) ∙ ap (λ (t : List ℕ). drop width t) w.kept ∙ drop-drop width (n * width) entry
              ∙ ap (λ (t : ℕ). drop t entry) (sym next);
          rest = λ js rec.
              let on : at (set ys a.returned (i + 1)) a.returned ≡ i + 1 = get_or-set_same ys a.returned (i + 1) 0 rl in
              rw append_assoc (w.rest (i ∷ js) (records_next a (at xs a.returned) i js (next_of a fit xs w.floor ys least) (rw on at rec)));
        })

-- The loop begins with the cursors at the beginning of each list, but that of the returned step, which is at the page's place.
pub page_begin : {a : Asked} → Fit a → (Row : ℕ → List ℕ → Type 0) (place room width : ℕ) (entry xs : List ℕ) → a.returned < 32 → xs ≡ set (replicate 32 0) a.returned place
    → Writing a Row place room width entry entry xs 0 0
page_begin {a} fit Row place room width entry xs r e =
    let here : at xs a.returned ≡ place = rw e (get_or-set_same (replicate 32 0) a.returned place 0 r) in
    let none : 0 * width ≡ 0 = omega arith in
    record {
      len = rw e (simp length-set);
      same = refl;
      n_le = omega arith;
      floor = λ q pick l. rw e (set_cases 0 (λ j x. j < a.steps → x ≤ q j) (replicate 32 0) a.returned place r (λ _. omega (arith, l, here)) (λ j _ k. omega (arith, zero_at 32 j)));
      first_le = omega arith;
      held = record { ranged = λ j l. absurd (omega arith); touches = λ j l. absurd (omega arith) };
      is = [];
      long = refl;
      rows = rw none none_written;
      kept = refl;
      rest = λ js rec. rw here at rec;
    }
  where
    none_written : Rows Row [] (take 0 entry)
    none_written = none

-- What settling said, by its answer.
pub settled_found : {a : Asked} {low : ℕ → ℕ} {f : Bool} {xs : List ℕ} → Settled a low f xs → f ≡ true → LeastPick a low (at xs)
settled_found (found h) e = h
settled_found (ended h) e = absurd (false≢true e)

pub settled_none : {a : Asked} {low : ℕ → ℕ} {f : Bool} {xs : List ℕ} → Settled a low f xs → f ≡ false → NoPick a low
settled_none (found h) e = absurd (true≢false e)
settled_none (ended h) e = h

-- So many rows fit, and one more where the page is not full.
pub rows_fit : (n width len : ℕ) → n ≤ len / width → n * width ≤ len
rows_fit n width len l = omega (arith, mul-le-mul_right width l, div-mul-le_self len width)

-- The part of a row that begins at a step, as it stands among the cursors.
pub part_of : (ys : List ℕ) (k step width : ℕ) → step + width ≤ k → take width (drop step ys) ≡ take width (drop step (take k ys))
part_of ys k zero width l = sym (take-take width k ys (omega arith))
part_of [] k (suc step) width l = ap (λ (t : List ℕ). take width (drop (suc step) t)) (sym (take-nil k))
part_of (y ∷ ys) zero (suc step) width l = absurd (omega arith)
part_of (y ∷ ys) (suc k) (suc step) width l = part_of ys k step width (omega arith)

-- A page is one of the rows that a kind says, and of the page that is handed back.
pub page_as : {a : Asked} {place : ℕ} {entry exit : List ℕ} {r s : Page} {f g w v : ℕ} → g ≡ f → v ≡ w → s ≡ r → Paged a (PartOf a f w) place (length entry / w) entry exit r
    → Paged a (PartOf a g v) place (length entry / v) entry exit s
page_as first width same x = rw (first, width, same) x

-- Every cursor of a pick is in range, and so is small.
pub small : {b : List ℕ} {p : Plan} → Planned b p → {low : ℕ → ℕ} (ys : List ℕ) → LeastPick (plan_of b p) low (at ys) → (s : ℕ) → s < p.count → at ys s < most_labels
unfolding plan_of
small planned ys least s l = omega (arith, least.pick.within s l, planned.small s l)

-- So is each position of a row.
pub part_small : {b : List ℕ} {p : Plan} → Planned b p → {low : ℕ → ℕ} (ys : List ℕ) → LeastPick (plan_of b p) low (at ys) → (start width : ℕ) → start + width ≤ p.count
    → (i : ℕ) → i < length (take width (drop start ys)) → at (take width (drop start ys)) i < most_labels
part_small planned ys least start width l i h =
    let k : i < width = omega (arith, length-take width (drop start ys)) in
    rw (get_or-take width (drop start ys) i 0 k, get_or-drop start ys i 0) (small planned ys least (start + i) (omega arith))

-- The row after n rows is the part that is asked for.
pub page_part : {a : Asked} (fit : Fit a) (step width : ℕ) {place room : ℕ} {entry out xs : List ℕ} {n first : ℕ} (w : Writing a (PartOf a step width) place room width entry out xs n first)
    → n * width ≤ length entry → (ys : List ℕ) → LeastPick a (at xs) (at ys) → n < room → length ys ≡ 32 → a.steps ≤ 32 → step + width ≤ a.steps → (n + 1) * width ≤ length out
    → {new : List ℕ} {to : ℕ} {v : List ℕ} (here first' : ℕ) → Put out to v new → v ≡ take width (drop step ys) → to ≡ n * width → here ≡ at ys a.returned + 1 → first' ≤ a.returned
    → Writing a (PartOf a step width) place room width entry new (set ys a.returned here) (n + 1) first'
page_part {a} fit step width {out = out} {n = n} w fits ys least more yl few within room {new} {to} {v} here first' put v_is to_is here_is fl =
    let long : length v ≡ width = ap length v_is ∙ length-take-le width (drop step ys) (omega (arith, length-drop step ys, yl, few)) in
    page_row fit w fits ys least more yl few v (take a.steps ys, evidence_of a fit _ w.floor ys least (omega (arith, yl, few)), v_is ∙ part_of ys a.steps step width within) long room
    new to (length v) here first' put.is to_is long here_is fl

-- A part of the cursors, by whatever numbers it is taken.
pub part_as : (ys : List ℕ) (s m step width : ℕ) → s ≡ step → m ≡ width → take m (drop s ys) ≡ take width (drop step ys)
part_as ys s m step width s_is m_is = rw (s_is, m_is) refl

-- It is no longer than the number by which it is taken.
pub part_within : (to n len : ℕ) (t : List ℕ) → to + n ≤ len → to + length (take n t) ≤ len
part_within to n len t l = omega (arith, length-take n t, l)
