-- A page is fixed in its result and in the whole buffer, and one with room for a row ends the walk or names a later place.
use Prim.Native.Nat.{ℕ, zero, suc, ◌≤◌, ◌<◌}
use native.Mathlib.Omega.{arith}
use mathlib.Core.Path.{◌≡◌, refl, sym, ap, ap₂, subst, ◌∙◌}
use mathlib.Core.Logic.{◌⊎◌, inl, inr}
use mathlib.Core.Bool.{Bool, true, false}
use mathlib.Core.List.{List, [], ◌∷◌, ◌++◌}
use lib.ListN.{length, take, drop, get_or}
use borrow.Author.Tests.{ltb-true}
use Rattle.std.specs.Prelude.{Result, Err}
use Rattle.meaning.specs.declared.Page.{Page}
use Rattle.meaning.specs.declared.refusal.Refusal.{Refusal}
use Rattle.meaning.specs.Numbers.{number_of, numbers}
use Rattle.meaning.specs.Picks.{Asked}
use Rattle.meaning.specs.Pages.{Ascending, In, Rows, none, row, Paged, Refused}
use Rattle.meaning.proofs.Laws.Record.{records_one, holds_at}

-- A record's row is one: two rows of one record are equal.
abbrev pub One : (ℕ → List ℕ → Type 0) → Type 0
One Row = (i : ℕ) (v w : List ℕ) → Row i v → Row i w → v ≡ w

-- The rows of a list of records are one.
pub rows_one : {Row : ℕ → List ℕ → Type 0} {is vs ws : List ℕ} → One Row → Rows Row is vs → Rows Row is ws → vs ≡ ws
rows_one one none none = refl
rows_one one (row {i = i} {w = v} x p) (row {w = w} y q) = ap₂ ◌++◌ (one i v w x y) (rows_one one p q)

-- Pages with equal fields are equal.
pub page_≡ : (r r' : Page) → r.rows ≡ r'.rows → r.more ≡ r'.more → r.next ≡ r'.next → r.unknown ≡ r'.unknown → r ≡ r'
page_≡ r r' b c d e = λ i. record { rows = b i; more = c i; next = d i; unknown = e i }

-- A page fixes the whole buffer, and its result where the unknown step is fixed.
pub paged_fixed : {a : Asked} {Row : ℕ → List ℕ → Type 0} {place room : ℕ} {entry exit exit' : List ℕ} {r r' : Page} → One Row → r.unknown ≡ r'.unknown
    → Paged a Row place room entry exit r → Paged a Row place room entry exit' r' → (r ≡ r') × (exit ≡ exit')
paged_fixed {a} {Row} {place} {room} {entry} {exit} {exit'} {r} {r'} one unknown p q = (page_≡ r r' rows more next unknown, buffer)
  where
    all : p.all ≡ q.all
    all = records_one a place p.all q.all p.records q.records

    rows : r.rows ≡ r'.rows
    rows = omega (arith, p.rows, q.rows, ap length all)

    more : r.more ≡ r'.more
    more = cc (p.more, q.more, rows, all)

    next : r.next ≡ r'.next
    next = cc (p.next, q.next, rows, all)

    written : p.written ≡ q.written
    written = rows_one one (subst (λ (xs : List ℕ). Rows Row xs p.written) (ap₂ take rows all) p.rows_written) q.rows_written

    buffer : exit ≡ exit'
    buffer = p.buffer ∙ ap (λ (ws : List ℕ). ws ++ drop (length ws) entry) written ∙ sym q.buffer

-- The numbers of a refusal: its own, 0 rows, no further record, next place 0, unknown step 32.
pub refusal_told : (e : Refusal) → numbers (Err e) ≡ number_of e ∷ 0 ∷ 0 ∷ 0 ∷ 32 ∷ []
refusal_told e = refl

-- With the buffer as it was, an error is that refusal.
pub refusal_is : (e : Refusal) (entry : List ℕ) → Refused e entry entry (Err e)
refusal_is e entry = record { buffer = refl; refusal = refl }

-- A refusal fixes its result and the whole buffer.
pub refused_fixed : {e : Refusal} {entry exit exit' : List ℕ} {r r' : Result Page Refusal} → Refused e entry exit r → Refused e entry exit' r' → (r ≡ r') × (exit ≡ exit')
refused_fixed x y = (x.refusal ∙ sym y.refusal, x.buffer ∙ sym y.buffer)

-- What stands behind the first number of an ascending list is greater.
later : (all : List ℕ) (n d place : ℕ) → Ascending all → ((i : ℕ) → In i all → place ≤ i) → 1 ≤ n → n < length all → place < get_or all n d
later [] n d place a h l k = absurd (omega arith)
later (x ∷ xs) zero d place a h l k = absurd (omega arith)
later (x ∷ xs) (suc n) d place a h l k = omega (arith, h x (inl refl), a.0 (get_or xs n d) (holds_at xs n d (omega arith)))

-- A page that says that a further record remains has filled its room, and the next place is a record's.
pub more_full : {a : Asked} {Row : ℕ → List ℕ → Type 0} {place room : ℕ} {entry exit : List ℕ} {r : Page} → (p : Paged a Row place room entry exit r)
    → r.more ≡ true → (r.rows ≡ room) × (r.rows < length p.all)
more_full {r = r} p e =
    let l : r.rows < length p.all = ltb-true r.rows (length p.all) (sym p.more ∙ e) in
    (omega (arith, p.rows), l)

-- A page with room for at least one row ends the walk or names a later place than it was given.
pub page_onward : {a : Asked} {Row : ℕ → List ℕ → Type 0} {place room : ℕ} {entry exit : List ℕ} {r : Page} → Paged a Row place room entry exit r
    → 1 ≤ room → (r.more ≡ false) ⊎ (place < r.next)
page_onward {a} {Row} {place} {room} {entry} {exit} {r} p l = go r.more refl
  where
    go : (m : Bool) → r.more ≡ m → (r.more ≡ false) ⊎ (place < r.next)
    go false e = inl e
    go true e =
        let f = more_full p e in
        inr (subst (λ (n : ℕ). place < n) (sym p.next) (later p.all r.rows (a.count a.returned) place p.records.ascending (λ i h. (p.records.each i h).1) (omega (arith, f.0)) f.1))
