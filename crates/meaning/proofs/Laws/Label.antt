-- Inside is proper, of labels that ascend the one before starts no later, and lists for which refusals 5 and 6 find nothing are just the
-- lawful ones.
use Prim.Native.Nat.{ℕ, ◌≤◌, ◌<◌}
use native.Mathlib.Nat.{eq-or-lt_of_le}
use native.Mathlib.Omega.{arith}
use mathlib.Core.Path.{sym, ap}
use mathlib.Core.Logic.{◌⊎◌, inl, inr, ◌≢◌, ⊎_elim}
use Rattle.meaning.specs.declared.Label.{Label}
use Rattle.meaning.specs.Labels.{Inside, Apart, Different, Lists, Place, label_of, Holds, Nested, LawfulLists, Unordered, Share, Cross, Clash, Tangled}
use Rattle.meaning.proofs.Decide.{or_not, lt_decides}

-- A label that lies inside another starts at another number, and ends at another.
pub inside_differs : (a b : Label) → Inside a b → (a.start ≢ b.start) × (a.end ≢ b.end)
inside_differs a b h = (omega (arith, h.after), omega (arith, h.before))

-- No label lies inside itself.
pub inside_proper : (a : Label) → Inside a a → ⊥
inside_proper a h = omega (arith, h.after)

-- What lies inside a label that lies inside a third lies inside the third.
pub inside_further : (a b c : Label) → Inside a b → Inside b c → Inside a c
inside_further a b c h k = record { after = omega (arith, h.after, k.after); before = omega (arith, h.before, k.before) }

-- Of labels that ascend by start the one before starts no later.
pub no_later : (label : ℕ → Label) (n : ℕ) → ((i j : ℕ) → i < j → j < n → (label i).start < (label j).start) → (i j : ℕ) → i ≤ j → j < n → (label i).start ≤ (label j).start
no_later label n ascends i j ij jn = ⊎_elim (λ e. omega (arith, ap (λ (k : ℕ). (label k).start) e)) (λ l. omega (arith, ascends i j l jn)) (eq-or-lt_of_le ij)

-- 65 nested labels are refused, and no fewer are refused for being so many.
pub nested_over : (t : Lists) (c : ℕ → Place) → Nested t 65 c → Tangled t
nested_over t c n = inr (c, n)

pub nested_within : (t : Lists) → Tangled t → Clash t ⊎ ((c : ℕ → Place) × Nested t 65 c)
nested_within t (inl w) = inl w
nested_within t (inr n) = inr n

-- In lawful lists refusals 5 and 6 find nothing.
module _ (t : Lists) (l : LawfulLists t) where
  pub lawful_ordered : Unordered t → ⊥
  lawful_ordered (inl w) = omega (arith, l.ordered w.place w.holds, w.wrong)
  lawful_ordered (inr w) = omega (arith, l.ascending w.list w.i w.j w.list_lt w.i_lt w.j_lt, w.wrong)

  pub lawful_untangled : Tangled t → ⊥
  lawful_untangled (inr c) = l.shallow c.0 c.1
  lawful_untangled (inl w) = ⊎_elim shared crossed w.wrong
    where
      d : Different (label_of t w.one) (label_of t w.other)
      d = l.different w.one w.other w.holds_one w.holds_other w.two

      shared : Share (label_of t w.one) (label_of t w.other) → ⊥
      shared (inl e) = d.starts e
      shared (inr (inl e)) = d.start_end e
      shared (inr (inr (inl e))) = d.end_start e
      shared (inr (inr (inr e))) = d.ends e

      crossed : Cross (label_of t w.one) (label_of t w.other) → ⊥
      crossed c = sorted (l.nested_or_apart w.one w.other w.holds_one w.holds_other w.two)
        where
          sorted : Inside (label_of t w.one) (label_of t w.other) ⊎ Inside (label_of t w.other) (label_of t w.one) ⊎ Apart (label_of t w.one) (label_of t w.other) → ⊥
          sorted (inl i) = omega (arith, i.after, c.first)
          sorted (inr (inl i)) = omega (arith, i.before, c.past)
          sorted (inr (inr (inl a))) = omega (arith, a, c.within)
          sorted (inr (inr (inr a))) = omega (arith, a, c.first, c.within, c.past, l.ordered w.other w.holds_other)

-- The relation of two ordered labels with four different numbers that do not cross, where the first starts first.
sort : (a b : Label) → a.start < a.end → b.start < b.end → Different a b → (Cross a b → ⊥) → a.start < b.start → Inside b a ⊎ Apart a b
sort a b oa ob d uncrossed l = ⊎_elim within (λ n. inr (inl (apart n))) (or_not (lt_decides b.start a.end))
  where
    apart : (b.start < a.end → ⊥) → a.end < b.start
    apart n = omega (arith, d.end_start)

    within : b.start < a.end → Inside b a ⊎ Apart a b
    within w = ⊎_elim (λ p. absurd (uncrossed (record { first = l; within = w; past = p }))) (λ p. inl (record { after = l; before = omega (arith, d.ends) })) (or_not (lt_decides a.end b.end))

module _ (t : Lists) (five : Unordered t → ⊥) (six : Tangled t → ⊥) where
  ordered : (x : Place) → Holds t x → (label_of t x).start < (label_of t x).end
  ordered x h = ⊎_elim (λ l. l) (λ n. absurd (five (inl (record { place = x; holds = h; wrong = omega arith })))) (or_not (lt_decides (label_of t x).start (label_of t x).end))

  ascending : (r i j : ℕ) → r < t.many → i < j → j < t.count r → (t.label r i).start < (t.label r j).start
  ascending r i j rl ij jl =
      ⊎_elim (λ l. l) (λ n. absurd (five (inr (record { list = r; i = i; j = j; list_lt = rl; i_lt = ij; j_lt = jl; wrong = omega arith })))) (or_not (lt_decides (t.label r i).start (t.label r j).start))

  module _ (x y : Place) (hx : Holds t x) (hy : Holds t y) (ne : x ≢ y) where
    no_clash : Share (label_of t x) (label_of t y) ⊎ Cross (label_of t x) (label_of t y) → ⊥
    no_clash w = six (inl (record { one = x; other = y; holds_one = hx; holds_other = hy; two = ne; wrong = w }))

    different : Different (label_of t x) (label_of t y)
    different = record {
      starts = λ e. no_clash (inl (inl e));
      start_end = λ e. no_clash (inl (inr (inl e)));
      end_start = λ e. no_clash (inl (inr (inr (inl e))));
      ends = λ e. no_clash (inl (inr (inr (inr e))));
    }

  nested_or_apart : (x y : Place) → Holds t x → Holds t y → x ≢ y
      → Inside (label_of t x) (label_of t y) ⊎ Inside (label_of t y) (label_of t x) ⊎ Apart (label_of t x) (label_of t y)
  nested_or_apart x y hx hy ne = ⊎_elim first second (or_not (lt_decides (label_of t x).start (label_of t y).start))
    where
      first : (label_of t x).start < (label_of t y).start → Inside (label_of t x) (label_of t y) ⊎ Inside (label_of t y) (label_of t x) ⊎ Apart (label_of t x) (label_of t y)
      first l = inr (sort (label_of t x) (label_of t y) (ordered x hx) (ordered y hy) (different x y hx hy ne) (λ c. no_clash x y hx hy ne (inr c)) l)

      flip : Apart (label_of t y) (label_of t x) → Apart (label_of t x) (label_of t y)
      flip (inl a) = inr a
      flip (inr a) = inl a

      ne' : y ≢ x
      ne' e = ne (sym e)

      second : ((label_of t x).start < (label_of t y).start → ⊥) → Inside (label_of t x) (label_of t y) ⊎ Inside (label_of t y) (label_of t x) ⊎ Apart (label_of t x) (label_of t y)
      second n =
          ⊎_elim (λ i. inl i) (λ a. inr (inr (flip a)))
          (sort (label_of t y) (label_of t x) (ordered y hy) (ordered x hx) (different y x hy hx ne') (λ c. no_clash y x hy hx ne' (inr c)) (omega (arith, (different x y hx hy ne).starts)))

  -- Lists for which refusals 5 and 6 find nothing are lawful.
  pub lawful_lists : LawfulLists t
  lawful_lists = record { ordered = ordered; ascending = ascending; different = different; nested_or_apart = nested_or_apart; shallow = λ c n. six (inr (c, n)) }
