-- The refusal table: at most one number is given, and it is the least whose reason applies.
use Prim.Native.Nat.{ℕ, ◌≤◌, ◌<◌}
use native.Mathlib.Omega.{arith}
use mathlib.Core.Path.{◌≡◌, refl, sym, ◌∙◌}
use mathlib.Core.Logic.{◌⊎◌, inl, inr, ⊎_elim}
use mathlib.Core.Bool.{Bool, true, false}
use mathlib.Core.List.{List}
use Rattle.meaning.specs.Answers.{Decides, holds, fails}
use Rattle.meaning.specs.Refusals.{Table, end, row, Given, Clear, Verdict, clear, given, Lawful, followed, check_table, question_table, call_table, times_table, waits_table}
use Rattle.meaning.specs.Promises.{Checked}

-- A table gives at most one number.
pub given_one : (t : Table) (m n : ℕ) → Given t m → Given t n → m ≡ n
given_one end m n g h = absurd g
given_one (row k reason rest) m n (inl g) (inl h) = g.1 ∙ sym h.1
given_one (row k reason rest) m n (inl g) (inr h) = absurd (h.0 g.0)
given_one (row k reason rest) m n (inr g) (inl h) = absurd (g.0 h.0)
given_one (row k reason rest) m n (inr g) (inr h) = given_one rest m n g.1 h.1

-- Where no reason applies no number is given.
pub clear_not_given : (t : Table) (n : ℕ) → Clear t → Given t n → ⊥
clear_not_given end n c g = g
clear_not_given (row k reason rest) n c (inl g) = c.0 g.0
clear_not_given (row k reason rest) n c (inr g) = clear_not_given rest n c.1 g.1

-- The reason of number n applies.
abbrev pub Applies : Table → ℕ → Type 0
Applies end n = ⊥
Applies (row m reason rest) n = (reason × (n ≡ m)) ⊎ Applies rest n

-- The rows' numbers ascend, and are all above k.
abbrev pub Rising : ℕ → Table → Type 0
Rising k end = Unit
Rising k (row n reason rest) = (k < n) × Rising n rest

-- A number is given only for its reason.
pub given_applies : (t : Table) (n : ℕ) → Given t n → Applies t n
given_applies end n g = g
given_applies (row m reason rest) n (inl g) = inl g
given_applies (row m reason rest) n (inr g) = inr (given_applies rest n g.1)

-- What applies has a number above k.
pub above : (t : Table) (k : ℕ) → Rising k t → (n : ℕ) → Applies t n → k < n
above end k r n a = absurd a
above (row m reason rest) k r n (inl a) = omega (arith, r.0, a.1)
above (row m reason rest) k r n (inr a) = omega (arith, r.0, above rest m r.1 n a)

-- So has what is given.
pub given_above : (t : Table) (k : ℕ) → Rising k t → (n : ℕ) → Given t n → k < n
given_above t k r n g = above t k r n (given_applies t n g)

-- The number that is given is the least whose reason applies.
pub given_least : (t : Table) (k : ℕ) → Rising k t → (n m : ℕ) → Given t n → Applies t m → n ≤ m
given_least end k r n m g a = absurd g
given_least (row j reason rest) k r n m (inl g) (inl a) = omega (arith, g.1, a.1)
given_least (row j reason rest) k r n m (inl g) (inr a) = omega (arith, g.1, above rest j r.1 m a)
given_least (row j reason rest) k r n m (inr g) (inl a) = absurd (g.0 a.0)
given_least (row j reason rest) k r n m (inr g) (inr a) = given_least rest j r.1 n m g.1 a

-- The numbers of each table ascend, in the order in which the checks run.
pub call_rising : (b text : List ℕ) → Rising 0 (call_table b text)
call_rising b text = (omega arith, (omega arith, (omega arith, (omega arith, (omega arith, (omega arith, (omega arith, (omega arith, (omega arith, tt)))))))))

pub check_rising : (b : List ℕ) → Rising 0 (check_table b)
check_rising b = (omega arith, (omega arith, (omega arith, (omega arith, (omega arith, (omega arith, tt))))))

pub question_rising : (text : List ℕ) → Rising 0 (question_table text)
question_rising text = (omega arith, (omega arith, (omega arith, tt)))

pub times_rising : (b times : List ℕ) → Rising 0 (times_table b times)
times_rising b times = (omega arith, (omega arith, tt))

pub waits_rising : (b times : List ℕ) → Rising 0 (waits_table b times)
waits_rising b times = (omega arith, (omega arith, (omega arith, (omega arith, (omega arith, (omega arith, (omega arith, (omega arith, tt))))))))

-- What a table gives, it gives also where another follows: a broken index gives its own number, whatever the question or the times.
pub given_first : (t u : Table) (n : ℕ) → Given t n → Given (followed t u) n
given_first end u n g = absurd g
given_first (row m reason rest) u n (inl g) = inl g
given_first (row m reason rest) u n (inr g) = inr (g.0, given_first rest u n g.1)

-- Where a table has nothing, the table that follows it gives its number.
pub given_after : (t u : Table) (n : ℕ) → Clear t → Given u n → Given (followed t u) n
given_after end u n c g = g
given_after (row m reason rest) u n c g = inr (c.0, given_after rest u n c.1 g)

-- So a number that two tables give is given by the first, or by the second where the first has nothing.
pub given_parts : (t u : Table) (n : ℕ) → Given (followed t u) n → Given t n ⊎ (Clear t × Given u n)
given_parts end u n g = inr (tt, g)
given_parts (row m reason rest) u n (inl g) = inl (inl g)
given_parts (row m reason rest) u n (inr g) = ⊎_elim (λ h. inl (inr (g.0, h))) (λ h. inr ((g.0, h.0), h.1)) (given_parts rest u n g.1)

-- No reason of two tables applies exactly if no reason of either does.
pub clear_both : (t u : Table) → Clear t → Clear u → Clear (followed t u)
clear_both end u c d = d
clear_both (row m reason rest) u c d = (c.0, clear_both rest u c.1 d)

pub clear_first : (t u : Table) → Clear (followed t u) → Clear t
clear_first end u c = tt
clear_first (row m reason rest) u c = (c.0, clear_first rest u c.1)

pub clear_after : (t u : Table) → Clear (followed t u) → Clear u
clear_after end u c = c
clear_after (row m reason rest) u c = clear_after rest u c.1

-- A row whose reason never applies where no reason before it does changes nothing: the table gives the same number with it as without it,
-- and with it no reason applies exactly if without it none does.
module _ (t u : Table) (n : ℕ) (reason : Type 0) (never : Clear t → reason → ⊥) where
  pub given_without : (m : ℕ) → Given (followed t (row n reason u)) m → Given (followed t u) m
  given_without m g = ⊎_elim (given_first t u m) (λ h. given_after t u m h.0 (⊎_elim (λ x. absurd (never h.0 x.0)) (λ x. x.1) h.1)) (given_parts t (row n reason u) m g)

  pub given_with : (m : ℕ) → Given (followed t u) m → Given (followed t (row n reason u)) m
  given_with m g = ⊎_elim (given_first t (row n reason u) m) (λ h. given_after t (row n reason u) m h.0 (inr (never h.0, h.1))) (given_parts t u m g)

  pub clear_without : Clear (followed t (row n reason u)) → Clear (followed t u)
  clear_without c = clear_both t u (clear_first t (row n reason u) c) (clear_after t (row n reason u) c).1

  pub clear_with : Clear (followed t u) → Clear (followed t (row n reason u))
  clear_with c = clear_both t (row n reason u) (clear_first t u c) (never (clear_first t u c), clear_after t u c)

-- A table gives one number: two verdicts on it are equal.
pub verdict_one : (t : Table) (m n : ℕ) → Verdict t m → Verdict t n → m ≡ n
verdict_one t m n (clear c) (clear d) = refl
verdict_one t m n (clear c) (given g) = absurd (clear_not_given t n c g)
verdict_one t m n (given g) (clear c) = absurd (clear_not_given t m c g)
verdict_one t m n (given g) (given h) = given_one t m n g h

-- The check call's promise fixes its result.
pub checked_fixed : (b : List ℕ) (m n : ℕ) → Checked b m → Checked b n → m ≡ n
checked_fixed b = verdict_one (check_table b)

-- Where a table gives a number above 0, it is that of its first reason that applies.
pub verdict_given : (t : Table) (n : ℕ) → 0 < n → Verdict t n → Given t n
verdict_given t n l (clear c) = absurd (omega arith)
verdict_given t n l (given g) = g

-- Where a table whose numbers are above 0 gives 0, no reason of it applies.
pub zero_clear : (t : Table) → Rising 0 t → (n : ℕ) → n ≡ 0 → Verdict t n → Clear t
zero_clear t rising n e (clear c) = c
zero_clear t rising n e (given g) = absurd (omega (arith, given_above t 0 rising n g))

-- An index to which the check call gives 0 is lawful.
pub checked_lawful : (b : List ℕ) (n : ℕ) → n ≡ 0 → Checked b n → Lawful b
checked_lawful b = zero_clear (check_table b) (check_rising b)

-- A row before a table whose verdict is known: its own number where its reason applies, and else the table's.
pub row_verdict : {reason : Type 0} {a : Bool} {rest : Table} {n : ℕ} (m : ℕ) → Decides reason a → Verdict rest n → Verdict (row m reason rest) (elim a [ true ↦ m | false ↦ n ])
row_verdict m (holds p) v = given (inl (p, refl))
row_verdict m (fails q) (clear c) = clear (q, c)
row_verdict m (fails q) (given g) = given (inr (q, g))

-- A table that follows another whose verdict is known: the first one's number, or, where it gives 0, the second one's.
pub verdict_after : {t u : Table} {m n : ℕ} {a : Bool} → Rising 0 t → Verdict t m → Decides (m ≡ 0) a → Verdict u n → Verdict (followed t u) (elim a [ true ↦ n | false ↦ m ])
verdict_after {t} {u} rising (clear c) (holds z) (clear d) = clear (clear_both t u c d)
verdict_after {t} {u} rising (clear c) (holds z) (given {n = n} g) = given (given_after t u n c g)
verdict_after rising (clear c) (fails z) v = absurd (z refl)
verdict_after {t} {u} rising (given {n = m} g) (holds z) v = absurd (omega (arith, given_above t 0 rising m g))
verdict_after {t} {u} rising (given {n = m} g) (fails z) v = given (given_first t u m g)
