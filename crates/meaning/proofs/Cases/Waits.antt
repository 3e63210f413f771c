-- Waiting tables worked out by hand, each call with the record that ends its wait and with the wait itself, and lists of times that are refused.
use Prim.Native.Nat.{ℕ, suc}
use native.Mathlib.Omega.{arith}
use mathlib.Core.Path.{◌≡◌, sym, ap, subst}
use mathlib.Core.Bool.{Bool, ◌&&◌}
use mathlib.Core.List.{List, [], ◌∷◌, ◌++◌}
use lib.Dec.{T, eqb, ltb}
use Rattle.std.specs.Prelude.{Ok, Err}
use Rattle.meaning.specs.declared.refusal.Refusal.{Refusal}
use Rattle.meaning.specs.declared.refusal.Refusal.TheVariants.{TooShort, NoEntry, TimesDescend}
use Rattle.meaning.specs.declared.Figures.{Figures}
use Rattle.meaning.specs.Numbers.{number_of, figure_numbers}
use Rattle.meaning.specs.Answers.{Decides}
use Rattle.meaning.specs.Bytes.{u32_at}
use Rattle.meaning.specs.Names.{same}
use Rattle.meaning.specs.Day.{list_among}
use Rattle.meaning.specs.Waits.{Ending, board, cancel, Traffic, traffic, Ends, Open, wait_until, Figured, no_figures}
use Rattle.meaning.specs.Refusals.{Given, Clear, Verdict, waits_table}
use Rattle.meaning.specs.Promises.{Tabled, untold, told}
use Rattle.meaning.specs.Fit.{Sound, one_ended, one_open}
use Rattle.meaning.proofs.Decide.{passed, lt_decides, eq_decides, and_decides, each, some}
use Rattle.meaning.proofs.Decide.Day.{check_of}
use Rattle.meaning.proofs.Decide.Waits.{inside_each, inside_all, ends_b, ends_decides, open_b, open_decides, no_entry_b, descend_b, waits_of, waits_agrees}
use Rattle.meaning.proofs.Laws.Table.{verdict_given, zero_clear, waits_rising}
use Rattle.meaning.proofs.Laws.Traffic.{clear_sound}
use Rattle.meaning.proofs.Laws.Waits.{figures_same, figured_none, figured_ended, figured_open}
use Rattle.meaning.proofs.Cases.{Every, every_as}
use Rattle.meaning.proofs.Cases.SmallDay.{bytes, label, row, head, small_day}

-- What becomes of a call: record j of an ending ends its wait, which is so long; or it is open.
pub data Became : Type 0 where
  by : Ending → ℕ → ℕ → Became
  neither : Became

-- A list of times put to a day: it is refused, with the number in document 01; or each call has this outcome, and the figures are these.
pub data Case : Type 0 where
  refuses : List ℕ → List ℕ → Refusal → ℕ → Case
  tables : List ℕ → List ℕ → List Became → Figures → Case

-- The figures of no calls, written out.
abbrev pub nobody : Figures
nobody = record { calls = 0; boarded = 0; cancelled = 0; left_open = 0; total = 0; longest = 0; over = 0 }

-- A refusal, and its numbers: its own, which a case writes out, and 0 for each figure.
pub record Refuses (b times : List ℕ) (e : Refusal) (n : ℕ) : Type 0 where
  pub refused : Tabled b times (Err e)
  pub told : figure_numbers (Err e) ≡ n ∷ 0 ∷ 0 ∷ 0 ∷ 0 ∷ 0 ∷ 0 ∷ 0 ∷ []

-- What is said of a case.
abbrev pub Right : Case → Type 0
Right (refuses b times e n) = Refuses b times e n
Right (tables b times calls f) = Tabled b times (Ok f)

-- The figures with these calls after the first ones, of which f are the figures.
abbrev after : Figures → List Became → Figures
after f [] = f
after f (by e j d ∷ calls) = after (one_ended e d f) calls
after f (neither ∷ calls) = after (one_open f) calls

-- The calls from the nth on have these outcomes, and there are no others.
abbrev Follow : Traffic → ℕ → List Became → Type 0
Follow w n [] = n ≡ w.calls.count
Follow w n (by e j d ∷ calls) = (Ends w n e j × (d ≡ wait_until w n e j)) × Follow w (suc n) calls
Follow w n (neither ∷ calls) = Open w n × Follow w (suc n) calls

unfoldable follow_b : Traffic → ℕ → List Became → Bool
follow_b w n [] = eqb n w.calls.count
follow_b w n (by e j d ∷ calls) = (ends_b w n e j && eqb d (wait_until w n e j)) && follow_b w (suc n) calls
follow_b w n (neither ∷ calls) = open_b w n && follow_b w (suc n) calls

follow_decides : (w : Traffic) (n : ℕ) (calls : List Became) → Decides (Follow w n calls) (follow_b w n calls)
unfolding follow_b
follow_decides w n [] = eq_decides n w.calls.count
follow_decides w n (by e j d ∷ calls) = and_decides (and_decides (ends_decides w n e j) (eq_decides d (wait_until w n e j))) (follow_decides w (suc n) calls)
follow_decides w n (neither ∷ calls) = and_decides (open_decides w n) (follow_decides w (suc n) calls)

-- So the figures with them are those of all calls.
figured_after : (w : Traffic) {entries : ℕ} → Sound w entries → (n : ℕ) (f : Figures) (calls : List Became) → Figured w n f → Follow w n calls → Figured w w.calls.count (after f calls)
figured_after w sound n f [] x e = subst (λ (k : ℕ). Figured w k f) e x
figured_after w sound n f (by e j d ∷ calls) x ((h, wait), rest) = figured_after w sound (suc n) _ calls (figured_ended w sound x e j d h wait (suc n) (omega arith)) rest
figured_after w sound n f (neither ∷ calls) x (h, rest) = figured_after w sound (suc n) _ calls (figured_open w sound x h (suc n) (omega arith)) rest

-- Two figures are the same.
abbrev Same : Figures → Figures → Type 0
Same f g = (f.calls ≡ g.calls) × ((f.boarded ≡ g.boarded) × ((f.cancelled ≡ g.cancelled) × ((f.left_open ≡ g.left_open) × ((f.total ≡ g.total) × ((f.longest ≡ g.longest) × (f.over ≡ g.over))))))

abbrev same_b : Figures → Figures → Bool
same_b f g = eqb f.calls g.calls && (eqb f.boarded g.boarded && (eqb f.cancelled g.cancelled && (eqb f.left_open g.left_open && (eqb f.total g.total && (eqb f.longest g.longest && eqb f.over g.over)))))

same_figures : (f g : Figures) → Decides (Same f g) (same_b f g)
same_figures f g =
    and_decides (eq_decides f.calls g.calls) (and_decides (eq_decides f.boarded g.boarded) (and_decides (eq_decides f.cancelled g.cancelled)
    (and_decides (eq_decides f.left_open g.left_open) (and_decides (eq_decides f.total g.total) (and_decides (eq_decides f.longest g.longest) (eq_decides f.over g.over))))))

-- The test of a case. Whoever unfolds it unfolds all that it computes with.
unfoldable right_b : Case → Bool
unfolding check_of u32_at list_among same each some inside_each inside_all ends_b open_b no_entry_b descend_b waits_of follow_b
right_b (refuses b times e n) = eqb (waits_of b times) n && (ltb 0 n && eqb (number_of e) n)
right_b (tables b times calls f) = eqb (waits_of b times) 0 && (follow_b (traffic b times) 0 calls && same_b (after no_figures calls) f)

-- A case that passes its test is right.
right : (c : Case) → T (right_b c) → Right c
unfolding right_b
right (refuses b times e n) t =
    let f = passed (and_decides (eq_decides (waits_of b times) n) (and_decides (lt_decides 0 n) (eq_decides (number_of e) n))) t in
    let g : Given (waits_table b times) n = verdict_given (waits_table b times) n f.1.0 (subst (Verdict (waits_table b times)) f.0 (waits_agrees b times)) in
    record {
      refused = untold (subst (Given (waits_table b times)) (sym f.1.1) g);
      told = ap (λ (k : ℕ). k ∷ 0 ∷ 0 ∷ 0 ∷ 0 ∷ 0 ∷ 0 ∷ 0 ∷ []) f.1.1;
    }
right (tables b times calls f) t =
    let x = passed (and_decides (eq_decides (waits_of b times) 0) (and_decides (follow_decides (traffic b times) 0 calls) (same_figures (after no_figures calls) f))) t in
    let c : Clear (waits_table b times) = zero_clear (waits_table b times) (waits_rising b times) (waits_of b times) x.0 (waits_agrees b times) in
    let y : Figured (traffic b times) (traffic b times).calls.count (after no_figures calls) = figured_after (traffic b times) (clear_sound b times c) 0 no_figures calls (figured_none (traffic b times)) x.1.0 in
    let (a, (q, (r, (o, (s, (l, m)))))) = x.1.1 in
    told c (subst (Figured (traffic b times) (traffic b times).calls.count) (figures_same a q r o s l m) y)

-- A table every case of which passes is right. Each is a fact of its own, so that one which fails is named.
all_right : (cs : List Case) → Every (λ c. T (right_b c)) cs → Every Right cs
all_right = every_as right

-- Times for the numbers 0 to 28 of the small day. Entries repeat, and the last is the greatest that there is.
abbrev pub start : List ℕ
start = 0 ∷ 0 ∷ 7 ∷ 7 ∷ 9 ∷ 20 ∷ 20 ∷ 21 ∷ 21 ∷ 30 ∷ 31 ∷ 31 ∷ 40 ∷ 40 ∷ 40 ∷ 41 ∷ 41 ∷ 41 ∷ 41 ∷ 41 ∷ 50 ∷ 60 ∷ 100 ∷ 100 ∷ 100 ∷ 101 ∷ 102 ∷ 102 ∷ []

abbrev pub exact : List ℕ
exact = start ++ 4_294_967_295 ∷ []

-- A call with no rows for boardings and cancellations; and a door that closes after all calls.
abbrev pub only_calls : List ℕ
only_calls = head 1 ++ row "call" 28 1 ++ label 1 2

abbrev pub late_door : List ℕ
late_door = head 2 ++ row "call" 52 1 ++ row "door" 60 1 ++ label 1 2 ++ label 3 9

-- A boarding in a call inside a call, a cancellation after it, and a boarding in no call.
abbrev pub nest : List ℕ
nest = head 3 ++ row "board" 76 2 ++ row "call" 92 3 ++ row "cancel" 116 1 ++ label 3 4 ++ label 11 12 ++ label 0 10 ++ label 2 5 ++ label 20 21 ++ label 6 7

abbrev pub tens : List ℕ
tens = 0 ∷ 10 ∷ 20 ∷ 30 ∷ 40 ∷ 50 ∷ 60 ∷ 70 ∷ 80 ∷ 90 ∷ 100 ∷ 110 ∷ 120 ∷ 130 ∷ 140 ∷ 150 ∷ 160 ∷ 170 ∷ 180 ∷ 190 ∷ 200 ∷ 210 ∷ []

-- A call that waits as long as there are times.
abbrev pub patient : List ℕ
patient = head 2 ++ row "call" 52 1 ++ row "cancel" 60 1 ++ label 0 3 ++ label 1 2

unfoldable pub waiting : List Case
unfolding small_day bytes
waiting =
    tables small_day exact (by cancel 0 7 ∷ by cancel 1 11 ∷ by board 0 0 ∷ by board 1 40 ∷ neither ∷ [])
    (record { calls = 5; boarded = 2; cancelled = 2; left_open = 1; total = 58; longest = 40; over = 4 })
    ∷
    tables small_day (exact ++ 4_294_967_295 ∷ []) (by cancel 0 7 ∷ by cancel 1 11 ∷ by board 0 0 ∷ by board 1 40 ∷ neither ∷ [])
    (record { calls = 5; boarded = 2; cancelled = 2; left_open = 1; total = 58; longest = 40; over = 4 })
    ∷
    refuses small_day start NoEntry 20
    ∷
    refuses small_day [] NoEntry 20
    ∷
    refuses small_day (start ++ 101 ∷ []) TimesDescend 21
    ∷
    refuses small_day (exact ++ 0 ∷ []) TimesDescend 21
    ∷
    refuses small_day (1 ∷ 0 ∷ []) NoEntry 20
    ∷
    refuses [] (1 ∷ 0 ∷ []) TooShort 1
    ∷
    tables (head 0) [] [] nobody
    ∷
    refuses (head 0) (1 ∷ 0 ∷ []) TimesDescend 21
    ∷
    tables only_calls (5 ∷ 5 ∷ 6 ∷ []) (neither ∷ []) (record { calls = 1; boarded = 0; cancelled = 0; left_open = 1; total = 0; longest = 0; over = 0 })
    ∷
    refuses late_door (0 ∷ 0 ∷ 0 ∷ 0 ∷ []) NoEntry 20
    ∷
    tables nest tens (by board 0 30 ∷ by board 0 10 ∷ neither ∷ []) (record { calls = 3; boarded = 2; cancelled = 0; left_open = 1; total = 40; longest = 30; over = 2 })
    ∷
    tables patient (0 ∷ 4_294_967_295 ∷ 4_294_967_295 ∷ 4_294_967_295 ∷ []) (by cancel 0 4_294_967_295 ∷ [])
    (record { calls = 1; boarded = 0; cancelled = 1; left_open = 0; total = 4_294_967_295; longest = 4_294_967_295; over = 1 })
    ∷
    []

-- Each of them is right.
pub waiting_right : Every Right waiting
unfolding waiting right_b
waiting_right = all_right waiting (tt, (tt, (tt, (tt, (tt, (tt, (tt, (tt, (tt, (tt, (tt, (tt, (tt, (tt, tt))))))))))))))
