-- The promise of the waits call: it fixes every figure, on refusal too, and what the figures are to each other.
use Prim.Native.Nat.{ℕ, ◌+◌, ◌*◌, ◌≤◌}
use native.Mathlib.Omega.{arith}
use mathlib.Core.Path.{◌≡◌, refl, ap}
use mathlib.Core.List.{List}
use Rattle.std.specs.Prelude.{Result, Ok, Err}
use Rattle.meaning.specs.declared.refusal.Refusal.{Refusal}
use Rattle.meaning.specs.declared.Figures.{Figures}
use Rattle.meaning.specs.Numbers.{number_of, figures_of}
use Rattle.meaning.specs.Bytes.{at}
use Rattle.meaning.specs.Waits.{Ending, traffic, Ends, wait_until, Waited}
use Rattle.meaning.specs.Refusals.{Clear, waits_table}
use Rattle.meaning.specs.Promises.{Tabled, untold, told}
use Rattle.meaning.proofs.Laws.Table.{given_one, clear_not_given}
use Rattle.meaning.proofs.Laws.Numbers.{number_one}
use Rattle.meaning.proofs.Laws.Sum.{sum_bound, longest_of_sum}
use Rattle.meaning.proofs.Laws.Waits.{waited_one, figured_one}
use Rattle.meaning.proofs.Laws.AddUp.{over_parts, figures_add_up, waits_until}
use Rattle.meaning.proofs.Laws.Traffic.{clear_sound}

-- The waits call's promise fixes its result, in every figure.
pub tabled_fixed : {b times : List ℕ} {r s : Result Figures Refusal} → Tabled b times r → Tabled b times s → r ≡ s
tabled_fixed {b} {times} (untold {e = d} x) (untold {e = e} y) = ap Err (number_one d e (given_one (waits_table b times) (number_of d) (number_of e) x y))
tabled_fixed {b} {times} (untold {e = e} x) (told c y) = absurd (clear_not_given (waits_table b times) (number_of e) c x)
tabled_fixed {b} {times} (told c x) (untold {e = e} y) = absurd (clear_not_given (waits_table b times) (number_of e) c y)
tabled_fixed {b} {times} (told c x) (told d y) = ap Ok (figured_one (traffic b times) x y)

-- Boarded, cancelled and open add up to the calls.
pub tabled_adds_up : {b times : List ℕ} {r : Result Figures Refusal} → Tabled b times r → (figures_of r).boarded + (figures_of r).cancelled + (figures_of r).left_open ≡ (figures_of r).calls
tabled_adds_up (untold x) = refl
tabled_adds_up {b} {times} (told c x) = figures_add_up (traffic b times) (clear_sound b times c) x

-- The mean is over the boarded and the cancelled.
pub tabled_over : {b times : List ℕ} {r : Result Figures Refusal} → Tabled b times r → (figures_of r).boarded + (figures_of r).cancelled ≡ (figures_of r).over
tabled_over (untold x) = refl
tabled_over {b} {times} (told c x) = over_parts (traffic b times) (clear_sound b times c) x

-- The longest wait is at most the total.
pub tabled_longest : {b times : List ℕ} {r : Result Figures Refusal} → Tabled b times r → (figures_of r).longest ≤ (figures_of r).total
tabled_longest (untold x) = omega arith
tabled_longest {b} {times} (told c x) = longest_of_sum (waited_one (traffic b times)) x.total x.longest

-- No wait is negative: by the times, the call's start and the wait together make the start of the record that ends it.
pub never_negative : (b times : List ℕ) → Clear (waits_table b times) → {i j : ℕ} {e : Ending} → Ends (traffic b times) i e j
    → at times ((traffic b times).calls.label i).start + wait_until (traffic b times) i e j ≡ at times (((traffic b times).ended e).label j).start
never_negative b times c x = waits_until (traffic b times) (clear_sound b times c) x

-- The total of 32-bit times is at most 1,048,576 times 4,294,967,295, which is below 2^52: a 64-bit number always holds it.
pub total_fits : {b times : List ℕ} {r : Result Figures Refusal} → ((i : ℕ) → at times i ≤ 4_294_967_295) → Tabled b times r → (figures_of r).total ≤ 1_048_576 * 4_294_967_295
total_fits small (untold x) = omega arith
total_fits {b} {times} small (told c x) = omega (arith, sum_bound 4_294_967_295 wait x.total, (clear_sound b times c).few)
  where
    wait : (i d : ℕ) → Waited (traffic b times) i d → d ≤ 4_294_967_295
    wait i d (e, j, h, q) = omega (arith, q, small (((traffic b times).ended e).label j).start)
