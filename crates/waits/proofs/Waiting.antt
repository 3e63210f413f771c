-- From what the parts of the waits call promise to the promise of the call.
use Prim.Native.Nat.{ℕ, ◌/◌}
use mathlib.Core.Path.{◌≡◌, sym, subst₃}
use Rattle.std.specs.Prelude.{Result, Ok, Err, IfOk}
use Rattle.meaning.specs.declared.refusal.Refusal.{Refusal}
use Rattle.meaning.specs.Numbers.{number_of}
use mathlib.Core.List.{List}
use lib.ListN.{length}
use Rattle.meaning.specs.declared.Figures.{Figures}
use Rattle.meaning.specs.Day.{body_of}
use Rattle.meaning.specs.Waits.{call_name, board_name, cancel_name, traffic, traffic_of, Figured}
use Rattle.meaning.specs.Refusals.{Clear, Given, Judged, Lawful, check_table, times_table}
use Rattle.meaning.specs.Promises.{Tabled, untold, told}
use Rattle.meaning.specs.Fit.{Sound}
use Rattle.meaning.proofs.Laws.Table.{given_first, given_after, clear_both}
use Rattle.meaning.proofs.Laws.Traffic.{clear_sound}

module _ (b times : List ℕ) where
  -- The index is refused.
  pub refuse_index : (e : Refusal) → Given (check_table b) (number_of e) → Tabled b times (Err e)
  refuse_index e g = untold (given_first (check_table b) (times_table b times) (number_of e) g)

  module _ (law : Lawful b) where
    -- The index is lawful: its times are refused, or they are not and the table is the day's.
    pub tabled_by : (r : Result Figures Refusal) → Judged (times_table b times) r → IfOk r (λ f. Figured (traffic b times) (traffic b times).calls.count f) → Tabled b times r
    tabled_by (Ok f) c x = told (clear_both (check_table b) (times_table b times) law c) x
    tabled_by (Err e) g x = untold (given_after (check_table b) (times_table b times) (number_of e) law g)

    -- The times are not refused, and the three bodies are those of the day's calls, boardings and cancellations: then their traffic is the day's.
    module _ (c : Clear (times_table b times)) {calls boards cancels : List ℕ} (is_calls : calls ≡ body_of b call_name) (is_boards : boards ≡ body_of b board_name) (is_cancels : cancels ≡ body_of b cancel_name) where
      pub bodies_sound : Sound (traffic_of calls boards cancels times) (length times)
      bodies_sound = subst₃ (λ (x y z : List ℕ). Sound (traffic_of x y z times) (length times)) (sym is_calls) (sym is_boards) (sym is_cancels) (clear_sound b times (clear_both (check_table b) (times_table b times) law c))

      pub figured_so : (f : Figures) → Figured (traffic_of calls boards cancels times) (length calls / 8) f → Figured (traffic b times) (traffic b times).calls.count f
      figured_so f x = subst₃ (λ (x y z : List ℕ). Figured (traffic_of x y z times) (length x / 8) f) is_calls is_boards is_cancels x
