-- The turns of the tally's loop: what holds before call i, and that it holds before the next.
use Prim.Native.Nat.{ℕ, ◌+◌, ◌*◌, ◌/◌, ◌≤◌, ◌<◌}
use native.Mathlib.Omega.{arith}
use mathlib.Core.Path.{◌≡◌, sym, ap, subst, ◌∙◌}
use mathlib.Core.List.{List}
use lib.ListN.{length}
use Rattle.std.specs.Prelude.{Option}
use Rattle.meaning.specs.declared.Figures.{Figures}
use Rattle.meaning.specs.declared.Label.{Label}
use Rattle.meaning.specs.Bytes.{at}
use Rattle.meaning.specs.Day.{label_at}
use Rattle.meaning.specs.Waits.{Tagged, Ending, Traffic, in_body, traffic_of, Figured, no_figures}
use Rattle.meaning.specs.Fit.{Sound}
use Rattle.meaning.proofs.Laws.Waits.{figured_none}
use Rattle.label.specs.Started.{Between, Started}
use Rattle.tally.specs.declared.Outcome.{Outcome}
use Rattle.tally.specs.Sights.{Whole, FirstStart, Decided, Becomes}
use Rattle.tally.specs.Adding.{Small, Timed, added}
use Rattle.tally.proofs.Deciding.{becomes}
use Rattle.tally.proofs.Counting.{figured_small, becomes_timed, figured_added}

-- A call that is read at a number is the call of each number that is equal to it, however the first is written.
pub call_at : (body : List ℕ) (k i : ℕ) {c : Label} → c ≡ label_at body 0 k → k ≡ i → c ≡ label_at body 0 i
call_at body k i e same = e ∙ ap (label_at body 0) same

-- The records of a body before a place start no later than the calls from i on.
pub record Passed (body : List ℕ) (calls : Tagged) (p i : ℕ) : Type 0 where
  pub within : p ≤ length body / 8
  pub before : (j k : ℕ) → j < p → i ≤ k → k < calls.count → ((in_body body).label j).start ≤ (calls.label k).start

-- Before call i: the figures are those of the calls before it, and both places stand behind no record that starts after it.
pub record Turning (calls boards cancels times : List ℕ) (f : Figures) (p q i : ℕ) : Type 0 where
  pub within : i ≤ length calls / 8
  pub figured : Figured (traffic_of calls boards cancels times) i f
  pub total : f.total ≤ i * 4_294_967_295
  pub boards_passed : Passed boards (in_body calls) p i
  pub cancels_passed : Passed cancels (in_body calls) q i

passed_none : (body : List ℕ) (calls : Tagged) → Passed body calls 0 0
passed_none body calls = record { within = omega arith; before = λ j k l. absurd (omega arith) }

pub turning_begin : (calls boards cancels times : List ℕ) (f : Figures) → f ≡ no_figures → Turning calls boards cancels times f 0 0 0
turning_begin calls boards cancels times f e = record {
  within = omega arith;
  figured = subst (Figured (traffic_of calls boards cancels times) 0) (sym e) (figured_none (traffic_of calls boards cancels times));
  total = omega (arith, ap (λ (g : Figures). g.total) e);
  boards_passed = passed_none boards (in_body calls);
  cancels_passed = passed_none cancels (in_body calls);
}

-- A search may begin at such a place.
pub passed_between : {body : List ℕ} {calls : Tagged} {p i : ℕ} → Passed body calls p i → i < calls.count → (c : Label) → c ≡ calls.label i → Between body 0 (length body / 8) c.start p (length body / 8)
passed_between {i = i} x l c e = record {
  ordered = x.within;
  within = omega arith;
  first = λ j jl. omega (arith, x.before j i jl (omega arith) l, ap (λ (d : Label). d.start) e);
  rest = λ j jl jn. absurd (omega arith);
}

module _ (calls boards cancels times : List ℕ) (sound : Sound (traffic_of calls boards cancels times) (length times)) where
  abbrev w : Traffic
  w = traffic_of calls boards cancels times

  -- What starts within a call lies inside it.
  pub whole_of : (e : Ending) (i : ℕ) → i < w.calls.count → (c : Label) → c ≡ w.calls.label i → Whole (w.ended e) c
  whole_of e i l c is = subst (Whole (w.ended e)) (sym is) (record { ordered = sound.ended_ordered e; inside = λ j jl. sound.whole i e j l jl })

  -- A place that was searched for is passed by the next call.
  passed_on : (body : List ℕ) (i p : ℕ) (c : Label) → c ≡ w.calls.label i → Started body 0 (length body / 8) c.start p → (k : ℕ) → k ≡ i + 1 → Passed body (in_body calls) p k
  passed_on body i p c is s k more = record {
    within = s.within;
    before = λ j m jl km ml. omega (arith, s.first j jl, ap (λ (d : Label). d.start) is, sound.calls_ascend i m (omega arith) ml);
  }

  module _ {f : Figures} {p q i : ℕ} (t : Turning calls boards cancels times f p q i) (l : i < length calls / 8) where
    -- One call more may be added.
    pub turning_small : Small f
    turning_small = figured_small t.figured (omega (arith, sound.few)) t.total

    module _ (c : Label) (is : c ≡ w.calls.label i) (b d : Option ℕ) (first_b : FirstStart (in_body boards) c b) (first_d : FirstStart (in_body cancels) c d) (r : Outcome) (decided : Decided b d r) where
      -- What becomes of the call.
      became : Becomes w i r
      became = becomes w i b d (subst (λ (x : Label). FirstStart (in_body boards) x b) is first_b) (subst (λ (x : Label). FirstStart (in_body cancels) x d) is first_d) r decided

      pub turning_timed : Timed times c.start r
      turning_timed = subst (λ (x : Label). Timed times x.start r) (sym is) (becomes_timed calls boards cancels times sound i r became)

      -- The call is added, and the next one's turn begins.
      pub turning_on : (g : Figures) → g ≡ added (at times) c.start f r → g.total ≤ f.total + 4_294_967_295 → (x y : ℕ)
          → Started boards 0 (length boards / 8) c.start x → Started cancels 0 (length cancels / 8) c.start y → (k : ℕ) → k ≡ i + 1 → Turning calls boards cancels times g x y k
      turning_on g e more-total x y started_b started_d k more = record {
        within = omega arith;
        figured = subst (Figured w k) (sym (e ∙ ap (λ (z : Label). added (at times) z.start f r) is)) (figured_added calls boards cancels times sound i t.figured r became k more);
        total = omega (arith, t.total);
        boards_passed = passed_on boards i x c is started_b k more;
        cancels_passed = passed_on cancels i y c is started_d k more;
      }
