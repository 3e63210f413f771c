-- The waiting table: what ends a call's wait is one, its figures are one, and what one call more makes of them.
use Prim.Native.Nat.{ℕ, ◌+◌}
use native.Mathlib.Omega.{arith}
use mathlib.Core.Path.{◌≡◌, refl, sym, ◌∙◌}
use mathlib.Core.Logic.{inl, inr, ⊎_elim}
use Rattle.meaning.specs.declared.Figures.{Figures}
use Rattle.meaning.specs.Waits.{Ending, board, cancel, Traffic, of_ending, Ends, Ended, Closed, Open, wait_until, Waited, none, Number, nobody, Figured, no_figures}
use Rattle.meaning.specs.Fit.{Sound, one_ended, one_open}
use Rattle.meaning.proofs.Laws.Sum.{OneEach, ones, sum_one, sum_kept, sum_more, longest_one, longest_kept, longest_more}

-- Figures that are equal field by field are equal.
pub figures_same : {f g : Figures} → f.calls ≡ g.calls → f.boarded ≡ g.boarded → f.cancelled ≡ g.cancelled → f.left_open ≡ g.left_open
    → f.total ≡ g.total → f.longest ≡ g.longest → f.over ≡ g.over → f ≡ g
figures_same calls boarded cancelled left total longest over =
    λ k. record { calls = calls k; boarded = boarded k; cancelled = cancelled k; left_open = left k; total = total k; longest = longest k; over = over k }

module _ (w : Traffic) where
  -- Records that end one call's wait start at one number.
  pub ends_one : {i j k : ℕ} {e f : Ending} → Ends w i e j → Ends w i f k → ((w.ended e).label j).start ≡ ((w.ended f).label k).start
  ends_one {i} {j} {k} {e} {f} x y = omega (arith, x.first f k y.within, y.first e j x.within)

  -- So a call has one wait.
  pub waited_one : OneEach (Waited w)
  waited_one i d g (e, j, x, p) (f, k, y, q) = cc (p, q, ends_one x y)

  -- The figures are one, field by field.
  pub figured_one : {n : ℕ} {f g : Figures} → Figured w n f → Figured w n g → f ≡ g
  figured_one x y =
      figures_same (x.calls ∙ sym y.calls) (sum_one (ones (Ended w board)) x.boarded y.boarded) (sum_one (ones (Ended w cancel)) x.cancelled y.cancelled)
      (sum_one (ones (Open w)) x.left_open y.left_open) (sum_one waited_one x.total y.total) (longest_one x.longest y.longest)
      (sum_one (ones (Closed w)) x.over y.over)

  -- The figures of no calls.
  pub figured_none : Figured w 0 no_figures
  figured_none = record { calls = refl; boarded = none; cancelled = none; left_open = none; total = none; longest = nobody (λ k e l. absurd (omega arith)); over = none }

  -- An open call is ended by no record.
  pub open_unended : {i : ℕ} → Open w i → (e : Ending) → Ended w e i → ⊥
  open_unended o e (j, x) = o e j x.within

  module _ {entries : ℕ} (sound : Sound w entries) where
    -- No call is both boarded and cancelled.
    pub not_both : {i : ℕ} → Ended w board i → Ended w cancel i → ⊥
    not_both (j, x) (k, y) = sound.apart j k x.within.is y.within.is (ends_one x y)

    module _ {n : ℕ} {f : Figures} (x : Figured w n f) where
      -- One call more, which record j of an ending ends after a wait of d.
      pub figured_ended : (e : Ending) (j d : ℕ) → Ends w n e j → d ≡ wait_until w n e j → (k : ℕ) → k ≡ n + 1 → Figured w k (one_ended e d f)
      figured_ended e j d h wait k more = record {
        calls = omega (arith, x.calls);
        boarded = counted board e refl x.boarded h;
        cancelled = counted cancel e refl x.cancelled h;
        left_open = sum_kept k more refl (λ c o. o.0 e j h.within) x.left_open;
        total = sum_more k more d refl (e, j, h, wait) x.total;
        longest = longest_more k more d refl waited_one (e, j, h, wait) x.longest;
        over = sum_more k more 1 refl (either e h, refl) x.over;
      }
        where
          either : (e : Ending) → Ends w n e j → Closed w n
          either board h = inl (j, h)
          either cancel h = inr (j, h)

          -- What the call adds to the number of those that a given ending ends.
          mine : Ending → Ending → ℕ
          mine board e = of_ending 1 0 e
          mine cancel e = of_ending 0 1 e

          counted : (o e : Ending) {s t : ℕ} → t ≡ s + mine o e → Number (Ended w o) n s → Ends w n e j → Number (Ended w o) k t
          counted board board q y h = sum_more k more 1 q ((j, h), refl) y
          counted board cancel q y h = sum_kept k more (omega arith) (λ c z. not_both z.0 (j, h)) y
          counted cancel board q y h = sum_kept k more (omega arith) (λ c z. not_both (j, h) z.0) y
          counted cancel cancel q y h = sum_more k more 1 q ((j, h), refl) y

      -- One call more, which is open.
      pub figured_open : Open w n → (k : ℕ) → k ≡ n + 1 → Figured w k (one_open f)
      figured_open o k more = record {
        calls = omega (arith, x.calls);
        boarded = sum_kept k more refl (λ d z. open_unended o board z.0) x.boarded;
        cancelled = sum_kept k more refl (λ d z. open_unended o cancel z.0) x.cancelled;
        left_open = sum_more k more 1 refl (o, refl) x.left_open;
        total = sum_kept k more refl unwaited x.total;
        longest = longest_kept k more refl unwaited x.longest;
        over = sum_kept k more refl (λ d z. ⊎_elim (open_unended o board) (open_unended o cancel) z.0) x.over;
      }
        where
          unwaited : (d : ℕ) → Waited w n d → ⊥
          unwaited d (e, j, h, q) = open_unended o e (j, h)
