-- Where a path can end and where a bracket is shut, by the byte at a place of the text.
use Prim.Native.Nat.{ℕ, ◌+◌, ◌≤◌, ◌<◌}
use native.Mathlib.Omega.{arith}
use mathlib.Core.Path.{◌≡◌, refl, sym, subst}
use mathlib.Core.Bool.{Bool}
use mathlib.Core.List.{List}
use lib.Dec.{eqb}
use lib.ListN.{length, drop, get_or, drop_of_length-le}
use denote.Ref.{Bor}
use Rattle.std.specs.Prelude.{Option, Some, None, MatchOption, IsTrue}
use Rattle.std.specs.List.{HoldsAt}
use Rattle.std.specs.Option.{option_eq}
use Rattle.meaning.specs.Answers.{Decides, holds, fails}
use Rattle.meaning.proofs.Decide.{decides_as, eq_decides}
use Rattle.meaning.specs.Ends.{Stops}
use Rattle.draft.specs.Steps.{ShutAt}
use Rattle.draft.proofs.Bytes.{byte_at, byte_is}

-- The text t at place `at`.
module _ (t : List ℕ) (at : ℕ) where
  -- At the text's end a path can end.
  pub end_stops : length t ≤ at → Stops (drop at t)
  end_stops h = rw (drop_of_length-le t h) tt

  -- At the text's end no `]` stands.
  end_open : length t ≤ at → ShutAt t at → ⊥
  end_open h e = omega (arith, (byte_is t at 93 (drop (at + 1) t) e).0)

  -- Before the text's end a path can end exactly where a `]` stands.
  pub shut_stops : {r : Bool} → at < length t → Decides (ShutAt t at) r → Decides (Stops (drop at t)) r
  shut_stops h = decides_as (λ e. subst Stops (sym e) refl) (λ s. byte_at t at 93 h (subst Stops (byte_at t at (get_or t at 0) h refl) s))

  -- There a `]` stands exactly where the byte is `]`.
  byte_shuts : at < length t → Decides (ShutAt t at) (eqb (get_or t at 0) 93)
  byte_shuts h = decides_as (byte_at t at 93 h) (λ s. (byte_is t at 93 (drop (at + 1) t) s).1) (eq_decides (get_or t at 0) 93)

  -- A `]` stands exactly where the byte that is looked up there, if there is one, is `]`.
  pub look_shuts : (o : Option (Bor ℕ)) (w : Bor ℕ) → MatchOption o (length t ≤ at) (λ x. (at < length t) × HoldsAt (λ y. x.now ≡ y) t at) → w.now ≡ 93 → Decides (ShutAt t at) (option_eq (λ x y. eqb x.now y.now) o (Some w))
  look_shuts None w h e = fails (end_open h)
  look_shuts (Some x) w h e = rw (e, h.1 0) (byte_shuts h.0)

  -- A path can end exactly where no byte can be looked up or where it is `]`.
  pub look_stops : (o : Option (Bor ℕ)) (r : Bool) → MatchOption o (length t ≤ at) (λ x. (at < length t) × HoldsAt (λ y. x.now ≡ y) t at) → (P : Bor ℕ → Type 0) → MatchOption o (IsTrue r) P → ((x : Bor ℕ) → P x → r ≡ eqb x.now 93) → Decides (Stops (drop at t)) r
  look_stops None r h P e f = rw e (holds (end_stops h))
  look_stops (Some x) r h P e f = rw (f x e, h.1 0) (shut_stops h.0 (byte_shuts h.0))
