-- From the tests of the table of contents to the number that refusals 1 to 4 give.
use Prim.Native.Nat.{ℕ, ◌+◌, ◌*◌, ◌≤◌, ◌<◌}
use native.Mathlib.Omega.{arith}
use mathlib.Core.Path.{◌≡◌, refl}
use mathlib.Core.Logic.{inl, inr}
use mathlib.Core.List.{List}
use lib.ListN.{length}
use Rattle.meaning.specs.Limits.{most_tags, most_labels}
use Rattle.std.specs.Prelude.{Ok, Err}
use Rattle.meaning.specs.Day.{tags, version, row_at, total, RowRight, TooShort, OtherVersion, WrongContents, WrongLength}
use Rattle.meaning.specs.declared.refusal.Refusal.TheVariants as why
use Rattle.meaning.specs.Refusals.{Clear, Judged}
use Rattle.contents.specs.Parts.{Placed}
use Rattle.contents.proofs.Placing.{placed_unless}
use Rattle.table.specs.ContentsTable.{contents_table}

module _ (b : List ℕ) where
  -- What a test that succeeds gives.
  abbrev done : Unit {0}
  done = tt

  -- The index is too short.
  pub refused_1 : TooShort b → Judged {A = Unit {0}} (contents_table b) (Err why.TooShort)
  refused_1 h = inl (h, refl)

  -- It is long enough to have a version.
  module _ (long : 4 ≤ length b) where
    -- So refusal 1 does not apply.
    long_enough : TooShort b → ⊥
    long_enough h = omega arith

    -- It has another version.
    pub refused_2 : OtherVersion b → Judged {A = Unit {0}} (contents_table b) (Err why.OtherVersion)
    refused_2 h = inr (long_enough, inl (h, refl))

    -- It has version 1.
    module _ (one : version b ≡ 1) where
      -- So refusal 2 does not apply.
      same_version : OtherVersion b → ⊥
      same_version h = h one

      -- Its table of contents is wrong.
      pub refused_3 : WrongContents b → Judged {A = Unit {0}} (contents_table b) (Err why.WrongContents)
      refused_3 h = inr (long_enough, inr (same_version, inl (h, refl)))

      -- Its table of contents is right.
      module _ (few : tags b ≤ most_tags) (rows : row_at (tags b) ≤ length b) (right : (r : ℕ) → r < tags b → RowRight b r) (small : total b ≤ most_labels) where
        -- So refusal 3 does not apply.
        right_contents : WrongContents b → ⊥
        right_contents (inl h) = omega arith
        right_contents (inr (inl h)) = omega arith
        right_contents (inr (inr (inl h))) = h.2 (right h.0 h.1)
        right_contents (inr (inr (inr h))) = omega arith

        -- Its length is not the one that follows from the table.
        pub refused_4 : WrongLength b → Judged {A = Unit {0}} (contents_table b) (Err why.WrongLength)
        refused_4 h = inr (long_enough, inr (same_version, inr (right_contents, inl (h, refl))))

        -- Its length is that one: no reason of 1 to 4 applies.
        pub accepted : length b ≡ row_at (tags b) + 8 * total b → Judged {A = Unit {0}} (contents_table b) (Ok done)
        accepted e = (long_enough, (same_version, (right_contents, ((λ h. h e), tt))))

-- What they leave: every row and every list lies within the index.
pub placed_of : (b : List ℕ) → Clear (contents_table b) → Placed b
placed_of b (no₁, (no₂, (no₃, (no₄, rest)))) = placed_unless b no₃ no₄
