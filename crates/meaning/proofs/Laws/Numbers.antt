-- A refusal's number tells which it is, and so does what a test of a table answers.
use Prim.Native.Nat.{ℕ}
use mathlib.Core.Path.{◌≡◌, refl, sym, ap, ◌∙◌}
use mathlib.Core.Bool.{cond}
use lib.Dec.{eqb}
use Rattle.std.specs.Prelude.{Result, Ok, Err}
use Rattle.meaning.specs.declared.refusal.Refusal.{Refusal}
use Rattle.meaning.specs.declared.refusal.Refusal.TheVariants.{TooShort, OtherVersion, WrongContents, WrongLength, WrongLists, WrongNesting, TooLong, NotFollowing, TooLarge, NoEntry, TimesDescend}
use Rattle.meaning.specs.Numbers.{number_of, refusal_of}
use Rattle.meaning.specs.Refusals.{Table, Verdict, clear, given, Judged}
use Rattle.meaning.proofs.Laws.Table.{given_one, clear_not_given}

-- The refusal of a number.
abbrev of_number : ℕ → Refusal
of_number n =
    cond (eqb n 1) TooShort (cond (eqb n 2) OtherVersion (cond (eqb n 3) WrongContents (cond (eqb n 4) WrongLength (cond (eqb n 5) WrongLists (cond (eqb n 6) WrongNesting
    (cond (eqb n 7) TooLong (cond (eqb n 8) NotFollowing (cond (eqb n 9) TooLarge (cond (eqb n 20) NoEntry TimesDescend)))))))))

number_back : (e : Refusal) → of_number (number_of e) ≡ e
number_back TooShort = refl
number_back OtherVersion = refl
number_back WrongContents = refl
number_back WrongLength = refl
number_back WrongLists = refl
number_back WrongNesting = refl
number_back TooLong = refl
number_back NotFollowing = refl
number_back TooLarge = refl
number_back NoEntry = refl
number_back TimesDescend = refl

-- Two refusals have no number in common.
pub number_one : (d e : Refusal) → number_of d ≡ number_of e → d ≡ e
number_one d e same = sym (number_back d) ∙ ap of_number same ∙ number_back e

-- A test of a table that hands on nothing else answers one thing.
pub judged_one : (t : Table) (r s : Result Unit Refusal) → Judged t r → Judged t s → r ≡ s
judged_one t (Ok a) (Ok b) c d = refl
judged_one t (Ok a) (Err e) c g = absurd (clear_not_given t (number_of e) c g)
judged_one t (Err e) (Ok a) g c = absurd (clear_not_given t (number_of e) c g)
judged_one t (Err d) (Err e) g h = ap Err (number_one d e (given_one t (number_of d) (number_of e) g h))

-- Its refusal's number, or 0, is the table's verdict.
pub judged_verdict : {A : Type 0} (t : Table) (r : Result A Refusal) → Judged t r → Verdict t (refusal_of r)
judged_verdict t (Ok a) c = clear c
judged_verdict t (Err e) g = given g
