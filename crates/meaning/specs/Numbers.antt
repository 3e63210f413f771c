-- The numbers of document 01 for what the calls give, case by case: each refusal's number, and what a page and the figures are where a call
-- refuses.
use Rattle.std.specs.Prelude.{ℕ, false, cond, List, [], ◌∷◌, Option, Some, None, Result, Ok, Err}
use Rattle.meaning.specs.declared.Page.{Page}
use Rattle.meaning.specs.declared.Figures.{Figures}
use Rattle.meaning.specs.declared.refusal.Refusal.{Refusal}
use Rattle.meaning.specs.declared.refusal.Refusal.TheVariants.{TooShort, OtherVersion, WrongContents, WrongLength, WrongLists, WrongNesting, TooLong, NotFollowing, TooLarge, NoEntry, TimesDescend}
use Rattle.meaning.specs.Pages.{no_step}
use Rattle.meaning.specs.Waits.{no_figures}

-- The number of a refusal in the table.
abbrev pub number_of : Refusal → ℕ
number_of TooShort = 1
number_of OtherVersion = 2
number_of WrongContents = 3
number_of WrongLength = 4
number_of WrongLists = 5
number_of WrongNesting = 6
number_of TooLong = 7
number_of NotFollowing = 8
number_of TooLarge = 9
number_of NoEntry = 20
number_of TimesDescend = 21

-- The refusal that a result tells: its number, or 0 where the call did not refuse.
abbrev pub refusal_of : {A : Type 0} → Result A Refusal → ℕ
refusal_of (Ok a) = 0
refusal_of (Err e) = number_of e

-- What a result tells of a page: a refusal has 0 rows, no further record, next place 0 and no unknown step.
abbrev pub page_of : Result Page Refusal → Page
page_of (Ok p) = p
page_of (Err e) = record { rows = 0; more = false; next = 0; unknown = None }

-- What a result tells of a waiting table: on refusal all figures are 0.
abbrev pub figures_of : Result Figures Refusal → Figures
figures_of (Ok f) = f
figures_of (Err e) = no_figures

-- The unknown step as a number: 32 is none.
abbrev pub step_number : Option ℕ → ℕ
step_number None = no_step
step_number (Some s) = s

-- A result of a call for rows as numbers: refusal, rows, more (0 or 1), next place, unknown step.
abbrev pub numbers : Result Page Refusal → List ℕ
numbers r = refusal_of r ∷ (page_of r).rows ∷ cond (page_of r).more 1 0 ∷ (page_of r).next ∷ step_number (page_of r).unknown ∷ []

-- A result of the waits call as numbers: refusal, calls, boarded, cancelled, open, total, longest, over how many.
abbrev pub figure_numbers : Result Figures Refusal → List ℕ
figure_numbers r =
    refusal_of r ∷ (figures_of r).calls ∷ (figures_of r).boarded ∷ (figures_of r).cancelled ∷ (figures_of r).left_open ∷ (figures_of r).total ∷ (figures_of r).longest ∷ (figures_of r).over ∷ []
