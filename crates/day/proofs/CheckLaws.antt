-- From what the parts of the check give to what the check gives.
use Prim.Native.Nat.{ℕ}
use mathlib.Core.List.{List}
use Rattle.meaning.specs.Refusals.{Given, Clear, check_table}
use Rattle.meaning.proofs.Laws.Table.{given_after, clear_both}
use Rattle.table.specs.ContentsTable.{contents_table}
use Rattle.day.specs.ListsTable.{lists_table}

-- Where the table of contents is right, what the rows about the lists give is the check's.
pub lists_refuse : (b : List ℕ) (n : ℕ) → Clear (contents_table b) → Given (lists_table b) n → Given (check_table b) n
lists_refuse b n c g = given_after (contents_table b) (lists_table b) n c g

-- Where nothing is wrong the check finds nothing.
pub none_refuses : (b : List ℕ) → Clear (contents_table b) → Clear (lists_table b) → Clear (check_table b)
none_refuses b c d = clear_both (contents_table b) (lists_table b) c d
