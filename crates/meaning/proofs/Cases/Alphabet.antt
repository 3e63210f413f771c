-- The characters of a name and its length, at the borders of what document 01 allows: all 256 bytes are tried.
use mathlib.Core.Path.{◌≡◌, refl}
use mathlib.Core.Bool.{true, false}
use lib.ListN.{replicate}
use Rattle.meaning.specs.Names.{initial, further, all_further, short, is_name}
use Rattle.meaning.proofs.Laws.Record.{filtered}
use Rattle.meaning.proofs.Cases.SmallDay.{bytes}

-- The bytes with which a name may begin: an ASCII letter or `_`, here in the order of their codes.
pub first_characters : filtered initial 0 256 ≡ bytes "ABCDEFGHIJKLMNOPQRSTUVWXYZ_abcdefghijklmnopqrstuvwxyz"
unfolding filtered initial bytes
first_characters = refl

-- The bytes with which it may go on: ASCII letters, digits, `_`, `-` or `.`.
pub other_characters : filtered further 0 256 ≡ bytes "-.0123456789ABCDEFGHIJKLMNOPQRSTUVWXYZ_abcdefghijklmnopqrstuvwxyz"
unfolding filtered further initial bytes
other_characters = refl

-- A name has 1 to 16 characters.
pub name_of_none : is_name (bytes "") ≡ false
unfolding is_name bytes
name_of_none = refl

pub name_of_sixteen : is_name (replicate 16 97) ≡ true
unfolding is_name initial further all_further short
name_of_sixteen = refl

pub name_of_seventeen : is_name (replicate 17 97) ≡ false
unfolding is_name initial further all_further short
name_of_seventeen = refl
