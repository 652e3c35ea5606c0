-- The rows, by computing each.
use Rattle.std.proofs.Common.{refl}
use Rattle.std.specs.Fmt.{digits}
use Rattle.js_text.specs.Character.{is_gap, is_digit}
use Rattle.js_data.specs.Rows.{Made, UnitsAt, Searches, Parts, Numerals, Mathematics}

pub made : Made
unfolding is_gap is_digit digits
made = refl

pub units_at : UnitsAt
unfolding is_gap is_digit digits
units_at = refl

pub searches : Searches
unfolding is_gap is_digit digits
searches = refl

pub parts : Parts
unfolding is_gap is_digit digits
parts = refl

pub numerals : Numerals
numerals = refl

pub mathematics : Mathematics
unfolding is_gap is_digit digits
mathematics = refl
