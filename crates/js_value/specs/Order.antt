-- The order of values (ECMA-262, 7.2.13, IsLessThan).
use Rattle.std.specs.Prelude.{ℕ, List}
use Rattle.std.specs.Ordering.{nat_cmp, int_cmp}
use Rattle.std.specs.Cmp.Lexicographic.{slice_cmp}
use Rattle.std.specs.declared.cmp.Ordering.{Ordering}
use Rattle.js_value.specs.declared.value.Primitive.TheVariants as P
use Rattle.js_value.specs.declared.value.Value.{Value}
use Rattle.js_value.specs.declared.value.Value.TheVariants as V
use Rattle.js_value.specs.declared.value.Kind.{Kind}
use Rattle.js_value.specs.Conversions.{Numbered, Is, NoNumber, to_number}

-- how one value stands to another, or a range refusal
pub data Compared : Type 0 where
  Stands : Ordering → Compared
  NoOrder : Kind → Compared

-- how one text stands to another: by the first units that differ, and else the shorter first
abbrev pub compare_units : List ℕ → List ℕ → Ordering
compare_units xs ys = slice_cmp nat_cmp xs ys

-- how one number stands to another (6.1.6.1.12); a refusal of the left operand comes first
abbrev pub compare_numbers : Numbered → Numbered → Compared
compare_numbers (NoNumber k) right = NoOrder k
compare_numbers (Is m) (NoNumber k) = NoOrder k
compare_numbers (Is m) (Is n) = Stands (int_cmp m n)

-- how one value stands to another: two texts as texts, and others as numbers
abbrev pub compare_values : Value → Value → Compared
compare_values (V.Primitive (P.Text xs)) (V.Primitive (P.Text ys)) = Stands (compare_units xs ys)
compare_values left right = compare_numbers (to_number left) (to_number right)
