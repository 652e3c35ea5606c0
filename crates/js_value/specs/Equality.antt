-- When values are equal (ECMA-262, 7.2.14 and 7.2.15).
use Rattle.std.specs.Prelude.{◌==◌, Bool, true, false, ◌&&◌, ◌||◌, if◌then◌else◌}
use Rattle.std.specs.Ordering.{int_eq}
use Rattle.std.specs.Str.{bytes_eq}
use Rattle.js_value.specs.declared.value.Object.{Object}
use Rattle.js_value.specs.declared.value.Primitive.{Primitive}
use Rattle.js_value.specs.declared.value.Primitive.TheVariants as P
use Rattle.js_value.specs.declared.value.Value.{Value}
use Rattle.js_value.specs.declared.value.Value.TheVariants as V
use Rattle.js_value.specs.declared.value.Kind.{Kind}
use Rattle.js_value.specs.declared.value.Kind.TheVariants as K
use Rattle.js_value.specs.Conversions.{Numbered, Is, NoNumber, number_of_primitive}

-- whether two values are equal, or a range refusal
pub data Decided : Type 0 where
  Decides : Bool → Decided
  Undecided : Kind → Decided

-- both are true, or both are false
abbrev pub same_truth : Bool → Bool → Bool
same_truth true b = b
same_truth false true = false
same_truth false false = true

-- two primitive values have the same type and the same value: numbers 6.1.6.1.13, texts by their units
abbrev pub same_primitive : Primitive → Primitive → Bool
same_primitive P.Undefined P.Undefined = true
same_primitive P.Null P.Null = true
same_primitive (P.Boolean a) (P.Boolean b) = same_truth a b
same_primitive (P.Number m) (P.Number n) = int_eq m n
same_primitive (P.Text us) (P.Text vs) = bytes_eq us vs
same_primitive _ _ = false

-- two references are to the same object
abbrev pub same_object : Object → Object → Bool
same_object a b = a.index == b.index

-- IsStrictlyEqual (7.2.15): the same type and the same value, and for references the same object
abbrev pub strictly_equal : Value → Value → Bool
strictly_equal (V.Primitive a) (V.Primitive b) = same_primitive a b
strictly_equal (V.Object a) (V.Object b) = same_object a b
strictly_equal _ _ = false

-- undefined, or null
abbrev pub is_nullish : Primitive → Bool
is_nullish P.Undefined = true
is_nullish P.Null = true
is_nullish (P.Boolean b) = false
is_nullish (P.Number n) = false
is_nullish (P.Text units) = false

-- two primitive values are of one type
abbrev pub same_type : Primitive → Primitive → Bool
same_type P.Undefined P.Undefined = true
same_type P.Null P.Null = true
same_type (P.Boolean a) (P.Boolean b) = true
same_type (P.Number m) (P.Number n) = true
same_type (P.Text us) (P.Text vs) = true
same_type _ _ = false

-- whether two numbers are equal, where both are numbers
abbrev pub equal_numbers : Numbered → Numbered → Decided
equal_numbers (NoNumber k) right = Undecided k
equal_numbers (Is m) (NoNumber k) = Undecided k
equal_numbers (Is m) (Is n) = Decides (int_eq m n)

-- IsLooselyEqual of two primitive values (7.2.14): undefined and null equal each other and nothing else; two of one type as above;
-- others as numbers
abbrev pub loosely_equal_primitives : Primitive → Primitive → Decided
loosely_equal_primitives a b =
    if is_nullish a || is_nullish b then Decides (is_nullish a && is_nullish b)
    else if same_type a b then Decides (same_primitive a b)
    else equal_numbers (number_of_primitive a) (number_of_primitive b)

-- IsLooselyEqual of a reference and a primitive value: false at undefined and null; else the reference would be converted
abbrev pub loosely_equal_reference : Primitive → Decided
loosely_equal_reference p = if is_nullish p then Decides false else Undecided K.Convert

-- IsLooselyEqual (7.2.14)
abbrev pub loosely_equal : Value → Value → Decided
loosely_equal (V.Primitive a) (V.Primitive b) = loosely_equal_primitives a b
loosely_equal (V.Primitive p) (V.Object o) = loosely_equal_reference p
loosely_equal (V.Object o) (V.Primitive p) = loosely_equal_reference p
loosely_equal (V.Object a) (V.Object b) = Decides (same_object a b)
