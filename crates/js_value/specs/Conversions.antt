-- The conversions of values (ECMA-262, 7.1), and what operators answer.
use Rattle.std.specs.Prelude.{◌≡◌, ℕ, ◌==◌, Bool, true, false, not, List, [], ◌∷◌, codes, ℤ, pos, unsigned_abs, Option, Some, None, IsTrue, Result, Ok, Err, if◌then◌else◌}
use Rattle.js_value.specs.declared.value.Primitive.{Primitive}
use Rattle.js_value.specs.declared.value.Primitive.TheVariants as P
use Rattle.js_value.specs.declared.value.Value.{Value}
use Rattle.js_value.specs.declared.value.Value.TheVariants as V
use Rattle.js_value.specs.declared.value.Kind.{Kind}
use Rattle.js_value.specs.declared.value.Kind.TheVariants as K
use Rattle.js_value.specs.declared.value.OpFault.{OpFault}
use Rattle.js_value.specs.declared.value.OpFault.TheVariants as F
use Rattle.js_value.specs.Numbers.{text_number, decimal_text}

-- what an operator answers: a primitive value, or a range refusal
pub data Answer : Type 0 where
  Gives : Primitive → Answer
  Refuses : Kind → Answer

-- what ToNumber answers: a number, or a range refusal
pub data Numbered : Type 0 where
  Is : ℤ → Numbered
  NoNumber : Kind → Numbered

-- what ToString answers: units, or a range refusal
pub data Texted : Type 0 where
  Reads : List ℕ → Texted
  NoText : Kind → Texted

-- whether a primitive value is a text
abbrev pub is_text : Primitive → Bool
is_text P.Undefined = false
is_text P.Null = false
is_text (P.Boolean b) = false
is_text (P.Number n) = false
is_text (P.Text units) = true

-- the value that an answer gives, if it gives one
abbrev pub given : Answer → Option Value
given (Gives v) = Some (V.Primitive v)
given (Refuses k) = None

-- whether an answer gives a text, for which memory may be wanting
abbrev pub gives_text : Answer → Bool
gives_text (Gives v) = is_text v
gives_text (Refuses k) = false

-- a result is this answer: its value, or its refusal; memory may be wanting for a text
abbrev pub Answers : Answer → Result Value OpFault → Type 0
Answers answer (Ok value) = given answer ≡ Some value
Answers answer (Err (F.Refuse k)) = answer ≡ Refuses k
Answers answer (Err F.Memory) = IsTrue (gives_text answer)

-- a number that was read, where there is one
abbrev pub numbered : Option ℤ → Numbered
numbered (Some n) = Is n
numbered None = NoNumber K.Number

-- ToNumber of a primitive value (7.1.4); one that ECMA-262 takes to NaN, to a fraction or out of range refuses Number
abbrev pub number_of_primitive : Primitive → Numbered
number_of_primitive P.Undefined = NoNumber K.Number
number_of_primitive P.Null = Is (pos 0)
number_of_primitive (P.Boolean b) = Is (if b then pos 1 else pos 0)
number_of_primitive (P.Number n) = Is n
number_of_primitive (P.Text units) = numbered (text_number units)

-- ToNumber (7.1.4); a reference is not converted
abbrev pub to_number : Value → Numbered
to_number (V.Primitive p) = number_of_primitive p
to_number (V.Object o) = NoNumber K.Convert

-- ToString of a primitive value (7.1.17)
abbrev pub text_of_primitive : Primitive → List ℕ
text_of_primitive P.Undefined = codes "undefined"
text_of_primitive P.Null = codes "null"
text_of_primitive (P.Boolean b) = if b then codes "true" else codes "false"
text_of_primitive (P.Number n) = decimal_text n
text_of_primitive (P.Text units) = units

-- ToString (7.1.17); a reference is not converted
abbrev pub to_text : Value → Texted
to_text (V.Primitive p) = Reads (text_of_primitive p)
to_text (V.Object o) = NoText K.Convert

-- ToBoolean of a primitive value (7.1.2)
abbrev pub boolean_of_primitive : Primitive → Bool
boolean_of_primitive P.Undefined = false
boolean_of_primitive P.Null = false
boolean_of_primitive (P.Boolean b) = b
boolean_of_primitive (P.Number n) = not (unsigned_abs n == 0)
boolean_of_primitive (P.Text []) = false
boolean_of_primitive (P.Text (u ∷ us)) = true

-- ToBoolean (7.1.2); every object is true
abbrev pub to_boolean : Value → Bool
to_boolean (V.Primitive p) = boolean_of_primitive p
to_boolean (V.Object o) = true
