-- What a built-in function takes `this` and its arguments for: a value, or what is done in its place.
use Rattle.std.specs.Prelude.{ℕ, suc, ◌-◌, min, List, ℤ, pos, negsuc, Option, Some, None, Result, Ok, Err, slice_index_or}
use Rattle.js_value.specs.declared.value.Value.{Value}
use Rattle.js_value.specs.declared.value.Value.TheVariants as value
use Rattle.js_value.specs.declared.value.Primitive.{Primitive}
use Rattle.js_value.specs.declared.value.Primitive.TheVariants as primitive
use Rattle.js_value.specs.declared.value.Kind.{Kind}
use Rattle.js_value.specs.declared.value.Kind.TheVariants as kind
use Rattle.js_value.specs.declared.deed.Complaint.{Complaint}
use Rattle.js_value.specs.declared.deed.Halt.{Halt}
use Rattle.js_value.specs.declared.deed.Halt.TheVariants.{Throw, Refuse}
use Rattle.js_value.specs.Conversions.{Numbered, Is, NoNumber, number_of_primitive, text_of_primitive}

-- Answers

-- a value, or what is done in its place
abbrev pub Or : Type 0 → Type 0
Or A = Result A Halt

abbrev pub ◌>>=◌ : {A B : Type 0} → Or A → (A → Or B) → Or B
(Ok a) >>= f = f a
(Err h) >>= f = Err h

infixl 20 ◌>>=◌
abbrev pub throw : {A : Type 0} → Complaint → Or A
throw c = Err (Throw c)

abbrev pub refuse : {A : Type 0} → Kind → Or A
refuse k = Err (Refuse k)

-- Values without references

-- a value as a function that looks at no object sees it: a reference tells nothing
abbrev pub Seen : Type 0
Seen = Option Primitive

abbrev pub seen : Value → Seen
seen (value.Primitive p) = Some p
seen (value.Object o) = None

-- the argument at a place, undefined where there is none
abbrev pub argument : List Seen → ℕ → Seen
argument arguments n = slice_index_or arguments n (Some primitive.Undefined)

abbrev pub numbered : Numbered → Or ℤ
numbered (Is n) = Ok n
numbered (NoNumber k) = refuse k

-- 7.1.4
abbrev pub to_number : Seen → Or ℤ
to_number (Some p) = numbered (number_of_primitive p)
to_number None = refuse kind.Convert

-- 7.1.17
abbrev pub to_text : Seen → Or (List ℕ)
to_text (Some p) = Ok (text_of_primitive p)
to_text None = refuse kind.Convert

-- a number that stands for another where it is undefined
abbrev pub number_or : ℤ → Seen → Or ℤ
number_or n (Some primitive.Undefined) = Ok n
number_or n x = to_number x

-- a number between 0 and a length (7.1.5)
abbrev pub clamped : ℕ → ℤ → ℕ
clamped n (pos m) = min m n
clamped n (negsuc m) = 0

-- the place that a number tells, from the end where it is negative (23.1.3.28, 2 to 5)
abbrev pub relative : ℕ → ℤ → ℕ
relative n (pos m) = min m n
relative n (negsuc m) = n - suc m
