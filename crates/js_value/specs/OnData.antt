-- What the built-in functions that look at no object give, for `this` and their arguments: all of these are primitive values, or
-- references, which tell nothing. The steps are those of ECMA-262, in its order; a number is whole and in range, or refused.
use Rattle.std.specs.Prelude.{ℕ, zero, suc, ◌+◌, ◌-◌, ◌/◌, ◌%◌, ◌==◌, min, max, Bool, true, false, ◌&&◌, List, [], ◌∷◌, ◌++◌, map, length, take, drop, codes, nat_le, nat_lt, if◌then◌else◌, ℤ, pos, negsuc, int_lt, unsigned_abs, Some, Ok}
use Rattle.std.specs.List.{starts_with, ends_with, repeat}
use Rattle.js_value.specs.declared.value.Primitive.{Primitive}
use Rattle.js_value.specs.declared.value.Primitive.TheVariants as primitive
use Rattle.js_value.specs.declared.value.Kind.TheVariants as kind
use Rattle.js_value.specs.declared.built_in.OnData as on_data
use Rattle.js_value.specs.declared.built_in.OnData.TheVariants.{Print, FromCharCode, CharAt, CharCodeAt, EndsWith, TextIncludes, TextIndexOf, Repeat, TextSlice, Split, StartsWith, Substring, TextToString, Trim, NumberToString, BooleanToString, Abs, Floor, Max, Min}
use Rattle.js_value.specs.declared.deed.Complaint.TheVariants.{NoProperties, BadCount, BadRadix, WrongReceiver}
use Rattle.js_value.specs.declared.deed.Datum.{Datum}
use Rattle.js_value.specs.declared.deed.Datum.TheVariants as datum
use Rattle.js_value.specs.Numbers.{in_range, trimmed}
use Rattle.js_value.specs.Arguments.{Or, ◌>>=◌, throw, refuse, Seen, argument, to_number, to_text, number_or, clamped, relative}

-- What is given

abbrev pub one : Primitive → Or Datum
one p = Ok (datum.One p)

abbrev pub units : List ℕ → Or Datum
units us = one (primitive.Text us)

abbrev pub truth : Bool → Or Datum
truth b = one (primitive.Boolean b)

-- a number, where it is in range
abbrev pub ranged_number : ℤ → Or Primitive
ranged_number n = if in_range n then Ok (primitive.Number n) else refuse kind.Number

abbrev pub number : ℤ → Or Datum
number n = ranged_number n >>= one

-- `this`

-- 7.2.1 and 7.1.17, RequireObjectCoercible and ToString: undefined and null have no properties
abbrev pub this_text : Seen → Or (List ℕ)
this_text (Some primitive.Undefined) = throw NoProperties
this_text (Some primitive.Null) = throw NoProperties
this_text x = to_text x

-- 22.1.3, ThisStringValue
abbrev pub text_receiver : Seen → Or (List ℕ)
text_receiver (Some (primitive.Text us)) = Ok us
text_receiver x = throw WrongReceiver

-- 21.1.3, ThisNumberValue
abbrev pub number_receiver : Seen → Or ℤ
number_receiver (Some (primitive.Number n)) = Ok n
number_receiver x = throw WrongReceiver

-- 20.3.3, ThisBooleanValue
abbrev pub boolean_receiver : Seen → Or Bool
boolean_receiver (Some (primitive.Boolean b)) = Ok b
boolean_receiver x = throw WrongReceiver

-- print

-- the texts of values after the first, each after a separator
abbrev pub joined_after : List ℕ → List ℕ → List Seen → Or (List ℕ)
joined_after before separator [] = Ok before
joined_after before separator (x ∷ xs) = to_text x >>= λ us. joined_after (before ++ separator ++ us) separator xs

-- the texts of values with a separator between two
abbrev pub joined : List ℕ → List Seen → Or (List ℕ)
joined separator [] = Ok []
joined separator (x ∷ xs) = to_text x >>= λ us. joined_after us separator xs

-- ToString of each argument, with a space between two
abbrev pub print : List Seen → Or Datum
print arguments = joined (codes " ") arguments >>= λ us. Ok (datum.Line us)

-- Booleans (20.3.3)

-- 20.3.3.2
abbrev pub boolean_to_string : Seen → Or Datum
boolean_to_string this = boolean_receiver this >>= λ b. units (if b then codes "true" else codes "false")

-- Numbers (21.1.3)

-- the digit of a value below 36
abbrev pub digit_unit : ℕ → ℕ
digit_unit d = if nat_lt d 10 then d + 48 else d + 87

-- the digits of a number before others; there are no more than the first number says
abbrev pub digits_before : ℕ → ℕ → ℕ → List ℕ → List ℕ
digits_before zero radix n after = digit_unit (n % radix) ∷ after
digits_before (suc k) radix n after =
    if nat_lt n radix then digit_unit (n % radix) ∷ after else digits_before k radix (n / radix) (digit_unit (n % radix) ∷ after)

-- 6.1.6.1.20, on whole numbers, which are below 2^64
abbrev pub signed_digits : ℕ → ℤ → List ℕ
signed_digits radix n =
    if int_lt n (pos 0) then codes "-" ++ digits_before 64 radix (unsigned_abs n) [] else digits_before 64 radix (unsigned_abs n) []

-- a radix from 2 to 36
abbrev pub radix_of : ℤ → Or ℕ
radix_of (pos r) = if nat_le 2 r && nat_le r 36 then Ok r else throw BadRadix
radix_of (negsuc r) = throw BadRadix

abbrev pub with_radix : ℤ → ℤ → Or Datum
with_radix n r = radix_of r >>= λ radix. units (signed_digits radix n)

-- 21.1.3.6
abbrev pub number_to_string : Seen → List Seen → Or Datum
number_to_string this arguments = number_receiver this >>= λ n. number_or (pos 10) (argument arguments 0) >>= λ r. with_radix n r

-- Math (21.3.2)

-- 21.3.2.1
abbrev pub abs : List Seen → Or Datum
abs arguments = to_number (argument arguments 0) >>= λ n. number (pos (unsigned_abs n))

-- 21.3.2.16: every number is whole
abbrev pub floor : List Seen → Or Datum
floor arguments = to_number (argument arguments 0) >>= number

abbrev pub greater : ℤ → ℤ → ℤ
greater m n = if int_lt m n then n else m

-- the greatest of a number and more
abbrev pub greatest : ℤ → List Seen → Or ℤ
greatest m [] = Ok m
greatest m (x ∷ xs) = to_number x >>= λ n. greatest (greater m n) xs

abbrev pub greatest_of : ℤ → List Seen → Or Datum
greatest_of m xs = greatest m xs >>= λ n. number n

-- 21.3.2.24: of nothing it is no number of this language
abbrev pub max_of : List Seen → Or Datum
max_of [] = refuse kind.Number
max_of (x ∷ xs) = to_number x >>= λ m. greatest_of m xs

abbrev pub lesser : ℤ → ℤ → ℤ
lesser m n = if int_lt n m then n else m

-- the least of a number and more
abbrev pub least : ℤ → List Seen → Or ℤ
least m [] = Ok m
least m (x ∷ xs) = to_number x >>= λ n. least (lesser m n) xs

abbrev pub least_of : ℤ → List Seen → Or Datum
least_of m xs = least m xs >>= λ n. number n

-- 21.3.2.25
abbrev pub min_of : List Seen → Or Datum
min_of [] = refuse kind.Number
min_of (x ∷ xs) = to_number x >>= λ m. least_of m xs

-- Texts (22.1)

-- 7.1.8, ToUint16
abbrev pub unit_of : ℤ → ℕ
unit_of (pos n) = n % 65536
unit_of (negsuc n) = 65535 - n % 65536

abbrev pub units_of : List ℕ → List Seen → Or (List ℕ)
units_of before [] = Ok before
units_of before (x ∷ xs) = to_number x >>= λ n. units_of (before ++ unit_of n ∷ []) xs

-- 22.1.2.1
abbrev pub from_char_code : List Seen → Or Datum
from_char_code arguments = units_of [] arguments >>= units

-- the units from one place up to another (6.1.4, substring)
abbrev pub between : ℕ → ℕ → List ℕ → List ℕ
between from to us = take (to - from) (drop from us)

-- a text begins with another
abbrev pub begins : List ℕ → List ℕ → Bool
begins us search = starts_with ◌==◌ us search

-- 6.1.4.1, StringIndexOf, in what is left of a text from a place on: where another stands first in it, and -1 where it doesn't
abbrev pub place_in : ℕ → List ℕ → List ℕ → ℤ
place_in n search [] = if begins [] search then pos n else negsuc 0
place_in n search (u ∷ us) = if begins (u ∷ us) search then pos n else place_in (n + 1) search us

-- the same in a text, from a place on that is taken into its bounds
abbrev pub index_in : List ℕ → List ℕ → ℤ → ℤ
index_in us search n = place_in (clamped (length us) n) search (drop (clamped (length us) n) us)

abbrev pub is_found : ℤ → Bool
is_found (pos n) = true
is_found (negsuc n) = false

-- the text of the unit at a place, empty where there is none
abbrev pub unit_at : List ℕ → ℤ → List ℕ
unit_at us (pos n) = take 1 (drop n us)
unit_at us (negsuc n) = []

-- 22.1.3.2
abbrev pub char_at : Seen → List Seen → Or Datum
char_at this arguments = this_text this >>= λ us. number_or (pos 0) (argument arguments 0) >>= λ n. units (unit_at us n)

-- the number of the first unit; where there is none, it is no number of this language
abbrev pub code_of : List ℕ → Or Datum
code_of [] = refuse kind.Number
code_of (u ∷ us) = one (primitive.Number (pos u))

-- 22.1.3.3
abbrev pub char_code_at : Seen → List Seen → Or Datum
char_code_at this arguments = this_text this >>= λ us. number_or (pos 0) (argument arguments 0) >>= λ n. code_of (unit_at us n)

-- what is looked for in a text is no regular expression (7.2.8), as references are not converted

-- 22.1.3.7
abbrev pub text_ends_with : Seen → List Seen → Or Datum
text_ends_with this arguments =
    this_text this >>= λ us. to_text (argument arguments 0) >>= λ search. number_or (pos (length us)) (argument arguments 1) >>= λ n.
    truth (ends_with ◌==◌ (take (clamped (length us) n) us) search)

-- 22.1.3.8
abbrev pub text_includes : Seen → List Seen → Or Datum
text_includes this arguments =
    this_text this >>= λ us. to_text (argument arguments 0) >>= λ search. number_or (pos 0) (argument arguments 1) >>= λ n.
    truth (is_found (index_in us search n))

-- 22.1.3.9
abbrev pub text_index_of : Seen → List Seen → Or Datum
text_index_of this arguments =
    this_text this >>= λ us. to_text (argument arguments 0) >>= λ search. number_or (pos 0) (argument arguments 1) >>= λ n.
    one (primitive.Number (index_in us search n))

-- 22.1.3.24
abbrev pub text_starts_with : Seen → List Seen → Or Datum
text_starts_with this arguments =
    this_text this >>= λ us. to_text (argument arguments 0) >>= λ search. number_or (pos 0) (argument arguments 1) >>= λ n.
    truth (begins (drop (clamped (length us) n) us) search)

-- 22.1.3.18, from 3 on
abbrev pub repeated : List ℕ → ℤ → Or Datum
repeated us (pos n) = units (repeat n us)
repeated us (negsuc n) = throw BadCount

-- 22.1.3.18
abbrev pub text_repeat : Seen → List Seen → Or Datum
text_repeat this arguments = this_text this >>= λ us. number_or (pos 0) (argument arguments 0) >>= λ n. repeated us n

-- 22.1.3.22
abbrev pub text_slice : Seen → List Seen → Or Datum
text_slice this arguments =
    this_text this >>= λ us. number_or (pos 0) (argument arguments 0) >>= λ from. number_or (pos (length us)) (argument arguments 1) >>= λ to.
    units (between (relative (length us) from) (relative (length us) to) us)

-- 22.1.3.25, from 6 on: the lesser place is the start
abbrev pub sorted_between : ℕ → ℕ → List ℕ → List ℕ
sorted_between from to us = between (min from to) (max from to) us

-- 22.1.3.25
abbrev pub substring : Seen → List Seen → Or Datum
substring this arguments =
    this_text this >>= λ us. number_or (pos 0) (argument arguments 0) >>= λ from. number_or (pos (length us)) (argument arguments 1) >>= λ to.
    units (sorted_between (clamped (length us) from) (clamped (length us) to) us)

-- the units of a text, each as a text
abbrev pub singles : List ℕ → List (List ℕ)
singles us = map (λ u. u ∷ []) us

-- the parts of a text round a separator that isn't empty: what stands before the first separator, and the others; so many
-- units are passed over
abbrev pub parts_after : ℕ → List ℕ → List ℕ → List ℕ → List (List ℕ)
parts_after skip before separator [] = before ∷ []
parts_after (suc k) before separator (u ∷ us) = parts_after k before separator us
parts_after zero before separator (u ∷ us) =
    if begins (u ∷ us) separator then before ∷ parts_after (length separator - 1) [] separator us
    else parts_after zero (before ++ u ∷ []) separator us

abbrev pub parts : List ℕ → List ℕ → List (List ℕ)
parts [] us = singles us
parts (s ∷ separator) us = parts_after 0 [] (s ∷ separator) us

-- 22.1.3.23, from 7 on: a separator that is undefined is none
abbrev pub split_by : Seen → List ℕ → Or Datum
split_by (Some primitive.Undefined) us = Ok (datum.Texts (us ∷ []))
split_by x us = to_text x >>= λ separator. Ok (datum.Texts (parts separator us))

-- 22.1.3.23; a limit is passed over
abbrev pub split : Seen → List Seen → Or Datum
split this arguments = this_text this >>= λ us. split_by (argument arguments 0) us

-- 22.1.3.29
abbrev pub text_to_string : Seen → Or Datum
text_to_string this = text_receiver this >>= units

-- 22.1.3.32
abbrev pub trim : Seen → Or Datum
trim this = this_text this >>= λ us. units (trimmed us)

-- All

abbrev pub of_data : on_data.OnData → Seen → List Seen → Or Datum
of_data Print this arguments = print arguments
of_data FromCharCode this arguments = from_char_code arguments
of_data CharAt this arguments = char_at this arguments
of_data CharCodeAt this arguments = char_code_at this arguments
of_data EndsWith this arguments = text_ends_with this arguments
of_data TextIncludes this arguments = text_includes this arguments
of_data TextIndexOf this arguments = text_index_of this arguments
of_data Repeat this arguments = text_repeat this arguments
of_data TextSlice this arguments = text_slice this arguments
of_data Split this arguments = split this arguments
of_data StartsWith this arguments = text_starts_with this arguments
of_data Substring this arguments = substring this arguments
of_data TextToString this arguments = text_to_string this
of_data Trim this arguments = trim this
of_data NumberToString this arguments = number_to_string this arguments
of_data BooleanToString this arguments = boolean_to_string this
of_data Abs this arguments = abs arguments
of_data Floor this arguments = floor arguments
of_data Max this arguments = max_of arguments
of_data Min this arguments = min_of arguments
