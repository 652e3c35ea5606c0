-- Calls of the built-in functions that look at no object, and what ECMA-262 has them answer; Node 20 answers the same, but that where
-- it gives NaN the number is refused, and that complaints have messages of its own.
use Rattle.std.specs.Prelude.{◌≡◌, ℕ, Bool, true, false, List, [], ◌∷◌, map, codes, ℤ, pos, negsuc, Some, None, Ok}
use Rattle.js_value.specs.declared.value.Primitive.TheVariants as P
use Rattle.js_value.specs.declared.value.Kind.TheVariants.{Number, Convert}
use Rattle.js_value.specs.declared.built_in.OnData.{OnData}
use Rattle.js_value.specs.declared.built_in.OnData.TheVariants.{Print, FromCharCode, CharAt, CharCodeAt, EndsWith, TextIncludes, TextIndexOf, Repeat, TextSlice, Split, StartsWith, Substring, TextToString, Trim, NumberToString, BooleanToString, Abs, Floor, Max, Min}
use Rattle.js_value.specs.declared.deed.Complaint.TheVariants.{NoProperties, BadCount, BadRadix, WrongReceiver}
use Rattle.js_value.specs.declared.deed.Datum.{Datum}
use Rattle.js_value.specs.declared.deed.Datum.TheVariants as D
use Rattle.js_value.specs.Arguments.{Or, throw, refuse, Seen}
use Rattle.js_value.specs.OnData.{of_data}

-- a function, `this`, the arguments, and the answer
pub record Row : Type 0 where
  pub function : OnData
  pub this : Seen
  pub arguments : List Seen
  pub answer : Or Datum

abbrev row : OnData → Seen → List Seen → Or Datum → Row
row f this arguments answer = record { function = f; this = this; arguments = arguments; answer = answer }

abbrev pub Answer : List Row → Type 0
Answer rows = map (λ r. of_data r.function r.this r.arguments) rows ≡ map (λ r. r.answer) rows

-- values; a reference tells nothing

abbrev undefined : Seen
undefined = Some P.Undefined

abbrev null : Seen
null = Some P.Null

abbrev boolean : Bool → Seen
boolean b = Some (P.Boolean b)

abbrev num : ℕ → Seen
num n = Some (P.Number (pos n))

-- a number below 0, by its magnitude less 1
abbrev below : ℕ → Seen
below n = Some (P.Number (negsuc n))

abbrev txt : List ℕ → Seen
txt units = Some (P.Text units)

abbrev reference : Seen
reference = None

abbrev gives : List ℕ → Or Datum
gives units = Ok (D.One (P.Text units))

abbrev number : ℤ → Or Datum
number n = Ok (D.One (P.Number n))

abbrev is : Bool → Or Datum
is b = Ok (D.One (P.Boolean b))

abbrev abc : Seen
abc = txt (codes "abc")

abbrev abcde : Seen
abcde = txt (codes "abcde")

-- print, and texts from numbers
abbrev pub Made : Type 0
Made = Answer (
    row Print undefined [] (Ok (D.Line [])) ∷
    row Print undefined (num 1 ∷ txt (codes "a") ∷ undefined ∷ null ∷ boolean true ∷ []) (Ok (D.Line (codes "1 a undefined null true"))) ∷
    row Print undefined (num 1 ∷ reference ∷ []) (refuse Convert) ∷
    row FromCharCode undefined [] (gives []) ∷
    row FromCharCode reference (num 72 ∷ txt (codes "105") ∷ []) (gives (codes "Hi")) ∷
    row FromCharCode undefined (num 65601 ∷ below 0 ∷ null ∷ []) (gives (65 ∷ 65535 ∷ 0 ∷ [])) ∷
    row FromCharCode undefined (undefined ∷ reference ∷ []) (refuse Number) ∷
    row FromCharCode undefined (num 1 ∷ reference ∷ undefined ∷ []) (refuse Convert) ∷
    [])

abbrev pub UnitsAt : Type 0
UnitsAt = Answer (
    row CharAt abc [] (gives (codes "a")) ∷
    row CharAt abc (txt (codes "1") ∷ []) (gives (codes "b")) ∷
    row CharAt abc (below 0 ∷ []) (gives []) ∷
    row CharAt abc (num 3 ∷ []) (gives []) ∷
    row CharAt (num 120) (num 1 ∷ num 9 ∷ []) (gives (codes "2")) ∷
    row CharAt null (reference ∷ []) (throw NoProperties) ∷
    row CharAt reference (undefined ∷ []) (refuse Convert) ∷
    row CharAt abc (txt (codes "x") ∷ []) (refuse Number) ∷
    row CharCodeAt abc [] (number (pos 97)) ∷
    row CharCodeAt abc (num 2 ∷ []) (number (pos 99)) ∷
    row CharCodeAt abc (num 3 ∷ []) (refuse Number) ∷
    row CharCodeAt abc (below 0 ∷ []) (refuse Number) ∷
    row CharCodeAt (boolean true) (num 3 ∷ []) (number (pos 101)) ∷
    row CharCodeAt undefined [] (throw NoProperties) ∷
    [])

abbrev pub Searches : Type 0
Searches = Answer (
    row EndsWith abc (txt (codes "bc") ∷ []) (is true) ∷
    row EndsWith abc (txt (codes "ab") ∷ num 2 ∷ []) (is true) ∷
    row EndsWith abc (txt [] ∷ below 4 ∷ []) (is true) ∷
    row EndsWith abc (abc ∷ num 2 ∷ []) (is false) ∷
    row EndsWith abc (txt (codes "c") ∷ num 99 ∷ []) (is true) ∷
    row EndsWith (txt (codes "undefined")) [] (is true) ∷
    row EndsWith abc (reference ∷ undefined ∷ []) (refuse Convert) ∷
    row TextIncludes abc (txt (codes "b") ∷ []) (is true) ∷
    row TextIncludes abc (txt (codes "a") ∷ num 1 ∷ []) (is false) ∷
    row TextIncludes abc (txt [] ∷ num 9 ∷ []) (is true) ∷
    row TextIncludes undefined (txt (codes "a") ∷ []) (throw NoProperties) ∷
    row TextIncludes abc (reference ∷ txt (codes "x") ∷ []) (refuse Convert) ∷
    row TextIndexOf (txt (codes "abcabc")) (txt (codes "ca") ∷ []) (number (pos 2)) ∷
    row TextIndexOf (txt (codes "abcabc")) (txt (codes "a") ∷ num 1 ∷ []) (number (pos 3)) ∷
    row TextIndexOf abc (txt [] ∷ num 9 ∷ []) (number (pos 3)) ∷
    row TextIndexOf abc (txt (codes "d") ∷ []) (number (negsuc 0)) ∷
    row TextIndexOf abc (txt (codes "a") ∷ below 2 ∷ []) (number (pos 0)) ∷
    row TextIndexOf (txt (codes "an undefined")) [] (number (pos 3)) ∷
    row TextIndexOf abc (txt (codes "a") ∷ txt (codes "x") ∷ []) (refuse Number) ∷
    row StartsWith abc (txt (codes "ab") ∷ []) (is true) ∷
    row StartsWith abc (txt (codes "bc") ∷ num 1 ∷ []) (is true) ∷
    row StartsWith abc (txt [] ∷ num 9 ∷ []) (is true) ∷
    row StartsWith abc (txt (codes "c") ∷ below 0 ∷ []) (is false) ∷
    row StartsWith abc (txt (codes "cd") ∷ num 2 ∷ []) (is false) ∷
    row StartsWith null (reference ∷ []) (throw NoProperties) ∷
    [])

abbrev pub Parts : Type 0
Parts = Answer (
    row Repeat (txt (codes "ab")) (num 3 ∷ []) (gives (codes "ababab")) ∷
    row Repeat (txt (codes "ab")) [] (gives []) ∷
    row Repeat (txt (codes "ab")) (below 0 ∷ []) (throw BadCount) ∷
    row Repeat (boolean false) (txt (codes "2") ∷ []) (gives (codes "falsefalse")) ∷
    row Repeat null (below 0 ∷ []) (throw NoProperties) ∷
    row TextSlice abcde (num 1 ∷ num 3 ∷ []) (gives (codes "bc")) ∷
    row TextSlice abcde (below 2 ∷ []) (gives (codes "cde")) ∷
    row TextSlice abcde (num 3 ∷ num 1 ∷ []) (gives []) ∷
    row TextSlice abcde (below 8 ∷ below 2 ∷ []) (gives (codes "ab")) ∷
    row TextSlice abcde [] (gives (codes "abcde")) ∷
    row TextSlice abcde (undefined ∷ num 99 ∷ num 1 ∷ []) (gives (codes "abcde")) ∷
    row TextSlice abcde (txt (codes "x") ∷ reference ∷ []) (refuse Number) ∷
    row Substring abcde (num 3 ∷ num 1 ∷ []) (gives (codes "bc")) ∷
    row Substring abcde (below 1 ∷ num 2 ∷ []) (gives (codes "ab")) ∷
    row Substring abcde (num 2 ∷ []) (gives (codes "cde")) ∷
    row Substring abcde (num 9 ∷ undefined ∷ []) (gives []) ∷
    row Substring (num 12345) (txt (codes "1") ∷ txt (codes "3") ∷ []) (gives (codes "23")) ∷
    row Substring undefined [] (throw NoProperties) ∷
    row Split (txt (codes "a,b,,c")) (txt (codes ",") ∷ []) (Ok (D.Texts (codes "a" ∷ codes "b" ∷ [] ∷ codes "c" ∷ []))) ∷
    row Split abc (txt [] ∷ num 2 ∷ []) (Ok (D.Texts (codes "a" ∷ codes "b" ∷ codes "c" ∷ []))) ∷
    row Split abc [] (Ok (D.Texts (codes "abc" ∷ []))) ∷
    row Split (txt []) (txt (codes ",") ∷ []) (Ok (D.Texts ([] ∷ []))) ∷
    row Split (txt []) (txt [] ∷ []) (Ok (D.Texts [])) ∷
    row Split (txt (codes "aaaa")) (txt (codes "aa") ∷ []) (Ok (D.Texts ([] ∷ [] ∷ [] ∷ []))) ∷
    row Split (txt (codes "anullb")) (null ∷ []) (Ok (D.Texts (codes "a" ∷ codes "b" ∷ []))) ∷
    row Split null (reference ∷ []) (throw NoProperties) ∷
    row Split abc (reference ∷ []) (refuse Convert) ∷
    row TextToString (txt (codes "a")) (num 1 ∷ []) (gives (codes "a")) ∷
    row TextToString (num 1) [] (throw WrongReceiver) ∷
    row TextToString null [] (throw WrongReceiver) ∷
    row TextToString reference [] (throw WrongReceiver) ∷
    row Trim (txt (9 ∷ 160 ∷ 97 ∷ 32 ∷ 98 ∷ 10 ∷ 8233 ∷ [])) [] (gives (codes "a b")) ∷
    row Trim (below 4) [] (gives (codes "-5")) ∷
    row Trim (txt (codes "  ")) (reference ∷ []) (gives []) ∷
    row Trim null [] (throw NoProperties) ∷
    row Trim reference [] (refuse Convert) ∷
    [])

abbrev pub Numerals : Type 0
Numerals = Answer (
    row NumberToString (num 255) (num 16 ∷ []) (gives (codes "ff")) ∷
    row NumberToString (below 254) (num 36 ∷ []) (gives (codes "-73")) ∷
    row NumberToString (num 0) (num 2 ∷ []) (gives (codes "0")) ∷
    row NumberToString (num 10) (undefined ∷ []) (gives (codes "10")) ∷
    row NumberToString (num 10) (num 1 ∷ []) (throw BadRadix) ∷
    row NumberToString (num 10) (num 37 ∷ []) (throw BadRadix) ∷
    row NumberToString (num 10) (below 1 ∷ []) (throw BadRadix) ∷
    row NumberToString (num 10) (reference ∷ []) (refuse Convert) ∷
    row NumberToString (txt (codes "1")) (num 1 ∷ []) (throw WrongReceiver) ∷
    row NumberToString (num 9007199254740991) (num 2 ∷ []) (gives (codes "11111111111111111111111111111111111111111111111111111")) ∷
    row BooleanToString (boolean true) [] (gives (codes "true")) ∷
    row BooleanToString (boolean false) (num 2 ∷ []) (gives (codes "false")) ∷
    row BooleanToString (num 1) [] (throw WrongReceiver) ∷
    [])

abbrev pub Mathematics : Type 0
Mathematics = Answer (
    row Abs undefined (below 4 ∷ []) (number (pos 5)) ∷
    row Abs undefined (txt (codes "7") ∷ reference ∷ []) (number (pos 7)) ∷
    row Abs undefined (null ∷ []) (number (pos 0)) ∷
    row Abs undefined [] (refuse Number) ∷
    row Abs undefined (reference ∷ []) (refuse Convert) ∷
    row Floor undefined (below 4 ∷ []) (number (negsuc 4)) ∷
    row Floor null (txt (codes "12") ∷ []) (number (pos 12)) ∷
    row Floor undefined [] (refuse Number) ∷
    row Max undefined (num 1 ∷ txt (codes "3") ∷ num 2 ∷ []) (number (pos 3)) ∷
    row Max undefined (below 0 ∷ []) (number (negsuc 0)) ∷
    row Max undefined [] (refuse Number) ∷
    row Max undefined (num 1 ∷ undefined ∷ reference ∷ []) (refuse Number) ∷
    row Max undefined (num 1 ∷ reference ∷ undefined ∷ []) (refuse Convert) ∷
    row Min undefined (num 1 ∷ txt (codes "-3") ∷ num 2 ∷ []) (number (negsuc 2)) ∷
    row Min undefined (null ∷ num 1 ∷ []) (number (pos 0)) ∷
    row Min undefined [] (refuse Number) ∷
    [])
