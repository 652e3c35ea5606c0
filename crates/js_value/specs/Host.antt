-- What a built-in function does, to `this` and its arguments. It looks at what it needs, and then does one deed, or complains.
use Rattle.std.specs.Prelude.{ℕ, ◌+◌, ◌-◌, ◌*◌, ◌==◌, Bool, true, false, ◌&&◌, ◌||◌, List, [], ◌∷◌, ◌++◌, map, option_map, length, codes, encode_utf8_all, nat_le, nat_lt, if◌then◌else◌, Option, Some, None, Ok, Err, slice_get}
use Rattle.js_value.specs.declared.value.Value.{Value}
use Rattle.js_value.specs.declared.value.Value.TheVariants as value
use Rattle.js_value.specs.declared.value.Primitive.TheVariants as primitive
use Rattle.js_value.specs.declared.value.Kind.{Kind}
use Rattle.js_value.specs.declared.value.Kind.TheVariants as kind
use Rattle.js_value.specs.declared.error_kind.ErrorKind.{ErrorKind}
use Rattle.js_value.specs.declared.error_kind.ErrorKind.TheVariants as error
use Rattle.js_value.specs.declared.built_in.BuiltIn.{BuiltIn}
use Rattle.js_value.specs.declared.built_in.BuiltIn.TheVariants.{OnData, OnObjects, Constructor, Require}
use Rattle.js_value.specs.declared.built_in.Place.TheVariants as place
use Rattle.js_value.specs.declared.built_in.TheConstants.{FUNCTIONS}
use Rattle.js_value.specs.declared.deed.Complaint.{Complaint}
use Rattle.js_value.specs.declared.deed.Complaint.TheVariants.{NotDefined, NotInitialised, NotAssignable, NotAConstructor, NotAFunction, NoProperties, NotAnObject, NotAnArray, NotAText, NotIterable, ReadOnly, BadLength, BadCount, BadRadix, WrongReceiver, NoSuchFile}
use Rattle.js_value.specs.declared.deed.Halt.{Halt}
use Rattle.js_value.specs.declared.deed.Halt.TheVariants.{Throw, Refuse, Memory}
use Rattle.js_value.specs.declared.deed.Datum.{Datum}
use Rattle.js_value.specs.declared.deed.Datum.TheVariants as datum
use Rattle.js_value.specs.declared.deed.Deed.{Deed}
use Rattle.js_value.specs.declared.deed.Deed.TheVariants as deed
use Rattle.js_value.specs.State as state
use Rattle.js_value.specs.State.{Heap}
use Rattle.js_value.specs.Objects.{next_object, count_value, elements_of, new_object, new_array, define, freeze, append, cut, with_elements}
use Rattle.js_value.specs.Realm.{number_of, error_prototype, object, text, hidden, rows}
pub use Rattle.js_value.specs.Arguments.{Or, ◌>>=◌, throw, refuse, Seen, seen, to_number, to_text}
pub use Rattle.js_value.specs.OnData.{joined_after, joined, print, of_data}
use Rattle.js_value.specs.OnObjects.{value_at, of_objects}
use Rattle.js_value.specs.Constructors.{of_constructor}
use Rattle.js_value.specs.Copying.{copy_values}

-- Texts

-- a unit that begins a surrogate pair, and one that ends it (6.1.4)
abbrev pub leads : ℕ → Bool
leads unit = nat_le 0xD800 unit && nat_lt unit 0xDC00

abbrev pub trails : ℕ → Bool
trails unit = nat_le 0xDC00 unit && nat_lt unit 0xE000

-- the code point of a unit by itself: U+FFFD for a lone surrogate
abbrev pub code_point : ℕ → ℕ
code_point unit = if leads unit || trails unit then 0xFFFD else unit

-- 11.1.3, UTF16SurrogatePairToCodePoint
abbrev pub pair_code_point : ℕ → ℕ → ℕ
pair_code_point lead trail = (lead - 0xD800) * 0x400 + (trail - 0xDC00) + 0x10000

-- 11.1.5, StringToCodePoints
abbrev pub code_points : List ℕ → List ℕ
code_points [] = []
code_points (unit ∷ []) = code_point unit ∷ []
code_points (unit ∷ next ∷ units) =
    if leads unit && trails next then pair_code_point unit next ∷ code_points units
    else code_point unit ∷ code_points (next ∷ units)

-- a text in UTF-8
abbrev pub utf8_of : List ℕ → List ℕ
utf8_of units = encode_utf8_all (code_points units)

-- All

-- what is done for what a function on primitive values gives
abbrev pub deed_of : Datum → Deed
deed_of (datum.One p) = deed.Give (value.Primitive p)
deed_of (datum.Texts ts) = deed.MakeArray (map text ts)
deed_of (datum.Line us) = deed.Line us

-- `require` of a text: the file is looked for by who calls
abbrev pub require : Value → Or Deed
require (value.Primitive (primitive.Text us)) = Ok (deed.Require us)
require _ = throw NotAText

-- only a constructor is constructed
abbrev pub called : Bool → Or Deed → Or Deed
called true d = throw NotAConstructor
called false d = d

abbrev pub done_by : BuiltIn → Bool → Value → List Value → Heap → Or Deed
done_by (OnData f) constructing this arguments h = called constructing (of_data f (seen this) (map seen arguments) >>= λ d. Ok (deed_of d))
done_by (OnObjects f) constructing this arguments h = called constructing (of_objects f this arguments h)
done_by (Constructor f) constructing this arguments h = of_constructor f constructing arguments
done_by Require constructing this arguments h = called constructing (require (value_at arguments 0))

-- Complaints

-- 20.5.5: what is thrown is a TypeError but where a name, a number or a file is wrong
abbrev pub error_of : Complaint → ErrorKind
error_of NotDefined = error.ReferenceError
error_of NotInitialised = error.ReferenceError
error_of BadLength = error.RangeError
error_of BadCount = error.RangeError
error_of BadRadix = error.RangeError
error_of NoSuchFile = error.Error
error_of _ = error.TypeError

abbrev pub message_of : Complaint → List ℕ
message_of NotDefined = codes "not defined"
message_of NotInitialised = codes "not initialised"
message_of NotAssignable = codes "constant"
message_of NotAConstructor = codes "not a constructor"
message_of NotAFunction = codes "not a function"
message_of NoProperties = codes "no properties"
message_of NotAnObject = codes "not an object"
message_of NotAnArray = codes "not an array"
message_of NotAText = codes "not a text"
message_of NotIterable = codes "not iterable"
message_of ReadOnly = codes "read only"
message_of BadLength = codes "bad length"
message_of BadCount = codes "bad count"
message_of BadRadix = codes "bad radix"
message_of WrongReceiver = []
message_of NoSuchFile = codes "no such file"

-- Deeds

abbrev pub error_object : ErrorKind → Heap → Heap
error_object k h = new_object state.Error (Some (number_of (error_prototype k))) h

-- 20.5.1.1: an error, with a message where there is one
abbrev pub error_made : ErrorKind → Option (List ℕ) → Heap → Heap
error_made k None h = error_object k h
error_made k (Some message) h = define (next_object h) (hidden (codes "message") (text message)) (error_object k h)

-- what a deed makes of the heap
abbrev pub after_deed : Deed → Heap → Heap
after_deed (deed.Give v) h = h
after_deed (deed.Line us) h = h
after_deed (deed.MakeArray vs) h = new_array (number_of place.ArrayPrototype) vs h
after_deed (deed.MakeObject parent) h = new_object state.Plain (option_map (λ o. o.index) parent) h
after_deed (deed.MakeError k message) h = error_made k message h
after_deed (deed.Append o vs) h = append o.index vs h
after_deed (deed.Cut o n v) h = cut o.index n h
after_deed (deed.Replace o vs v) h = with_elements o.index vs h
after_deed (deed.Freeze o) h = freeze o.index h
after_deed (deed.Copy o vs) h = (copy_values o.index vs h).heap
after_deed (deed.Enter f this vs) h = h
after_deed (deed.Require us) h = h

-- a value, an error that is thrown, a refusal, bytes for the output with the value undefined, a call that takes the place of
-- this one, or a text that is required
pub data Native : Type 0 where
  Answers : (v : Value) → Native
  Throws : (kind : ErrorKind) → (message : List ℕ) → Native
  Refuses : (k : Kind) → Native
  Writes : (bytes : List ℕ) → Native
  Calls : (function this : Value) → (arguments : List Value) → Native
  Requires : (text : List ℕ) → Native

-- what it complains of; a definition never wants for memory
abbrev pub halted_by : Halt → Native
halted_by (Throw c) = Throws (error_of c) (message_of c)
halted_by (Refuse k) = Refuses k
halted_by Memory = Refuses kind.Number

-- a value, where nothing stopped the deed
abbrev pub given_or : Option Halt → Value → Native
given_or None v = Answers v
given_or (Some halt) v = halted_by halt

-- what a deed gives
abbrev pub given_by : Deed → Heap → Native
given_by (deed.Give v) h = Answers v
given_by (deed.Line us) h = Writes (utf8_of us ++ codes "\n")
given_by (deed.MakeArray vs) h = Answers (object (next_object h))
given_by (deed.MakeObject parent) h = Answers (object (next_object h))
given_by (deed.MakeError k message) h = Answers (object (next_object h))
given_by (deed.Append o vs) h = Answers (count_value (length (elements_of h o.index) + length vs))
given_by (deed.Cut o n v) h = Answers v
given_by (deed.Replace o vs v) h = Answers v
given_by (deed.Freeze o) h = Answers (value.Object o)
given_by (deed.Copy o vs) h = given_or (copy_values o.index vs h).halt (value.Object o)
given_by (deed.Enter f this vs) h = Calls f this vs
given_by (deed.Require us) h = Requires us

abbrev pub native_by : Or Deed → Heap → Native
native_by (Ok d) h = given_by d h
native_by (Err halt) h = halted_by halt

abbrev pub heap_by : Or Deed → Heap → Heap
heap_by (Ok d) h = after_deed d h
heap_by (Err halt) h = h

-- the function of a number: one of the table, or `require`
abbrev pub required_at : ℕ → Option BuiltIn
required_at n = if n == FUNCTIONS then Some Require else None

abbrev pub listed_or : Option BuiltIn → ℕ → Option BuiltIn
listed_or (Some f) n = Some f
listed_or None n = required_at n

abbrev pub built_in : ℕ → Option BuiltIn
built_in n = listed_or (option_map (λ row. row.function) (slice_get rows n)) n

-- a number that no built-in function has is that of no function
abbrev pub done_of : Option BuiltIn → Bool → Value → List Value → Heap → Or Deed
done_of None constructing this arguments h = throw NotAFunction
done_of (Some f) constructing this arguments h = done_by f constructing this arguments h

abbrev pub native_of : ℕ → Bool → Value → List Value → Heap → Native
native_of n constructing this arguments h = native_by (done_of (built_in n) constructing this arguments h) h

-- what it does to the heap
abbrev pub native_heap : ℕ → Bool → Value → List Value → Heap → Heap
native_heap n constructing this arguments h = heap_by (done_of (built_in n) constructing this arguments h) h
