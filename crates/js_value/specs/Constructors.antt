-- The built-in functions that may be constructed (ECMA-262, 20.1.1, 20.3.1, 20.5.1, 20.5.6.1, 21.1.1, 22.1.1 and 23.1.1), with
-- `new` and without.
use Rattle.std.specs.Prelude.{zero, suc, Bool, true, false, List, [], ◌∷◌, ℤ, pos, negsuc, Some, None, Ok}
use Rattle.js_value.specs.declared.value.Value.{Value}
use Rattle.js_value.specs.declared.value.Value.TheVariants as value
use Rattle.js_value.specs.declared.value.Primitive.TheVariants as primitive
use Rattle.js_value.specs.declared.value.Kind.TheVariants as kind
use Rattle.js_value.specs.declared.error_kind.ErrorKind.{ErrorKind}
use Rattle.js_value.specs.declared.built_in.Constructor.{Constructor}
use Rattle.js_value.specs.declared.built_in.Constructor.TheVariants as make
use Rattle.js_value.specs.declared.built_in.Place.TheVariants as place
use Rattle.js_value.specs.declared.deed.Complaint.TheVariants.{BadLength}
use Rattle.js_value.specs.declared.deed.Deed.{Deed}
use Rattle.js_value.specs.declared.deed.Deed.TheVariants as deed
use Rattle.js_value.specs.Conversions.{to_boolean}
use Rattle.js_value.specs.Realm.{number_of, text}
use Rattle.js_value.specs.Arguments.{Or, ◌>>=◌, throw, refuse, Seen, seen, to_number, to_text}
use Rattle.js_value.specs.OnObjects.{value_at, seen_at, give, truth}

-- an object without properties
abbrev pub fresh_object : Or Deed
fresh_object = Ok (deed.MakeObject (Some (record { index = number_of place.ObjectPrototype })))

-- 20.1.1.1: primitive values that have properties aren't converted
abbrev pub make_object : Value → Or Deed
make_object (value.Object o) = give (value.Object o)
make_object (value.Primitive primitive.Undefined) = fresh_object
make_object (value.Primitive primitive.Null) = fresh_object
make_object (value.Primitive _) = refuse kind.Convert

-- an array of so many elements would have holes, but for none
abbrev pub array_of_length : ℤ → Or Deed
array_of_length (pos zero) = Ok (deed.MakeArray [])
array_of_length (pos (suc n)) = refuse kind.Sparse
array_of_length (negsuc n) = throw BadLength

-- 23.1.1.1
abbrev pub make_array : List Value → Or Deed
make_array (value.Primitive (primitive.Number n) ∷ []) = array_of_length n
make_array arguments = Ok (deed.MakeArray arguments)

-- 22.1.1.1
abbrev pub make_text : List Value → Or Deed
make_text [] = give (text [])
make_text (v ∷ vs) = to_text (seen v) >>= λ us. give (text us)

-- 21.1.1.1
abbrev pub make_number : List Value → Or Deed
make_number [] = give (value.Primitive (primitive.Number (pos 0)))
make_number (v ∷ vs) = to_number (seen v) >>= λ n. give (value.Primitive (primitive.Number n))

-- the objects of primitive values are left out
abbrev pub unless_constructed : Bool → Or Deed → Or Deed
unless_constructed true d = refuse kind.Convert
unless_constructed false d = d

-- 20.5.1.1
abbrev pub make_error : ErrorKind → Seen → Or Deed
make_error k (Some primitive.Undefined) = Ok (deed.MakeError k None)
make_error k x = to_text x >>= λ message. Ok (deed.MakeError k (Some message))

abbrev pub of_constructor : Constructor → Bool → List Value → Or Deed
of_constructor make.Object constructing arguments = make_object (value_at arguments 0)
of_constructor make.Array constructing arguments = make_array arguments
of_constructor make.String constructing arguments = unless_constructed constructing (make_text arguments)
of_constructor make.Number constructing arguments = unless_constructed constructing (make_number arguments)
of_constructor make.Boolean constructing arguments = unless_constructed constructing (truth (to_boolean (value_at arguments 0)))
of_constructor (make.Error k) constructing arguments = make_error k (seen_at arguments 0)
