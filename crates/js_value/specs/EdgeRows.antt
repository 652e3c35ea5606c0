-- Worked examples of calls with `this` and arguments of a wrong kind, with none, with too many, negative, and past the end, and of
-- errors that are made. The answers are those of ECMA-262 within the profile.
use Rattle.std.specs.Prelude.{◌≡◌, ℕ, true, false, List, [], ◌∷◌, Option, Some, None, codes, negsuc, ◌-◌}
use Rattle.js_value.specs.declared.value.Value.{Value}
use Rattle.js_value.specs.declared.value.Value.TheVariants as value
use Rattle.js_value.specs.declared.value.Primitive.TheVariants as primitive
use Rattle.js_value.specs.declared.value.Kind.TheVariants as kind
use Rattle.js_value.specs.declared.error_kind.ErrorKind.{ErrorKind}
use Rattle.js_value.specs.declared.error_kind.ErrorKind.TheVariants as kinds
use Rattle.js_value.specs.declared.error_kind.ErrorKind.TheVariants.{TypeError}
use Rattle.js_value.specs.declared.built_in.BuiltIn.TheVariants as built_in
use Rattle.js_value.specs.declared.built_in.OnObjects.{OnObjects}
use Rattle.js_value.specs.declared.built_in.OnObjects.TheVariants as on_objects
use Rattle.js_value.specs.declared.built_in.Constructor.{Constructor}
use Rattle.js_value.specs.declared.built_in.Constructor.TheVariants as make
use Rattle.js_value.specs.declared.built_in.Place.TheVariants.{TypeErrorPrototype}
use Rattle.js_value.specs.State as state
use Rattle.js_value.specs.State.{Property, Heap}
use Rattle.js_value.specs.Objects.{object_at, kind_of, elements_of, own, new_object, new_array, freeze, assigned, set}
use Rattle.js_value.specs.Realm.{number_of, object, text, undefined, hidden}
use Rattle.js_value.specs.Host.{Native, Answers, Throws, Refuses, Calls, native_by, heap_by, done_by}
use Rattle.js_value.specs.HostRows.{number, small, answer, after, on_array, left_by, alone, minus_one, truth, read_only}

abbrev pub nothing : Value
nothing = value.Primitive primitive.Null

abbrev pub minus : ℕ → Value
minus n = value.Primitive (primitive.Number (negsuc (n - 1)))

-- more objects after those of the small heap: an empty array, `[undefined, null, "a", 7]`, a frozen array `[{..}, 1]`, and an
-- object with the keys `b` and, after it, `5`
abbrev pub more : Heap
more =
    set 7 (codes "5") (number 2) (set 7 (codes "b") (number 1) (new_object state.Plain None
    (freeze 6 (new_array 0 (object 0 ∷ number 1 ∷ [])
    (new_array 0 (undefined ∷ nothing ∷ text (codes "a") ∷ number 7 ∷ []) (new_array 0 [] small))))))

-- what a function answers on it
abbrev pub edge : OnObjects → Value → List Value → Native
edge f this arguments = native_by (done_by (built_in.OnObjects f) false this arguments more) more

-- the elements of the array that it makes, the first object after those
abbrev pub made_by : OnObjects → Value → List Value → List Value
made_by f this arguments = elements_of (heap_by (done_by (built_in.OnObjects f) false this arguments more) more) 8

-- what `new` answers
abbrev pub construct : Constructor → List Value → Native
construct f arguments = native_by (done_by (built_in.Constructor f) true undefined arguments small) small

-- what an error's constructor answers, and the message of the error
abbrev pub error_by : ErrorKind → List Value → Native
error_by k arguments = answer (built_in.Constructor (make.Error k)) undefined arguments

abbrev pub message_of : ErrorKind → List Value → Option Property
message_of k arguments = own (after (built_in.Constructor (make.Error k)) undefined arguments) 4 (codes "message")

abbrev pub no_array : Native
no_array = Throws TypeError (codes "not an array")

abbrev pub no_object : Native
no_object = Throws TypeError (codes "not an object")

abbrev pub no_function : Native
no_function = Throws TypeError (codes "not a function")

pub record ArrayEdges : Type 0 where
  pub push_nothing : on_array on_objects.Push [] ≡ Answers (number 2)
  pub push_many : left_by on_objects.Push (number 7 ∷ undefined ∷ []) ≡ number 5 ∷ number 6 ∷ number 7 ∷ undefined ∷ []
  pub pop_of_none : edge on_objects.Pop (object 4) [] ≡ Answers undefined
  pub pop_more : on_array on_objects.Pop (number 1 ∷ number 2 ∷ []) ≡ Answers (number 6)
  pub pop_other : alone on_objects.Pop [] ≡ no_array
  pub shift_of_none : edge on_objects.Shift (object 4) [] ≡ Answers undefined
  pub shift_more : left_by on_objects.Shift (number 1 ∷ []) ≡ number 6 ∷ []
  pub shift_other : edge on_objects.Shift (object 0) [] ≡ no_array
  pub unshift_nothing : on_array on_objects.Unshift [] ≡ Answers (number 2)
  pub unshift_many : left_by on_objects.Unshift (number 3 ∷ number 4 ∷ []) ≡ number 3 ∷ number 4 ∷ number 5 ∷ number 6 ∷ []
  pub unshift_other : edge on_objects.Unshift (text (codes "a")) [] ≡ no_array
  pub reverse_of_none : edge on_objects.Reverse (object 4) [] ≡ Answers (object 4)
  pub reverse_frozen : edge on_objects.Reverse (object 6) [] ≡ read_only
  pub reverse_other : alone on_objects.Reverse [] ≡ no_array
  pub slice_whole : made_by on_objects.Slice (object 1) [] ≡ number 5 ∷ number 6 ∷ []
  pub slice_past : made_by on_objects.Slice (object 1) (number 1 ∷ number 9 ∷ []) ≡ number 6 ∷ []
  pub slice_before : made_by on_objects.Slice (object 1) (minus 9 ∷ minus 1 ∷ []) ≡ number 5 ∷ []
  pub slice_crossed : made_by on_objects.Slice (object 1) (number 2 ∷ number 1 ∷ []) ≡ []
  pub slice_of_text : made_by on_objects.Slice (object 1) (text (codes "1") ∷ undefined ∷ []) ≡ number 6 ∷ []
  pub slice_reference : on_array on_objects.Slice (object 0 ∷ []) ≡ Refuses kind.Convert
  pub slice_no_number : on_array on_objects.Slice (text (codes "a") ∷ []) ≡ Refuses kind.Number
  pub slice_other : alone on_objects.Slice (object 0 ∷ []) ≡ no_array
  pub concat_nothing : made_by on_objects.Concat (object 1) [] ≡ number 5 ∷ number 6 ∷ []
  pub concat_frozen : made_by on_objects.Concat (object 2) (text (codes "ab") ∷ undefined ∷ []) ≡ text (codes "ab") ∷ undefined ∷ []
  pub concat_nested : made_by on_objects.Concat (object 1) (object 6 ∷ []) ≡ number 5 ∷ number 6 ∷ object 0 ∷ number 1 ∷ []
  pub concat_other : edge on_objects.Concat (object 0) (object 1 ∷ []) ≡ no_array
  pub index_past : on_array on_objects.IndexOf (number 5 ∷ number 9 ∷ []) ≡ Answers minus_one
  pub index_from_end : on_array on_objects.IndexOf (number 6 ∷ minus 1 ∷ []) ≡ Answers (number 1)
  pub index_from_before : on_array on_objects.IndexOf (number 5 ∷ minus 9 ∷ []) ≡ Answers (number 0)
  pub index_of_nothing : edge on_objects.IndexOf (object 5) [] ≡ Answers (number 0)
  pub index_strict : edge on_objects.IndexOf (object 5) (text (codes "7") ∷ []) ≡ Answers minus_one
  pub index_reference : edge on_objects.IndexOf (object 6) (object 0 ∷ []) ≡ Answers (number 0)
  pub index_other : alone on_objects.IndexOf (number 5 ∷ []) ≡ no_array
  pub includes_nothing : edge on_objects.Includes (object 5) [] ≡ truth true
  pub includes_null : edge on_objects.Includes (object 5) (nothing ∷ number 2 ∷ []) ≡ truth false
  pub includes_other : alone on_objects.Includes (number 5 ∷ []) ≡ no_array
  pub join_empty_elements : edge on_objects.Join (object 5) [] ≡ Answers (text (codes ",,a,7"))
  pub join_of_none : edge on_objects.Join (object 4) (text (codes "-") ∷ []) ≡ Answers (text [])
  pub join_by_null : on_array on_objects.Join (nothing ∷ []) ≡ Answers (text (codes "5null6"))
  pub join_by_undefined : on_array on_objects.Join (undefined ∷ []) ≡ Answers (text (codes "5,6"))
  pub join_of_reference : edge on_objects.Join (object 6) [] ≡ Refuses kind.Convert
  pub join_other : alone on_objects.Join [] ≡ no_array
  pub is_array_of_more : alone on_objects.IsArray (object 2 ∷ object 0 ∷ []) ≡ truth true
  pub is_array_of_text : alone on_objects.IsArray (text (codes "a") ∷ []) ≡ truth false

pub record ObjectEdges : Type 0 where
  pub keys_of_array : made_by on_objects.Keys undefined (object 1 ∷ []) ≡ text (codes "0") ∷ text (codes "1") ∷ []
  pub keys_in_order : made_by on_objects.Keys undefined (object 7 ∷ []) ≡ text (codes "5") ∷ text (codes "b") ∷ []
  pub keys_of_null : alone on_objects.Keys (nothing ∷ []) ≡ no_object
  pub keys_of_number : alone on_objects.Keys (number 1 ∷ object 0 ∷ []) ≡ Refuses kind.Convert
  pub prototype_of_nothing : alone on_objects.GetPrototypeOf [] ≡ no_object
  pub prototype_of_null : alone on_objects.GetPrototypeOf (nothing ∷ object 0 ∷ []) ≡ no_object
  pub freeze_nothing : alone on_objects.Freeze [] ≡ Answers undefined
  pub freezes : (object_at (after (built_in.OnObjects on_objects.Freeze) undefined (object 0 ∷ object 1 ∷ [])) 0).frozen ≡ true
  pub freeze_frozen : alone on_objects.Freeze (object 2 ∷ []) ≡ Answers (object 2)
  pub nothing_is_frozen : alone on_objects.IsFrozen [] ≡ truth true
  pub create_of_null : alone on_objects.Create (nothing ∷ undefined ∷ []) ≡ Answers (object 4)
  pub create_of_number : alone on_objects.Create (number 1 ∷ []) ≡ no_object
  pub create_with_null : alone on_objects.Create (nothing ∷ nothing ∷ []) ≡ Refuses kind.Convert
  pub creates : (object_at (after (built_in.OnObjects on_objects.Create) undefined (object 1 ∷ [])) 4).prototype ≡ Some 1
  pub has_element : edge on_objects.HasOwnProperty (object 1) (number 0 ∷ []) ≡ truth true
  pub has_no_element : edge on_objects.HasOwnProperty (object 1) (number 2 ∷ []) ≡ truth false
  pub has_length : edge on_objects.HasOwnProperty (object 1) (text (codes "length") ∷ []) ≡ truth true
  pub has_not_inherited : edge on_objects.HasOwnProperty (object 3) (text (codes "a") ∷ []) ≡ truth false
  pub has_undefined : edge on_objects.HasOwnProperty (object 0) [] ≡ truth false
  pub number_has_none : edge on_objects.HasOwnProperty (number 1) (text (codes "a") ∷ []) ≡ truth false
  pub key_is_taken_first : alone on_objects.HasOwnProperty (object 0 ∷ []) ≡ Refuses kind.Convert
  pub assign_to_nothing : alone on_objects.Assign [] ≡ no_object
  pub assign_to_null : alone on_objects.Assign (nothing ∷ object 0 ∷ []) ≡ no_object
  pub assign_to_number : alone on_objects.Assign (number 1 ∷ object 0 ∷ []) ≡ Refuses kind.Convert
  pub assign_alone : alone on_objects.Assign (object 2 ∷ []) ≡ Answers (object 2)
  pub assign_null : alone on_objects.Assign (object 0 ∷ nothing ∷ undefined ∷ []) ≡ Answers (object 0)
  pub assign_with_hole : edge on_objects.Assign undefined (object 4 ∷ object 7 ∷ []) ≡ Refuses kind.Sparse
  pub written_before_stays : own (after (built_in.OnObjects on_objects.Assign) undefined (object 0 ∷ object 1 ∷ number 1 ∷ [])) 0 (codes "0") ≡ Some (assigned (codes "0") (number 5))
  pub assign_stops : alone on_objects.Assign (object 0 ∷ number 1 ∷ object 1 ∷ []) ≡ Refuses kind.Convert
  pub call_with_nothing : edge on_objects.Call (object 3) [] ≡ Calls (object 3) undefined []
  pub call_number : edge on_objects.Call (number 1) (number 2 ∷ []) ≡ no_function
  pub call_undefined : alone on_objects.Call [] ≡ no_function
  pub apply_with_nothing : edge on_objects.Apply (object 3) [] ≡ Calls (object 3) undefined []
  pub apply_null : edge on_objects.Apply (object 3) (number 1 ∷ nothing ∷ object 1 ∷ []) ≡ Calls (object 3) (number 1) []
  pub apply_text : edge on_objects.Apply (object 3) (number 1 ∷ text (codes "ab") ∷ []) ≡ no_object
  pub apply_other : edge on_objects.Apply (object 1) (number 1 ∷ object 1 ∷ []) ≡ no_function
  pub text_of_nothing : alone on_objects.FunctionToString (object 3 ∷ []) ≡ Throws TypeError []

pub record ConstructorEdges : Type 0 where
  pub object_of_null : construct make.Object (nothing ∷ []) ≡ Answers (object 4)
  pub object_of_text : construct make.Object (text [] ∷ object 0 ∷ []) ≡ Refuses kind.Convert
  pub array_of_none : answer (built_in.Constructor make.Array) undefined [] ≡ Answers (object 4)
  pub array_of_zero : elements_of (heap_by (done_by (built_in.Constructor make.Array) true undefined (number 0 ∷ []) small) small) 4 ≡ []
  pub array_of_text : elements_of (after (built_in.Constructor make.Array) undefined (text (codes "3") ∷ [])) 4 ≡ text (codes "3") ∷ []
  pub text_of_none : answer (built_in.Constructor make.String) undefined [] ≡ Answers (text [])
  pub text_of_null : answer (built_in.Constructor make.String) undefined (nothing ∷ number 1 ∷ []) ≡ Answers (text (codes "null"))
  pub text_of_reference : answer (built_in.Constructor make.String) undefined (object 0 ∷ []) ≡ Refuses kind.Convert
  pub new_text : construct make.String (text [] ∷ []) ≡ Refuses kind.Convert
  pub number_of_text : answer (built_in.Constructor make.Number) undefined (text (codes " 12 ") ∷ object 0 ∷ []) ≡ Answers (number 12)
  pub number_of_no_number : answer (built_in.Constructor make.Number) undefined (text (codes "a") ∷ []) ≡ Refuses kind.Number
  pub number_of_reference : answer (built_in.Constructor make.Number) undefined (object 1 ∷ []) ≡ Refuses kind.Convert
  pub new_number : construct make.Number [] ≡ Refuses kind.Convert
  pub boolean_of_none : answer (built_in.Constructor make.Boolean) undefined [] ≡ truth false
  pub boolean_of_zero : answer (built_in.Constructor make.Boolean) undefined (number 0 ∷ number 1 ∷ []) ≡ truth false
  pub boolean_of_text : answer (built_in.Constructor make.Boolean) undefined (text (codes "0") ∷ []) ≡ truth true
  pub new_boolean : construct make.Boolean (number 1 ∷ []) ≡ Refuses kind.Convert

pub record ErrorsMade : Type 0 where
  pub error : error_by kinds.Error [] ≡ Answers (object 4)
  pub error_of_nothing : message_of kinds.Error (undefined ∷ text (codes "b") ∷ []) ≡ None
  pub error_of_number : message_of kinds.Error (number 12 ∷ []) ≡ Some (hidden (codes "message") (text (codes "12")))
  pub error_of_reference : error_by kinds.Error (object 0 ∷ []) ≡ Refuses kind.Convert
  pub type_error : error_by kinds.TypeError [] ≡ Answers (object 4)
  pub type_error_of_nothing : message_of kinds.TypeError (undefined ∷ text (codes "b") ∷ []) ≡ None
  pub type_error_of_number : message_of kinds.TypeError (number 12 ∷ []) ≡ Some (hidden (codes "message") (text (codes "12")))
  pub type_error_of_reference : error_by kinds.TypeError (object 0 ∷ []) ≡ Refuses kind.Convert
  pub range_error : error_by kinds.RangeError [] ≡ Answers (object 4)
  pub range_error_of_nothing : message_of kinds.RangeError (undefined ∷ text (codes "b") ∷ []) ≡ None
  pub range_error_of_number : message_of kinds.RangeError (number 12 ∷ []) ≡ Some (hidden (codes "message") (text (codes "12")))
  pub range_error_of_reference : error_by kinds.RangeError (object 0 ∷ []) ≡ Refuses kind.Convert
  pub reference_error : error_by kinds.ReferenceError [] ≡ Answers (object 4)
  pub reference_error_of_nothing : message_of kinds.ReferenceError (undefined ∷ text (codes "b") ∷ []) ≡ None
  pub reference_error_of_number : message_of kinds.ReferenceError (number 12 ∷ []) ≡ Some (hidden (codes "message") (text (codes "12")))
  pub reference_error_of_reference : error_by kinds.ReferenceError (object 0 ∷ []) ≡ Refuses kind.Convert
  pub syntax_error : error_by kinds.SyntaxError [] ≡ Answers (object 4)
  pub syntax_error_of_nothing : message_of kinds.SyntaxError (undefined ∷ text (codes "b") ∷ []) ≡ None
  pub syntax_error_of_number : message_of kinds.SyntaxError (number 12 ∷ []) ≡ Some (hidden (codes "message") (text (codes "12")))
  pub syntax_error_of_reference : error_by kinds.SyntaxError (object 0 ∷ []) ≡ Refuses kind.Convert
  pub new_error : construct (make.Error kinds.Error) (nothing ∷ []) ≡ Answers (object 4)
  pub error_is_one : kind_of (after (built_in.Constructor (make.Error kinds.TypeError)) undefined []) 4 ≡ state.Error
  pub error_inherits : (object_at (after (built_in.Constructor (make.Error kinds.TypeError)) undefined []) 4).prototype ≡ Some (number_of TypeErrorPrototype)
