-- Worked examples of what built-in functions answer, and of what they do to the heap.
use Rattle.std.specs.Prelude.{◌≡◌, ℕ, ◌+◌, Bool, true, false, List, [], ◌∷◌, Some, None, codes, pos, negsuc}
use Rattle.js_value.specs.declared.value.Value.{Value}
use Rattle.js_value.specs.declared.value.Value.TheVariants as value
use Rattle.js_value.specs.declared.value.Primitive.TheVariants as primitive
use Rattle.js_value.specs.declared.value.Kind.TheVariants as kind
use Rattle.js_value.specs.declared.error_kind.ErrorKind.TheVariants.{TypeError, RangeError}
use Rattle.js_value.specs.declared.built_in.BuiltIn.{BuiltIn}
use Rattle.js_value.specs.declared.built_in.BuiltIn.TheVariants as built_in
use Rattle.js_value.specs.declared.built_in.OnData.TheVariants as on_data
use Rattle.js_value.specs.declared.built_in.OnObjects.{OnObjects}
use Rattle.js_value.specs.declared.built_in.OnObjects.TheVariants as on_objects
use Rattle.js_value.specs.declared.built_in.Constructor.TheVariants as make
use Rattle.js_value.specs.declared.built_in.TheConstants.{FUNCTIONS}
use Rattle.js_value.specs.State as state
use Rattle.js_value.specs.State.{Heap}
use Rattle.js_value.specs.Objects.{elements_of, own, new_object, new_array, freeze, assigned, set}
use Rattle.js_value.specs.Realm.{empty_heap, object, text, undefined}
use Rattle.js_value.specs.Host.{Native, Answers, Throws, Refuses, Writes, Calls, Requires, native_by, heap_by, done_by, native_of, built_in as function_of}

abbrev pub number : ℕ → Value
number n = value.Primitive (primitive.Number (pos n))

-- a small heap: an object with two properties, the array `[5, 6]`, a frozen array of nothing, and a function
abbrev pub small : Heap
small =
    new_object (state.BuiltIn 0) (Some 0)
    (freeze 2 (new_array 0 []
    (new_array 0 (number 5 ∷ number 6 ∷ [])
    (set 0 (codes "b") (number 2) (set 0 (codes "a") (number 1) (new_object state.Plain None empty_heap))))))

-- what a function answers on it, without `new`
abbrev pub answer : BuiltIn → Value → List Value → Native
answer f this arguments = native_by (done_by f false this arguments small) small

abbrev pub after : BuiltIn → Value → List Value → Heap
after f this arguments = heap_by (done_by f false this arguments small) small

abbrev pub on_array : OnObjects → List Value → Native
on_array f arguments = answer (built_in.OnObjects f) (object 1) arguments

-- the elements of the array after it
abbrev pub left_by : OnObjects → List Value → List Value
left_by f arguments = elements_of (after (built_in.OnObjects f) (object 1) arguments) 1

-- on the array that is frozen
abbrev pub on_frozen : OnObjects → List Value → Native
on_frozen f arguments = answer (built_in.OnObjects f) (object 2) arguments

-- without `this`
abbrev pub alone : OnObjects → List Value → Native
alone f arguments = answer (built_in.OnObjects f) undefined arguments

abbrev pub minus_one : Value
minus_one = value.Primitive (primitive.Number (negsuc 0))

abbrev pub truth : Bool → Native
truth b = Answers (value.Primitive (primitive.Boolean b))

abbrev pub read_only : Native
read_only = Throws TypeError (codes "read only")

pub record ArrayCalls : Type 0 where
  pub push : on_array on_objects.Push (number 7 ∷ []) ≡ Answers (number 3)
  pub pushed : left_by on_objects.Push (number 7 ∷ []) ≡ number 5 ∷ number 6 ∷ number 7 ∷ []
  pub push_frozen : on_frozen on_objects.Push [] ≡ read_only
  pub push_other : alone on_objects.Push [] ≡ Throws TypeError (codes "not an array")
  pub pop : on_array on_objects.Pop [] ≡ Answers (number 6)
  pub popped : left_by on_objects.Pop [] ≡ number 5 ∷ []
  pub pop_frozen : on_frozen on_objects.Pop [] ≡ read_only
  pub shift : on_array on_objects.Shift [] ≡ Answers (number 5)
  pub shifted : left_by on_objects.Shift [] ≡ number 6 ∷ []
  pub shift_frozen : on_frozen on_objects.Shift [] ≡ read_only
  pub unshift : on_array on_objects.Unshift (number 4 ∷ []) ≡ Answers (number 3)
  pub unshifted : left_by on_objects.Unshift (number 4 ∷ []) ≡ number 4 ∷ number 5 ∷ number 6 ∷ []
  pub unshift_frozen : on_frozen on_objects.Unshift [] ≡ read_only
  pub reverse : on_array on_objects.Reverse [] ≡ Answers (object 1)
  pub reversed : left_by on_objects.Reverse [] ≡ number 6 ∷ number 5 ∷ []
  pub reverse_frozen : on_frozen on_objects.Reverse [] ≡ Answers (object 2)
  pub sliced : elements_of (after (built_in.OnObjects on_objects.Slice) (object 1) (minus_one ∷ [])) 4 ≡ number 6 ∷ []
  pub slice : on_array on_objects.Slice [] ≡ Answers (object 4)
  pub slice_to : on_array on_objects.Slice (number 0 ∷ object 0 ∷ []) ≡ Refuses kind.Convert
  pub concat : elements_of (after (built_in.OnObjects on_objects.Concat) (object 1) (object 1 ∷ object 0 ∷ [])) 4 ≡ number 5 ∷ number 6 ∷ number 5 ∷ number 6 ∷ object 0 ∷ []
  pub index_of : on_array on_objects.IndexOf (number 6 ∷ []) ≡ Answers (number 1)
  pub index_of_none : on_array on_objects.IndexOf (number 5 ∷ number 1 ∷ []) ≡ Answers minus_one
  pub index_of_empty : on_frozen on_objects.IndexOf (number 5 ∷ object 0 ∷ []) ≡ Answers minus_one
  pub includes : on_array on_objects.Includes (number 5 ∷ []) ≡ truth true
  pub includes_from : on_array on_objects.Includes (number 5 ∷ minus_one ∷ []) ≡ truth false
  pub includes_place : on_array on_objects.Includes (number 5 ∷ object 0 ∷ []) ≡ Refuses kind.Convert
  pub join : on_array on_objects.Join [] ≡ Answers (text (codes "5,6"))
  pub join_by : on_array on_objects.Join (text (codes " - ") ∷ []) ≡ Answers (text (codes "5 - 6"))
  pub join_reference : on_array on_objects.Join (object 0 ∷ []) ≡ Refuses kind.Convert
  pub is_array : alone on_objects.IsArray (object 1 ∷ []) ≡ truth true
  pub is_no_array : alone on_objects.IsArray (object 0 ∷ []) ≡ truth false
  pub is_nothing : alone on_objects.IsArray [] ≡ truth false

pub record ObjectCalls : Type 0 where
  pub keys : elements_of (after (built_in.OnObjects on_objects.Keys) undefined (object 0 ∷ [])) 4 ≡ text (codes "a") ∷ text (codes "b") ∷ []
  pub keys_of_nothing : alone on_objects.Keys [] ≡ Throws TypeError (codes "not an object")
  pub keys_of_text : alone on_objects.Keys (text [] ∷ []) ≡ Refuses kind.Convert
  pub prototype : alone on_objects.GetPrototypeOf (object 1 ∷ []) ≡ Answers (object 0)
  pub no_prototype : alone on_objects.GetPrototypeOf (object 0 ∷ []) ≡ Answers (value.Primitive primitive.Null)
  pub prototype_of_number : alone on_objects.GetPrototypeOf (number 1 ∷ []) ≡ Refuses kind.Convert
  pub freeze : alone on_objects.Freeze (object 0 ∷ []) ≡ Answers (object 0)
  pub freeze_number : alone on_objects.Freeze (number 1 ∷ []) ≡ Answers (number 1)
  pub is_frozen : alone on_objects.IsFrozen (object 2 ∷ []) ≡ truth true
  pub isnt_frozen : alone on_objects.IsFrozen (object 0 ∷ []) ≡ truth false
  pub number_is_frozen : alone on_objects.IsFrozen (number 1 ∷ []) ≡ truth true
  pub create : alone on_objects.Create (object 1 ∷ []) ≡ Answers (object 4)
  pub create_of_nothing : alone on_objects.Create [] ≡ Throws TypeError (codes "not an object")
  pub create_with : alone on_objects.Create (object 1 ∷ object 0 ∷ []) ≡ Refuses kind.Convert
  pub has : answer (built_in.OnObjects on_objects.HasOwnProperty) (object 0) (text (codes "a") ∷ []) ≡ truth true
  pub has_unit : answer (built_in.OnObjects on_objects.HasOwnProperty) (text (codes "xy")) (number 1 ∷ []) ≡ truth true
  pub has_nothing : alone on_objects.HasOwnProperty [] ≡ Throws TypeError (codes "no properties")
  pub assign : alone on_objects.Assign (object 0 ∷ undefined ∷ object 1 ∷ []) ≡ Answers (object 0)
  pub assigned_one : own (after (built_in.OnObjects on_objects.Assign) undefined (object 0 ∷ object 1 ∷ [])) 0 (codes "1") ≡ Some (assigned (codes "1") (number 6))
  pub assign_frozen : alone on_objects.Assign (object 2 ∷ object 0 ∷ []) ≡ read_only
  pub assign_text : alone on_objects.Assign (object 2 ∷ text [] ∷ []) ≡ Refuses kind.Convert
  pub call : answer (built_in.OnObjects on_objects.Call) (object 3) (number 1 ∷ number 2 ∷ []) ≡ Calls (object 3) (number 1) (number 2 ∷ [])
  pub call_other : answer (built_in.OnObjects on_objects.Call) (object 0) [] ≡ Throws TypeError (codes "not a function")
  pub apply : answer (built_in.OnObjects on_objects.Apply) (object 3) (number 1 ∷ object 1 ∷ []) ≡ Calls (object 3) (number 1) (number 5 ∷ number 6 ∷ [])
  pub apply_no_length : answer (built_in.OnObjects on_objects.Apply) (object 3) (number 1 ∷ object 0 ∷ []) ≡ Calls (object 3) (number 1) []
  pub apply_number : answer (built_in.OnObjects on_objects.Apply) (object 3) (number 1 ∷ number 1 ∷ []) ≡ Throws TypeError (codes "not an object")
  pub function_text : answer (built_in.OnObjects on_objects.FunctionToString) (object 3) [] ≡ Refuses kind.Text
  pub other_text : answer (built_in.OnObjects on_objects.FunctionToString) (object 0) [] ≡ Throws TypeError []

pub record ConstructorCalls : Type 0 where
  pub object_itself : answer (built_in.Constructor make.Object) undefined (object 0 ∷ []) ≡ Answers (object 0)
  pub object_fresh : answer (built_in.Constructor make.Object) undefined [] ≡ Answers (object 4)
  pub object_of_number : answer (built_in.Constructor make.Object) undefined (number 1 ∷ []) ≡ Refuses kind.Convert
  pub array_of_two : answer (built_in.Constructor make.Array) undefined (number 1 ∷ number 2 ∷ []) ≡ Answers (object 4)
  pub array_of_length : answer (built_in.Constructor make.Array) undefined (number 1 ∷ []) ≡ Refuses kind.Sparse
  pub array_of_negative : answer (built_in.Constructor make.Array) undefined (minus_one ∷ []) ≡ Throws RangeError (codes "bad length")
  pub text_of : answer (built_in.Constructor make.String) undefined (number 12 ∷ []) ≡ Answers (text (codes "12"))
  pub number_of : answer (built_in.Constructor make.Number) undefined (value.Primitive (primitive.Boolean true) ∷ []) ≡ Answers (number 1)
  pub number_of_nothing : answer (built_in.Constructor make.Number) undefined [] ≡ Answers (number 0)
  pub number_of_undefined : answer (built_in.Constructor make.Number) undefined (undefined ∷ []) ≡ Refuses kind.Number
  pub boolean_of : answer (built_in.Constructor make.Boolean) undefined (object 0 ∷ []) ≡ truth true

pub record Calling : Type 0 where
  pub line : answer (built_in.OnData on_data.Print) undefined (text (codes "a") ∷ number 12 ∷ undefined ∷ []) ≡ Writes (codes "a 12 undefined\n")
  pub nothing : answer (built_in.OnData on_data.Print) undefined [] ≡ Writes (codes "\n")
  -- a lone surrogate
  pub lone : answer (built_in.OnData on_data.Print) undefined (text (0xD83D ∷ []) ∷ []) ≡ Writes (0xEF ∷ 0xBF ∷ 0xBD ∷ 0x0A ∷ [])
  -- a pair of them is one code point
  pub pair : answer (built_in.OnData on_data.Print) undefined (text (0xD83D ∷ 0xDE00 ∷ []) ∷ []) ≡ Writes (0xF0 ∷ 0x9F ∷ 0x98 ∷ 0x80 ∷ 0x0A ∷ [])
  pub refused : answer (built_in.OnData on_data.Print) undefined (number 1 ∷ object 0 ∷ []) ≡ Refuses kind.Convert
  pub constructed : native_of 10 true undefined [] small ≡ Throws TypeError (codes "not a constructor")
  pub print : function_of 10 ≡ Some (built_in.OnData on_data.Print)
  pub require : native_of FUNCTIONS false undefined (text (codes "./a.js") ∷ []) small ≡ Requires (codes "./a.js")
  pub require_number : native_of FUNCTIONS false undefined (number 1 ∷ []) small ≡ Throws TypeError (codes "not a text")
  pub past : native_of (FUNCTIONS + 1) false undefined [] small ≡ Throws TypeError (codes "not a function")
