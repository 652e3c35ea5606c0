-- What stands when a program begins (ECMA-262, 9.3): the global object, the built-in objects, each at its place, and the names
-- that a file can refer to. It is made from the tables of the built-in objects and functions by what can be done with a heap.
use Rattle.std.specs.Prelude.{ℕ, zero, suc, ◌+◌, ◌==◌, if◌then◌else◌, true, false, List, [], ◌∷◌, map, Option, Some, None, option_map, codes, pos}
use Rattle.js_value.specs.declared.value.Value.{Value}
use Rattle.js_value.specs.declared.value.Value.TheVariants as value
use Rattle.js_value.specs.declared.value.Primitive.TheVariants as primitive
use Rattle.js_value.specs.declared.error_kind.ErrorKind.{ErrorKind}
use Rattle.js_value.specs.declared.error_kind.ErrorKind.TheVariants as error
use Rattle.js_value.specs.declared.built_in.BuiltIn.{BuiltIn}
use Rattle.js_value.specs.declared.built_in.BuiltIn.TheVariants.{Constructor}
use Rattle.js_value.specs.declared.built_in.Constructor.TheVariants.{Error}
use Rattle.js_value.specs.declared.built_in.Place.{Place}
use Rattle.js_value.specs.declared.built_in.Place.TheVariants as place
use Rattle.js_value.specs.declared.built_in.TheConstants.{PLACES, FUNCTIONS, PROTOTYPES, BUILT_INS, CONSTRUCTORS, ERRORS, NAMED_OBJECTS}
use Rattle.js_value.specs.State as state
use Rattle.js_value.specs.State.{Plain, Property, Heap, Binding, Store}
use Rattle.js_value.specs.Objects.{next_object, new_object, define, freeze}
use Rattle.js_value.specs.Environments.{new_environment, declare}

-- Places

-- the number of a built-in object: each prototype before what inherits from it, and the functions in the order of their table
abbrev pub number_of : Place → ℕ
number_of place.ObjectPrototype = 0
number_of place.Global = 1
number_of place.FunctionPrototype = 2
number_of place.ErrorPrototype = 3
number_of place.TypeErrorPrototype = 4
number_of place.RangeErrorPrototype = 5
number_of place.ReferenceErrorPrototype = 6
number_of place.SyntaxErrorPrototype = 7
number_of place.ArrayPrototype = 8
number_of place.StringPrototype = 9
number_of place.NumberPrototype = 10
number_of place.BooleanPrototype = 11
number_of place.RegExpPrototype = 12
number_of place.Math = 13
number_of place.Object = 14
number_of place.Array = 15
number_of place.String = 16
number_of place.Number = 17
number_of place.Boolean = 18
number_of place.Error = 19
number_of place.TypeError = 20
number_of place.RangeError = 21
number_of place.ReferenceError = 22
number_of place.SyntaxError = 23

-- 20.5.3 and 20.5.6.3
abbrev pub error_prototype : ErrorKind → Place
error_prototype error.Error = place.ErrorPrototype
error_prototype error.TypeError = place.TypeErrorPrototype
error_prototype error.RangeError = place.RangeErrorPrototype
error_prototype error.ReferenceError = place.ReferenceErrorPrototype
error_prototype error.SyntaxError = place.SyntaxErrorPrototype

-- the functions stand after the other objects, in the order of their table
abbrev pub first_function : ℕ
first_function = PLACES

-- how many built-in objects there are
abbrev pub built_in_count : ℕ
built_in_count = PLACES + FUNCTIONS

-- The tables

-- a text of a table
abbrev pub Listed : Type 0
Listed = record { now : List ℕ }

-- a row of the table of functions
pub record Row : Type 0 where
  pub function : BuiltIn
  pub holder : Option Place
  pub name : List ℕ
  pub length : ℕ

abbrev pub row_of : BuiltIn × Option Place × Listed × ℕ → Row
row_of r = record { function = r.0; holder = r.1; name = r.2.now; length = r.3 }

-- the number of a function is that of its row
unfoldable pub rows : List Row
rows = map row_of BUILT_INS

abbrev pub named_error : Place × Listed → Place × List ℕ
named_error e = (e.0, e.1.now)

abbrev pub named_object : Listed × Place → List ℕ × Place
named_object e = (e.0.now, e.1)

unfoldable pub named_errors : List (Place × List ℕ)
named_errors = map named_error ERRORS

unfoldable pub named_objects : List (List ℕ × Place)
named_objects = map named_object NAMED_OBJECTS

-- Values and properties

abbrev pub text : List ℕ → Value
text units = value.Primitive (primitive.Text units)

-- the value that is the object of a number
abbrev pub object : ℕ → Value
object o = value.Object (record { index = o })

abbrev pub undefined : Value
undefined = value.Primitive primitive.Undefined

-- a property that isn't enumerable and may be written
abbrev pub hidden : List ℕ → Value → Property
hidden key v = record { key = key; value = v; enumerable = false; writable = true }

-- one that may neither be enumerated nor written
abbrev pub fixed : List ℕ → Value → Property
fixed key v = record { key = key; value = v; enumerable = false; writable = false }

-- Steps

-- what is done for each of a list, with its number
unfoldable pub each : {A : Type 0} → (ℕ → A → Heap → Heap) → ℕ → List A → Heap → Heap
each step n [] h = h
each step n (x ∷ xs) h = each step (suc n) xs (step n x h)

abbrev pub make_object : ℕ → Place × Option Place → Heap → Heap
make_object n row h = new_object Plain (option_map number_of row.1) h

-- 20.5.6.2: the errors of a kind inherit from `Error`
abbrev pub parent_of_error : ErrorKind → Place
parent_of_error error.Error = place.FunctionPrototype
parent_of_error _ = place.Error

-- what a built-in function inherits from (10.3 and 20.5.6.2)
abbrev pub parent_of : BuiltIn → Place
parent_of (Constructor (Error k)) = parent_of_error k
parent_of _ = place.FunctionPrototype

-- 10.3.4: a function without properties, and one with its length and its name
abbrev pub plain_function : Place → ℕ → Heap → Heap
plain_function parent n h = new_object (state.BuiltIn n) (Some (number_of parent)) h

abbrev pub function_made : Place → ℕ → List ℕ → ℕ → Heap → Heap
function_made parent n name length h =
    define (next_object h) (fixed (codes "name") (text name))
    (define (next_object h) (fixed (codes "length") (value.Primitive (primitive.Number (pos length)))) (plain_function parent n h))

abbrev pub make_function : ℕ → Row → Heap → Heap
make_function n row h = function_made (parent_of row.function) n row.name row.length h

-- a function as a property of the object that holds it
abbrev pub hold_in : ℕ → List ℕ → Option Place → Heap → Heap
hold_in n name None h = h
hold_in n name (Some holder) h = define (number_of holder) (hidden name (object (first_function + n))) h

abbrev pub hold_function : ℕ → Row → Heap → Heap
hold_function n row h = hold_in n row.name row.holder h

-- 20.1.2.21 and 20.1.3.1, and others alike: a function has its `prototype`, and this its `constructor`
abbrev pub linked_pair : Place → Place → Heap → Heap
linked_pair function prototype h =
    define (number_of prototype) (hidden (codes "constructor") (object (number_of function)))
    (define (number_of function) (fixed (codes "prototype") (object (number_of prototype))) h)

abbrev pub link : ℕ → Place × Place → Heap → Heap
link n pair h = linked_pair pair.0 pair.1 h

-- 20.5.3.2 and 20.5.3.3
abbrev pub error_named : Place → List ℕ → Heap → Heap
error_named prototype name h =
    define (number_of prototype) (hidden (codes "message") (text []))
    (define (number_of prototype) (hidden (codes "name") (text name)) h)

abbrev pub name_error : ℕ → Place × List ℕ → Heap → Heap
name_error n pair h = error_named pair.0 pair.1 h

-- every built-in object is frozen but the global object
abbrev pub freeze_one : ℕ → Heap → Heap
freeze_one n h = if n == number_of place.Global then h else freeze n h

-- so many of them, from a number on
unfoldable pub freeze_all : ℕ → ℕ → Heap → Heap
freeze_all zero n h = h
freeze_all (suc k) n h = freeze_all k (suc n) (freeze_one n h)

-- The names

abbrev pub constant : List ℕ → Value → Binding
constant name v = record { name = name; value = Some v; constant = true }

-- the environment of the names that every file has (9.1.1.4)
abbrev pub global_environment : ℕ
global_environment = 0

abbrev pub name_of : ℕ → List ℕ → Option Place → Heap → Heap
name_of n name None h = declare global_environment (constant name (object (first_function + n))) h
name_of n name (Some holder) h = h

abbrev pub name_function : ℕ → Row → Heap → Heap
name_function n row h = name_of n row.name row.holder h

abbrev pub object_named : List ℕ → Place → Heap → Heap
object_named name place h = declare global_environment (constant name (object (number_of place))) h

abbrev pub name_object : ℕ → List ℕ × Place → Heap → Heap
name_object n named h = object_named named.0 named.1 h

-- 19.1.4
abbrev pub first_names : Heap → Heap
first_names h = declare global_environment (constant (codes "undefined") undefined) (new_environment None h)

-- The realm

abbrev pub empty_heap : Heap
empty_heap = record { objects = []; environments = [] }

abbrev pub built_in_objects : Heap
built_in_objects =
    each name_error 0 named_errors
    (each link 0 CONSTRUCTORS
    (each hold_function 0 rows
    (each make_function 0 rows
    (each make_object 0 PROTOTYPES empty_heap))))

-- the heap that stands when a program begins
unfoldable pub opening : Heap
opening = each name_function 0 rows (each name_object 0 named_objects (first_names (freeze_all built_in_count 0 built_in_objects)))

-- the opening realm
abbrev pub realm : Store
realm = record {
  heap = opening;
  cache = [];
  requiring = [];
  output = [];
  log = [];
  started = [];
  starts = [];
}
