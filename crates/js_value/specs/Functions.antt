-- Functions of a program (ECMA-262, 10.2), and what is asked of built-in ones.
use Rattle.std.specs.Prelude.{ℕ, Bool, true, false, List, Option, Some, None, flat_map, codes, if◌then◌else◌}
use Rattle.std.specs.Str.{chars}
use Rattle.std.specs.Char.Escape.{encode_utf16}
use Rattle.js_value.specs.declared.value.Value.{Value}
use Rattle.js_value.specs.declared.value.Value.TheVariants as value
use Rattle.js_value.specs.declared.built_in.BuiltIn.{BuiltIn}
use Rattle.js_value.specs.declared.built_in.BuiltIn.TheVariants as function
use Rattle.js_value.specs.declared.built_in.OnObjects.TheVariants as on_objects
use Rattle.js_value.specs.declared.built_in.Place.TheVariants as place
use Rattle.js_value.specs.State.{Plain, Written, Heap}
use Rattle.js_value.specs.Objects.{next_object, new_object, define, get, count_value}
use Rattle.js_value.specs.Realm.{number_of, text, object, hidden, fixed}
use Rattle.js_value.specs.Host.{built_in}

-- a name's 16-bit units
abbrev pub name_units : List ℕ → List ℕ
name_units name = flat_map encode_utf16 (chars name)

-- 10.2.3, 10.2.9, 10.2.10: a function of a program
abbrev pub function_made : (code environment : ℕ) → (name : List ℕ) → (length : ℕ) → Heap → Heap
function_made code environment name length h =
    define (next_object h) (fixed (codes "name") (text name))
    (define (next_object h) (fixed (codes "length") (count_value length))
    (new_object (Written code environment) (Some (number_of place.FunctionPrototype)) h))

-- 10.2.5: the object that what a function makes inherits from
abbrev pub constructor_made : ℕ → Heap → Heap
constructor_made f h =
    define f (hidden (codes "prototype") (object (next_object h)))
    (define (next_object h) (hidden (codes "constructor") (object f))
    (new_object Plain (Some (number_of place.ObjectPrototype)) h))

-- what is known of a function where it is made: its number in the program, how many arguments it expects, and whether `new` may call it
pub record Shape : Type 0 where
  pub number : ℕ
  pub length : ℕ
  pub constructs : Bool

-- a function's `prototype`, where `new` may call it
abbrev pub with_constructor : Bool → ℕ → Heap → Heap
with_constructor constructs f h = if constructs then constructor_made f h else h

-- a function with a name, by its 16-bit units, in an environment (15.2.4, 15.3.4, 15.4.4)
abbrev pub closed : Shape → List ℕ → ℕ → Heap → Heap
closed f name env h = record h {
  objects = (with_constructor f.constructs (next_object h) (function_made f.number env name f.length h)).objects;
}

-- 10.1.14: what an object that a function makes inherits from
abbrev pub prototype_or : Option Value → ℕ
prototype_or (Some (value.Object p)) = p.index
prototype_or _ = number_of place.ObjectPrototype

-- 10.1.13
abbrev pub instance_made : ℕ → Heap → Heap
instance_made f h = new_object Plain (Some (prototype_or (get h f (codes "prototype")))) h

-- Built-in functions

abbrev pub is_constructor : BuiltIn → Bool
is_constructor (function.Constructor c) = true
is_constructor _ = false

-- whether `new` may call the built-in function of a number
abbrev pub constructs : ℕ → Bool
constructs n = elim (built_in n) [ None ↦ false | Some f ↦ is_constructor f ]

abbrev pub hands_on : BuiltIn → Bool
hands_on (function.OnObjects on_objects.Call) = true
hands_on (function.OnObjects on_objects.Apply) = true
hands_on _ = false

-- whether the built-in function of a number is `call` or `apply`
abbrev pub is_handing : ℕ → Bool
is_handing n = elim (built_in n) [ None ↦ false | Some f ↦ hands_on f ]
