-- Worked examples of the data that a program leaves.
use Rattle.std.specs.Prelude.{◌≡◌, ℕ, true, false, List, [], ◌∷◌, Option, Some, None, codes, pos, negsuc}
use Rattle.items.specs.declared.data.Data.{Data}
use Rattle.items.specs.declared.data.Data.TheVariants as form
use Rattle.items.specs.declared.data.DataProperty.{DataProperty, roll-DataProperty}
use Rattle.js_value.specs.declared.value.Value.{Value}
use Rattle.js_value.specs.declared.value.Value.TheVariants as value
use Rattle.js_value.specs.declared.value.Primitive.TheVariants as primitive
use Rattle.js_value.specs.State.{Plain, Array, Error, RegExp, BuiltIn, Written, ObjectKind, Property, ObjectRecord, Heap}
use Rattle.js_value.specs.Objects.{assigned}
use Rattle.js_value.specs.Realm.{hidden, object, text, undefined}
use Rattle.js_coverage.specs.Coverage.{coverage_within, coverage_name}

abbrev pub number : ℕ → Value
number n = value.Primitive (primitive.Number (pos n))

abbrev pub with_properties : ObjectKind → List Property → ObjectRecord
with_properties kind properties = record { kind = kind; prototype = None; frozen = false; elements = []; properties = properties }

abbrev pub with_elements : List Value → List Property → ObjectRecord
with_elements elements properties = record { kind = Array; prototype = None; frozen = false; elements = elements; properties = properties }

-- an object that nothing here looks at, the global object with these properties, and others from the number 2 on
abbrev pub heap_with : List Property → List ObjectRecord → Heap
heap_with properties others = record { objects = with_properties Plain [] ∷ with_properties Plain properties ∷ others; environments = [] }

abbrev pub left : Value → Property
left v = assigned coverage_name v

-- what `__coverage__` is where it has this value, and the others are these
abbrev pub data_of : ℕ → Value → List ObjectRecord → Option Data
data_of levels v others = coverage_within levels (heap_with (left v ∷ []) others)

abbrev pub property : List ℕ → Data → DataProperty
property key tree = roll-DataProperty (record { key = key; value = tree })

pub record Values : Type 0 where
  pub nothing : coverage_within 0 (heap_with [] []) ≡ Some (form.Object [])
  pub another : coverage_within 0 (heap_with (assigned (codes "coverage") (number 1) ∷ []) []) ≡ Some (form.Object [])
  pub undefined_value : data_of 1 undefined [] ≡ None
  pub null_value : data_of 0 (value.Primitive primitive.Null) [] ≡ Some form.Null
  pub truth : data_of 0 (value.Primitive (primitive.Boolean true)) [] ≡ Some (form.Boolean true)
  pub number_value : data_of 0 (number 7) [] ≡ Some (form.Number (pos 7))
  pub negative : data_of 0 (value.Primitive (primitive.Number (negsuc 0))) [] ≡ Some (form.Number (negsuc 0))
  pub text_value : data_of 0 (text (codes "ab")) [] ≡ Some (form.String (codes "ab"))
  -- U+1F600 as a surrogate pair, and one half of it
  pub astral : data_of 0 (text (0xD83D ∷ 0xDE00 ∷ [])) [] ≡ Some (form.String (0xF0 ∷ 0x9F ∷ 0x98 ∷ 0x80 ∷ []))
  pub lone : data_of 0 (text (0xD83D ∷ [])) [] ≡ None

pub record Objects : Type 0 where
  pub empty : data_of 1 (object 2) (with_properties Plain [] ∷ []) ≡ Some (form.Object [])
  -- an object has a level of its own
  pub no_level : data_of 0 (object 2) (with_properties Plain [] ∷ []) ≡ None
  -- indices come first, and what isn't enumerable is passed over
  pub order : data_of 1 (object 2) (with_properties Plain (assigned (codes "b") (number 1) ∷ hidden (codes "c") undefined ∷ assigned (codes "0") (number 2) ∷ []) ∷ [])
      ≡ Some (form.Object (property (codes "0") (form.Number (pos 2)) ∷ property (codes "b") (form.Number (pos 1)) ∷ []))
  pub undefined_inside : data_of 1 (object 2) (with_properties Plain (assigned (codes "b") undefined ∷ []) ∷ []) ≡ None
  pub lone_key : data_of 1 (object 2) (with_properties Plain (assigned (0xDE00 ∷ []) (number 1) ∷ []) ∷ []) ≡ None
  -- an array is its items
  pub array : data_of 1 (object 2) (with_elements (number 1 ∷ value.Primitive primitive.Null ∷ []) (assigned (codes "x") (number 2) ∷ []) ∷ [])
      ≡ Some (form.Array (form.Number (pos 1) ∷ form.Null ∷ []))
  pub error : data_of 1 (object 2) (with_properties Error (hidden (codes "message") (text []) ∷ []) ∷ []) ≡ Some (form.Object [])
  pub expression : data_of 1 (object 2) (with_properties RegExp [] ∷ []) ≡ Some (form.Object [])
  pub built_in : data_of 1 (object 2) (with_properties (BuiltIn 0) [] ∷ []) ≡ None
  pub written : data_of 1 (object 2) (with_properties (Written 0 0) [] ∷ []) ≡ None
  -- an object that stands at two places is told at both
  pub shared : data_of 2 (object 2) (with_elements (object 3 ∷ object 3 ∷ []) [] ∷ with_properties Plain [] ∷ [])
      ≡ Some (form.Array (form.Object [] ∷ form.Object [] ∷ []))
  pub too_few : data_of 1 (object 2) (with_elements (object 3 ∷ []) [] ∷ with_properties Plain [] ∷ []) ≡ None

-- an array that holds itself, or an object that holds one that holds it, has no tree, by however many levels
pub record Cycles : Type 0 where
  pub itself : (levels : ℕ) → data_of levels (object 2) (with_elements (object 2 ∷ []) [] ∷ []) ≡ None
  pub each_other : (levels : ℕ) → data_of levels (object 2) (with_properties Plain (assigned (codes "x") (object 3) ∷ []) ∷ with_elements (object 2 ∷ []) [] ∷ []) ≡ None
