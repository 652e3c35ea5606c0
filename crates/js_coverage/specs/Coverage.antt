-- The coverage that a program leaves: the object `__coverage__` of the global object as a tree of data, and what it tells.
use Rattle.std.specs.Prelude.{◌≡◌, ℕ, zero, suc, List, [], ◌∷◌, Option, Some, None, option_map, Ok, encode_utf8_all, codes, if◌then◌else◌}
use Rattle.std.specs.Char.Utf16.{has_unpaired_surrogate, utf16_lossy_chars}
use Rattle.items.specs.declared.data.Data.{Data}
use Rattle.items.specs.declared.data.Data.TheVariants as form
use Rattle.items.specs.declared.data.DataProperty.{DataProperty, roll-DataProperty}
use Rattle.js_value.specs.declared.value.Value.{Value}
use Rattle.js_value.specs.declared.value.Value.TheVariants as value
use Rattle.js_value.specs.declared.value.Primitive.{Primitive}
use Rattle.js_value.specs.declared.value.Primitive.TheVariants as primitive
use Rattle.js_value.specs.declared.key.Key.{Key}
use Rattle.js_value.specs.declared.built_in.Place.TheVariants as place
use Rattle.js_value.specs.State.{ObjectKind, Plain, Array, Error, RegExp, BuiltIn, Written, Property, Heap}
use Rattle.js_value.specs.Objects.{kind_of, elements_of, own, keys}
use Rattle.js_value.specs.Copying.{enumerable_value}
use Rattle.js_value.specs.Realm.{number_of}
use Rattle.cov_object.specs.Data.{coverage_of_data}
use Rattle.cov_object.specs.declared.file.FileCoverage.{FileCoverage}

-- Values that are no objects

-- a text in UTF-8: one with a lone surrogate (ECMA-262, 7.2.9) has none
abbrev pub text_data : List ℕ → Option (List ℕ)
text_data units = if has_unpaired_surrogate units then None else Some (encode_utf8_all (utf16_lossy_chars units))

abbrev pub primitive_data : Primitive → Option Data
primitive_data primitive.Undefined = None
primitive_data primitive.Null = Some form.Null
primitive_data (primitive.Boolean truth) = Some (form.Boolean truth)
primitive_data (primitive.Number n) = Some (form.Number n)
primitive_data (primitive.Text units) = option_map form.String (text_data units)

-- Objects, where the values inside have this data

-- one before others, where there are all of them
abbrev pub with_first : {T : Type 0} → Option T → Option (List T) → Option (List T)
with_first None rest = None
with_first (Some x) None = None
with_first (Some x) (Some xs) = Some (x ∷ xs)

abbrev pub property_of : Option (List ℕ) → Option Data → Option DataProperty
property_of None tree = None
property_of (Some text) None = None
property_of (Some text) (Some tree) = Some (roll-DataProperty (record { key = text; value = tree }))

module _ (inside : Value → Option Data) where
  -- the items of an array
  abbrev pub items_data : List Value → Option (List Data)
  items_data [] = Some []
  items_data (v ∷ vs) = with_first (inside v) (items_data vs)

  -- a property, where it is there and enumerable, before others
  abbrev pub with_property : List ℕ → Option Value → Option (List DataProperty) → Option (List DataProperty)
  with_property key None rest = rest
  with_property key (Some v) rest = with_first (property_of (text_data key) (inside v)) rest

  -- the own enumerable properties of an object among these keys (7.3.23)
  abbrev pub properties_data : Heap → ℕ → List Key → Option (List DataProperty)
  properties_data h o [] = Some []
  properties_data h o (k ∷ ks) = with_property k.key (enumerable_value h o k.key) (properties_data h o ks)

  abbrev pub own_data : Heap → ℕ → Option Data
  own_data h o = option_map form.Object (properties_data h o (keys h o))

  -- an array by its items, another object by its properties; a function is no data
  abbrev pub object_data : Heap → ℕ → ObjectKind → Option Data
  object_data h o Plain = own_data h o
  object_data h o Array = option_map form.Array (items_data (elements_of h o))
  object_data h o Error = own_data h o
  object_data h o RegExp = own_data h o
  object_data h o (BuiltIn function) = None
  object_data h o (Written code environment) = None

-- Values

abbrev pub value_data : (ℕ → Option Data) → Value → Option Data
value_data objects (value.Primitive p) = primitive_data p
value_data objects (value.Object o) = objects o.index

-- an object's data, where no more than so many objects stand one inside another: it, one inside it, and so on
abbrev pub object_within : ℕ → Heap → ℕ → Option Data
object_within zero h o = None
object_within (suc levels) h o = object_data (value_data (object_within levels h)) h o (kind_of h o)

abbrev pub data_within : ℕ → Heap → Value → Option Data
data_within levels h v = value_data (object_within levels h) v

-- The coverage

abbrev pub coverage_name : List ℕ
coverage_name = codes "__coverage__"

-- of the property `__coverage__` of the global object: where there is none, the empty object
abbrev pub property_within : ℕ → Heap → Option Property → Option Data
property_within levels h None = Some (form.Object [])
property_within levels h (Some p) = data_within levels h p.value

abbrev pub coverage_within : ℕ → Heap → Option Data
coverage_within levels h = property_within levels h (own h (number_of place.Global) coverage_name)

-- the tree is the data: so many levels are enough for it. Where objects stand on a cycle no number of levels is, and there is no tree.
pub record IsData (h : Heap) (tree : Data) : Type 0 where
  pub levels : ℕ
  pub is : coverage_within levels h ≡ Some tree

-- these files are the coverage that the data tells
pub record IsCoverage (h : Heap) (files : List FileCoverage) : Type 0 where
  pub tree : Data
  pub is : IsData h tree
  pub told : coverage_of_data tree ≡ Ok files
