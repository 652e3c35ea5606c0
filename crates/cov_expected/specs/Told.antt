-- What data in a heap tell, as the value of a JSON text: texts in UTF-8, and objects by their keys.
use Rattle.std.specs.Prelude.{◌≡◌, ℕ, suc, max, false, List, [], ◌∷◌, pos, negsuc, encode_utf8_all}
use Rattle.std.specs.Char.Utf16.{has_unpaired_surrogate, utf16_lossy_chars}
use Rattle.serde_json.specs.Data.{Data, null, boolean, number, unsigned, negative, float, string, array, object, Items as DataItems, no_items as no_values, item, Members as DataMembers, no_members as nothing, member}
use Rattle.serde_json.specs.Find.{of_integer}
use Rattle.cov_object.specs.Json.{by_key, file_data}
use Rattle.cov_object.specs.declared.file.FileCoverage.{FileCoverage}
use Rattle.js_value.specs.Functions.{name_units}
use Rattle.js_counter.specs.Represents.{Json, JsonItems, JsonMembers, Null, Truth, Negative, Number, Text, Items, Members, no_items, items, no_members, members}

-- a text of units in UTF-8
abbrev pub text_of : List ℕ → List ℕ
text_of units = encode_utf8_all (utf16_lossy_chars units)

-- ---- the value that data tell

abbrev mutual
  pub value_of : Json → Data
  value_of Null = null
  value_of (Truth b) = boolean b
  value_of (Negative n) = number (of_integer (negsuc n))
  value_of (Number n) = number (of_integer (pos n))
  value_of (Text units) = string (text_of units)
  value_of (Items xs) = array (items_value xs)
  value_of (Members ms) = object (by_key (entries_of ms))

  pub items_value : JsonItems → DataItems
  items_value no_items = no_values
  items_value (items x xs) = item (value_of x) (items_value xs)

  pub entries_of : JsonMembers → List (List ℕ × Data)
  entries_of no_members = []
  entries_of (members key x ms) = (text_of key, value_of x) ∷ entries_of ms

-- how many objects and arrays stand one inside another
abbrev mutual
  pub nesting : Json → ℕ
  nesting (Items xs) = suc (item_nesting xs)
  nesting (Members ms) = suc (member_nesting ms)
  nesting _ = 0

  pub item_nesting : JsonItems → ℕ
  item_nesting no_items = 0
  item_nesting (items x xs) = max (nesting x) (item_nesting xs)

  pub member_nesting : JsonMembers → ℕ
  member_nesting no_members = 0
  member_nesting (members key x ms) = max (nesting x) (member_nesting ms)

-- ---- data that tell one: no surrogate in them is alone, and no key stands twice

-- a key is none of these members'
abbrev pub IsNew : List ℕ → JsonMembers → Type 0
IsNew key no_members = Unit {0}
IsNew key (members other x ms) = (text_of key ≡ text_of other → ⊥) × IsNew key ms

abbrev mutual
  pub IsTellable : Json → Type 0
  IsTellable (Text units) = has_unpaired_surrogate units ≡ false
  IsTellable (Items xs) = AreTellable xs
  IsTellable (Members ms) = MembersAreTellable ms
  IsTellable _ = Unit {0}

  pub AreTellable : JsonItems → Type 0
  AreTellable no_items = Unit {0}
  AreTellable (items x xs) = IsTellable x × AreTellable xs

  pub MembersAreTellable : JsonMembers → Type 0
  MembersAreTellable no_members = Unit {0}
  MembersAreTellable (members key x ms) = (has_unpaired_surrogate key ≡ false) × IsTellable x × IsNew key ms × MembersAreTellable ms

-- ---- the data of a value: those of a number that is no whole number from 0 on don't matter here

abbrev mutual
  pub json_of : Data → Json
  json_of null = Null
  json_of (boolean b) = Truth b
  json_of (number (unsigned n)) = Number n
  json_of (number (negative z)) = Null
  json_of (number (float x)) = Null
  json_of (string s) = Text (name_units s)
  json_of (array ds) = Items (items_json ds)
  json_of (object ms) = Members (members_json ms)

  pub items_json : DataItems → JsonItems
  items_json no_values = no_items
  items_json (item d ds) = items (json_of d) (items_json ds)

  pub members_json : DataMembers → JsonMembers
  members_json nothing = no_members
  members_json (member key d ms) = members (name_units key) (json_of d) (members_json ms)

-- the members of files, each under its path
abbrev pub files_members : List FileCoverage → JsonMembers
files_members [] = no_members
files_members (file ∷ files) = members (name_units file.path) (json_of (file_data file)) (files_members files)
