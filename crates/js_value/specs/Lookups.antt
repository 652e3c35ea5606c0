-- Laws on lookups and writes: what a proof over a heap stands on of which only a part is known.
use Rattle.std.specs.Prelude.{◌≡◌, slice_get, ◌≢◌, ◌-◌, ◌^◌, pos, ℕ, ◌<◌, ◌≤◌, true, List, [], ◌∷◌, ◌++◌, length, Option, Some, None, false}
use Rattle.std.specs.Str.{bytes_eq}
use Rattle.js_value.specs.declared.value.Value.{Value}
use Rattle.js_value.specs.Key.{index_of}
use Rattle.js_value.specs.Numbers.{decimal_text}
use Rattle.js_value.specs.State.{Plain, Property, ObjectRecord, Environment, Heap}
use Rattle.js_value.specs.Objects.{object_at, kind_of, is_array, elements_of, own, found, get, assigned, property_of, with_object, with_value_of}
use Rattle.js_value.specs.Environments.{Cell, environment_in, environment_at, place_of, resolved, lookup, assign}
use Rattle.js_value.specs.Realm.{object, text}
use Rattle.js_value.specs.Copying.{goes_on}
use Rattle.js_value.specs.Members.{put_member}

-- Names

-- a name of an environment is found in it, and another one further outward
abbrev pub LooksUp : Type 0
LooksUp = (h : Heap) (e place : ℕ) (name : List ℕ) → place_of (environment_at h e) name ≡ Some place → lookup h e name ≡ Some (record { environment = e; place = place })

abbrev pub LooksOut : Type 0
LooksOut = (h : Heap) (e : ℕ) (name : List ℕ) → place_of (environment_at h e) name ≡ None → lookup h e name ≡ resolved e h.environments (environment_at h e).outer name

-- two environments show the same of a name
pub record Shows (name : List ℕ) (x y : Environment) : Type 0 where
  pub place : place_of y name ≡ place_of x name
  pub outer : y.outer ≡ x.outer

-- what is found along environments of which each is younger than the one around it is found in those that show the same
abbrev pub FindsAgain : Type 0
FindsAgain = (es fs : List Environment) (name : List ℕ) (cell : Cell) →
    ((e : ℕ) → e < length es → Shows name (environment_in es e) (environment_in fs e)) →
    ((e outer : ℕ) → e < length es → (environment_in es e).outer ≡ Some outer → outer < e) →
    (n m e : ℕ) → e < length es → n ≤ m → resolved n es (Some e) name ≡ Some cell → resolved m fs (Some e) name ≡ Some cell

-- an assignment to a cell that is there changes no name's place
abbrev pub AssignShows : Type 0
AssignShows = (cell : Cell) (v : Value) (h : Heap) (name : List ℕ) (e : ℕ) → cell.environment < length h.environments →
    cell.place < length (environment_at h cell.environment).bindings → Shows name (environment_at h e) (environment_at (assign cell v h) e)

-- Indices

-- the key of an index is read as the index
abbrev pub ReadsIndex : Type 0
ReadsIndex = (n : ℕ) → n < 2 ^ 32 - 1 → index_of (decimal_text (pos n)) ≡ Some n

-- and those of different numbers differ
abbrev pub TellsIndices : Type 0
TellsIndices = (m n : ℕ) → m < 2 ^ 64 → n < 2 ^ 64 → m ≢ n → bytes_eq (decimal_text (pos m)) (decimal_text (pos n)) ≡ false

-- so the property of that key is the element of an array
abbrev pub GetsElement : Type 0
GetsElement = (h : Heap) (o n : ℕ) (v : Value) → n < 2 ^ 32 - 1 → is_array (kind_of h o) ≡ true → slice_get (elements_of h o) n ≡ Some v →
    get h o (decimal_text (pos n)) ≡ Some v

-- Properties

abbrev pub GetsNone : Type 0
GetsNone = (h : Heap) (o : ℕ) (key : List ℕ) → own h o key ≡ None → found o h.objects (object_at h o).prototype key ≡ None → get h o key ≡ None

-- a plain object that isn't frozen
abbrev pub free : Option ℕ → List Property → ObjectRecord
free prototype properties = record { kind = Plain; prototype = prototype; frozen = false; elements = []; properties = properties }

-- a member that it has not, and that it doesn't inherit, is put at the end
abbrev pub PutsNew : Type 0
PutsNew = (h : Heap) (o : ℕ) (key : List ℕ) (v : Value) (prototype : Option ℕ) (properties : List Property) → object_at h o ≡ free prototype properties →
    property_of properties key ≡ None → found o h.objects prototype key ≡ None →
    put_member (object o) (text key) v h ≡ goes_on (with_object o (free prototype (properties ++ assigned key v ∷ [])) h)

-- one that it has, and that may be written, is put in its place
abbrev pub PutsOld : Type 0
PutsOld = (h : Heap) (o : ℕ) (key : List ℕ) (v : Value) (prototype : Option ℕ) (properties : List Property) (p : Property) → object_at h o ≡ free prototype properties →
    property_of properties key ≡ Some p → p.writable ≡ true →
    put_member (object o) (text key) v h ≡ goes_on (with_object o (free prototype (with_value_of key v properties)) h)

-- Growth

-- a heap that has the objects that stood in another
abbrev pub Grown : Heap → Heap → Type 0
Grown h k = (o : ℕ) → o < length h.objects → (o < length k.objects) × (object_at k o ≡ object_at h o)

abbrev pub GrowsByMore : Type 0
GrowsByMore = (h : Heap) (more : List ObjectRecord) (environments : List Environment) → Grown h (record { objects = h.objects ++ more; environments = environments })
