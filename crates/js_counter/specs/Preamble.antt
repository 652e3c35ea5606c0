-- What the first call of a file's function leaves.
use Rattle.std.specs.Prelude.{◌≡◌, ◌≢◌, ℕ, ◌+◌, ◌<◌, ◌≤◌, Bool, false, IsTrue, List, length, codes, slice_set, Option, Some, None, if◌then◌else◌}
use Rattle.std.specs.Str.{bytes_eq}
use Rattle.js_terms.specs.declared.words.Spelled.{Spelled}
use Rattle.js_value.specs.declared.value.Value.{Value}
use Rattle.js_value.specs.declared.built_in.Place.TheVariants.{ObjectPrototype}
use Rattle.js_value.specs.State.{Property, Written, Heap, Store}
use Rattle.js_value.specs.Equality.{strictly_equal}
use Rattle.js_value.specs.Objects.{object_at, kind_of, own, property_of}
use Rattle.js_value.specs.Environments.{Cell, Done, next_environment, environment_at, lookup, binding_at, value_of, assign_answer}
use Rattle.js_value.specs.Functions.{name_units}
use Rattle.js_value.specs.Running.{on_heap}
use Rattle.js_value.specs.Realm.{number_of, object, text, undefined}
use Rattle.js_meaning.specs.Program.{Sources, function_at}
use Rattle.js_meaning.specs.Meaning.{comp_expr}
use Rattle.js_counter.specs.Represents.{Json, JsonMembers, no_members, members, Placed, PlacedMembers, empty, member, plain, unit_text, json_of, json_members, value_at, OnMembers, Holds, Distinct, member_at}
use Rattle.js_counter.specs.Literals.{Literal, expr_of, data_of, KeysApart}
use Rattle.js_meaning.specs.Points.{TakesOne}
use Rattle.js_counter.specs.Steady.{gives_actual, call_of, Ready}
use Rattle.js_counter.specs.First.{hash_, first_code, locals, NoName, free, Bare}

-- a member under a key, in the place of the one that has it, or at the end
abbrev pub put_in : List ℕ → Placed → PlacedMembers → PlacedMembers
put_in key y empty = member key y empty
put_in key y (member q x ms) = if bytes_eq q key then member q y ms else member q x (put_in key y ms)

abbrev pub json_put : List ℕ → Json → JsonMembers → JsonMembers
json_put key y no_members = members key y no_members
json_put key y (members q x ms) = if bytes_eq q key then members q y ms else members q x (json_put key y ms)

-- a name that is seen from an environment, in a cell of the heap
pub record Seen (h : Heap) (env : ℕ) (name : List ℕ) : Type 0 where
  pub cell : Cell
  pub found : lookup h env name ≡ Some cell
  pub low : cell.environment < next_environment h

-- a name that is seen from an environment holds the function of a file, not called before
pub record Fresh (p : Sources) (h : Heap) (env : ℕ) (name : List ℕ) (path hash gcv : Spelled) (made : Literal) (g : ℕ) : Type 0 where
  pub outer : ℕ
  pub low : outer < next_environment h
  pub env_low : env < next_environment h
  pub older : (e o : ℕ) → e < next_environment h → (environment_at h e).outer ≡ Some o → o < e
  pub seen : Seen h outer name
  pub from_here : lookup h env name ≡ Some seen.cell
  pub may : assign_answer h seen.cell ≡ Done
  pub function : ℕ
  pub bound : value_of h seen.cell ≡ Some (object function)
  pub code : ℕ
  pub kind : kind_of h function ≡ Written code outer
  pub number : ℕ
  pub next : ℕ
  pub is_code : function_at p code ≡ Some (first_code number name path hash gcv (expr_of made) next)
  pub is_next : function_at p next ≡ Some (gives_actual next None None None)
  pub free_name : NoName name (locals undefined undefined undefined undefined undefined undefined undefined)
  pub global_this : Seen h outer (codes "globalThis")
  pub is_global : value_of h global_this.cell ≡ Some (object g)
  pub keys : KeysApart made

-- the global object has no coverage, and neither has what it inherits from
pub record Uncovered (h : Heap) (g : ℕ) (gcv : List ℕ) : Type 0 where
  pub prototype : Option ℕ
  pub elements : List Value
  pub properties : List Property
  pub is : object_at h g ≡ free prototype elements properties
  pub low : g < length h.objects
  pub none : property_of properties gcv ≡ None
  pub bare : Bare h prototype gcv

-- it has this coverage
pub record Covered (h : Heap) (g : ℕ) (gcv : List ℕ) (c : ℕ) (ms : PlacedMembers) : Type 0 where
  pub low : g < length h.objects
  pub property : Property
  pub has : own h g gcv ≡ Some property
  pub is : property.value ≡ object c
  pub apart : g ≢ c
  pub holds : Holds h (plain c ms)
  pub distinct : Distinct (plain c ms)

-- what objects inherit from has no property of a key
abbrev pub NotInherited : Heap → List ℕ → Type 0
NotInherited h key = Bare h (Some (number_of ObjectPrototype)) key

-- a file's data whose hash is another, or which have none
pub data OtherHash (h : Heap) (hash : List ℕ) : PlacedMembers → Type 0 where
  another : {fs : PlacedMembers} (y : Placed) → member_at fs (name_units hash_) ≡ Some y → strictly_equal (value_at y) (text hash) ≡ false → OtherHash h hash fs
  no_hash : {fs : PlacedMembers} → member_at fs (name_units hash_) ≡ None → NotInherited h (name_units hash_) → OtherHash h hash fs

-- the call takes a step; the name then holds the replaced function, which gives a file's data; they stand under the path, and all other
-- paths are as they were; no other object that was there has changed, and no environment but that of the name
pub record Opened (p : Sources) (s : Store) (env : ℕ) (name : List ℕ) (path : Spelled) (gcv : List ℕ) (g c : ℕ) (ms : PlacedMembers) (json : Json) : Type 0 where
  pub store : Store
  pub file : Placed
  pub takes : TakesOne p (comp_expr p (call_of name) env) s (value_at file) store
  pub ready : Ready p store.heap env name (value_at file)
  pub after : PlacedMembers
  pub covered : Covered store.heap g gcv c after
  pub there : member_at after path.units ≡ Some file
  pub tells : json_of file ≡ json
  pub paths : json_members after ≡ json_put path.units json (json_members ms)
  pub objects : (o : ℕ) → o < length s.heap.objects → o ≢ g → o ≢ c → (o < length store.heap.objects) × (object_at store.heap o ≡ object_at s.heap o)
  pub only_heap : store ≡ on_heap (λ h. store.heap) s
  pub cell : Cell
  pub is_cell : lookup s.heap env name ≡ Some cell
  pub function : ℕ
  pub environments : (e : ℕ) → e < next_environment s.heap → e ≢ cell.environment → environment_at store.heap e ≡ environment_at s.heap e
  pub own : environment_at store.heap cell.environment ≡ record {
    outer = (environment_at s.heap cell.environment).outer;
    bindings = slice_set (environment_at s.heap cell.environment).bindings cell.place (record (binding_at s.heap cell) { value = Some (object function) });
  }
  pub one_more : next_environment store.heap ≡ next_environment s.heap + 1
  -- the function that replaces it is new, and so is its environment; what is made is younger than what is around it
  pub same_cell : ready.cell ≡ cell
  pub new_function : length s.heap.objects ≤ ready.function
  pub new_inner : next_environment s.heap ≤ ready.inner
  pub older : (e o : ℕ) → e < next_environment store.heap → (environment_at store.heap e).outer ≡ Some o → o < e
  -- data of other paths are where they were, and those of this one are made of new objects, or were there
  pub kept : (key : List ℕ) (y : Placed) → bytes_eq path.units key ≡ false → member_at ms key ≡ Some y → member_at after key ≡ Some y
  pub made : (test : ℕ → Bool) → ((o : ℕ) → length s.heap.objects ≤ o → IsTrue (test o)) → OnMembers (λ o r. IsTrue (test o)) ms → OnMembers (λ o r. IsTrue (test o)) after

-- no coverage yet
abbrev pub OpensFirst : Type 0
OpensFirst = (p : Sources) (s : Store) (env : ℕ) (name : List ℕ) (path hash gcv : Spelled) (made : Literal) (g : ℕ) →
    Fresh p s.heap env name path hash gcv made g → Uncovered s.heap g gcv.units → NotInherited s.heap path.units → number_of ObjectPrototype ≢ g →
    (c : ℕ) × (length s.heap.objects ≤ c) × Opened p s env name path gcv.units g c empty (data_of made)

-- coverage of other files
abbrev pub OpensOther : Type 0
OpensOther = (p : Sources) (s : Store) (env : ℕ) (name : List ℕ) (path hash gcv : Spelled) (made : Literal) (g c : ℕ) (ms : PlacedMembers) →
    Fresh p s.heap env name path hash gcv made g → Covered s.heap g gcv.units c ms → NotInherited s.heap path.units →
    member_at ms path.units ≡ None → Opened p s env name path gcv.units g c ms (data_of made)

-- data of this path with another hash, or with none
abbrev pub OpensAnew : Type 0
OpensAnew = (p : Sources) (s : Store) (env : ℕ) (name : List ℕ) (path hash gcv : Spelled) (made : Literal) (g c : ℕ) (ms : PlacedMembers) (d : ℕ) (fs : PlacedMembers) →
    Fresh p s.heap env name path hash gcv made g → Covered s.heap g gcv.units c ms →
    member_at ms path.units ≡ Some (plain d fs) → OtherHash s.heap hash.units fs → Opened p s env name path gcv.units g c ms (data_of made)

-- data of this path with the same hash stay
abbrev pub OpensAgain : Type 0
OpensAgain = (p : Sources) (s : Store) (env : ℕ) (name : List ℕ) (path hash gcv : Spelled) (made : Literal) (g c : ℕ) (ms : PlacedMembers) (d : ℕ) (fs : PlacedMembers) →
    Fresh p s.heap env name path hash gcv made g → Covered s.heap g gcv.units c ms →
    member_at ms path.units ≡ Some (plain d fs) → member_at fs (name_units hash_) ≡ Some (unit_text hash.units) →
    (x : Opened p s env name path gcv.units g c ms (json_of (plain d fs))) × (x.file ≡ plain d fs)
