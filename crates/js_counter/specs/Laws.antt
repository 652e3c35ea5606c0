-- Laws on data in a heap, and on counters by the runs of a program.
use Rattle.std.specs.Prelude.{◌≡◌, ℕ, zero, suc, ◌+◌, ◌<◌, ◌≤◌, List, [], ◌∷◌, length, Option, Some, None, option_map, if◌then◌else◌, pos, negsuc}
use Rattle.js_value.specs.declared.value.Value.{Value}
use Rattle.js_value.specs.declared.value.Value.TheVariants as value
use Rattle.js_value.specs.declared.value.Primitive.TheVariants as primitive
use Rattle.js_value.specs.State.{Plain, Array, Error, RegExp, BuiltIn, Written, Property, ObjectRecord, Environment, Heap, Store}
use Rattle.js_value.specs.Objects.{object_at, kind_of, count_value, set}
use Rattle.js_value.specs.Environments.{next_environment, environment_at, place_of, binding_at}
use Rattle.js_meaning.specs.declared.outcome.Completion.{Completion}
use Rattle.js_meaning.specs.declared.outcome.Completion.TheVariants.{Normal}
use Rattle.js_meaning.specs.declared.outcome.Outcome.TheVariants.{Stops}
use Rattle.js_meaning.specs.Effects.{Comp, handle, ran, exec}
use Rattle.js_meaning.specs.Program.{Sources}
use Rattle.js_meaning.specs.Files.{inside}
use Rattle.js_counter.specs.Represents.{Json, JsonItems, JsonMembers, Null, Truth, Negative, Number, Text, Items, Members, no_items, items, no_members, members, json_ticked, Placed, On, Within, address, Represents}
use Rattle.js_meaning.specs.Points.{TakesOne}
use Rattle.js_counter.specs.Steady.{Ready, called}

-- Reading data back (own enumerable properties, and elements), to so many levels: none for what is no data

abbrev pub both : {A B C : Type 0} → (A → B → C) → Option A → Option B → Option C
both f None b = None
both f (Some a) None = None
both f (Some a) (Some b) = Some (f a b)

abbrev pub primitive_data : Value → Option Json
primitive_data (value.Primitive primitive.Null) = Some Null
primitive_data (value.Primitive (primitive.Boolean b)) = Some (Truth b)
primitive_data (value.Primitive (primitive.Number z)) = elim z [ pos n ↦ Some (Number n) | negsuc n ↦ Some (Negative n) ]
primitive_data (value.Primitive (primitive.Text units)) = Some (Text units)
primitive_data (value.Primitive primitive.Undefined) = None
primitive_data (value.Object o) = None

abbrev pub all_items : (Value → Option Json) → List Value → Option JsonItems
all_items read [] = Some no_items
all_items read (v ∷ vs) = both items (read v) (all_items read vs)

abbrev pub all_members : (Value → Option Json) → List Property → Option JsonMembers
all_members read [] = Some no_members
all_members read (p ∷ ps) = if p.enumerable then both (members p.key) (read p.value) (all_members read ps) else all_members read ps

abbrev pub object_data : (Value → Option Json) → ObjectRecord → Option Json
object_data read r = elim r.kind [
  | Plain ↦ option_map Members (all_members read r.properties)
  | Array ↦ option_map Items (all_items read r.elements)
  | Error ↦ option_map Members (all_members read r.properties)
  | RegExp ↦ option_map Members (all_members read r.properties)
  | BuiltIn f ↦ None
  | Written c e ↦ None
]

abbrev pub data_at : ℕ → Heap → Value → Option Json
data_at zero h v = primitive_data v
data_at (suc n) h (value.Primitive p) = primitive_data (value.Primitive p)
data_at (suc n) h (value.Object o) = object_data (data_at n h) (object_at h o.index)

abbrev mutual
  pub levels : Json → ℕ
  levels Null = 0
  levels (Truth b) = 0
  levels (Negative neg) = 0
  levels (Number n) = 0
  levels (Text units) = 0
  levels (Items xs) = suc (item_levels xs)
  levels (Members xs) = suc (member_levels xs)

  pub item_levels : JsonItems → ℕ
  item_levels no_items = 0
  item_levels (items x xs) = levels x + item_levels xs

  pub member_levels : JsonMembers → ℕ
  member_levels no_members = 0
  member_levels (members key x xs) = levels x + member_levels xs

-- what a value represents is read back
abbrev pub ReadsBack : Type 0
ReadsBack = (h : Heap) (v : Value) (json : Json) (n : ℕ) → Represents h v json → levels json ≤ n → data_at n h v ≡ Some json

-- it stays where its objects stay
abbrev pub Stays : Type 0
Stays = (h k : Heap) (v : Value) (json : Json) (r : Represents h v json) →
    On (λ o x. (o < length k.objects) × (object_at k o ≡ object_at h o)) r.placed → Represents k v json

-- and a counter's write tells one more
abbrev pub TellsMore : Type 0
TellsMore = (h : Heap) (v : Value) (json : Json) (r : Represents h v json) (inner n : ℕ) (y : Placed) (key : List ℕ) (keys : List (List ℕ)) (last : List ℕ) →
    Within r.placed key keys y last n →
    Represents (set (address y) last (count_value (n + 1)) (called inner h)) v (json_ticked json (key ∷ keys))

-- Names

-- two environments show the same of a name
pub record SameShown (name : List ℕ) (x y : Environment) : Type 0 where
  pub place : place_of y name ≡ place_of x name
  pub outer : y.outer ≡ x.outer

-- the replaced function stays where the name's chain, its cell, the function and its environment stay
abbrev pub StaysReady : Type 0
StaysReady = (p : Sources) (h k : Heap) (env : ℕ) (name : List ℕ) (v : Value) (r : Ready p h env name v) → env < next_environment h →
    ((e o : ℕ) → e < next_environment h → (environment_at h e).outer ≡ Some o → o < e) →
    ((e : ℕ) → e < next_environment h → SameShown name (environment_at h e) (environment_at k e)) →
    binding_at k r.cell ≡ binding_at h r.cell → kind_of k r.function ≡ kind_of h r.function →
    r.inner < next_environment k → environment_at k r.inner ≡ environment_at h r.inner → Ready p k env name v

-- the same by the runs that programs have
abbrev pub RunsOne : Type 0
RunsOne = (p : Sources) (c : Comp) (s : Store) (v : Value) (t : Store) → TakesOne p c s v t →
    ((j : Completion → Comp) → exec (inside p) 0 (handle c j) s ≡ ran Stops s)
    × ((n : ℕ) (j : Completion → Comp) → exec (inside p) (suc n) (handle c j) s ≡ exec (inside p) n (j (Normal v)) t)

-- after a count the name still holds the function that gives the data, which tell one more: so that it can count again
abbrev pub CountsOn : Type 0
CountsOn = (p : Sources) (h : Heap) (env : ℕ) (name : List ℕ) (v : Value) (json : Json) (r : Ready p h env name v) (d : Represents h v json)
    (n : ℕ) (y : Placed) (key : List ℕ) (keys : List (List ℕ)) (last : List ℕ) → Within d.placed key keys y last n → env < next_environment h →
    ((e o : ℕ) → e < next_environment h → (environment_at h e).outer ≡ Some o → o < e) →
    Ready p (set (address y) last (count_value (n + 1)) (called r.inner h)) env name v
    × Represents (set (address y) last (count_value (n + 1)) (called r.inner h)) v (json_ticked json (key ∷ keys))
