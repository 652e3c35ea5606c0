-- The store of a counted program's run, on the left, and that of the program with its counters, on the right: which objects and which
-- environments stand for each other, and what the right one holds beside.
use Rattle.std.specs.Prelude.{◌≡◌, ℕ, zero, suc, ◌<◌, true, List, [], ◌∷◌, length, codes, slice_index_or, Option, Some, None}
use Rattle.std.specs.List.{AllZip}
use Rattle.js_value.specs.declared.value.Value.{Value}
use Rattle.js_value.specs.declared.built_in.Place.TheVariants.{ObjectPrototype}
use Rattle.js_value.specs.State.{Plain, ObjectRecord, Binding, Environment, Cached, Requiring, Heap, Store}
use Rattle.js_value.specs.Objects.{object_at}
use Rattle.js_value.specs.Environments.{no_environment, no_binding, environment_at, place_in, Cell}
use Rattle.js_value.specs.Realm.{number_of, global_environment}
use Rattle.js_value.specs.declared.value.Kind.{Kind}
use Rattle.js_meaning.specs.declared.outcome.Completion.{Completion}
use Rattle.js_meaning.specs.declared.outcome.Completion.TheVariants.{Normal, Break, Continue, Return, Throw}
use Rattle.js_meaning.specs.declared.outcome.Outcome.TheVariants.{Completes, Refuses, Stops}
use Rattle.js_meaning.specs.Effects.{Ran, ran}
use Rattle.js_two_runs.specs.Pairs.{Paired, Corresponds}
use Rattle.js_two_runs.specs.TwoRuns.{InBoth, Related}
use Rattle.js_two_runs.specs.TwoHeaps.{AlikeHeaps}
use Rattle.js_suits.specs.Settings.{Home, Outside, Within, World, Setting, IsOther, IsOwn}

-- more pairs
pub record Later (w v : World) : Type 0 where
  pub objects : (o p : ℕ) → Paired w.objects o p → Paired v.objects o p
  pub environments : (e f : ℕ) → Paired w.environments e f → Paired v.environments e f
  pub home : (e f : ℕ) → Paired w.environments e f → v.home f ≡ w.home f
  pub own : (e f : ℕ) → Paired w.environments e f → v.own f ≡ w.own f

-- two environments of a home
pub record Around (w : World) (h : Home) (e f : ℕ) : Type 0 where
  pub pair : Paired w.environments e f
  pub home : w.home f ≡ h

-- Environments

-- what two names hold: nothing yet, or related values; the global object is in no pair, and no source has the name that holds it
pub data AlikeContents (w : World) (x : List ℕ) : Option Value → Option Value → Type 0 where
  held : {a b : Option Value} → InBoth (Related (Paired w.objects)) a b → AlikeContents w x a b
  global_this : {a : Option Value} → x ≡ codes "globalThis" → AlikeContents w x a a

pub record AlikeBindings (name : ℕ → List ℕ) (w : World) (h : Home) (x y : Binding) : Type 0 where
  pub names : x.name ≡ y.name
  pub other : IsOther name h x.name
  pub contents : AlikeContents w x.name x.value y.value
  pub constants : x.constant ≡ y.constant

-- the same names, or one more on the right at a place
pub data AlikeNames (name : ℕ → List ℕ) (w : World) (h : Home) : Option ℕ → List Binding → List Binding → Type 0 where
  no_names : AlikeNames name w h None [] []
  more_names : {x y : Binding} {xs ys : List Binding} → AlikeBindings name w h x y → AlikeNames name w h None xs ys →
      AlikeNames name w h None (x ∷ xs) (y ∷ ys)
  own_name : {b : Binding} {xs ys : List Binding} → IsOwn name h b.name → AlikeNames name w h None xs ys →
      AlikeNames name w h (Some 0) xs (b ∷ ys)
  names_before : {n : ℕ} {x y : Binding} {xs ys : List Binding} → AlikeBindings name w h x y → AlikeNames name w h (Some n) xs ys →
      AlikeNames name w h (Some (suc n)) (x ∷ xs) (y ∷ ys)

-- a place of the left names, on the right
abbrev pub place : Option ℕ → ℕ → ℕ
place None i = i
place (Some zero) i = suc i
place (Some (suc n)) zero = zero
place (Some (suc n)) (suc i) = suc (place (Some n) i)

-- around a file's own environment is none of the file
abbrev pub outer_home : Option ℕ → Home → Home
outer_home None h = h
outer_home (Some n) h = Outside 0

-- a home that is around another: within a file with counters, that file alone
abbrev pub IsOutside : Home → Type 0
IsOutside (Outside part) = Unit {0}
IsOutside (Within file) = ⊥

abbrev pub Encloses : Home → Home → Type 0
Encloses g (Outside part) = IsOutside g
Encloses g (Within file) = g ≡ Within file

pub data AlikeOuter (w : World) (h : Home) (e f : ℕ) : Option ℕ → Option ℕ → Type 0 where
  no_outer : IsOutside h → AlikeOuter w h e f None None
  outers : (c d : ℕ) (g : Home) → c < e → d < f → Encloses g h → Around w g c d → AlikeOuter w h e f (Some c) (Some d)

pub record AlikeEnvironments (name : ℕ → List ℕ) (w : World) (e f : ℕ) (x y : Environment) : Type 0 where
  pub outer : AlikeOuter w (outer_home (w.own f) (w.home f)) e f x.outer y.outer
  pub names : AlikeNames name w (w.home f) (w.own f) x.bindings y.bindings

pub data AlikeCells (w : World) : Option Cell → Option Cell → Type 0 where
  no_cell : AlikeCells w None None
  cells : (e f i : ℕ) → Paired w.environments e f →
      AlikeCells w (Some (record { environment = e; place = i })) (Some (record { environment = f; place = place (w.own f) i }))

-- Stores

pub record AlikeFunctions (c : Setting) (w : World) (code around other_code other_around : ℕ) : Type 0 where
  pub home : Home
  pub codes : c.Codes home code other_code
  pub environments : Around w home around other_around

pub record AlikeCached (w : World) (x y : Cached) : Type 0 where
  pub path : x.path ≡ y.path
  pub object : Paired w.objects x.object y.object

pub record AlikeRequiring (w : World) (x y : Requiring) : Type 0 where
  pub path : x.path ≡ y.path
  pub function : Paired w.objects x.function y.function

pub record AlikeStores (c : Setting) (w : World) (s t : Store) : Type 0 where
  pub heaps : AlikeHeaps w.objects (AlikeFunctions c w) s.heap t.heap
  pub environments : Corresponds (AlikeEnvironments c.name w) no_environment w.environments s.heap.environments t.heap.environments
  pub global : Around w (Outside 0) global_environment global_environment
  pub cache : AllZip (AlikeCached w) s.cache t.cache
  pub requiring : AllZip (AlikeRequiring w) s.requiring t.requiring
  pub output : s.output ≡ t.output
  pub hidden : c.Hidden w s.log s.started t.heap

-- each environment is younger than the one around it
abbrev pub OutersOlder : Heap → Type 0
OutersOlder h = (f o : ℕ) → f < length h.environments → (environment_at h f).outer ≡ Some o → o < f

-- what all objects inherit from keeps its prototype and its properties, once it is frozen
abbrev pub root : ℕ
root = number_of ObjectPrototype

pub record SameProperties (x y : ObjectRecord) : Type 0 where
  pub kind : y.kind ≡ x.kind
  pub prototype : y.prototype ≡ x.prototype
  pub frozen : y.frozen ≡ x.frozen
  pub properties : y.properties ≡ x.properties

abbrev pub RootStays : Heap → Heap → Type 0
RootStays h k = (object_at h root).kind ≡ Plain → (object_at h root).frozen ≡ true → SameProperties (object_at h root) (object_at k root)

-- the name of the global object stays where it is, and what it holds
abbrev pub GlobalStays : List Binding → List Binding → Type 0
GlobalStays xs ys = (n : ℕ) → place_in xs (codes "globalThis") ≡ Some n →
    (place_in ys (codes "globalThis") ≡ Some n) × (slice_index_or ys n no_binding ≡ slice_index_or xs n no_binding)

-- what is in no pair, and each file's own name, is left as it is; what is made is younger than what is around it; and what all objects
-- inherit from and the name of the global object stay
pub record Untouched (w v : World) (h k : Heap) : Type 0 where
  pub objects : (q : ℕ) → q < length h.objects → ((o : ℕ) → Paired w.objects o q → ⊥) →
      ((o : ℕ) → Paired v.objects o q → ⊥) × (q < length k.objects) × (object_at k q ≡ object_at h q)
  pub environments : (f : ℕ) → f < length h.environments → ((e : ℕ) → Paired w.environments e f → ⊥) →
      ((e : ℕ) → Paired v.environments e f → ⊥) × (f < length k.environments) × (environment_at k f ≡ environment_at h f)
  pub own : (e f n : ℕ) → Paired w.environments e f → w.own f ≡ Some n →
      slice_index_or (environment_at k f).bindings n no_binding ≡ slice_index_or (environment_at h f).bindings n no_binding
  pub outers : OutersOlder h → OutersOlder k
  pub inherited : root < length h.objects → (root < length k.objects) × RootStays h k
  pub global : global_environment < length h.environments →
      (global_environment < length k.environments) × GlobalStays (environment_at h global_environment).bindings (environment_at k global_environment).bindings
  pub inner : (e f n : ℕ) → Paired v.environments e f → v.own f ≡ Some n → Paired w.environments e f

-- Runs

pub data AlikeCompletions (w : World) : Completion → Completion → Type 0 where
  normals : {a b : Value} → Related (Paired w.objects) a b → AlikeCompletions w (Normal a) (Normal b)
  breaks : (label : Option (List ℕ)) → AlikeCompletions w (Break label) (Break label)
  continues : (label : Option (List ℕ)) → AlikeCompletions w (Continue label) (Continue label)
  returns : {a b : Value} → Related (Paired w.objects) a b → AlikeCompletions w (Return a) (Return b)
  throws : {a b : Value} → Related (Paired w.objects) a b → AlikeCompletions w (Throw a) (Throw b)

-- what is told of a run that is going on
pub record ToldAlike (c : Setting) (s t : Store) : Type 0 where
  pub output : s.output ≡ t.output
  pub counted : c.Counted s.log s.started t.heap

pub data AlikeRuns (c : Setting) : Ran → Ran → Type 0 where
  complete : {a b : Completion} {s t : Store} (w : World) → AlikeCompletions w a b → AlikeStores c w s t →
      AlikeRuns c (ran (Completes a) s) (ran (Completes b) t)
  refused : {s t : Store} (k : Kind) (w : World) → AlikeStores c w s t → AlikeRuns c (ran (Refuses k) s) (ran (Refuses k) t)
  stopped : {s t : Store} → ToldAlike c s t → AlikeRuns c (ran Stops s) (ran Stops t)
