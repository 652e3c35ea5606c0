-- Heaps of two runs that are alike: at each pair of numbers the two objects have the same form, and what they hold is related.
-- Objects that are in no pair may be anything, and environments are left to a relation of their own.
use Rattle.std.specs.Prelude.{◌≡◌, ◌≢◌, ℕ, zero, suc, ◌<◌, ◌≤◌, ◌==◌, Bool, IsTrue, [], ◌∷◌, ◌++◌, Option, None, Some, if◌then◌else◌}
use Rattle.std.specs.List.{AllZip}
use Rattle.js_value.specs.declared.value.Value.TheVariants as value
use Rattle.js_value.specs.declared.value.Object.{Object}
use Rattle.js_value.specs.declared.built_in.Place.TheVariants as place
use Rattle.js_value.specs.State.{ObjectKind, Plain, Array, Error, RegExp, BuiltIn, Written, Property, ObjectRecord, Heap}
use Rattle.js_value.specs.Objects.{no_object, next_object, with_object}
use Rattle.js_value.specs.Realm.{number_of, built_in_count, opening}
use Rattle.js_two_runs.specs.Pairs.{Pairs, Paired, Corresponds}
use Rattle.js_two_runs.specs.TwoRuns.{Related, AllRelated, RelatedHeaps}

-- Functions tells which functions of programs are related, by their code and their environment in the left run and in the right
module _ (pairs : Pairs) (Functions : (code around other_code other_around : ℕ) → Type 0) where
  -- the same kind, and for functions the same built-in one or related ones
  pub data AlikeKinds : ObjectKind → ObjectKind → Type 0 where
    plains : AlikeKinds Plain Plain
    arrays : AlikeKinds Array Array
    errors : AlikeKinds Error Error
    patterns : AlikeKinds RegExp RegExp
    built_ins : (function : ℕ) → AlikeKinds (BuiltIn function) (BuiltIn function)
    functions : (code around other_code other_around : ℕ) → Functions code around other_code other_around →
        AlikeKinds (Written code around) (Written other_code other_around)

  -- no prototype in both, or a pair of objects, each older than the one that inherits from it
  pub data AlikePrototypes (o p : ℕ) : Option ℕ → Option ℕ → Type 0 where
    no_prototype : AlikePrototypes o p None None
    prototypes : (r q : ℕ) → Paired pairs r q → r < o → q < p → AlikePrototypes o p (Some r) (Some q)

  -- properties with one key and the same flags
  pub record AlikeProperties (p q : Property) : Type 0 where
    pub key : p.key ≡ q.key
    pub value : Related (Paired pairs) p.value q.value
    pub enumerable : p.enumerable ≡ q.enumerable
    pub writable : p.writable ≡ q.writable

  -- the objects of the numbers o and p
  pub record AlikeObjects (o p : ℕ) (x y : ObjectRecord) : Type 0 where
    pub kind : AlikeKinds x.kind y.kind
    pub prototype : AlikePrototypes o p x.prototype y.prototype
    pub frozen : x.frozen ≡ y.frozen
    pub elements : AllRelated (Paired pairs) x.elements y.elements
    pub properties : AllZip AlikeProperties x.properties y.properties

  -- the objects of each pair are alike. Each built-in object stands for itself, but for the global one: instrumented texts alone
  -- reach it, and what they put there has no counterpart.
  pub record AlikeHeaps (h k : Heap) : Type 0 where
    pub objects : Corresponds AlikeObjects no_object pairs h.objects k.objects
    pub built_in : (n : ℕ) → n < built_in_count → n ≢ number_of place.Global → Paired pairs n n

-- functions of programs that a test takes for each other
abbrev pub By : (ℕ → ℕ → ℕ → ℕ → Bool) → ℕ → ℕ → ℕ → ℕ → Type 0
By test c e d f = IsTrue (test c e d f)

-- what the built-in functions see of heaps that are alike is related
abbrev pub AlikeHeapsAreRelated : Type 0
AlikeHeapsAreRelated = (pairs : Pairs) (test : ℕ → ℕ → ℕ → ℕ → Bool) (h k : Heap) → AlikeHeaps pairs (By test) h k → RelatedHeaps (Paired pairs) h k

-- what a call asks for is there: the built-in objects, and those that related references are to
abbrev pub AlikeHeapsHold : Type 0
AlikeHeapsHold = (pairs : Pairs) (test : ℕ → ℕ → ℕ → ℕ → Bool) (h k : Heap) → AlikeHeaps pairs (By test) h k →
    (built_in_count ≤ next_object h) × (built_in_count ≤ next_object k)
    × ((o p : Object) → Related (Paired pairs) (value.Object o) (value.Object p) → (o.index < next_object h) × (p.index < next_object k))

-- each number below a bound with itself, but for that of the global object
abbrev pub themselves : ℕ → Pairs
themselves zero = []
themselves (suc n) = if n == number_of place.Global then themselves n else (n, n) ∷ themselves n

-- the heap that stands when a program begins is alike to itself
abbrev pub OpeningIsAlike : Type 0
OpeningIsAlike = (test : ℕ → ℕ → ℕ → ℕ → Bool) → AlikeHeaps (themselves built_in_count) (By test) opening opening

-- heaps stay alike where the right one alone gets an object
abbrev pub OneMoreStaysAlike : Type 0
OneMoreStaysAlike = (pairs : Pairs) (test : ℕ → ℕ → ℕ → ℕ → Bool) (h k : Heap) (x : ObjectRecord) →
    AlikeHeaps pairs (By test) h k → AlikeHeaps pairs (By test) h (record k { objects = k.objects ++ x ∷ [] })

-- and where an object of it changes that is in no pair
abbrev pub UnpairedStaysAlike : Type 0
UnpairedStaysAlike = (pairs : Pairs) (test : ℕ → ℕ → ℕ → ℕ → Bool) (h k : Heap) (p : ℕ) (x : ObjectRecord) →
    AlikeHeaps pairs (By test) h k → ((o : ℕ) → Paired pairs o p → ⊥) → AlikeHeaps pairs (By test) h (with_object p x k)
