-- Where a function was held for its name, nothing refers to the object that held it: no object, itself among them, and no environment.
use Rattle.std.specs.Prelude.{◌≡◌, ℕ, ◌≤◌, ◌==◌, ◌&&◌, nat_lt, not, Bool, true, List, Option, None, Some}
use Rattle.std.specs.List.{list_all}
use Rattle.js_value.specs.declared.value.Value.{Value}
use Rattle.js_value.specs.declared.value.Value.TheVariants as value
use Rattle.js_value.specs.State.{ObjectRecord, Environment, Heap}
use Rattle.js_value.specs.Objects.{next_object}
use Rattle.js_value.specs.Realm.{built_in_count, opening}
use Rattle.js_meaning.specs.Scopes.{Shape}
use Rattle.js_meaning.specs.Shapes.{held_made}

-- whether each reference to an object that a heap holds passes a test
module _ (test : ℕ → Bool) where
  abbrev pub value_passes : Value → Bool
  value_passes (value.Primitive p) = true
  value_passes (value.Object o) = test o.index

  abbrev pub prototype_passes : Option ℕ → Bool
  prototype_passes None = true
  prototype_passes (Some o) = test o

  abbrev pub object_passes : ObjectRecord → Bool
  object_passes x = prototype_passes x.prototype && (list_all value_passes x.elements && list_all (λ p. value_passes p.value) x.properties)

  abbrev pub content_passes : Option Value → Bool
  content_passes None = true
  content_passes (Some v) = value_passes v

  abbrev pub environment_passes : Environment → Bool
  environment_passes e = list_all (λ b. content_passes b.value) e.bindings

  abbrev pub references_pass : Heap → Bool
  references_pass h = list_all object_passes h.objects && list_all environment_passes h.environments

-- the built-in objects are there, and each reference is to an object that is there
pub record IsClosed (h : Heap) : Type 0 where
  pub built_in : built_in_count ≤ next_object h
  pub references : references_pass (λ o. nat_lt o (next_object h)) h ≡ true

-- no reference is to this object
abbrev pub Unreferenced : ℕ → Heap → Type 0
Unreferenced q h = references_pass (λ o. not (o == q)) h ≡ true

-- the heap that stands when a program begins is such a heap
abbrev pub OpeningIsClosed : Type 0
OpeningIsClosed = IsClosed opening

-- from any such heap, nothing refers to the holder afterwards, and the heap is such a heap again
abbrev pub HolderUnreferenced : Type 0
HolderUnreferenced = (shape : Shape) (name : List ℕ) (env : ℕ) (h : Heap) → IsClosed h →
    Unreferenced (next_object h) (held_made shape name env h) × IsClosed (held_made shape name env h)
