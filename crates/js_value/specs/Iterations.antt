-- What a `for` with `in` or `of` goes through (ECMA-262, 14.7.5.9, 22.1.5 and 23.1.5).
use Rattle.std.specs.Prelude.{ℕ, zero, suc, Bool, true, not, ◌&&◌, List, [], ◌∷◌, ◌++◌, map, slice_get, Option, Some, None, Ok, option_map, if◌then◌else◌}
use Rattle.std.specs.List.{list_any}
use Rattle.std.specs.Str.{bytes_eq}
use Rattle.js_value.specs.declared.value.Value.{Value}
use Rattle.js_value.specs.declared.value.Value.TheVariants as value
use Rattle.js_value.specs.declared.value.Primitive.TheVariants as primitive
use Rattle.js_value.specs.declared.key.Key.{Key}
use Rattle.js_value.specs.State.{ObjectRecord, Heap}
use Rattle.js_value.specs.Objects.{object_in, object_at, kind_of, is_array, keys_of_object, has_property}
use Rattle.js_value.specs.Texts.{keys_of_text}
use Rattle.js_value.specs.Realm.{text}
use Rattle.js_value.specs.Host.{leads, trails}
use Rattle.js_value.specs.Arguments.{Or, throw}
use Rattle.js_value.specs.declared.deed.Complaint.TheVariants as complaint

-- enumerable keys, but those that were met before
abbrev pub unmet : List (List ℕ) → List Key → List (List ℕ)
unmet met [] = []
unmet met (k ∷ ks) = if k.enumerable && not (list_any (bytes_eq k.key) met) then k.key ∷ unmet met ks else unmet met ks

-- 14.7.5.9: an object's own before those that it inherits, and shadowed ones once
abbrev pub keys_along : ℕ → List ObjectRecord → Option ℕ → List (List ℕ) → List (List ℕ)
keys_along zero objects chain met = []
keys_along (suc n) objects None met = []
keys_along (suc n) objects (Some o) met = let own = keys_of_object (object_in objects o) in
    unmet met own ++ keys_along n objects (object_in objects o).prototype (map (λ k. k.key) own ++ met)

-- the keys of a value that `for in` takes: what primitive values inherit isn't enumerable
abbrev pub keys_of : Heap → Value → List (List ℕ)
keys_of h (value.Object o) = keys_along (suc o.index) h.objects (Some o.index) []
keys_of h (value.Primitive (primitive.Text units)) = unmet [] (keys_of_text units)
keys_of h (value.Primitive _) = []

-- whether a key is still there
abbrev pub has_key : Heap → Value → List ℕ → Bool
has_key h (value.Object o) key = has_property h o.index key
has_key h (value.Primitive p) key = true

-- Iterations

-- what is left of what a `for` with `in` or `of` goes through: keys of a value, elements of an array from one on, units of a text
pub data Iteration : Type 0 where
  Keys : (of : Value) → (keys : List (List ℕ)) → Iteration
  Elements : (array from : ℕ) → Iteration
  Characters : (units : List ℕ) → Iteration

-- a value, and what is left then
pub record Taken : Type 0 where
  pub value : Value
  pub rest : Iteration

abbrev pub taken : Value → Iteration → Taken
taken value rest = record { value = value; rest = rest }

-- the keys that are still there
abbrev pub next_key : Heap → Value → List (List ℕ) → Option Taken
next_key h v [] = None
next_key h v (k ∷ ks) = if has_key h v k then Some (taken (text k) (Keys v ks)) else next_key h v ks

-- a character of a text (22.1.5.1): a surrogate pair, or a unit
abbrev pub next_character : List ℕ → Option Taken
next_character [] = None
next_character (u ∷ []) = Some (taken (text (u ∷ [])) (Characters []))
next_character (u ∷ w ∷ us) =
    if leads u && trails w then Some (taken (text (u ∷ w ∷ [])) (Characters us))
    else Some (taken (text (u ∷ [])) (Characters (w ∷ us)))

abbrev pub next_of : Heap → Iteration → Option Taken
next_of h (Keys v ks) = next_key h v ks
next_of h (Elements o n) = option_map (λ v. taken v (Elements o (suc n))) (slice_get (object_at h o).elements n)
next_of h (Characters units) = next_character units

-- what `for of` goes through: an array or a text
abbrev pub iterated : Heap → Value → Or Iteration
iterated h (value.Object o) = if is_array (kind_of h o.index) then Ok (Elements o.index 0) else throw complaint.NotIterable
iterated h (value.Primitive (primitive.Text units)) = Ok (Characters units)
iterated h (value.Primitive _) = throw complaint.NotIterable
