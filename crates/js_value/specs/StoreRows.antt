-- Worked examples of what is done with objects and environments.
use Rattle.std.specs.Prelude.{◌≡◌, ℕ, suc, true, false, List, [], ◌∷◌, map, Some, None, codes, pos, negsuc}
use Rattle.js_value.specs.declared.value.Value.{Value}
use Rattle.js_value.specs.declared.value.Value.TheVariants as value
use Rattle.js_value.specs.declared.value.Primitive.TheVariants as primitive
use Rattle.js_value.specs.State.{Plain, Written, Heap}
use Rattle.js_value.specs.declared.key.Key.{Key}
use Rattle.js_value.specs.Key.{index_of}
use Rattle.js_value.specs.Objects.{next_object, new_object, new_array, get, own, keys, define, freeze, elements_of, with_elements, append, cut, set, set_answer, Done, IsReadOnly, IsSparse, IsBadLength, delete, delete_answer, Deleted, IsFrozen, LeavesHole, assigned}
use Rattle.js_value.specs.Texts.{own_of_text, keys_of_text, get_of_text, delete_of_text}
use Rattle.js_value.specs.Environments as environments
use Rattle.js_value.specs.Environments.{Cell, new_environment, declare, lookup, value_of, assign_answer, assign}
use Rattle.js_value.specs.Realm.{empty_heap, fixed, hidden, text, undefined}

abbrev pub number : ℕ → Value
number n = value.Primitive (primitive.Number (pos n))

-- a heap of one object, from which the others inherit, and of one environment with a name
abbrev pub ground : Heap
ground = declare 0 (record { name = codes "y"; value = Some undefined; constant = true }) (new_environment None (new_object Plain None empty_heap))

-- the object that is made first, and the one after it
abbrev pub first : ℕ
first = next_object ground

abbrev pub second : ℕ
second = suc first

-- an object without properties
abbrev pub one_object : Heap
one_object = new_object Plain (Some 0) ground

-- an array of no elements, and one of two
abbrev pub no_elements : Heap
no_elements = new_array 0 [] ground

abbrev pub two_elements : Heap
two_elements = set first (codes "1") (number 8) (set first (codes "0") (number 7) no_elements)

abbrev pub named : List Key → List (List ℕ)
named ks = map (λ k. k.key) ks

-- `{b: 0, 2: 0, a: 0, 10: 0, 1: 0}`
abbrev pub five_keys : Heap
five_keys = set first (codes "1") undefined (set first (codes "10") undefined (set first (codes "a") undefined (set first (codes "2") undefined (set first (codes "b") undefined one_object))))

pub record Keys : Type 0 where
  pub order : named (keys five_keys first) ≡ codes "1" ∷ codes "2" ∷ codes "10" ∷ codes "b" ∷ codes "a" ∷ []
  -- a property that is written again keeps its place, and one that was deleted comes last
  pub again : named (keys (set first (codes "b") (number 1) five_keys) first) ≡ codes "1" ∷ codes "2" ∷ codes "10" ∷ codes "b" ∷ codes "a" ∷ []
  pub anew : named (keys (set first (codes "b") (number 1) (delete first (codes "b") five_keys)) first) ≡ codes "1" ∷ codes "2" ∷ codes "10" ∷ codes "a" ∷ codes "b" ∷ []
  pub index : index_of (codes "4294967294") ≡ Some 4294967294
  pub last : index_of (codes "4294967295") ≡ None
  pub zero : index_of (codes "01") ≡ None
  pub empty : index_of [] ≡ None
  pub flags : keys (define first (hidden (codes "x") undefined) one_object) first ≡ record { key = codes "x"; enumerable = false } ∷ []

abbrev pub negative_one : Value
negative_one = value.Primitive (primitive.Number (negsuc 0))

abbrev pub frozen_elements : Heap
frozen_elements = freeze first two_elements

pub record Arrays : Type 0 where
  pub length : get two_elements first (codes "length") ≡ Some (number 2)
  pub element : get two_elements first (codes "1") ≡ Some (number 8)
  pub none : get two_elements first (codes "2") ≡ None
  pub past : set_answer two_elements first (codes "3") (number 0) ≡ IsSparse
  pub past_kept : set first (codes "3") (number 0) two_elements ≡ two_elements
  pub appends : set_answer two_elements first (codes "2") (number 0) ≡ Done
  pub appended : elements_of (set first (codes "2") (number 9) two_elements) first ≡ number 7 ∷ number 8 ∷ number 9 ∷ []
  pub put : elements_of (set first (codes "0") (number 9) two_elements) first ≡ number 9 ∷ number 8 ∷ []
  -- a key that is no index
  pub no_index : named (keys (set first (codes "01") (number 1) two_elements) first) ≡ codes "0" ∷ codes "1" ∷ codes "length" ∷ codes "01" ∷ []
  pub shortened : named (keys (set first (codes "length") (number 1) two_elements) first) ≡ codes "0" ∷ codes "length" ∷ []
  pub shorter : get (set first (codes "length") (number 1) two_elements) first (codes "length") ≡ Some (number 1)
  pub same_length : set first (codes "length") (number 2) two_elements ≡ two_elements
  pub longer : set_answer two_elements first (codes "length") (number 3) ≡ IsSparse
  pub negative : set_answer two_elements first (codes "length") negative_one ≡ IsBadLength
  pub negative_kept : set first (codes "length") negative_one two_elements ≡ two_elements
  pub hole : delete_answer two_elements first (codes "0") ≡ LeavesHole
  pub hole_kept : delete first (codes "0") two_elements ≡ two_elements
  pub no_hole : delete_answer two_elements first (codes "2") ≡ Deleted
  pub kept : delete_answer two_elements first (codes "length") ≡ IsFrozen
  pub member : named (keys (set first (codes "x") (number 1) two_elements) first) ≡ codes "0" ∷ codes "1" ∷ codes "length" ∷ codes "x" ∷ []
  pub more : elements_of (append first (number 9 ∷ []) two_elements) first ≡ number 7 ∷ number 8 ∷ number 9 ∷ []
  pub fewer : elements_of (cut first 1 two_elements) first ≡ number 7 ∷ []
  pub others : elements_of (with_elements first (number 9 ∷ []) two_elements) first ≡ number 9 ∷ []
  -- that it may not be written comes before a hole and a length
  pub frozen_element : set_answer frozen_elements first (codes "0") (number 0) ≡ IsReadOnly
  pub frozen_past : set_answer frozen_elements first (codes "3") (number 0) ≡ IsReadOnly
  pub frozen_longer : set_answer frozen_elements first (codes "length") (number 3) ≡ IsReadOnly
  pub frozen_negative : set_answer frozen_elements first (codes "length") negative_one ≡ IsReadOnly
  pub frozen_hole : delete_answer frozen_elements first (codes "0") ≡ IsFrozen

-- an object that inherits from a frozen one with a property `x`
abbrev pub inheriting : Heap
inheriting = new_object Plain (Some first) (freeze first (define first (assigned (codes "x") (number 1)) one_object))

-- an object that inherits from one with a property `x` that may not be written
abbrev pub under_fixed : Heap
under_fixed = new_object Plain (Some first) (define first (fixed (codes "x") (number 1)) one_object)

-- a function of a program with a `prototype` from its making
abbrev pub function : Heap
function = define first (hidden (codes "prototype") undefined) (new_object (Written 0 0) (Some 0) ground)

-- an arrow to which a program gave a `prototype`
abbrev pub arrow : Heap
arrow = set first (codes "prototype") undefined (new_object (Written 0 0) (Some 0) ground)

pub record Changes : Type 0 where
  pub inherited : get inheriting second (codes "x") ≡ Some (number 1)
  pub own_only : own inheriting second (codes "x") ≡ None
  pub under_frozen : set_answer inheriting second (codes "x") (number 2) ≡ IsReadOnly
  pub none_made : set second (codes "x") (number 2) inheriting ≡ inheriting
  pub under_fixed_one : set_answer under_fixed second (codes "x") (number 2) ≡ IsReadOnly
  pub fixed_none_made : set second (codes "x") (number 2) under_fixed ≡ under_fixed
  pub other : set_answer inheriting second (codes "y") (number 2) ≡ Done
  pub frozen : set_answer inheriting first (codes "y") (number 2) ≡ IsReadOnly
  pub frozen_own : set_answer inheriting first (codes "x") (number 2) ≡ IsReadOnly
  pub fixed_one : set_answer (define first (fixed (codes "x") undefined) one_object) first (codes "x") undefined ≡ IsReadOnly
  pub of_frozen : delete_answer inheriting first (codes "x") ≡ IsFrozen
  pub absent : delete_answer inheriting first (codes "y") ≡ Deleted
  -- what is only inherited isn't deleted
  pub inherited_stays : delete_answer inheriting second (codes "x") ≡ Deleted
  pub once : named (keys (set first (codes "x") (number 2) (set first (codes "x") (number 1) one_object)) first) ≡ codes "x" ∷ []
  pub gone : keys (delete first (codes "x") (set first (codes "x") (number 1) one_object)) first ≡ []
  pub prototype_stays : delete_answer function first (codes "prototype") ≡ IsFrozen
  -- a write keeps the flags
  pub written_stays : delete_answer (set first (codes "prototype") (number 1) function) first (codes "prototype") ≡ IsFrozen
  pub of_arrow : delete_answer arrow first (codes "prototype") ≡ Deleted
  pub of_arrow_gone : own (delete first (codes "prototype") arrow) first (codes "prototype") ≡ None
  pub of_object : delete_answer (define first (hidden (codes "prototype") undefined) one_object) first (codes "prototype") ≡ Deleted

-- what a text of two units has
pub record Texts : Type 0 where
  pub unit : own_of_text (codes "ab") (codes "1") ≡ Some (record { key = codes "1"; value = text (codes "b"); enumerable = true; writable = false })
  pub past_end : own_of_text (codes "ab") (codes "2") ≡ None
  pub length_own : own_of_text (codes "ab") (codes "length") ≡ Some (record { key = codes "length"; value = number 2; enumerable = false; writable = false })
  pub none : own_of_text (codes "ab") (codes "x") ≡ None
  pub in_order : keys_of_text (codes "ab") ≡ record { key = codes "0"; enumerable = true } ∷ record { key = codes "1"; enumerable = true } ∷ record { key = codes "length"; enumerable = false } ∷ []
  pub inherits : get_of_text (define first (assigned (codes "x") (number 1)) one_object) first (codes "ab") (codes "x") ≡ Some (number 1)
  pub own_first : get_of_text (define first (assigned (codes "length") (number 1)) one_object) first (codes "ab") (codes "length") ≡ Some (number 2)
  pub unit_stays : delete_of_text (codes "ab") (codes "0") ≡ IsFrozen
  pub length_stays : delete_of_text (codes "ab") (codes "length") ≡ IsFrozen
  pub no_unit : delete_of_text (codes "ab") (codes "2") ≡ Deleted

-- an environment in the first, with a name that isn't initialized
abbrev pub inner : Heap
inner = declare 1 (record { name = codes "x"; value = None; constant = true }) (new_environment (Some 0) ground)

abbrev pub cell : ℕ → ℕ → Cell
cell e at = record { environment = e; place = at }

pub record Names : Type 0 where
  pub around : lookup inner 1 (codes "y") ≡ Some (cell 0 0)
  pub inside : lookup inner 1 (codes "x") ≡ Some (cell 1 0)
  pub outside : lookup inner 0 (codes "x") ≡ None
  pub dead : value_of inner (cell 1 0) ≡ None
  pub dead_first : assign_answer inner (cell 1 0) ≡ environments.Dead
  pub constant : assign_answer inner (cell 0 0) ≡ environments.Constant
  pub kept : value_of (assign (cell 0 0) (number 1) inner) (cell 0 0) ≡ Some undefined
