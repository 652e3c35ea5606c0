-- Own enumerable properties of objects, written to another one (ECMA-262, 20.1.2.1): a write that can't be stops it, and what
-- was written before stays.
use Rattle.std.specs.Prelude.{ℕ, ◌&&◌, List, [], ◌∷◌, Option, Some, None, Ok, Err, if◌then◌else◌}
use Rattle.std.specs.Str.{bytes_eq}
use Rattle.js_value.specs.declared.value.Value.{Value}
use Rattle.js_value.specs.declared.value.Value.TheVariants as value
use Rattle.js_value.specs.declared.value.Primitive.TheVariants as primitive
use Rattle.js_value.specs.declared.value.Kind.TheVariants as kind
use Rattle.js_value.specs.declared.key.Key.{Key}
use Rattle.js_value.specs.declared.deed.Complaint.TheVariants as complaint
use Rattle.js_value.specs.declared.deed.Halt.{Halt}
use Rattle.js_value.specs.declared.deed.Halt.TheVariants.{Throw, Refuse}
use Rattle.js_value.specs.State.{Property, Heap}
use Rattle.js_value.specs.Objects.{kind_of, is_array, array_length, own, keys, Set, Done, IsReadOnly, IsSparse, IsBadLength, set, set_answer}
use Rattle.js_value.specs.Arguments.{Or, ◌>>=◌, seen, to_number}

-- the heap that writes leave, and what stopped them, if anything did
pub record Copied : Type 0 where
  pub heap : Heap
  pub halt : Option Halt

abbrev pub goes_on : Heap → Copied
goes_on h = record { heap = h; halt = None }

abbrev pub stops : Halt → Heap → Copied
stops halt h = record { heap = h; halt = Some halt }

-- more writes, where none was stopped
abbrev pub and_then : Copied → (Heap → Copied) → Copied
and_then c more = elim c.halt [ None ↦ more c.heap | Some _ ↦ c ]

abbrev pub as_number : Value → Or Value
as_number v = to_number (seen v) >>= λ n. Ok (value.Primitive (primitive.Number n))

-- a value as it is written to a property: to the length of an array, a number (10.4.2.4)
abbrev pub taken : Heap → ℕ → List ℕ → Value → Or Value
taken h o key v = if is_array (kind_of h o) && bytes_eq key array_length then as_number v else Ok v

-- why a write wasn't done
abbrev pub unwritten : Set → Option Halt
unwritten Done = None
unwritten IsReadOnly = Some (Throw complaint.ReadOnly)
unwritten IsSparse = Some (Refuse kind.Sparse)
unwritten IsBadLength = Some (Throw complaint.BadLength)

abbrev pub write_taken : ℕ → List ℕ → Or Value → Heap → Copied
write_taken o key (Ok v) h = record { heap = set o key v h; halt = unwritten (set_answer h o key v) }
write_taken o key (Err halt) h = stops halt h

-- 7.3.4
abbrev pub write : ℕ → List ℕ → Value → Heap → Copied
write o key v h = write_taken o key (taken h o key v) h

-- 20.1.2.1, 3.a.iii.2: the value of a property that is there and enumerable
abbrev pub if_enumerable : Option Property → Option Value
if_enumerable None = None
if_enumerable (Some p) = if p.enumerable then Some p.value else None

abbrev pub enumerable_value : Heap → ℕ → List ℕ → Option Value
enumerable_value h o key = if_enumerable (own h o key)

abbrev pub write_found : ℕ → List ℕ → Option Value → Heap → Copied
write_found to key None h = goes_on h
write_found to key (Some v) h = write to key v h

abbrev pub copy_key : ℕ → ℕ → List ℕ → Heap → Copied
copy_key to from key h = write_found to key (enumerable_value h from key) h

-- 20.1.2.1, 3.a.iii
abbrev pub copy_keys : ℕ → ℕ → List Key → Heap → Copied
copy_keys to from [] h = goes_on h
copy_keys to from (k ∷ ks) h = and_then (copy_key to from k.key h) (copy_keys to from ks)

-- 20.1.2.1, 3.a: one source. What is undefined or null has no properties, and other primitive values aren't converted.
abbrev pub copy_value : ℕ → Value → Heap → Copied
copy_value to (value.Object o) h = copy_keys to o.index (keys h o.index) h
copy_value to (value.Primitive primitive.Undefined) h = goes_on h
copy_value to (value.Primitive primitive.Null) h = goes_on h
copy_value to (value.Primitive _) h = stops (Refuse kind.Convert) h

-- one source after another
abbrev pub copy_values : ℕ → List Value → Heap → Copied
copy_values to [] h = goes_on h
copy_values to (v ∷ vs) h = and_then (copy_value to v h) (copy_values to vs)
