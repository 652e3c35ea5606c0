-- No deed makes or changes an environment.
use Rattle.std.proofs.Common.{◌≡◌, ℕ, Bool, List, [], ◌∷◌, Option, Some, None, Ok, Err, refl, ◌∙◌}
use Rattle.js_value.specs.declared.value.Value.{Value}
use Rattle.js_value.specs.declared.value.Value.TheVariants as value
use Rattle.js_value.specs.declared.value.Primitive.TheVariants as primitive
use Rattle.js_value.specs.declared.key.Key.{Key}
use Rattle.js_value.specs.declared.deed.Halt.{Halt}
use Rattle.js_value.specs.declared.deed.Deed.{Deed}
use Rattle.js_value.specs.declared.deed.Deed.TheVariants as deed
use Rattle.js_value.specs.State.{Heap, Environment}
use Rattle.js_value.specs.Objects.{keys}
use Rattle.js_value.specs.Copying.{Copied, and_then, taken, write_taken, enumerable_value, write_found, copy_key, copy_keys, copy_value, copy_values}
use Rattle.js_value.specs.Host.{Or, after_deed, heap_by, built_in, done_of, native_heap}

pub then-kept : (c : Copied) (f : Heap → Copied) (es : List Environment) → c.heap.environments ≡ es → ((h : Heap) → (f h).heap.environments ≡ h.environments) → (and_then c f).heap.environments ≡ es
then-kept c f es e each =
    elim c.halt as (λ (x : Option Halt). (let d : Copied = elim x [ None ↦ f c.heap | Some _ ↦ c ] in d.heap.environments ≡ es)) [ None ↦ each c.heap ∙ e | Some _ ↦ e ]

pub taken-kept : (o : ℕ) (key : List ℕ) (v : Or Value) (h : Heap) → (write_taken o key v h).heap.environments ≡ h.environments
taken-kept o key (Ok v) h = refl
taken-kept o key (Err halt) h = refl

found-kept : (o : ℕ) (key : List ℕ) (v : Option Value) (h : Heap) → (write_found o key v h).heap.environments ≡ h.environments
found-kept o key None h = refl
found-kept o key (Some v) h = taken-kept o key (taken h o key v) h

keys-kept : (to from : ℕ) (ks : List Key) (h : Heap) → (copy_keys to from ks h).heap.environments ≡ h.environments
keys-kept to from [] h = refl
keys-kept to from (k ∷ ks) h = then-kept (copy_key to from k.key h) (copy_keys to from ks) h.environments (found-kept to k.key (enumerable_value h from k.key) h) (λ g. keys-kept to from ks g)

value-kept : (to : ℕ) (v : Value) (h : Heap) → (copy_value to v h).heap.environments ≡ h.environments
value-kept to (value.Object o) h = keys-kept to o.index (keys h o.index) h
value-kept to (value.Primitive primitive.Undefined) h = refl
value-kept to (value.Primitive primitive.Null) h = refl
value-kept to (value.Primitive (primitive.Boolean b)) h = refl
value-kept to (value.Primitive (primitive.Number n)) h = refl
value-kept to (value.Primitive (primitive.Text us)) h = refl

pub values-kept : (to : ℕ) (vs : List Value) (h : Heap) → (copy_values to vs h).heap.environments ≡ h.environments
values-kept to [] h = refl
values-kept to (v ∷ vs) h = then-kept (copy_value to v h) (copy_values to vs) h.environments (value-kept to v h) (λ g. values-kept to vs g)

pub deed-kept : (d : Deed) (h : Heap) → (after_deed d h).environments ≡ h.environments
deed-kept (deed.Give v) h = refl
deed-kept (deed.Line us) h = refl
deed-kept (deed.MakeArray vs) h = refl
deed-kept (deed.MakeObject parent) h = refl
deed-kept (deed.MakeError k None) h = refl
deed-kept (deed.MakeError k (Some message)) h = refl
deed-kept (deed.Append o vs) h = refl
deed-kept (deed.Cut o n v) h = refl
deed-kept (deed.Replace o vs v) h = refl
deed-kept (deed.Freeze o) h = refl
deed-kept (deed.Copy o vs) h = values-kept o.index vs h
deed-kept (deed.Enter f this vs) h = refl
deed-kept (deed.Require us) h = refl

heap-kept : (d : Or Deed) (h : Heap) → (heap_by d h).environments ≡ h.environments
heap-kept (Ok d) h = deed-kept d h
heap-kept (Err halt) h = refl

pub call-kept : (n : ℕ) (constructing : Bool) (this : Value) (vs : List Value) (h : Heap) → (native_heap n constructing this vs h).environments ≡ h.environments
call-kept n constructing this vs h = heap-kept (done_of (built_in n) constructing this vs h) h
