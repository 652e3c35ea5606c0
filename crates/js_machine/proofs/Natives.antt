-- Calls of built-in functions, as steps.
use Rattle.std.proofs.Common.{◌≡◌, ℕ, Bool, List, ◌++◌, Option, Some, None, is_some, refl, sym, ap, ◌∙◌}
use Rattle.std.specs.Option.{option_map}
use Rattle.js_value.specs.declared.value.Value.{Value}
use Rattle.js_value.specs.State.{Store, Heap as Heaps}
use Rattle.js_value.specs.Host.{native_of, native_heap}
use Rattle.js_value.specs.Running.{on_heap, write}
use Rattle.js_heap.specs.declared.heap.Heap.{Heap}
use Rattle.js_heap.specs.Heap.{heap_of}
use Rattle.js_host.specs.declared.native.Native.{Native}
use Rattle.js_host.specs.declared.native.Native.TheVariants as native
use Rattle.js_host.specs.Native.{plain_native}
use Rattle.js_meaning.specs.Effects as E
use Rattle.js_meaning.specs.Effects.{Comp, act}
use Rattle.js_meaning.specs.Files as F
use Rattle.js_meaning.specs.Meaning as M
use Rattle.js_meaning.specs.Program.{Sources}
use Rattle.js_value.specs.declared.value.Object.{Object}
use Rattle.js_machine.specs.declared.data.Entry.TheVariants as entry
use Rattle.js_machine.specs.declared.state.State.{State}
use Rattle.js_machine.specs.private.Config.{View, entry_of}
use Rattle.js_machine.specs.private.State.{store_in, Becomes}
use Rattle.js_machine.proofs.Stores.{act_becomes, becomes_same}

module _ (p : Sources) (calls : Value → Value → List Value → Comp) (callee function : ℕ) (maker : Option ℕ) (this : Value) (arguments : List Value) (s : State) where
  -- a call that is answered
  pub natively : (b : Bool) (n : Native) (h : Heap) (c : Comp) (u : State) → b ≡ is_some maker →
      plain_native n ≡ native_of function b this arguments (heap_of s.heap) → heap_of h ≡ native_heap function b this arguments (heap_of s.heap) → (base : Store) →
      Becomes (F.native p calls callee (plain_native n)) (store_in base (record s { heap = h })) c (store_in base u) →
      Becomes (F.call_native p calls callee function maker this arguments) (store_in base s) c (store_in base u)
  natively b n h c u makes answers after base becomes =
      act_becomes (on_heap (native_heap function (is_some maker) this arguments)) (λ t. F.native p calls callee (native_of function (is_some maker) this arguments t.heap))
      (store_in base s) (store_in base (record s { heap = h })) (store_in base u) c
      (ap (λ (g : Heaps). record (store_in base s) { heap = g }) (after ∙ ap (λ x. native_heap function x this arguments (heap_of s.heap)) makes))
      (rw (sym (answers ∙ ap (λ x. native_of function x this arguments (heap_of s.heap)) makes)) becomes)

-- what is done where control is handed on matters nowhere else
pub native_else : (p : Sources) (calls others : Value → Value → List Value → Comp) (callee : ℕ) (n : Native) →
    ((f t : Value) (vs : List Value) → n ≡ native.Enter f t vs → ⊥) → F.native p others callee (plain_native n) ≡ F.native p calls callee (plain_native n)
native_else p calls others callee (native.Value v) other = refl
native_else p calls others callee (native.Throw kind message) other = refl
native_else p calls others callee (native.Refuse k) other = refl
native_else p calls others callee (native.Write bytes) other = refl
native_else p calls others callee (native.Require units) other = refl
native_else p calls others callee (native.Enter f t vs) other = absurd (other f t vs refl)

-- bytes are written
pub writes : (s u : State) (bytes : List ℕ) (base : Store) → u.output.items ≡ s.output.items ++ bytes → u ≡ record s { output = u.output } →
    Becomes (act (write bytes) (λ t. M.done)) (store_in base s) M.done (store_in base u)
writes s u bytes base more same =
    act_becomes (write bytes) (λ t. M.done) (store_in base s) (store_in base u) (store_in base u) M.done
    (ap (store_in base) same ∙ ap (λ (out : List ℕ). record (store_in base s) { output = out }) more)
    (becomes_same M.done M.done (store_in base u) refl)

-- what makes the result of a construction, if there is one
pub built_in_entry : (t : View) (callee : Object) (function : ℕ) (maker : Option Object) (this : Value) (arguments : List Value) →
    E.CallBuiltIn callee.index function (option_map (λ (o : Object). o.index) maker) this arguments ≡ entry_of t (entry.CallBuiltIn callee function maker this arguments)
built_in_entry t callee function None this arguments = refl
built_in_entry t callee function (Some maker) this arguments = refl

pub is_some_index : (maker : Option Object) → is_some maker ≡ is_some (option_map (λ (o : Object). o.index) maker)
is_some_index None = refl
is_some_index (Some maker) = refl
