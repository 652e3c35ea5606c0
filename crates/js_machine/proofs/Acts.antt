-- What is done to the heap, in the store of the whole machine.
use Rattle.std.proofs.Common.{◌≡◌, Result, Ok, Err, IfOk, sym, subst, ap, ◌∙◌}
use Rattle.std.proofs.lemmas.Result.{IfOk-weaker}
use Rattle.js_value.specs.State.{Store, Heap as Heaps}
use Rattle.js_value.specs.Running.{on_heap}
use Rattle.js_heap.specs.declared.heap.Heap.{Heap}
use Rattle.js_heap.specs.Heap.{heap_of}
use Rattle.js_code.specs.Program.{ProgramCode, IsCodeOf}
use Rattle.js_meaning.specs.Effects.{Comp, act, handle, exec}
use Rattle.js_meaning.specs.Program.{Sources}
use Rattle.js_machine.specs.declared.data.Action.{Action}
use Rattle.js_machine.specs.declared.data.Control.{Control}
use Rattle.js_machine.specs.declared.state.State.{State}
use Rattle.js_machine.specs.private.Config.{view_of, action_comp, control_comp}
use Rattle.js_machine.specs.private.State.{store_in, with_heap, Becomes, Turns}

-- a change of the heap, and what is next by the heap before it
pub acts : (old new : Heap) (f : Heaps → Heaps) (j : Heaps → Comp) (d : Comp) → heap_of new ≡ f (heap_of old) → d ≡ j (heap_of old) →
    Turns (act (on_heap f) (λ s. j s.heap)) old d new
acts old new f j d after means = record {
  same = λ base. record {
    same = λ inside n next.
        ap (λ (h : Heaps). exec inside n (handle (j (heap_of old)) next) (record base { heap = h })) (sym after)
        ∙ ap (λ c. exec inside n (handle c next) (with_heap base new)) (sym means);
  };
}

-- what only looks at it
pub looks_at : (h : Heap) (j : Heaps → Comp) (d : Comp) → d ≡ j (heap_of h) → Turns (act (λ s. s) (λ s. j s.heap)) h d h
looks_at h j d means = record {
  same = λ base. record { same = λ inside n next. ap (λ c. exec inside n (handle c next) (with_heap base h)) (sym means) };
}

-- what is the same computation
pub same_comp : (h : Heap) (c d : Comp) → d ≡ c → Turns c h d h
same_comp h c d is = record {
  same = λ base. record { same = λ inside n next. ap (λ x. exec inside n (handle x next) (with_heap base h)) (sym is) };
}

-- the same of computations that are equal
pub turns_as : (b c : Comp) (old new : Heap) (d e : Comp) → b ≡ c → d ≡ e → Turns c old d new → Turns b old e new
turns_as b c old new d e first second turns = subst (λ x. Turns x old e new) (sym first) (subst (λ x. Turns c old x new) second turns)

-- two results of one call
pub both : {S E : Type 0} (r : Result S E) (P Q : S → Type 0) → IfOk r P → IfOk r Q → IfOk r (λ s. P s × Q s)
both (Ok s) P Q p q = (p, q)
both (Err e) P Q p q = tt

-- a change of the heap by a call that may want memory
pub acts_if : {E : Type 0} (r : Result Control E) (old new : Heap) (f : Heaps → Heaps) (j : Heaps → Comp) (d : Control → Comp) →
    IfOk r (λ _. heap_of new ≡ f (heap_of old)) → IfOk r (λ control. d control ≡ j (heap_of old)) →
    IfOk r (λ control. Turns (act (on_heap f) (λ s. j s.heap)) old (d control) new)
acts_if r old new f j d after means = IfOk-weaker r _ _ (λ control h. acts old new f j (d control) h.0 h.1) (both r _ _ after means)

-- what is done for an action
module _ (code : ProgramCode) (s : State) (a b : Action) (is : a ≡ b) where
  abbrev Done : Control → Heap → Type 0
  Done control h = (p : Sources) (base : Store) → IsCodeOf p code →
      Becomes (action_comp (view_of p code.nodes) a) (store_in base s) (control_comp (view_of p code.nodes) control) (store_in base (record s { heap = h }))

  pub performed : (control : Control) (h : Heap) →
      ((p : Sources) → IsCodeOf p code → Turns (action_comp (view_of p code.nodes) b) s.heap (control_comp (view_of p code.nodes) control) h) → Done control h
  performed control h turns p base of = subst
      (λ x. Becomes (action_comp (view_of p code.nodes) x) (store_in base s) (control_comp (view_of p code.nodes) control) (store_in base (record s { heap = h })))
      (sym is) ((turns p of).same (store_in base s))

  pub performs : {E : Type 0} (r : Result Control E) (h : Heap) →
      IfOk r (λ control. (p : Sources) → IsCodeOf p code → Turns (action_comp (view_of p code.nodes) b) s.heap (control_comp (view_of p code.nodes) control) h) →
      IfOk r (λ control. Done control h)
  performs r h turns = IfOk-weaker r _ _ (λ control t. performed control h t) turns
