-- What a computation becomes in the store of the whole machine.
use Rattle.std.proofs.Common.{◌≡◌, sym, ap, ◌∙◌}
use Rattle.js_value.specs.State.{Store}
use Rattle.js_heap.specs.declared.heap.Heap.{Heap}
use Rattle.js_meaning.specs.declared.outcome.Completion.{Completion}
use Rattle.js_meaning.specs.Effects.{Comp, act, handle, exec}
use Rattle.js_meaning.proofs.Handle.{handle_again}
use Rattle.js_machine.specs.declared.state.State.{State}
use Rattle.js_machine.specs.private.State.{store_in, Becomes, Turns}

-- the same computation
pub becomes_same : (c d : Comp) (s : Store) → d ≡ c → Becomes c s d s
becomes_same c d s is = record { same = λ inside n next. ap (λ x. exec inside n (handle x next) s) (sym is) }

-- what is done to the heap alone
pub heap_becomes : (c d : Comp) (s : State) (h : Heap) (base : Store) → Turns c s.heap d h → Becomes c (store_in base s) d (store_in base (record s { heap = h }))
heap_becomes c d s h base turns = turns.same (store_in base s)

-- one after another
pub becomes_on : (c d e : Comp) (s t u : Store) → Becomes c s d t → Becomes d t e u → Becomes c s e u
becomes_on c d e s t u x y = record { same = λ inside n next. x.same inside n next ∙ y.same inside n next }

-- a change of the store, and then what is next by the store before it
pub act_becomes : (f : Store → Store) (j : Store → Comp) (s t u : Store) (d : Comp) → t ≡ f s → Becomes (j s) t d u → Becomes (act f j) s d u
act_becomes f j s t u d after becomes = record {
  same = λ inside n next. ap (λ x. exec inside n (handle (j s) next) x) (sym after) ∙ becomes.same inside n next;
}

-- under what waits for it
pub becomes_under : (k : Completion → Comp) (c d : Comp) (s u : Store) → Becomes c s d u → Becomes (handle c k) s (handle d k) u
becomes_under k c d s u becomes = record {
  same = λ inside n next.
      ap (λ x. exec inside n x s) (handle_again c k next)
      ∙ becomes.same inside n (λ x. handle (k x) next)
      ∙ ap (λ x. exec inside n x u) (sym (handle_again d k next));
}

-- what only looks at the store
pub looks_becomes : (j : Store → Comp) (d : Comp) (s : Store) → d ≡ j s → Becomes (act (λ t. t) j) s d s
looks_becomes j d s is = record { same = λ inside n next. ap (λ x. exec inside n (handle x next) s) (sym is) }
