-- The store of a running machine.
use Rattle.std.specs.Prelude.{◌≡◌, ℕ, List, map}
use Rattle.js_value.specs.State as state
use Rattle.js_value.specs.State.{Store}
use Rattle.js_heap.specs.declared.heap.Heap.{Heap}
use Rattle.js_heap.specs.Heap.{heap_of}
use Rattle.js_meaning.specs.declared.outcome.Completion.{Completion}
use Rattle.js_meaning.specs.Effects.{Entry, Comp, handle, exec}
use Rattle.js_machine.specs.declared.state.State.{State}
use Rattle.js_machine.specs.declared.state.CachedFile.{CachedFile}
use Rattle.js_machine.specs.declared.state.RequiringFile.{RequiringFile}

abbrev pub plain_cached : CachedFile → state.Cached
plain_cached c = record { path = c.path; object = c.object.index }

abbrev pub plain_requiring : RequiringFile → state.Requiring
plain_requiring r = record { function = r.function.index; path = r.path }

-- what a program can change, as the definitions have it
pub record Held : Type 0 where
  pub heap : state.Heap
  pub output : List ℕ
  pub cache : List state.Cached
  pub requiring : List state.Requiring
  pub starts : List ℕ

abbrev pub held : State → Held
held s = record {
  heap = heap_of s.heap;
  output = s.output.items;
  cache = map plain_cached s.cache.items;
  requiring = map plain_requiring s.requiring.items;
  starts = s.starts.items;
}

-- what the machine holds, in place of what a store has of it; the rest is as in the store that is given
abbrev pub store_of : Store → Held → Store
store_of base h = record base { heap = h.heap; output = h.output; cache = h.cache; requiring = h.requiring; starts = h.starts }

abbrev pub store_in : Store → State → Store
store_in base s = store_of base (held s)

-- the same of a heap alone
abbrev pub with_heap : Store → Heap → Store
with_heap base heap = record base { heap = heap_of heap }

-- whatever follows, the first computation with the first store does as the second with the second
pub record Becomes (c : Comp) (s : Store) (d : Comp) (t : Store) : Type 0 where
  pub same : (inside : Entry → Comp) (n : ℕ) (next : Completion → Comp) →
      exec inside n (handle c next) s ≡ exec inside n (handle d next) t

-- the same of two heaps, whatever else is in the store
pub record Turns (c : Comp) (old : Heap) (d : Comp) (new : Heap) : Type 0 where
  pub same : (base : Store) → Becomes c (with_heap base old) d (with_heap base new)
