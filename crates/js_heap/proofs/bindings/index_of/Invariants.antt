use Rattle.std.proofs.Common.{map, take}
use Rattle.indexmap.specs.IndexMap.{get_by_text}
use Rattle.js_heap.specs.private.Bindings.{IsIndexOf}
use Rattle.js_heap.proofs.bindings.index_of.Given as goal

abbrev pub invariant-loop-place : goal.invariant-loop-place
invariant-loop-place l = IsIndexOf (get_by_text l.index.value) (map (λ b. b.name) (take l.place l.bindings))
