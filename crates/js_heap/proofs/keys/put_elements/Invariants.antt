use Rattle.std.proofs.Common.{◌≡◌, ◌++◌, ◌-◌}
use Rattle.js_value.specs.Objects.{index_keys}
use Rattle.js_heap.proofs.keys.put_elements.Given as goal

abbrev pub invariant-loop-index : goal.invariant-loop-index
invariant-loop-index l = l.keys ++ index_keys l.index (l.count - l.index) ≡ l.fn.keys ++ index_keys 0 l.count
