use Rattle.std.proofs.Common.{map, take}
use Rattle.js_heap.specs.private.Mask.{IsMaskOf}
use Rattle.js_heap.proofs.mask.mask_of.Given as goal

abbrev pub invariant-loop-place : goal.invariant-loop-place
invariant-loop-place l = IsMaskOf l.mask (map (λ b. b.name) (take l.place l.bindings))
