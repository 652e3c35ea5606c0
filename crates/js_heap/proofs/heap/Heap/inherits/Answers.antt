use Rattle.std.proofs.Common.{◌≡◌, nat_eq, suc, ◌+◌, ◌-◌, false, option_map, sym, ap, ◌∙◌, arith}
use Rattle.std.proofs.lemmas.Bool.Decides.{nat_tests}
use Rattle.js_value.specs.Objects.{object_at, stands_on}
use Rattle.js_heap.specs.Heap.{heap_of}
use Rattle.js_heap.proofs.Chains.{stands_on-further}
use Rattle.js_heap.proofs.heap.Heap.inherits.Goals as goal

pub loop-preserved : goal.loop-preserved
loop-preserved c =
    let s = heap_of c.args.self.now in
    let o = c.in-Some.at.index in
    let p = c.args.other.index in
    let m = c.index-end.result - (c.loop.counter + 1) in
    let next : option_map (λ q. q.index) c.proto-chain-in-loop.result ≡ (object_at s o).prototype = c.proto-chain-in-loop.ensures in
    let left : c.index-end.result - c.loop.counter ≡ suc m = omega arith in
    let other : nat_eq o p ≡ false = grind (arith, nat_tests) in
    let same = rw c.in-Some.is at c.loop.invariant in
    ap (λ chain. stands_on m s.objects chain p) next ∙ sym (stands_on-further s.objects _ m o p left other) ∙ same
