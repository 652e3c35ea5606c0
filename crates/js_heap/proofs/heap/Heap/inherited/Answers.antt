use Rattle.std.proofs.Common.{◌≡◌, suc, ◌+◌, ◌-◌, ◌&&◌, not, None, Some, option_map, sym, ap, ◌∙◌, arith}
use Rattle.js_value.specs.State.{ObjectRecord}
use Rattle.js_value.specs.Objects.{object_at, own, own_of, found}
use Rattle.js_heap.specs.Object.{property_with}
use Rattle.js_heap.specs.Heap.{heap_of}
use Rattle.js_heap.specs.private.Write.{seen_of}
use Rattle.js_heap.proofs.Chains.{found-here, found-further}
use Rattle.js_heap.proofs.heap.Heap.inherited.Goals as goal

pub returns-in-Some : goal.returns-in-Some
returns-in-Some c =
    let s = heap_of c.args.self.now in
    let o = c.in_ok-at.at.index in
    let name = c.args.name.now in
    let flags = c.in-Some.flags in
    let p = property_with name c.in-Some.value.now flags in
    let is : own s o name ≡ Some p = ap (λ r. own_of r name) (sym c.record-record.ensures) ∙ sym c.in-Some.ensures in
    let left : c.index-end.result - c.loop.counter ≡ suc (c.index-end.result - (c.loop.counter + 1)) = omega arith in
    let same = rw c.in_ok-at.was at c.loop.invariant in
    ap (λ b. Some (c.in-Some.value.now, b)) (c.may_write.ensures ∙ ap (λ (r : ObjectRecord). flags.writable && not r.frozen) c.record-record.ensures)
    ∙ ap (option_map seen_of) (sym (found-here s _ _ o p name left is) ∙ same)

pub loop-preserved : goal.loop-preserved
loop-preserved c =
    let s = heap_of c.args.self.now in
    let o = c.in_ok-at.at.index in
    let name = c.args.name.now in
    let m = c.index-end.result - (c.loop.counter + 1) in
    let next : option_map (λ p. p.index) c.record-record.result.now.prototype ≡ (object_at s o).prototype = ap (λ r. r.prototype) c.record-record.ensures in
    let none : own s o name ≡ None = ap (λ r. own_of r name) (sym c.record-record.ensures) ∙ sym c.in_default.ensures in
    let left : c.index-end.result - c.loop.counter ≡ suc m = omega arith in
    let same = rw c.in_ok-at.was at c.loop.invariant in
    ap (λ chain. found m s.objects chain name) next ∙ sym (found-further s _ m o name left none) ∙ same
