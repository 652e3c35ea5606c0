use Rattle.std.proofs.Common.{◌≡◌, suc, ◌+◌, ◌-◌, None, option_map, pos, sym, ap, ◌∙◌, arith}
use Rattle.js_value.specs.Numbers.{decimal_text}
use Rattle.js_value.specs.Objects.{object_at, own, own_of, found}
use Rattle.js_heap.specs.Heap.{heap_of}
use Rattle.js_heap.proofs.Chains.{found-none, found-further}
use Rattle.js_heap.proofs.heap.Heap.inherits_none.Goals as goal

pub returns-in_default : goal.returns-in_default
returns-in_default c = λ _ small.
    let s = heap_of c.args.self.now in
    let same = (rw c.in_default.is at c.loop.invariant) small in
    sym same ∙ found-none s.objects (c.index-end.result - c.loop.counter) (decimal_text (pos c.args.index))

pub loop-preserved : goal.loop-preserved
loop-preserved c = λ small.
    let s = heap_of c.args.self.now in
    let o = c.in-Some.at.index in
    let key = decimal_text (pos c.args.index) in
    let m = c.index-end.result - (c.loop.counter + 1) in
    let next : option_map (λ p. p.index) c.record-record.result.now.prototype ≡ (object_at s o).prototype = ap (λ r. r.prototype) c.record-record.ensures in
    let none : own s o key ≡ None = ap (λ r. own_of r key) (sym c.record-record.ensures) ∙ c.lacks.ensures c.if-not-lacks.false small in
    let left : c.index-end.result - c.loop.counter ≡ suc m = omega arith in
    let same = (rw c.in-Some.is at c.loop.invariant) small in
    ap (λ chain. found m s.objects chain key) next ∙ sym (found-further s _ m o key left none) ∙ same
