use Rattle.std.proofs.Common.{option_map, sym, ap, ◌∙◌}
use Rattle.js_heap.specs.Heap.{heap_of}
use Rattle.js_heap.specs.private.Write.{plain_write, own_write}
use Rattle.js_heap.proofs.WriteLemmas.{write_of-own, write_of-absent}
use Rattle.js_heap.proofs.heap.Heap.write_of.Goals as goal

pub returns-in-Some-clause-write : goal.returns-in-Some-clause-write
returns-in-Some-clause-write c =
    let key = c.args.name.now in
    let v = c.args.value.now in
    let own = ap (λ r. own_write r key v) (sym c.record.ensures) ∙ sym c.write_of_own.ensures.write ∙ ap (option_map plain_write) c.in-Some.is in
    sym (write_of-own (heap_of c.args.self.now) c.args.object.index key v (plain_write c.in-Some.write) own)

pub returns-in-None-clause-write : goal.returns-in-None-clause-write
returns-in-None-clause-write c =
    let key = c.args.name.now in
    let v = c.args.value.now in
    let own = ap (λ r. own_write r key v) (sym c.record.ensures) ∙ sym c.write_of_own.ensures.write ∙ ap (option_map plain_write) c.in-None.is in
    c.write_of_absent.ensures.write ∙ sym (write_of-absent (heap_of c.args.self.now) c.args.object.index key v own)
