use Rattle.std.proofs.Common.{sym, ap, ◌∙◌}
use Rattle.js_heap.specs.Heap.{heap_of}
use Rattle.js_heap.specs.Object.{plain_set}
use Rattle.js_host.proofs.ElementLemmas.{write_answered}
use Rattle.js_host.proofs.copying.write_element.Goals as goal

pub returns-in-Done : goal.returns-in-Done
returns-in-Done c = write_answered (heap_of c.args.heap.now) (heap_of c.set_element.new.self) c.args.object.index c.args.index c.args.value _ c.requires.small
    (ap plain_set (sym c.in-Done.is) ∙ c.in_ok-set_element.ensures.answer) c.in_ok-set_element.ensures.ok

pub returns-in-ReadOnly : goal.returns-in-ReadOnly
returns-in-ReadOnly c = write_answered (heap_of c.args.heap.now) (heap_of c.set_element.new.self) c.args.object.index c.args.index c.args.value _ c.requires.small
    (ap plain_set (sym c.in-ReadOnly.is) ∙ c.in_ok-set_element.ensures.answer) c.in_ok-set_element.ensures.ok

pub returns-in-Sparse : goal.returns-in-Sparse
returns-in-Sparse c = write_answered (heap_of c.args.heap.now) (heap_of c.set_element.new.self) c.args.object.index c.args.index c.args.value _ c.requires.small
    (ap plain_set (sym c.in-Sparse.is) ∙ c.in_ok-set_element.ensures.answer) c.in_ok-set_element.ensures.ok

pub returns-in-BadLength : goal.returns-in-BadLength
returns-in-BadLength c = write_answered (heap_of c.args.heap.now) (heap_of c.set_element.new.self) c.args.object.index c.args.index c.args.value _ c.requires.small
    (ap plain_set (sym c.in-BadLength.is) ∙ c.in_ok-set_element.ensures.answer) c.in_ok-set_element.ensures.ok
