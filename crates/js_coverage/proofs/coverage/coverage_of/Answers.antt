use Rattle.std.proofs.Common.{sym, ◌∙◌}
use Rattle.std.proofs.lemmas.Result.{IfOk-weaker}
use Rattle.js_heap.specs.Heap.{heap_of}
use Rattle.js_coverage.proofs.Levels.{covers, covers_none, covers_nothing}
use Rattle.js_coverage.proofs.coverage.coverage_of.Goals as goal

pub returns-in-Some-clause-coverage : goal.returns-in-Some-clause-coverage
returns-in-Some-clause-coverage c = IfOk-weaker c.told_by.result _ _
    (λ map told. covers (heap_of c.args.heap.now) c.in-Some.tree map (sym c.in_ok-left.ensures ∙ c.in-Some.is) told) c.told_by.ensures.told

pub returns-in-Some-clause-none : goal.returns-in-Some-clause-none
returns-in-Some-clause-none c = λ is. covers_nothing (heap_of c.args.heap.now) c.in-Some.tree (sym c.in_ok-left.ensures ∙ c.in-Some.is) (c.told_by.ensures.none is)

pub returns-in-None-clause-none : goal.returns-in-None-clause-none
returns-in-None-clause-none c = λ is. covers_none (heap_of c.args.heap.now) (sym c.in_ok-left.ensures ∙ c.in-None.is)
