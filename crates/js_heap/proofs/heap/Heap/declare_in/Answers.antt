use Rattle.std.proofs.Common.{length, ap, ◌∙◌}
use Rattle.js_value.specs.State as state
use Rattle.js_value.specs.Environments.{no_environment}
use Rattle.js_heap.specs.Environment.{plain_binding, plain_environment}
use Rattle.js_heap.specs.Heap.{heap_of}
use Rattle.js_heap.specs.private.Environment.{with_declared}
use Rattle.js_heap.proofs.Lists.{map-set_by, map-set_same, seen-at}
use Rattle.js_heap.proofs.Outcomes.{OnOk_then, OnErr_then, IfOk_then}
use Rattle.js_heap.proofs.heap.Heap.declare_in.Goals as goal

pub returns-in-Some-clause-ok : goal.returns-in-Some-clause-ok
returns-in-Some-clause-ok c =
    OnOk_then c.declare.result c.declare.ensures.ok (λ declared.
    ap (λ es. record (heap_of c.args.self.now) { environments = es })
    (map-set_by plain_environment (with_declared (plain_binding c.args.binding)) c.args.self.now.environments.items _ _ c.declare.new.self _ no_environment c.index.ensures c.in-Some.ensures.item.3.0 c.in-Some.ensures.value declared))

pub returns-in-Some-clause-err : goal.returns-in-Some-clause-err
returns-in-Some-clause-err c =
    OnErr_then c.declare.result c.declare.ensures.err (λ kept.
    ap (λ es. record (heap_of c.args.self.now) { environments = es })
    (map-set_same plain_environment c.args.self.now.environments.items _ _ c.declare.new.self _ no_environment c.index.ensures c.in-Some.ensures.item.3.0 c.in-Some.ensures.value kept))

pub returns-in-Some-clause-place : goal.returns-in-Some-clause-place
returns-in-Some-clause-place c =
    IfOk_then c.declare.result c.declare.ensures.place (λ place is.
    is ∙ ap (λ (e : state.Environment). length e.bindings)
    (seen-at plain_environment c.args.self.now.environments.items _ c.args.env.index _ no_environment c.index.ensures c.in-Some.ensures.item.3.0 c.in-Some.ensures.value))
