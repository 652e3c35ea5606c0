use Rattle.std.proofs.Common.{Option, subst, sym, ap}
use Rattle.js_value.specs.declared.built_in.BuiltIn.{BuiltIn}
use Rattle.js_value.specs.Realm as realm
use Rattle.js_value.specs.Host.{done_of}
use Rattle.js_heap.specs.Heap.{heap_of}
use Rattle.js_data.specs.Does.{Does}
use Rattle.js_host.proofs.call.done_of.Goals as goal

pub returns-in-Some : goal.returns-in-Some
unfolding realm.rows
returns-in-Some c =
    subst (λ (o : Option BuiltIn). Does (done_of o c.args.constructing c.args.this.now c.args.arguments.now (heap_of c.args.heap.now)) c.done_by.result)
    c.in-Some.ensures c.done_by.ensures

pub returns-in-None : goal.returns-in-None
unfolding realm.rows
returns-in-None c =
    ap (λ (o : Option BuiltIn). done_of o c.args.constructing c.args.this.now c.args.arguments.now (heap_of c.args.heap.now)) (sym c.in-None.ensures)
