use Rattle.std.proofs.Common.{sym, ◌∙◌}
use Rattle.js_heap.specs.Heap.{heap_of}
use Rattle.js_host.proofs.ElementLemmas.{element_is}
use Rattle.js_host.proofs.members.get_member.Goals as goal

pub returns-in-Some : goal.returns-in-Some
returns-in-Some c =
    element_is (heap_of c.args.heap.now) c.args.base.now c.args.key.now c.in-Some.element (sym c.in_ok-element.ensures ∙ c.in-Some.is)
