use Rattle.std.proofs.Common.{refl, sym, ap, ◌∙◌}
use Rattle.js_heap.specs.Heap.{heap_of}
use Rattle.js_value.specs.Objects as objects
use Rattle.js_machine.proofs.file_actions.exports.Goals as goal

pub returns-in-None-clause-means : goal.returns-in-None-clause-means
returns-in-None-clause-means c = λ t base. rw (c.undefined.ensures, sym (c.in-None.ensures base)) refl

pub returns-in-Some-get-clause-means : goal.returns-in-Some-get-clause-means
returns-in-Some-get-clause-means c = λ t base.
    rw (sym (c.in-Some.ensures base), sym (c.in-Some-get.ensures ∙ ap (objects.get (heap_of c.args.state.now.heap) c.in-Some.module.index) c.in_ok-key-in-Some.ensures), c.in_ok-copy-in-Some-get.ensures) refl

pub returns-clause-means : goal.returns-clause-means
returns-clause-means c = λ t base.
    rw (c.undefined-in-None-get.ensures, sym (c.in-Some.ensures base), sym (c.in-None-get.ensures ∙ ap (objects.get (heap_of c.args.state.now.heap) c.in-Some.module.index) c.in_ok-key-in-Some.ensures)) refl
