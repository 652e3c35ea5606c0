use Rattle.std.proofs.Common.{ap, ◌∙◌}
use Rattle.js_meaning.specs.Meaning as M
use Rattle.js_machine.specs.private.Config.{view_of, labels_of, stmt_at}
use Rattle.js_machine.proofs.AtOnce.{some_is}
use Rattle.js_machine.proofs.Assigned.{choice_turns}
use Rattle.js_machine.proofs.choices.choose_turn.Goals as goal

pub returns-in-Ok-clause-turns : goal.returns-in-Ok-clause-turns
returns-in-Ok-clause-turns c = λ p. choice_turns (view_of p c.args.code.now.nodes) c.args.test c.args.env.index c.args.heap.now c.in-Some.value
    (M.turn (stmt_at (view_of p c.args.code.now.nodes) c.args.statement) (labels_of (view_of p c.args.code.now.nodes) c.args.labels.now) c.args.env.index) _
    (some_is _ _ _ c.in-Some.is c.in_ok-value.ensures p)
    (c.turn-control.ensures.means (view_of p c.args.code.now.nodes) ∙ ap (λ labels. M.turn (stmt_at (view_of p c.args.code.now.nodes) c.args.statement) (labels_of (view_of p c.args.code.now.nodes) labels) c.args.env.index c.in-Some.value) c.in-Ok.ensures)
