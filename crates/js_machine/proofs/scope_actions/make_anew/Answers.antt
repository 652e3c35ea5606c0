use Rattle.std.proofs.Common.{sym, ◌∙◌}
use Rattle.js_code.specs.Code.{reader}
use Rattle.js_code.specs.Part.{as_for_init}
use Rattle.js_machine.specs.private.Config.{view_of, scoped_comp}
use Rattle.js_machine.proofs.Acts.{same_comp}
use Rattle.js_machine.proofs.Entered.{makes_anew, not_anew}
use Rattle.js_machine.proofs.scope_actions.make_anew.Goals as goal

pub returns-in-Ok-clause-means : goal.returns-in-Ok-clause-means
returns-in-Ok-clause-means c = λ p.
    makes_anew (as_for_init ((reader c.args.code.now.nodes) c.args.init)) c.args.env.index c.in-Ok.inner.index c.args.heap.now c.copy_env.new.self (scoped_comp (view_of p c.args.code.now.nodes) c.args.next)
    (sym c.is_fresh.ensures ∙ c.if-is_fresh.true) c.in-Ok.ensures.ok c.in-Ok.ensures.environment

pub returns-clause-means : goal.returns-clause-means
returns-clause-means c = λ p. same_comp c.args.heap.now _ _ (not_anew (as_for_init ((reader c.args.code.now.nodes) c.args.init)) c.args.env.index (scoped_comp (view_of p c.args.code.now.nodes) c.args.next) (sym c.is_fresh.ensures ∙ c.if-is_fresh.false))
