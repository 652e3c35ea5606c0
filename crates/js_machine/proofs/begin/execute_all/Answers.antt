use Rattle.std.proofs.lemmas.Result.{IfOk-weaker}
use Rattle.std.proofs.Common.{sym, ap, ◌∙◌, arith}
use Rattle.js_code.specs.Code.{reader}
use Rattle.js_code.specs.Node.{build}
use Rattle.js_code.specs.Part.{as_stmts}
use Rattle.js_meaning.specs.Meaning as M
use Rattle.js_machine.specs.private.Config.{view_of, plug, control_comp}
use Rattle.js_machine.specs.private.Weight.{place_weight, node_weight}
use Rattle.js_machine.proofs.OtherNodes as other
use Rattle.js_machine.proofs.Weights.{heavy, lighter}
use Rattle.js_machine.proofs.begin.execute_all.Goals as goal

pub returns-in-Some-clause-means : goal.returns-in-Some-clause-means
returns-in-Some-clause-means c = IfOk-weaker c.begin_statements.result _ _ (λ next means p. means (view_of p c.args.code.now.nodes) c.node-in-Some.ensures.read c.node-in-Some-2.ensures.read
    ∙ ap (plug (view_of p c.args.code.now.nodes) c.args.frames.now.items) (ap (λ x. M.comp_stmts p (as_stmts x) c.args.env.index) (sym (c.node.ensures.read ∙ ap (build (reader c.args.code.now.nodes)) c.in-Some.ensures.more)))) c.begin_statements.ensures.means

pub returns-in-Some-clause-less : goal.returns-in-Some-clause-less
returns-in-Some-clause-less c = IfOk-weaker c.begin_statements.result _ _ (λ next less. omega (arith, less place_weight (lighter c.in-Some.first c.node-in-Some.result.now c.node-in-Some.ensures.below), lighter c.args.place c.node.result.now c.node.ensures.below, ap (node_weight place_weight) c.in-Some.ensures.more)) c.begin_statements.ensures.less

pub returns-in-None-clause-means : goal.returns-in-None-clause-means
returns-in-None-clause-means c = λ p. ap (plug (view_of p c.args.code.now.nodes) c.args.frames.now.items) (ap (control_comp (view_of p c.args.code.now.nodes)) c.undefined.ensures
    ∙ ap (λ xs. M.comp_stmts p xs c.args.env.index) (sym (ap as_stmts c.node.ensures.read ∙ other.no_stmts (reader c.args.code.now.nodes) c.node.result.now (c.list_of.ensures.end c.in-None.is))))

pub returns-in-None-clause-less : goal.returns-in-None-clause-less
returns-in-None-clause-less c = rw c.undefined.ensures (omega (arith, heavy c.args.place))
