use Rattle.std.proofs.Common.{sym, ap, ◌∙◌, arith}
use Rattle.js_code.specs.Code.{reader}
use Rattle.js_code.specs.Node.{arrow_body, build}
use Rattle.js_code.specs.Part.{as_code, as_params}
use Rattle.js_meaning.specs.Meaning as M
use Rattle.js_machine.specs.private.Weight.{place_weight, node_weight}
use Rattle.js_machine.proofs.Forms.{method_body}
use Rattle.js_machine.proofs.Weights.{lighter}
use Rattle.js_machine.proofs.bodies.run.Goals as goal

pub returns-in-Function-clause-means : goal.returns-in-Function-clause-means
returns-in-Function-clause-means c = λ p. c.execute_all.ensures.means p ∙ ap (λ b. M.comp_concise p b c.args.env.index)
    (sym (ap arrow_body (ap as_code (c.node.ensures.read ∙ ap (build (reader c.args.code.now.nodes)) c.in-Function.is)) ∙ method_body c.in-Function.is_method c.in-Function.number (as_params (reader c.args.code.now.nodes c.in-Function.params)) _))

pub returns-in-Function-clause-less : goal.returns-in-Function-clause-less
returns-in-Function-clause-less c = omega (arith, c.execute_all.ensures.less, lighter c.args.function c.node.result.now c.node.ensures.below, ap (node_weight place_weight) c.in-Function.is)

pub returns-in-ArrowBlock-clause-means : goal.returns-in-ArrowBlock-clause-means
returns-in-ArrowBlock-clause-means c = λ p. c.execute_all-in-ArrowBlock.ensures.means p ∙ ap (λ b. M.comp_concise p b c.args.env.index)
    (sym (ap arrow_body (ap as_code (c.node.ensures.read ∙ ap (build (reader c.args.code.now.nodes)) c.in-ArrowBlock.is))))

pub returns-in-ArrowBlock-clause-less : goal.returns-in-ArrowBlock-clause-less
returns-in-ArrowBlock-clause-less c = omega (arith, c.execute_all-in-ArrowBlock.ensures.less, lighter c.args.function c.node.result.now c.node.ensures.below, ap (node_weight place_weight) c.in-ArrowBlock.is)
