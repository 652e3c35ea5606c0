use Rattle.std.proofs.Common.{sym, ap, ◌∙◌}
use Rattle.js_tree.specs.Plain as P
use Rattle.js_code.specs.Code.{reader}
use Rattle.js_code.specs.Node.{build}
use Rattle.js_code.specs.Part.{as_expr_if, as_param}
use Rattle.js_machine.specs.private.AtOnce.{is_plain}
use Rattle.js_machine.proofs.Bound.{plain_told}
use Rattle.js_machine.proofs.parameters.plain.Goals as goal

pub returns-in-Param : goal.returns-in-Param
returns-in-Param c = plain_told (reader c.args.code.now.nodes) c.is_missing.result c.node-in-Param.result.now c.in-Param.loc c.in-Param.name_loc c.in-Param.name c.is_missing.ensures.missing c.is_missing.ensures.there
    ∙ ap (λ x. is_plain (P.MakeParam c.in-Param.loc (P.BindingIdentifier c.in-Param.name_loc c.in-Param.name) (as_expr_if x))) (sym c.node-in-Param.ensures.read)
    ∙ ap is_plain (sym (ap as_param (c.node.ensures.read ∙ ap (build (reader c.args.code.now.nodes)) c.in-Param.is)))
