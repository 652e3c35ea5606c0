use Rattle.std.proofs.Common.{refl, sym, ap, ◌∙◌}
use Rattle.js_machine.specs.private.Config.{units_of}
use Rattle.js_code.specs.Node.{build}
use Rattle.js_machine.proofs.OtherForms as forms
use Rattle.js_meaning.specs.Meaning as M
use Rattle.js_code.specs.Part.{as_expr}
use Rattle.js_machine.proofs.references.begin_named.Goals as goal

pub returns-in-FunctionExpression-clause-means : goal.returns-in-FunctionExpression-clause-means
returns-in-FunctionExpression-clause-means c = λ t at.
    c.begin_function_named.ensures.means t c.in-FunctionExpression.loc (ap as_expr (at ∙ ap (build t.tree) c.in-FunctionExpression.is))
    ∙ ap (λ n. M.named (units_of t c.args.title) (as_expr (build t.tree n)) c.args.env.index (M.comp_expr t.program (as_expr (build t.tree n)) c.args.env.index)) (sym c.in-FunctionExpression.is)

pub returns-in-ArrowFunction-clause-means : goal.returns-in-ArrowFunction-clause-means
returns-in-ArrowFunction-clause-means c = λ t at. rw c.in-ArrowFunction.is refl

pub returns-in-Parenthesized-clause-means : goal.returns-in-Parenthesized-clause-means
returns-in-Parenthesized-clause-means c = λ t at. ap (λ n. M.named (units_of t c.args.title) (as_expr (build t.tree n)) c.args.env.index (M.comp_expr t.program (as_expr (build t.tree n)) c.args.env.index)) (sym c.in-Parenthesized.is)

pub returns-in_default-clause-means : goal.returns-in_default-clause-means
returns-in_default-clause-means c = λ t at.
    ap (λ x. M.comp_expr t.program (as_expr x) c.args.env.index) at
    ∙ sym (forms.else_named _ c.args.env.index _ t.tree c.args.node.now c.in_default.not-FunctionExpression c.in_default.not-ArrowFunction c.in_default.not-Parenthesized)
