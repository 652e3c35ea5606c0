use Rattle.std.proofs.Common.{◌≡◌, refl, sym, ap, ◌∙◌}
use Rattle.js_meaning.specs.Meaning as M
use Rattle.js_tree.specs.Plain as P
use Rattle.std.proofs.Common.{subst}
use Rattle.js_code.specs.Node.{function_of}
use Rattle.js_code.specs.Part.{as_code}
use Rattle.js_machine.specs.private.Config.{units_of}
use Rattle.js_machine.proofs.references.begin_function_named.Goals as goal

pub returns-in-None-clause-means : goal.returns-in-None-clause-means
returns-in-None-clause-means c = λ t loc at. rw c.in-None.is refl

pub returns-in-Some-clause-means : goal.returns-in-Some-clause-means
returns-in-Some-clause-means c = λ t loc at. ap (λ e. M.comp_expr t.program e c.args.env.index) at
    ∙ subst (λ o. M.comp_expr t.program (P.FunctionExpression loc o (function_of (as_code (t.tree c.args.function)))) c.args.env.index
    ≡ M.named (units_of t c.args.title) (P.FunctionExpression loc o (function_of (as_code (t.tree c.args.function)))) c.args.env.index (M.comp_expr t.program (P.FunctionExpression loc o (function_of (as_code (t.tree c.args.function)))) c.args.env.index)) (sym c.in-Some.is) refl
