use Rattle.std.proofs.Common.{refl, sym, ap, ◌∙◌, arith, []}
use Rattle.js_code.specs.Node.{build}
use Rattle.js_code.specs.Part.{as_stmt}
use Rattle.js_meaning.specs.Effects.{handle}
use Rattle.js_meaning.specs.Meaning as M
use Rattle.js_machine.specs.private.Config.{expr_at}
use Rattle.js_machine.specs.private.Weight.{node_weight}
use Rattle.js_machine.proofs.Plug.{discarded}
use Rattle.js_machine.proofs.statements.begin_first.Goals as goal

pub returns-in-Expression-clause-means : goal.returns-in-Expression-clause-means
returns-in-Expression-clause-means c = λ t rest at.
    sym (ap (λ x. handle (M.comp_stmt t.program x [] c.args.env.index) (M.with_value (λ v. rest))) (ap as_stmt (at ∙ ap (build t.tree) c.in-Expression.is))
    ∙ discarded rest (M.comp_expr t.program (expr_at t c.in-Expression.expression) c.args.env.index))

pub returns-in-Expression-clause-less : goal.returns-in-Expression-clause-less
returns-in-Expression-clause-less c = λ w lighter. omega (arith, lighter, ap (node_weight w) c.in-Expression.is)

pub returns-in_default-clause-means : goal.returns-in_default-clause-means
returns-in_default-clause-means c = λ t rest at. rw c.execute.ensures refl

pub returns-in_default-clause-less : goal.returns-in_default-clause-less
returns-in_default-clause-less c = λ w lighter. rw c.execute.ensures (omega arith)
