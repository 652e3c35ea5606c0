use Rattle.std.proofs.Common.{sym, ap, ◌∙◌}
use Rattle.js_tree.specs.declared.tree.ConciseBody.TheViews.{out-Param}
use Rattle.js_tree.specs.Plain as P
use Rattle.js_tree.specs.Tree.{plain_expr_if, plain_pattern}
use Rattle.js_tree.proofs.Equations as tree
use Rattle.js_code.specs.private.Seen.{defaulted}
use Rattle.js_code.proofs.names.has_default.Goals as goal

pub returns-in-Some : goal.returns-in-Some
returns-in-Some c = let p = out-Param c.args.param.now in
    sym (ap defaulted (tree.param_made c.args.param.now) ∙ ap (λ d. defaulted (P.MakeParam p.loc (plain_pattern p.pattern) (plain_expr_if d))) c.in-Some.is
    ∙ ap (λ e. defaulted (P.MakeParam p.loc (plain_pattern p.pattern) e)) (tree.expr_if_some _))

pub returns-in-None : goal.returns-in-None
returns-in-None c = let p = out-Param c.args.param.now in
    sym (ap defaulted (tree.param_made c.args.param.now) ∙ ap (λ d. defaulted (P.MakeParam p.loc (plain_pattern p.pattern) (plain_expr_if d))) c.in-None.is
    ∙ ap (λ e. defaulted (P.MakeParam p.loc (plain_pattern p.pattern) e)) tree.expr_if_none)
