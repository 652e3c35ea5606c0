use Rattle.std.proofs.Common.{◌≡◌, ◌∙◌, sym, ap}
use Rattle.js_tree.specs.Height.{height_stmts}
use Rattle.js_tree.specs.Plain.{push_stmts}
use Rattle.js_tree.specs.Tree.{plain_stmt, plain_stmts}
use Rattle.js_tree.proofs.Equations.{stmts_push}
use Rattle.js_build.proofs.GrowingLaws.{max_push_stmts}
use Rattle.js_build.proofs.NodeMeasures.{max_of}
use Rattle.js_build.proofs.operand.Statements.with.Goals as goal

pub invariant_of-result : goal.invariant_of-result
invariant_of-result c =
    let xs = plain_stmts c.args.self.items in
    let x = plain_stmt c.args.body.tree in
    let made : plain_stmts c.push.new.self ≡ push_stmts xs x = ap plain_stmts c.in_ok-push.ensures.ok ∙ stmts_push c.args.self.items c.into_inner.result ∙ ap (λ s. push_stmts xs (plain_stmt s)) c.into_inner.ensures in
    record { height_exact = max_of _ _ _ _ _ c.max-height.ensures c.args.body.height_exact c.args.self.height_exact ∙ sym (ap height_stmts made ∙ max_push_stmts xs x) }

pub returns : goal.returns
returns c = ap plain_stmts c.in_ok-push.ensures.ok ∙ stmts_push c.args.self.items c.into_inner.result ∙ ap (λ s. push_stmts (plain_stmts c.args.self.items) (plain_stmt s)) c.into_inner.ensures
