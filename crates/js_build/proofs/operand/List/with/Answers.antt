use Rattle.std.proofs.Common.{◌≡◌, ◌∙◌, sym, ap}
use Rattle.js_tree.specs.Height.{height_exprs}
use Rattle.js_tree.specs.Plain.{push_exprs}
use Rattle.js_tree.specs.Tree.{plain_expr, plain_exprs}
use Rattle.js_tree.proofs.Equations.{exprs_push}
use Rattle.js_build.specs.Measures.{height_joined}
use Rattle.js_build.proofs.GrowingLaws.{joined_push, max_push_exprs}
use Rattle.js_build.proofs.NodeMeasures.{max_of, more_of}
use Rattle.js_build.proofs.operand.List.with.Goals as goal

pub invariant_of-result : goal.invariant_of-result
invariant_of-result c =
    let xs = plain_exprs c.args.self.items in
    let x = plain_expr c.args.operand.tree in
    let made : plain_exprs c.push.new.self ≡ push_exprs xs x = ap plain_exprs c.in_ok-push.ensures.ok ∙ exprs_push c.args.self.items c.into_inner.result ∙ ap (λ e. push_exprs xs (plain_expr e)) c.into_inner.ensures in
    record {
      height_exact = max_of _ _ _ _ _ c.max-height.ensures c.args.operand.height_exact c.args.self.height_exact ∙ sym (ap height_exprs made ∙ max_push_exprs xs x);
      joined_exact = more_of _ _ _ _ _ c.in_ok-joined.ensures c.args.self.joined_exact c.args.operand.height_exact ∙ sym (ap height_joined made ∙ joined_push xs x);
    }

pub returns : goal.returns
returns c = ap plain_exprs c.in_ok-push.ensures.ok ∙ exprs_push c.args.self.items c.into_inner.result ∙ ap (λ e. push_exprs (plain_exprs c.args.self.items) (plain_expr e)) c.into_inner.ensures
