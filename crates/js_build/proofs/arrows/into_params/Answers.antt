use Rattle.std.proofs.Common.{◌≡◌, ◌∙◌, sym, ap}
use Rattle.js_tree.specs.Plain.{more_expr, push_params}
use Rattle.js_tree.specs.Tree.{plain_expr, plain_exprs, plain_param, plain_params}
use Rattle.js_tree.proofs.Equations.{params_push}
use Rattle.js_reading.specs.Makes.{params_of}
use Rattle.js_build.proofs.ArrowLaws.{with_front, param_turn, param_none, params_end, params_same}
use Rattle.js_build.proofs.arrows.into_params.Goals as goal

pub each-init : goal.each-init
each-init c = ap (λ items. with_front (plain_params items) (params_of (plain_exprs c.new-left.result))) c.new-items.ensures ∙ ap (λ left. params_of (plain_exprs left)) (c.new-left.ensures ∙ c.into_vec.ensures)

pub each-preserved : goal.each-preserved
each-preserved c =
    let rest = plain_exprs c.next.new.self in
    let pushed : plain_params c.push.new.self ≡ push_params (plain_params c.each.items) (plain_param c.in-Some-into_param.param) = ap plain_params c.in_ok-push-in-Some-into_param.ensures.ok ∙ params_push c.each.items c.in-Some-into_param.param in
    let so : with_front (plain_params c.each.items) (params_of (more_expr (plain_expr c.in-Some.expression) rest)) ≡ params_of (plain_exprs c.args.list.items) = sym (ap (λ left. with_front (plain_params c.each.items) (params_of (plain_exprs left))) c.in-Some.ensures.next) ∙ c.each.invariant in
    ap (λ ps. with_front ps (params_of rest)) pushed ∙ param_turn (plain_params c.each.items) (plain_param c.in-Some-into_param.param) (plain_expr c.in-Some.expression) rest (params_of (plain_exprs c.args.list.items)) c.in-Some-into_param.ensures so

pub returns-in-None-into_param : goal.returns-in-None-into_param
returns-in-None-into_param c =
    let rest = plain_exprs c.next.new.self in
    let so : with_front (plain_params c.each.items) (params_of (more_expr (plain_expr c.in-Some.expression) rest)) ≡ params_of (plain_exprs c.args.list.items) = sym (ap (λ left. with_front (plain_params c.each.items) (params_of (plain_exprs left))) c.in-Some.ensures.next) ∙ c.each.invariant in
    param_none (plain_params c.each.items) (plain_expr c.in-Some.expression) rest (params_of (plain_exprs c.args.list.items)) c.in-None-into_param.ensures so

pub invariant_of-result : goal.invariant_of-result
invariant_of-result c = record {
  height_exact = c.args.list.height_exact ∙ sym (params_same (plain_exprs c.args.list.items) (plain_params c.each.items) (sym (params_end (plain_params c.each.items) (plain_exprs c.each.left) (params_of (plain_exprs c.args.list.items)) (ap plain_exprs c.in-None.ensures.next) c.each.invariant)));
}

pub returns : goal.returns
returns c = params_end (plain_params c.each.items) (plain_exprs c.each.left) (params_of (plain_exprs c.args.list.items)) (ap plain_exprs c.in-None.ensures.next) c.each.invariant
