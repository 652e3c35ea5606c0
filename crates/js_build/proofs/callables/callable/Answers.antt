use Rattle.std.proofs.Common.{◌≡◌, ◌∙◌, ◌∷◌, IfOk, None, length, subst, sym, ap, arith, rules}
use Rattle.js_tree.specs.Height.{height_params}
use Rattle.js_tree.specs.Plain.{push_params}
use Rattle.js_tree.specs.Tree.{plain_param, plain_params}
use Rattle.js_tree.proofs.Equations.{params_push}
use Rattle.js_reading.specs.Makes.{method_of}
use Rattle.js_build.specs.Callables.{callable_view, plain_initializer, prepend}
use Rattle.js_build.specs.View.{plain_pieces}
use Rattle.js_build.proofs.CallableLaws.{max_push_params, prepend_none}
use Rattle.js_build.proofs.Turns.{param_refused, param_turn}
use Rattle.js_build.proofs.callables.callable.Goals as goal

pub each-preserved : goal.each-preserved
each-preserved c =
    let begins = ap plain_pieces (c.in-Some-Word.ensures.next ∙ ap (λ p. p ∷ c.next.new.self) c.in-Some-Word.field-0-is) in
    let turn = param_turn (plain_params c.each.items) c.in-Some-Word.name c.in-Some-Word.place (plain_initializer c.in-Some.initializer) (plain_pieces c.next.new.self) (plain_pieces c.each.pieces) (plain_pieces c.initializer.new.pieces) _ begins c.in-Some.ensures.read c.each.invariant.made in
    let pushed : plain_params c.push.new.self ≡ push_params (plain_params c.each.items) (plain_param c.in_ok-param-in-Some.param.tree) = ap plain_params c.in_ok-push-in-Some.ensures.ok ∙ params_push c.each.items c.in_ok-param-in-Some.param.tree in
    let highest = ap height_params pushed ∙ max_push_params (plain_params c.each.items) (plain_param c.in_ok-param-in-Some.param.tree) in
    record {
      made = ap (λ xs. prepend xs (method_of (plain_pieces c.initializer.new.pieces))) (pushed ∙ ap (push_params (plain_params c.each.items)) c.in_ok-param-in-Some.ensures) ∙ turn;
      high = omega (arith, highest, c.max-height.ensures, c.each.invariant.high, c.in_ok-param-in-Some.param.height_exact);
    }

pub returns-in-None : goal.returns-in-None
returns-in-None c =
    let begins = ap plain_pieces (c.in-Some-Word.ensures.next ∙ ap (λ p. p ∷ c.next.new.self) c.in-Some-Word.field-0-is) in
    param_refused (plain_params c.each.items) c.in-Some-Word.name c.in-Some-Word.place (plain_pieces c.next.new.self) (plain_pieces c.each.pieces) _ begins c.in-None.ensures.read c.each.invariant.made

pub returns-in-Some-Place : goal.returns-in-Some-Place
returns-in-Some-Place c =
    let rest = ap (λ ps. prepend (plain_params c.each.items) (method_of (plain_pieces ps))) (sym (c.in-Some-Place.ensures.next ∙ ap (λ p. p ∷ c.next.new.self) c.in-Some-Place.field-0-is)) in
    subst (λ due. IfOk c.ending.result (λ made. callable_view made (plain_pieces c.ending.new.pieces) ≡ due)) (rest ∙ c.each.invariant.made) c.ending.ensures

pub each-init : goal.each-init
each-init c = record {
  made = ap (λ xs. prepend (plain_params xs) (method_of (plain_pieces c.args.pieces.now))) c.new-items.ensures;
  high = sym (ap (λ xs. height_params (plain_params xs)) c.new-items.ensures);
}

pub each-smaller : goal.each-smaller
each-smaller c = omega (arith, ap length c.in-Some-Word.ensures.next, c.in-Some.ensures.shorter)

pub invariant_of-params : goal.invariant_of-params
invariant_of-params c = record { height_exact = c.each.invariant.high }

pub returns-in_default : goal.returns-in_default
returns-in_default c =
    let none : method_of (plain_pieces c.each.pieces) ≡ None = search rules in
    sym (prepend_none (plain_params c.each.items)) ∙ (ap (prepend (plain_params c.each.items)) (sym none) ∙ c.each.invariant.made)
