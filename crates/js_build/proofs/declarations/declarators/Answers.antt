use Rattle.std.proofs.Common.{◌≡◌, ◌∙◌, refl, sym, ap, arith}
use Rattle.js_tree.specs.Height.{height_declarators}
use Rattle.js_tree.specs.Plain.{push_declarators}
use Rattle.js_tree.specs.Tree.{plain_declarator, plain_declarators}
use Rattle.js_tree.proofs.Equations.{declarators_push}
use Rattle.js_reading.specs.Makes.{declarators_of}
use Rattle.js_build.specs.DeclaratorPieces.{cons_if, front, settled}
use Rattle.js_build.specs.View.{plain_pieces}
use Rattle.js_build.proofs.DeclarationLaws.{declared_first, declared_rest, declared_turn, front_none, front_some, max_push, more_declarators}
use Rattle.js_build.proofs.declarations.declarators.Goals as goal

pub each-init : goal.each-init
each-init c = record { made = refl; high = c.args.made.height_exact }

pub each-preserved : goal.each-preserved
each-preserved c =
    let read = rw c.in-Some.is at c.in_ok-declared_next-in-Ok.ensures.read in
    let turn = declared_turn c.args.strict (plain_declarators c.each.items) (plain_declarator c.in-Some.made.tree) c.in-Ok.name c.in-Ok.place _ _ _ _ c.in-Ok.ensures.word read c.each.invariant.made in
    let pushed : plain_declarators c.push.new.self ≡ push_declarators (plain_declarators c.each.items) (plain_declarator c.in-Some.made.tree) = ap plain_declarators c.in_ok-push-in-Some.ensures.ok ∙ declarators_push c.each.items c.in-Some.made.tree in
    let highest = ap height_declarators pushed ∙ max_push (plain_declarators c.each.items) (plain_declarator c.in-Some.made.tree) in
    record {
      made = ap (λ ds. front ds (settled (declarators_of c.args.strict (plain_pieces c.declared_next.new.pieces)))) pushed ∙ turn;
      high = omega (arith, highest, c.max-height.ensures, c.each.invariant.high, c.in-Some.made.height_exact);
    }

pub each-smaller : goal.each-smaller
each-smaller c = omega (arith, c.in-Ok.ensures.shorter, c.in_ok-declared_next-in-Ok.ensures.shorter)

pub invariant_of-result : goal.invariant_of-result
invariant_of-result c = record { height_exact = c.each.invariant.high }

pub returns-in-Err : goal.returns-in-Err
returns-in-Err c =
    let rest = ap (λ ps. settled (declarators_of c.args.strict ps)) c.in-Err.ensures.other ∙ declared_rest c.args.strict c.in-Err.other (plain_pieces c.take_word.new.pieces) c.in-Err.ensures.no_word in
    sym (front_some (plain_declarators c.each.items) (cons_if c.in-Err.other (plain_pieces c.take_word.new.pieces))) ∙ (ap (front (plain_declarators c.each.items)) (sym rest) ∙ c.each.invariant.made)

pub returns-in-None : goal.returns-in-None
returns-in-None c =
    let read = rw c.in-None.is at c.in_ok-declared_next-in-Ok.ensures.read in
    let first = ap (λ ps. settled (declarators_of c.args.strict ps)) c.in-Ok.ensures.word ∙ (declared_first c.args.strict c.in-Ok.name c.in-Ok.place (plain_pieces c.take_word.new.pieces) ∙ ap (more_declarators c.args.strict) (sym read)) in
    sym (front_none (plain_declarators c.each.items)) ∙ (ap (front (plain_declarators c.each.items)) (sym first) ∙ c.each.invariant.made)
