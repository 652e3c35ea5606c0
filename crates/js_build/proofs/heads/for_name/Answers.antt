use Rattle.std.proofs.Common.{◌≡◌, ◌∙◌, ◌∷◌, sym, ap}
use Rattle.js_tree.specs.Plain as tree
use Rattle.js_tree.specs.Tree.{plain_for_target}
use Rattle.js_tree.specs.Height.{height_for_target}
use Rattle.js_tree.proofs.Equations.{for_target_target_declaration}
use Rattle.js_tree.specs.declared.tree.ForTarget.TheVariants as target
use Rattle.js_reading.specs.Makes.{bound, declarators_of, for_declared, is_const}
use Rattle.js_reading.specs.Slots.{AWord}
use Rattle.js_build.specs.DeclaratorPieces.{settled}
use Rattle.js_build.specs.Fors.{each_of}
use Rattle.js_build.specs.View.{plain_pieces}
use Rattle.js_build.proofs.HeadLaws.{after_name, name_form}
use Rattle.js_build.proofs.MadeAs.{makes_as}
use Rattle.js_build.proofs.heads.for_name.Goals as goal

pub for_each-requires : goal.for_each-requires
for_each-requires c = sym (ap height_for_target (for_target_target_declaration c.args.kind c.bound.result ∙ ap (tree.TargetDeclaration c.args.kind) c.bound.ensures))

pub returns-in-Ok : goal.returns-in-Ok
returns-in-Ok c =
    let declared : plain_for_target (target.TargetDeclaration c.args.kind c.bound.result) ≡ tree.TargetDeclaration c.args.kind (bound c.args.name c.args.at) = for_target_target_declaration c.args.kind c.bound.result ∙ ap (tree.TargetDeclaration c.args.kind) c.bound.ensures in
    makes_as c.for_each.result (name_form c.args.place c.args.kind c.args.name c.args.at (plain_pieces c.args.pieces) ∙ (ap (after_name c.args.place c.args.kind c.args.name c.args.at (plain_pieces c.args.pieces)) c.in-Ok.ensures.each ∙ ap (λ t. each_of c.in-Ok.of c.args.place t (plain_pieces c.each_next.new.pieces)) (sym declared))) c.for_each.ensures

pub returns-in-Err : goal.returns-in-Err
returns-in-Err c = makes_as c.for_named.result (name_form c.args.place c.args.kind c.args.name c.args.at (plain_pieces c.args.pieces) ∙ (ap (after_name c.args.place c.args.kind c.args.name c.args.at (plain_pieces c.args.pieces)) c.in-Err.ensures.other ∙ ap (λ ps. for_declared c.args.place c.args.kind (settled (declarators_of (is_const c.args.kind) (AWord c.args.name c.args.at ∷ ps)))) c.in-Err.ensures.same)) c.for_named.ensures
