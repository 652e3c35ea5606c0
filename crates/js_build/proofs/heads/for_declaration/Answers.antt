use Rattle.std.proofs.Common.{◌≡◌, ◌∙◌, sym, ap}
use Rattle.js_tree.specs.Height.{height_for_init}
use Rattle.js_tree.specs.Plain as tree
use Rattle.js_tree.specs.Tree.{plain_for_init}
use Rattle.js_tree.proofs.Equations.{for_init_init_declaration}
use Rattle.js_tree.specs.declared.tree.ForInit.TheVariants as init
use Rattle.js_reading.specs.Makes.{for_of}
use Rattle.js_build.specs.DeclaratorPieces.{cons_if}
use Rattle.js_build.specs.View.{plain_pieces}
use Rattle.js_build.proofs.HeadLaws.{after_kind, kind_form}
use Rattle.js_build.proofs.MadeAs.{makes_as}
use Rattle.js_build.proofs.heads.for_declaration.Goals as goal

pub returns-in-Ok : goal.returns-in-Ok
returns-in-Ok c = makes_as c.for_name.result (kind_form c.args.place c.args.kind (plain_pieces c.args.pieces) ∙ ap (after_kind c.args.place c.args.kind (plain_pieces c.args.pieces)) c.in-Ok.ensures.word) c.for_name.ensures

pub returns-in-Err : goal.returns-in-Err
returns-in-Err c =
    let declared : plain_for_init (init.InitDeclaration c.args.kind c.no_declarators-made.result.items) ≡ tree.InitDeclaration c.args.kind tree.no_declarator = for_init_init_declaration c.args.kind c.no_declarators-made.result.items ∙ ap (tree.InitDeclaration c.args.kind) c.no_declarators-made.ensures in
    makes_as c.for_rest.result (kind_form c.args.place c.args.kind (plain_pieces c.args.pieces) ∙ (ap (after_kind c.args.place c.args.kind (plain_pieces c.args.pieces)) c.in-Err.ensures.other ∙ (ap (for_of c.args.place (tree.InitDeclaration c.args.kind tree.no_declarator)) c.in-Err.ensures.same ∙ ap (λ i. for_of c.args.place i (cons_if c.in-Err.next (plain_pieces c.word_next.new.pieces))) (sym declared)))) c.for_rest.ensures

pub for_rest-requires : goal.for_rest-requires
for_rest-requires c = sym (ap height_for_init (for_init_init_declaration c.args.kind c.no_declarators-made.result.items ∙ ap (tree.InitDeclaration c.args.kind) c.no_declarators-made.ensures))
