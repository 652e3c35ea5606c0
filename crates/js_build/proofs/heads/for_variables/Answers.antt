use Rattle.std.proofs.Common.{◌∙◌, sym, ap}
use Rattle.js_tree.specs.Height.{height_for_init}
use Rattle.js_tree.specs.Tree.{plain_declarators}
use Rattle.js_tree.proofs.Equations.{for_init_init_declaration}
use Rattle.js_reading.specs.Makes.{declarators_of, for_declared, for_of}
use Rattle.js_build.specs.DeclaratorPieces.{cons_if, front, settled}
use Rattle.js_build.specs.View.{plain_pieces}
use Rattle.js_build.proofs.MadeAs.{makes_as}
use Rattle.js_build.proofs.heads.for_variables.Goals as goal

pub returns-in-None : goal.returns-in-None
returns-in-None c = makes_as c.nothing.result (ap (for_declared c.args.place c.args.kind) (ap (λ b. front (plain_declarators c.args.made.items) (settled (declarators_of b (plain_pieces c.args.pieces)))) (sym c.is_const.ensures) ∙ sym (rw c.in-None.is at c.in_ok-declarators.ensures))) c.nothing.ensures

pub returns-in-Some : goal.returns-in-Some
returns-in-Some c = makes_as c.for_rest.result (ap (for_declared c.args.place c.args.kind) (ap (λ b. front (plain_declarators c.args.made.items) (settled (declarators_of b (plain_pieces c.args.pieces)))) (sym c.is_const.ensures) ∙ sym (rw c.in-Some.is at c.in_ok-declarators.ensures)) ∙ ap (λ i. for_of c.args.place i (cons_if c.in-Some.next (plain_pieces c.declarators.new.pieces))) (sym (for_init_init_declaration c.args.kind c.in-Some.made.items))) c.for_rest.ensures

pub for_rest-requires : goal.for_rest-requires
for_rest-requires c = c.in-Some.made.height_exact ∙ sym (ap height_for_init (for_init_init_declaration c.args.kind c.in-Some.made.items))
