use Rattle.std.proofs.Common.{◌≡◌, ◌∷◌, ◌∙◌, sym, ap}
use Rattle.js_tree.specs.Height.{height_template_parts}
use Rattle.js_tree.specs.Plain.{push_template_parts}
use Rattle.js_tree.specs.Tree.{plain_template_part, plain_template_parts}
use Rattle.js_tree.proofs.Equations.{template_parts_push}
use Rattle.js_reading.specs.Makes.{template_parts}
use Rattle.js_build.specs.View.{plain_piece, plain_pieces}
use Rattle.js_build.proofs.ListLaws.{front_parts, max_push_parts}
use Rattle.js_build.proofs.NodeMeasures.{max_of}
use Rattle.js_build.proofs.TemplateLaws.{part_turn, part_missing, parts_end}
use Rattle.js_build.proofs.templates.parts.Goals as goal

pub each-preserved : goal.each-preserved
each-preserved c =
    let xs = plain_template_parts c.each.items in
    let x = plain_template_part c.in-Some-part.made.tree in
    let whole = template_parts (plain_pieces c.args.pieces.now) in
    let pushed : plain_template_parts c.push.new.self ≡ push_template_parts xs x = ap plain_template_parts c.in_ok-push-in-Some-part.ensures.ok ∙ template_parts_push c.each.items c.in-Some-part.made.tree in
    let so : front_parts xs (template_parts (plain_pieces (c.in-Some.first ∷ c.next.new.self))) ≡ whole = sym (ap (λ left. front_parts xs (template_parts (plain_pieces left))) c.in-Some.ensures.next) ∙ c.each.invariant.made in
    record {
      made = ap (λ ys. front_parts ys (template_parts (plain_pieces c.part.new.pieces))) pushed ∙ part_turn xs x (plain_piece c.in-Some.first) (plain_pieces c.next.new.self) (plain_pieces c.part.new.pieces) whole c.in-Some-part.ensures.read so;
      high = max_of _ _ _ _ _ c.max-height.ensures c.in-Some-part.made.height_exact c.each.invariant.high ∙ sym (ap height_template_parts pushed ∙ max_push_parts xs x);
    }

pub returns-in-None-part : goal.returns-in-None-part
returns-in-None-part c =
    let xs = plain_template_parts c.each.items in
    let whole = template_parts (plain_pieces c.args.pieces.now) in
    let so : front_parts xs (template_parts (plain_pieces (c.in-Some.first ∷ c.next.new.self))) ≡ whole = sym (ap (λ left. front_parts xs (template_parts (plain_pieces left))) c.in-Some.ensures.next) ∙ c.each.invariant.made in
    part_missing xs (plain_piece c.in-Some.first) (plain_pieces c.next.new.self) whole c.in-None-part.ensures.read so

pub returns-in-None : goal.returns-in-None
returns-in-None c = parts_end (plain_template_parts c.each.items) (plain_pieces c.each.pieces) (template_parts (plain_pieces c.args.pieces.now)) (ap plain_pieces c.in-None.ensures.next) c.each.invariant.made
