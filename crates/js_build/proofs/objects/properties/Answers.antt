use Rattle.std.proofs.Common.{◌≡◌, ◌∷◌, ◌<◌, ◌∙◌, sym, ap}
use Rattle.js_tree.specs.Height.{height_properties}
use Rattle.js_tree.specs.Plain.{push_properties}
use Rattle.js_tree.specs.Tree.{plain_properties, plain_property}
use Rattle.js_tree.proofs.Equations.{properties_push}
use Rattle.js_reading.specs.Makes.{length_of}
use Rattle.js_build.specs.Objects.{all_properties}
use Rattle.js_build.specs.View.{plain_piece, plain_pieces}
use Rattle.js_build.proofs.NodeMeasures.{max_of}
use Rattle.js_build.proofs.ObjectLaws.{front, max_push, property_missing, properties_end, property_shorter, property_turn}
use Rattle.js_build.proofs.objects.properties.Goals as goal

pub each-smaller : goal.each-smaller
each-smaller c =
    let is = rw c.in-Some-2.is at c.in_ok-one_property-in-Some.ensures in
    let less : length_of (plain_pieces c.one_property.new.pieces) < length_of (plain_pieces (c.in-Some.first ∷ c.next.new.self)) = property_shorter (plain_property c.in-Some-2.property.tree) _ _ _ is in
    rw c.in-Some.ensures.next less

pub each-preserved : goal.each-preserved
each-preserved c =
    let xs = plain_properties c.each.items in
    let x = plain_property c.in-Some-2.property.tree in
    let whole = all_properties (plain_pieces c.args.pieces) in
    let is = rw c.in-Some-2.is at c.in_ok-one_property-in-Some.ensures in
    let pushed : plain_properties c.push.new.self ≡ push_properties xs x = ap plain_properties c.in_ok-push-in-Some-2.ensures.ok ∙ properties_push c.each.items c.in-Some-2.property.tree in
    let so : front xs (all_properties (plain_pieces (c.in-Some.first ∷ c.next.new.self))) ≡ whole = sym (ap (λ left. front xs (all_properties (plain_pieces left))) c.in-Some.ensures.next) ∙ c.each.invariant.made in
    record {
      made = ap (λ ys. front ys (all_properties (plain_pieces c.one_property.new.pieces))) pushed ∙ property_turn xs x (plain_piece c.in-Some.first) (plain_pieces c.next.new.self) (plain_pieces c.one_property.new.pieces) whole is so;
      high = max_of _ _ _ _ _ c.max-height.ensures c.in-Some-2.property.height_exact c.each.invariant.high ∙ sym (ap height_properties pushed ∙ max_push xs x);
    }

pub returns-in-None-2 : goal.returns-in-None-2
returns-in-None-2 c =
    let xs = plain_properties c.each.items in
    let whole = all_properties (plain_pieces c.args.pieces) in
    let is = rw c.in-None-2.is at c.in_ok-one_property-in-Some.ensures in
    let so : front xs (all_properties (plain_pieces (c.in-Some.first ∷ c.next.new.self))) ≡ whole = sym (ap (λ left. front xs (all_properties (plain_pieces left))) c.in-Some.ensures.next) ∙ c.each.invariant.made in
    property_missing xs (plain_piece c.in-Some.first) (plain_pieces c.next.new.self) whole is so

pub returns : goal.returns
returns c = properties_end (plain_properties c.each.items) (plain_pieces c.each.pieces) (all_properties (plain_pieces c.args.pieces)) (ap plain_pieces c.in-None.ensures.next) c.each.invariant.made
