use Rattle.std.proofs.Common.{◌≤◌, map, nat_le, arith, subst, sym, ap, ◌∙◌}
use Rattle.std.proofs.lemmas.Bool.{leb-true, leb-false, le-leb, lt-leb}
use Rattle.std.proofs.lemmas.List.{take_all}
use Rattle.cov_object.specs.Data.{deepest, depth_of, property_depth}
use Rattle.cov_object.proofs.DataForms.{deepest-taken, deepest-holds, depth_made}
use Rattle.cov_object.proofs.data.+nests.Goals as goal

pub items_nest_within-loop-item-preserved : goal.items_nest_within-loop-item-preserved
items_nest_within-loop-item-preserved t c =
    let l = c.loop-item in
    let more = deepest-taken depth_of c.args.items.now l.item-index c.item-item.result c.loop-item-test.true c.item-item.is in
    let holds = leb-true (depth_of c.item-item.result) c.args.depth (sym c.nests_within.ensures ∙ c.if-not-nests_within.false) in
    omega (arith, more, holds, l.invariant)

pub items_nest_within-returns-then-not-nests_within : goal.items_nest_within-returns-then-not-nests_within
items_nest_within-returns-then-not-nests_within t c =
    let l = c.loop-item in
    let held = deepest-holds depth_of c.args.items.now l.item-index c.item-item.result c.loop-item-test.true c.item-item.is in
    let deeper = leb-false (depth_of c.item-item.result) c.args.depth (sym c.nests_within.ensures ∙ c.if-not-nests_within.true) in
    sym (lt-leb (deepest (map depth_of c.args.items.now)) c.args.depth (omega (arith, held, deeper)))

pub items_nest_within-returns : goal.items_nest_within-returns
items_nest_within-returns t c =
    let l = c.loop-item in
    let all : deepest (map depth_of c.args.items.now) ≤ c.args.depth = subst (λ xs. deepest (map depth_of xs) ≤ c.args.depth) (take_all l.item-index c.args.items.now c.loop-item-test.false) l.invariant in
    sym (le-leb (deepest (map depth_of c.args.items.now)) c.args.depth all)

pub properties_nest_within-loop-property-preserved : goal.properties_nest_within-loop-property-preserved
properties_nest_within-loop-property-preserved t c =
    let l = c.loop-property in
    let more = deepest-taken property_depth c.args.properties.now l.property-index c.property-item.result c.loop-property-test.true c.property-item.is in
    let holds = leb-true (property_depth c.property-item.result) c.args.depth (
    ap (λ n. nat_le n c.args.depth) (depth_made c.property-item.result) ∙ sym c.nests_within.ensures ∙ c.if-not-nests_within.false) in
    omega (arith, more, holds, l.invariant)

pub properties_nest_within-returns-then-not-nests_within : goal.properties_nest_within-returns-then-not-nests_within
properties_nest_within-returns-then-not-nests_within t c =
    let l = c.loop-property in
    let held = deepest-holds property_depth c.args.properties.now l.property-index c.property-item.result c.loop-property-test.true c.property-item.is in
    let deeper = leb-false (property_depth c.property-item.result) c.args.depth (
    ap (λ n. nat_le n c.args.depth) (depth_made c.property-item.result) ∙ sym c.nests_within.ensures ∙ c.if-not-nests_within.true) in
    sym (lt-leb (deepest (map property_depth c.args.properties.now)) c.args.depth (omega (arith, held, deeper)))

pub properties_nest_within-returns : goal.properties_nest_within-returns
properties_nest_within-returns t c =
    let l = c.loop-property in
    let all : deepest (map property_depth c.args.properties.now) ≤ c.args.depth =
    subst (λ xs. deepest (map property_depth xs) ≤ c.args.depth) (take_all l.property-index c.args.properties.now c.loop-property-test.false) l.invariant in
    sym (le-leb (deepest (map property_depth c.args.properties.now)) c.args.depth all)
