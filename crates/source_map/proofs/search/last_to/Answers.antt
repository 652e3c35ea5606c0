use Rattle.std.proofs.Common.{◌∙◌, length, refl, sym, subst, arith, le_refl, ◌∷◌}
use Rattle.source_map.specs.private.Order.{AreByColumn}
use Rattle.source_map.proofs.SearchLemmas.{taken, left, columns_back, columns_front, start_left, start_few, less_after, less_front, left_more, few_more}
use Rattle.source_map.proofs.search.last_to.Goals as goal

pub halves-init : goal.halves-init
halves-init g c = record {
  order = c.requires;
  value = refl;
  later = le_refl c.args.steps.now;
  left = start_left c.args.steps.now (length c.args.segments.now);
  few = start_few c.args.steps.now (length c.args.segments.now);
}

pub halves-smaller-then-is_to : goal.halves-smaller-then-is_to
halves-smaller-then-is_to g c = less_after c.halves.rest.now c.in-Some.before.now c.in-Some.middle c.in-Some.after.now c.in-Some.ensures.some

pub halves-smaller : goal.halves-smaller
halves-smaller g c = less_front c.halves.rest.now c.in-Some.before.now c.in-Some.middle c.in-Some.after.now c.in-Some.ensures.some

pub halves-preserved-then-is_to : goal.halves-preserved-then-is_to
halves-preserved-then-is_to g c =
    let half = c.in-Some.ensures.some in
    let old = c.halves.invariant in
    let less = less_after c.halves.rest.now c.in-Some.before.now c.in-Some.middle c.in-Some.after.now half in
    record {
      order = (columns_back c.in-Some.before.now (c.in-Some.middle ∷ c.in-Some.after.now) (subst AreByColumn half.are old.order)).1;
      value = taken c.args.column c.halves.found c.halves.rest.now c.in-Some.before.now c.in-Some.middle c.in-Some.after.now half.are (sym c.is_to.ensures.value ∙ c.if-is_to.true) ∙ old.value;
      later = omega (arith, old.later, c.is_to.ensures.one);
      left = left_more c.args.steps.now c.halves.steps c.is_to.new.steps (length c.halves.rest.now) (length c.in-Some.after.now) (length c.args.segments.now) c.is_to.ensures.one old.later old.left half.few_after;
      few = few_more c.args.steps.now c.halves.steps c.is_to.new.steps (length c.halves.rest.now) (length c.in-Some.after.now) (length c.args.segments.now) c.is_to.ensures.one old.later old.left less;
    }

pub halves-preserved : goal.halves-preserved
halves-preserved g c =
    let half = c.in-Some.ensures.some in
    let old = c.halves.invariant in
    let less = less_front c.halves.rest.now c.in-Some.before.now c.in-Some.middle c.in-Some.after.now half in
    record {
      order = columns_front c.in-Some.before.now (c.in-Some.middle ∷ c.in-Some.after.now) (subst AreByColumn half.are old.order);
      value = left c.args.column c.halves.found c.halves.rest.now c.in-Some.before.now c.in-Some.middle c.in-Some.after.now half.are old.order (sym c.is_to.ensures.value ∙ c.if-is_to.false) ∙ old.value;
      later = omega (arith, old.later, c.is_to.ensures.one);
      left = left_more c.args.steps.now c.halves.steps c.is_to.new.steps (length c.halves.rest.now) (length c.in-Some.before.now) (length c.args.segments.now) c.is_to.ensures.one old.later old.left half.few_before;
      few = few_more c.args.steps.now c.halves.steps c.is_to.new.steps (length c.halves.rest.now) (length c.in-Some.before.now) (length c.args.segments.now) c.is_to.ensures.one old.later old.left less;
    }
