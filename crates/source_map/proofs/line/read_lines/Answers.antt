use Rattle.std.proofs.Common.{◌≡◌, ◌∙◌, ◌+◌, ℕ, [], length, drop, sym, ap, lit<, arith}
use Rattle.std.specs.Str.Iter.{split_text, split_has_more, split_pattern}
use Rattle.std.proofs.lemmas.Iterator.Splits.{YieldsList-from_str_split}
use Rattle.std.proofs.lemmas.Iterator.Consumers.{YieldsList-turn, YieldsList-end}
use Rattle.std.proofs.lemmas.List.{length_push}
use Rattle.source_map.specs.Mappings.{read_line}
use Rattle.source_map.specs.Mappings as exact
use Rattle.source_map.specs.private.Lines.{onto, pieces, lines, spent}
use Rattle.source_map.proofs.LinesLemmas.{spent-split, after-one, answers-fault, one-line, next_line, left-after, no-line, onto-none, all-fault, all-found}
use Rattle.source_map.specs.declared.state.State.{State}
use Rattle.source_map.proofs.line.read_lines.Goals as goal

zero-left : (n m : ℕ) → n ≡ m → 0 + n ≡ m
zero-left n m e = omega (arith, e)

pub loop-line-init : goal.loop-line-init
loop-line-init c =
    let begins = ap (λ (s : State). s.line) c.start-state.ensures in
    record {
      next = tt;
      finite = tt;
      left = zero-left _ _ (spent-split _ c.args.mappings.now);
      few = omega (arith, begins);
      found = ap (λ xs. onto xs (exact.read_lines c.args.sources c.args.names c.start-state.result 0 (lines c.args.mappings.now))) c.new-segments.ensures.items
          ∙ ap (λ s. onto [] (exact.read_lines c.args.sources c.args.names s 0 (lines c.args.mappings.now))) c.start-state.ensures;
    }

pub read_line-requires : goal.read_line-requires
read_line-requires c =
    let same = c.into_iter-line-iterator.ensures.into_iter_gives in
    let text = ap split_text same ∙ c.split-line-items.ensures.text in
    let more = ap split_has_more same ∙ c.split-line-items.ensures.has_more in
    let pattern = ap split_pattern same ∙ c.split-line-items.ensures.pattern in
    let split = YieldsList-from_str_split {s = c.into_iter-line-iterator.result} 59 c.args.mappings.now (lit< tt) text more pattern in
    let t = YieldsList-turn split c.loop-line.yielded _ c.loop-line.yielded_by _ _ c.in-Some.line c.in-Some.is c.next.ensures.steps in
    let after = left-after c.loop-line.at (length c.args.mappings.now + 1) (lines c.args.mappings.now) (length c.loop-line.yielded) c.in-Some.line.now t c.loop-line.invariant.left in
    omega (arith, after)

pub overflow_add-at-in-loop-line : goal.overflow_add-at-in-loop-line
overflow_add-at-in-loop-line c =
    let same = c.into_iter-line-iterator.ensures.into_iter_gives in
    let text = ap split_text same ∙ c.split-line-items.ensures.text in
    let more = ap split_has_more same ∙ c.split-line-items.ensures.has_more in
    let pattern = ap split_pattern same ∙ c.split-line-items.ensures.pattern in
    let split = YieldsList-from_str_split {s = c.into_iter-line-iterator.result} 59 c.args.mappings.now (lit< tt) text more pattern in
    let t = YieldsList-turn split c.loop-line.yielded _ c.loop-line.yielded_by _ _ c.in-Some.line c.in-Some.is c.next.ensures.steps in
    let after = left-after c.loop-line.at (length c.args.mappings.now + 1) (lines c.args.mappings.now) (length c.loop-line.yielded) c.in-Some.line.now t c.loop-line.invariant.left in
    omega (arith, after)

pub loop-line-preserved : goal.loop-line-preserved
loop-line-preserved c =
    let same = c.into_iter-line-iterator.ensures.into_iter_gives in
    let text = ap split_text same ∙ c.split-line-items.ensures.text in
    let more = ap split_has_more same ∙ c.split-line-items.ensures.has_more in
    let pattern = ap split_pattern same ∙ c.split-line-items.ensures.pattern in
    let split = YieldsList-from_str_split {s = c.into_iter-line-iterator.result} 59 c.args.mappings.now (lit< tt) text more pattern in
    let t = YieldsList-turn split c.loop-line.yielded _ c.loop-line.yielded_by _ _ c.in-Some.line c.in-Some.is c.next.ensures.steps in
    let now = c.next_line-state.ensures in
    let line = ap (λ (s : State). s.line) now in
    let own = c.in-Ok.ensures.same_line in
    let few = c.loop-line.invariant.few in
    record {
      next = tt;
      finite = tt;
      left = ap (λ n. (c.loop-line.at + (length c.in-Some.line.now + 1)) + spent (drop n (lines c.args.mappings.now))) (length_push c.loop-line.yielded c.in-Some.line) ∙ left-after c.loop-line.at (length c.args.mappings.now + 1) (lines c.args.mappings.now) (length c.loop-line.yielded) c.in-Some.line.now t c.loop-line.invariant.left;
      few = omega (arith, line, own, few);
      found = ap (λ n. onto c.read_line.new.segments.items (exact.read_lines c.args.sources c.args.names c.next_line-state.result (c.loop-line.at + (length c.in-Some.line.now + 1)) (drop n (lines c.args.mappings.now)))) (length_push c.loop-line.yielded c.in-Some.line)
          ∙ ap (λ s. onto c.read_line.new.segments.items (exact.read_lines c.args.sources c.args.names s (c.loop-line.at + (length c.in-Some.line.now + 1)) (drop (length c.loop-line.yielded + 1) (lines c.args.mappings.now)))) now
          ∙ after-one c.loop-line.segments.items c.read_line.new.segments.items c.in-Ok.after (read_line c.args.sources c.args.names c.loop-line.state c.loop-line.at (pieces c.in-Some.line.now))
          (λ after. exact.read_lines c.args.sources c.args.names (next_line c.args.sources c.args.names c.loop-line.state c.loop-line.at (lines c.args.mappings.now) (length c.loop-line.yielded) c.in-Some.line.now t after) (c.loop-line.at + (length c.in-Some.line.now + 1)) (drop (length c.loop-line.yielded + 1) (lines c.args.mappings.now))) c.in-Ok.ensures.answers
          ∙ ap (onto c.loop-line.segments.items) (sym (one-line c.args.sources c.args.names c.loop-line.state c.loop-line.at (lines c.args.mappings.now) (length c.loop-line.yielded) c.in-Some.line.now t))
          ∙ c.loop-line.invariant.found;
    }

pub returns-in-Err : goal.returns-in-Err
returns-in-Err c =
    let same = c.into_iter-line-iterator.ensures.into_iter_gives in
    let text = ap split_text same ∙ c.split-line-items.ensures.text in
    let more = ap split_has_more same ∙ c.split-line-items.ensures.has_more in
    let pattern = ap split_pattern same ∙ c.split-line-items.ensures.pattern in
    let split = YieldsList-from_str_split {s = c.into_iter-line-iterator.result} 59 c.args.mappings.now (lit< tt) text more pattern in
    let t = YieldsList-turn split c.loop-line.yielded _ c.loop-line.yielded_by _ _ c.in-Some.line c.in-Some.is c.next.ensures.steps in
    all-fault c.read_line.new.segments.items c.in-Err.fault _
    (answers-fault c.read_line.new.segments.items c.loop-line.segments.items c.in-Err.fault (read_line c.args.sources c.args.names c.loop-line.state c.loop-line.at (pieces c.in-Some.line.now))
    (λ after. exact.read_lines c.args.sources c.args.names (next_line c.args.sources c.args.names c.loop-line.state c.loop-line.at (lines c.args.mappings.now) (length c.loop-line.yielded) c.in-Some.line.now t after) (c.loop-line.at + (length c.in-Some.line.now + 1)) (drop (length c.loop-line.yielded + 1) (lines c.args.mappings.now))) _
    (ap (onto c.loop-line.segments.items) (sym (one-line c.args.sources c.args.names c.loop-line.state c.loop-line.at (lines c.args.mappings.now) (length c.loop-line.yielded) c.in-Some.line.now t)) ∙ c.loop-line.invariant.found)
    c.in-Err.ensures.answers)

pub returns : goal.returns
returns c =
    let same = c.into_iter-line-iterator.ensures.into_iter_gives in
    let text = ap split_text same ∙ c.split-line-items.ensures.text in
    let more = ap split_has_more same ∙ c.split-line-items.ensures.has_more in
    let pattern = ap split_pattern same ∙ c.split-line-items.ensures.pattern in
    let split = YieldsList-from_str_split {s = c.into_iter-line-iterator.result} 59 c.args.mappings.now (lit< tt) text more pattern in
    let t = YieldsList-end split c.loop-line.yielded _ c.loop-line.yielded_by _ _ c.in-None.is c.next.ensures.steps in
    all-found _ (c.loop-line.state, c.loop-line.segments.items)
    (sym c.loop-line.invariant.found
    ∙ ap (onto c.loop-line.segments.items) (no-line c.args.sources c.args.names c.loop-line.state c.loop-line.at (lines c.args.mappings.now) (length c.loop-line.yielded) (sym t.1))
    ∙ onto-none c.loop-line.state c.loop-line.segments.items)
