use Rattle.std.proofs.Common.{◌∙◌, ◌+◌, length, drop, refl, sym, ap, lit<, arith}
use Rattle.std.specs.Str.Iter.{split_text, split_has_more, split_pattern}
use Rattle.std.proofs.lemmas.Iterator.Splits.{YieldsList-from_str_split}
use Rattle.std.proofs.lemmas.Iterator.Consumers.{YieldsList-turn, YieldsList-end}
use Rattle.std.proofs.lemmas.List.{length_push}
use Rattle.source_map.specs.Mappings.{read_segment}
use Rattle.source_map.specs.Mappings as exact
use Rattle.source_map.specs.private.Lines.{onto, pieces, spent}
use Rattle.source_map.proofs.LinesLemmas.{spent-split, after-one, answers-fault, one-piece, left-after, no_piece, onto-none}
use Rattle.source_map.proofs.line.read_line.Goals as goal

pub loop-piece-init : goal.loop-piece-init
loop-piece-init c = record { next = tt; finite = tt; left = ap (λ n. c.args.start + n) (spent-split _ c.args.line.now); same_line = refl; found = refl }

pub overflow_add-at-in-loop-piece : goal.overflow_add-at-in-loop-piece
overflow_add-at-in-loop-piece c =
    let same = c.into_iter-piece-iterator.ensures.into_iter_gives in
    let text = ap split_text same ∙ c.split-piece-items.ensures.text in
    let more = ap split_has_more same ∙ c.split-piece-items.ensures.has_more in
    let pattern = ap split_pattern same ∙ c.split-piece-items.ensures.pattern in
    let split = YieldsList-from_str_split {s = c.into_iter-piece-iterator.result} 44 c.args.line.now (lit< tt) text more pattern in
    let t = YieldsList-turn split c.loop-piece.yielded _ c.loop-piece.yielded_by _ _ c.in-Some.piece c.in-Some.is c.next.ensures.steps in
    let after = left-after c.loop-piece.at (c.args.start + (length c.args.line.now + 1)) (pieces c.args.line.now) (length c.loop-piece.yielded) c.in-Some.piece.now t c.loop-piece.invariant.left in
    omega (arith, after)

pub loop-piece-preserved : goal.loop-piece-preserved
loop-piece-preserved c =
    let same = c.into_iter-piece-iterator.ensures.into_iter_gives in
    let text = ap split_text same ∙ c.split-piece-items.ensures.text in
    let more = ap split_has_more same ∙ c.split-piece-items.ensures.has_more in
    let pattern = ap split_pattern same ∙ c.split-piece-items.ensures.pattern in
    let split = YieldsList-from_str_split {s = c.into_iter-piece-iterator.result} 44 c.args.line.now (lit< tt) text more pattern in
    let t = YieldsList-turn split c.loop-piece.yielded _ c.loop-piece.yielded_by _ _ c.in-Some.piece c.in-Some.is c.next.ensures.steps in
    record {
      next = tt;
      finite = tt;
      left = ap (λ n. (c.loop-piece.at + (length c.in-Some.piece.now + 1)) + spent (drop n (pieces c.args.line.now))) (length_push c.loop-piece.yielded c.in-Some.piece)
          ∙ left-after c.loop-piece.at (c.args.start + (length c.args.line.now + 1)) (pieces c.args.line.now) (length c.loop-piece.yielded) c.in-Some.piece.now t c.loop-piece.invariant.left;
      same_line = c.in-Ok.ensures.same_line ∙ c.loop-piece.invariant.same_line;
      found = ap (λ n. onto c.read_piece.new.segments.items (exact.read_line c.args.sources c.args.names c.in-Ok.after (c.loop-piece.at + (length c.in-Some.piece.now + 1)) (drop n (pieces c.args.line.now)))) (length_push c.loop-piece.yielded c.in-Some.piece)
          ∙ after-one c.loop-piece.segments.items c.read_piece.new.segments.items c.in-Ok.after (read_segment c.args.sources c.args.names c.loop-piece.state c.loop-piece.at c.in-Some.piece.now)
          (λ after. exact.read_line c.args.sources c.args.names after (c.loop-piece.at + (length c.in-Some.piece.now + 1)) (drop (length c.loop-piece.yielded + 1) (pieces c.args.line.now))) c.in-Ok.ensures.answers
          ∙ ap (onto c.loop-piece.segments.items) (sym (one-piece c.args.sources c.args.names c.loop-piece.state c.loop-piece.at (pieces c.args.line.now) (length c.loop-piece.yielded) c.in-Some.piece.now t))
          ∙ c.loop-piece.invariant.found;
    }

pub returns-in-Err-clause-answers : goal.returns-in-Err-clause-answers
returns-in-Err-clause-answers c =
    let same = c.into_iter-piece-iterator.ensures.into_iter_gives in
    let text = ap split_text same ∙ c.split-piece-items.ensures.text in
    let more = ap split_has_more same ∙ c.split-piece-items.ensures.has_more in
    let pattern = ap split_pattern same ∙ c.split-piece-items.ensures.pattern in
    let split = YieldsList-from_str_split {s = c.into_iter-piece-iterator.result} 44 c.args.line.now (lit< tt) text more pattern in
    let t = YieldsList-turn split c.loop-piece.yielded _ c.loop-piece.yielded_by _ _ c.in-Some.piece c.in-Some.is c.next.ensures.steps in
    answers-fault c.read_piece.new.segments.items c.loop-piece.segments.items c.in-Err.fault (read_segment c.args.sources c.args.names c.loop-piece.state c.loop-piece.at c.in-Some.piece.now)
    (λ after. exact.read_line c.args.sources c.args.names after (c.loop-piece.at + (length c.in-Some.piece.now + 1)) (drop (length c.loop-piece.yielded + 1) (pieces c.args.line.now))) _
    (ap (onto c.loop-piece.segments.items) (sym (one-piece c.args.sources c.args.names c.loop-piece.state c.loop-piece.at (pieces c.args.line.now) (length c.loop-piece.yielded) c.in-Some.piece.now t)) ∙ c.loop-piece.invariant.found)
    c.in-Err.ensures.answers

pub returns-clause-answers : goal.returns-clause-answers
returns-clause-answers c =
    let same = c.into_iter-piece-iterator.ensures.into_iter_gives in
    let text = ap split_text same ∙ c.split-piece-items.ensures.text in
    let more = ap split_has_more same ∙ c.split-piece-items.ensures.has_more in
    let pattern = ap split_pattern same ∙ c.split-piece-items.ensures.pattern in
    let split = YieldsList-from_str_split {s = c.into_iter-piece-iterator.result} 44 c.args.line.now (lit< tt) text more pattern in
    let t = YieldsList-end split c.loop-piece.yielded _ c.loop-piece.yielded_by _ _ c.in-None.is c.next.ensures.steps in
    sym c.loop-piece.invariant.found
    ∙ ap (onto c.loop-piece.segments.items) (no_piece c.args.sources c.args.names c.loop-piece.state c.loop-piece.at (pieces c.args.line.now) (length c.loop-piece.yielded) (sym t.1))
    ∙ onto-none c.loop-piece.state c.loop-piece.segments.items
