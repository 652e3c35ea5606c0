-- Each pattern is that of the definition, and the end is its end.
use Rattle.std.proofs.Common.{◌≡◌, ◌∙◌, ◌∷◌, ◌++◌, [], length, take, sym, ap, lit<, arith, rules}
use Rattle.std.specs.Str.Iter.{split_text, split_has_more, split_pattern}
use Rattle.std.proofs.lemmas.Iterator.Splits.{YieldsList-from_str_split}
use Rattle.std.proofs.lemmas.Iterator.Consumers.{YieldsList-turn, YieldsList-end}
use Rattle.std.proofs.lemmas.List.{length_push, take_more, take_all}
use Rattle.cov_words.specs.Words.{patterns_of}
use Rattle.cov_words.proofs.arguments.patterns_of.Goals as goal

pub loop-pattern-preserved : goal.loop-pattern-preserved
loop-pattern-preserved c =
    let same = c.into_iter-pattern-iterator.ensures.into_iter_gives in
    let text = ap split_text same ∙ c.split-pattern-items.ensures.text in
    let more = ap split_has_more same ∙ c.split-pattern-items.ensures.has_more in
    let pattern = ap split_pattern same ∙ c.split-pattern-items.ensures.pattern in
    let split = YieldsList-from_str_split {s = c.into_iter-pattern-iterator.result} 44 c.args.word.now (lit< tt) text more pattern in
    let t = YieldsList-turn split c.loop-pattern.yielded _ c.loop-pattern.yielded_by _ _ c.in-Some.pattern c.in-Some.is c.next.ensures.steps in
    let all = patterns_of c.args.word.now in
    let n = length c.loop-pattern.yielded in
    let part = c.in-Some.pattern.now in
    let pushed : c.push.new.self ≡ c.loop-pattern.patterns ++ part ∷ [] = search rules in (
      tt,
      tt,
      pushed
          ∙ ap (λ patterns. patterns ++ part ∷ []) c.loop-pattern.invariant.2
          ∙ ap (λ rest. take n all ++ rest ∷ []) t.1
          ∙ sym (take_more all n part t.0)
          ∙ ap (λ m. take m all) (sym (length_push c.loop-pattern.yielded c.in-Some.pattern)),
    )

pub returns : goal.returns
returns c =
    let same = c.into_iter-pattern-iterator.ensures.into_iter_gives in
    let text = ap split_text same ∙ c.split-pattern-items.ensures.text in
    let more = ap split_has_more same ∙ c.split-pattern-items.ensures.has_more in
    let pattern = ap split_pattern same ∙ c.split-pattern-items.ensures.pattern in
    let split = YieldsList-from_str_split {s = c.into_iter-pattern-iterator.result} 44 c.args.word.now (lit< tt) text more pattern in
    let t = YieldsList-end split c.loop-pattern.yielded _ c.loop-pattern.yielded_by _ _ c.in-None.is c.next.ensures.steps in
    c.loop-pattern.invariant.2 ∙ take_all (length c.loop-pattern.yielded) (patterns_of c.args.word.now) (omega (arith, t.1))
