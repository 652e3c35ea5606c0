-- Each component is that of the definition, and the end is its end.
use Rattle.std.proofs.Common.{◌∙◌, ℕ, List, Some, length, drop, map, Bor, sym, ap, lit<}
use Rattle.std.specs.Prelude.{option_map}
use Rattle.std.specs.Str.Iter.{split_text, split_has_more, split_pattern}
use Rattle.std.proofs.lemmas.Iterator.Splits.{YieldsList-from_str_split}
use Rattle.std.proofs.lemmas.Iterator.Consumers.{YieldsList-turn, YieldsList-end}
use Rattle.std.proofs.lemmas.List.{length_push}
use Rattle.path_globs.specs.NormalForm.{is_from_root, spelled, components, with_components}
use Rattle.path_globs.proofs.NormalFormLemmas.{goes_on, stops, at_end}
use Rattle.path_globs.proofs.normal_form.normal.Goals as goal

pub returns-then-not-branch : goal.returns-then-not-branch
returns-then-not-branch c =
    let same = c.into_iter-component-iterator.ensures.into_iter_gives in
    let text = ap split_text same ∙ c.split-component-items.ensures.text in
    let more = ap split_has_more same ∙ c.split-component-items.ensures.has_more in
    let pattern = ap split_pattern same ∙ c.split-component-items.ensures.pattern in
    let split = YieldsList-from_str_split {s = c.into_iter-component-iterator.result} 47 c.args.path.now (lit< tt) text more pattern in
    let t = YieldsList-turn split c.loop-component.yielded _ c.loop-component.yielded_by _ _ c.in-Some.component c.in-Some.is c.next.ensures.steps in
    let none = stops (map (λ (part : Bor (List ℕ)). part.now) c.loop-component.kept.items) (components c.args.path.now) (length c.loop-component.yielded) c.in-Some.component.now t
    (map (λ (part : Bor (List ℕ)). part.now) c.take.new.kept.items) c.in_ok-take.field-0 c.in_ok-take.ensures c.if-not-branch.true in
    ap (option_map (spelled (is_from_root c.args.path.now))) (none ∙ c.loop-component.invariant.2)

pub loop-component-preserved : goal.loop-component-preserved
loop-component-preserved c =
    let same = c.into_iter-component-iterator.ensures.into_iter_gives in
    let text = ap split_text same ∙ c.split-component-items.ensures.text in
    let more = ap split_has_more same ∙ c.split-component-items.ensures.has_more in
    let pattern = ap split_pattern same ∙ c.split-component-items.ensures.pattern in
    let split = YieldsList-from_str_split {s = c.into_iter-component-iterator.result} 47 c.args.path.now (lit< tt) text more pattern in
    let t = YieldsList-turn split c.loop-component.yielded _ c.loop-component.yielded_by _ _ c.in-Some.component c.in-Some.is c.next.ensures.steps in
    let on = goes_on (map (λ (part : Bor (List ℕ)). part.now) c.loop-component.kept.items) (components c.args.path.now) (length c.loop-component.yielded) c.in-Some.component.now t
    (map (λ (part : Bor (List ℕ)). part.now) c.take.new.kept.items) c.in_ok-take.field-0 c.in_ok-take.ensures c.if-not-branch.false in (
      tt,
      tt,
      ap (λ n. with_components (map (λ (part : Bor (List ℕ)). part.now) c.take.new.kept.items) (drop n (components c.args.path.now))) (length_push c.loop-component.yielded c.in-Some.component)
          ∙ on ∙ c.loop-component.invariant.2,
    )

pub returns : goal.returns
returns c =
    let same = c.into_iter-component-iterator.ensures.into_iter_gives in
    let text = ap split_text same ∙ c.split-component-items.ensures.text in
    let more = ap split_has_more same ∙ c.split-component-items.ensures.has_more in
    let pattern = ap split_pattern same ∙ c.split-component-items.ensures.pattern in
    let split = YieldsList-from_str_split {s = c.into_iter-component-iterator.result} 47 c.args.path.now (lit< tt) text more pattern in
    let t = YieldsList-end split c.loop-component.yielded _ c.loop-component.yielded_by _ _ c.in-None.is c.next.ensures.steps in
    let all = at_end (map (λ (part : Bor (List ℕ)). part.now) c.loop-component.kept.items) (components c.args.path.now) (length c.loop-component.yielded) (sym t.1) ∙ c.loop-component.invariant.2 in
    ap Some
    (c.in_ok-spelled.ensures
    ∙ ap (λ root. spelled root (map (λ (part : Bor (List ℕ)). part.now) c.deref.result.now)) c.is_from_root.ensures
    ∙ ap (λ (parts : List (Bor (List ℕ))). spelled (is_from_root c.args.path.now) (map (λ part. part.now) parts)) c.deref.ensures.value)
    ∙ ap (option_map (spelled (is_from_root c.args.path.now))) all
