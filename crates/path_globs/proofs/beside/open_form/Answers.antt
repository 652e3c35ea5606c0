use Rattle.std.proofs.Common.{◌≡◌, ◌∙◌, IfOk, subst, ℕ, List, length, drop, map, fold, Bor, sym, ap, lit<}
use Rattle.std.specs.Prelude.{string_bytes}
use Rattle.std.specs.Str.Iter.{split_text, split_has_more, split_pattern}
use Rattle.std.proofs.lemmas.Iterator.Splits.{YieldsList-from_str_split}
use Rattle.std.proofs.lemmas.Iterator.Consumers.{YieldsList-turn, YieldsList-end}
use Rattle.std.proofs.lemmas.List.{length_push}
use Rattle.path_globs.specs.NormalForm.{is_from_root, spelled, components}
use Rattle.path_globs.specs.Beside.{with_component}
use Rattle.path_globs.proofs.BesideLemmas.{one_more, at_end}
use Rattle.path_globs.proofs.beside.open_form.Goals as goal

pub loop-component-preserved : goal.loop-component-preserved
loop-component-preserved c =
    let same = c.into_iter-component-iterator.ensures.into_iter_gives in
    let text = ap split_text same ∙ c.split-component-items.ensures.text in
    let more = ap split_has_more same ∙ c.split-component-items.ensures.has_more in
    let pattern = ap split_pattern same ∙ c.split-component-items.ensures.pattern in
    let split = YieldsList-from_str_split {s = c.into_iter-component-iterator.result} 47 c.args.path.now (lit< tt) text more pattern in
    let t = YieldsList-turn split c.loop-component.yielded _ c.loop-component.yielded_by _ _ c.in-Some.component c.in-Some.is c.next.ensures.steps in (
      tt,
      tt,
      ap (λ n. fold with_component (map (λ (part : Bor (List ℕ)). part.now) c.take.new.kept.items) (drop n (components c.args.path.now))) (length_push c.loop-component.yielded c.in-Some.component)
          ∙ one_more (map (λ (part : Bor (List ℕ)). part.now) c.loop-component.kept.items) (components c.args.path.now) (length c.loop-component.yielded) c.in-Some.component.now
          (map (λ (part : Bor (List ℕ)). part.now) c.take.new.kept.items) t c.in_ok-take.ensures
          ∙ c.loop-component.invariant.2,
    )

pub returns : goal.returns
returns c =
    let same = c.into_iter-component-iterator.ensures.into_iter_gives in
    let text = ap split_text same ∙ c.split-component-items.ensures.text in
    let more = ap split_has_more same ∙ c.split-component-items.ensures.has_more in
    let pattern = ap split_pattern same ∙ c.split-component-items.ensures.pattern in
    let split = YieldsList-from_str_split {s = c.into_iter-component-iterator.result} 47 c.args.path.now (lit< tt) text more pattern in
    let t = YieldsList-end split c.loop-component.yielded _ c.loop-component.yielded_by _ _ c.in-None.is c.next.ensures.steps in
    let all = at_end (map (λ (part : Bor (List ℕ)). part.now) c.loop-component.kept.items) (components c.args.path.now) (length c.loop-component.yielded) (sym t.1) ∙ c.loop-component.invariant.2 in
    subst (λ (x : List ℕ). IfOk c.spelled.result (λ form. string_bytes form ≡ x))
    (ap (λ root. spelled root (map (λ (part : Bor (List ℕ)). part.now) c.deref.result.now)) c.is_from_root.ensures
    ∙ ap (λ (parts : List (Bor (List ℕ))). spelled (is_from_root c.args.path.now) (map (λ part. part.now) parts)) c.deref.ensures.value
    ∙ ap (spelled (is_from_root c.args.path.now)) all) c.spelled.ensures
