use Rattle.std.proofs.Common.{◌≡◌, ◌+◌, ◌++◌, ◌∷◌, [], length, sym, ap, ◌∙◌, subst, zero-add, map-id, rules}
use Rattle.std.specs.List.{enumerate_from}
use Rattle.std.proofs.lemmas.Iterator.Adapters.{YieldsList-from_vec}
use Rattle.std.proofs.lemmas.Iterator.Consumers.{YieldsList-end}
use Rattle.std.proofs.lemmas.List.FromFn.{length-enumerate_from}
use Rattle.cov_object.specs.Numbered.{Ascends}
use Rattle.cov_object.proofs.Numbers.{ascends-from, enumerate-more}
use Rattle.cov_object.proofs.numbered.Numbered.from_vec.Goals as goal

pub loop-thing-preserved : goal.loop-thing-preserved
loop-thing-preserved g c =
    let so_far = c.loop-thing.yielded in
    let thing = c.in-Some.thing in
    let counted : c.len-id.result ≡ length c.loop-thing.things.items = search rules in
    let id : c.len-id.result ≡ 0 + length so_far = counted ∙ ap length c.loop-thing.invariant ∙ length-enumerate_from 0 so_far ∙ sym (zero-add (length so_far)) in
    c.in_ok-push.ensures.items
    ∙ ap (λ things. things ++ (c.len-id.result, thing) ∷ []) c.loop-thing.invariant
    ∙ ap (λ n. enumerate_from 0 so_far ++ (n, thing) ∷ []) id
    ∙ sym (enumerate-more 0 so_far thing)

pub invariant_of-result : goal.invariant_of-result
invariant_of-result g c = subst Ascends (sym c.loop-thing.invariant) (ascends-from 0 c.loop-thing.yielded)

pub returns : goal.returns
returns g c =
    let end = YieldsList-end (YieldsList-from_vec {s = c.into_iter-thing-iterator.result} c.args.list.items (search rules) (search rules))
    c.loop-thing.yielded c.loop-thing.thing-iterator c.loop-thing.yielded_by c.next.result c.next.new.self c.in-None.is c.next.ensures.steps in
    c.loop-thing.invariant ∙ ap (enumerate_from 0) (sym (map-id c.loop-thing.yielded) ∙ end.0)
