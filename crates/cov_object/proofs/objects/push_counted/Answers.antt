use Rattle.std.proofs.Common.{◌≡◌, ◌++◌, ap, ◌∙◌}
use Rattle.std.proofs.lemmas.Result.{on_ok_weaker}
use Rattle.serde_json.specs.Data.{object}
use Rattle.serde_json.specs.Written.{compact_text}
use Rattle.cov_object.specs.declared.counted.Part.TheVariants.{Counts, Description}
use Rattle.cov_object.specs.Json.{numbered}
use Rattle.cov_object.specs.private.Order.{members_of}
use Rattle.cov_object.proofs.OrderLemmas.{by_bytes, key_order-numbered, two_members}
use Rattle.cov_object.proofs.objects.push_counted.Goals as goal

pub returns : goal.returns
returns g c =
    let json = g.T.Counted.json in
    let things = c.args.things.now in
    let counts : object (members_of (json Counts) (by_bytes c.deref.result.now)) ≡ numbered (json Counts) things =
    ap (λ xs. object (members_of (json Counts) (by_bytes xs))) c.deref.ensures.value
    ∙ ap (λ xs. object (members_of (json Counts) xs)) c.in_ok-sorted.ensures ∙ key_order-numbered (json Counts) things in
    let descriptions : object (members_of (json Description) (by_bytes c.deref-2.result.now)) ≡ numbered (json Description) things =
    ap (λ xs. object (members_of (json Description) (by_bytes xs))) c.deref-2.ensures.value
    ∙ ap (λ xs. object (members_of (json Description) xs)) c.in_ok-sorted.ensures ∙ key_order-numbered (json Description) things in
    on_ok_weaker c.push_object-2.result (λ e. two_members c.args.later c.args.counts.now c.args.descriptions.now (numbered (json Counts) things) (numbered (json Description) things) _ _ _ _ _
    c.in_ok-push_key.ensures (c.in_ok-push_object.ensures ∙ ap (λ d. c.push_key.new.out.items ++ compact_text d) counts)
    c.in_ok-push_key-2.ensures (e ∙ ap (λ d. c.push_key-2.new.out.items ++ compact_text d) descriptions)) c.push_object-2.ensures
