use Rattle.std.proofs.Common.{◌≡◌, ◌+◌, ◌∷◌, fold, drop, refl, sym, ap, ◌∙◌, rules}
use Rattle.std.proofs.lemmas.Result.{IfOk-weaker}
use Rattle.std.proofs.lemmas.List.{at_drop_more, at_drop_all}
use Rattle.cov_object.specs.private.Order.{put_in, in_key_order}
use Rattle.cov_object.proofs.OrderLemmas.{by_bytes, put_in-more}
use Rattle.cov_preamble.proofs.zero.in_digit_order.Goals as goal

pub loop-id-preserved : goal.loop-id-preserved
loop-id-preserved g c =
    let thing = c.loop-id-item.result in
    let rest = drop (c.loop-id.id-index + 1) c.args.things.now in
    let before = by_bytes c.loop-id.sorted.entries in
    ap (λ sorted. fold put_in sorted rest) (put_in-more c.loop-id.sorted.entries c.insert.new.self.entries c.in_ok-digits.field-0 _ thing.0 thing.1 c.in_ok-digits.ensures refl c.in_ok-insert.ensures.entries)
    ∙ ap (λ first. fold put_in before (first ∷ rest)) c.loop-id-item.is
    ∙ sym (at_drop_more (fold put_in before) c.args.things.now c.loop-id.id-index thing c.loop-id-test.true)
    ∙ c.loop-id.invariant

pub returns : goal.returns
returns g c =
    let before = by_bytes c.loop-id.sorted.entries in
    let done : before ≡ in_key_order c.args.things.now = sym (at_drop_all (fold put_in before) c.args.things.now c.loop-id.id-index c.loop-id-test.false) ∙ c.loop-id.invariant in
    IfOk-weaker c.collect.result (λ v. v.items ≡ c.loop-id.sorted.entries) _ (λ v e. ap by_bytes e ∙ done) (search rules)
