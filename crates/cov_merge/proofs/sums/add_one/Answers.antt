use Rattle.std.proofs.Common.{ap, ◌∙◌, take, set, get_or}
use Rattle.cov_merge.proofs.SumsLemmas.{plus-one}
use Rattle.cov_merge.proofs.sums.add_one.Goals as goal

pub returns-in-Some : goal.returns-in-Some
returns-in-Some c =
    ap (λ some. set some 0 c.running.result) c.truncate.ensures.items
    ∙ ap (set (take 1 c.args.sums.now.items) 0) c.running.ensures
    ∙ plus-one c.args.sums.now.items c.in-Some.sum.now c.args.count (c.in-Some.ensures.value ∙ ap (λ some. get_or some 0 c.in-Some.sum.now) c.truncate.ensures.items)
