use Rattle.std.proofs.Common.{◌≤◌, length, sym, ap, ◌∙◌, rules}
use Rattle.std.proofs.lemmas.List.{drop_all}
use Rattle.cov_merge.specs.Entries.{too_large}
use Rattle.cov_merge.proofs.LawsLemmas.{none-below}
use Rattle.cov_merge.proofs.sums.first_too_large.Goals as goal

pub returns-clause-counts : goal.returns-clause-counts
returns-clause-counts c none =
    let sums = c.args.sums.now in
    let past : length sums ≤ c.loop-place.place = search rules in
    none-below 0 sums (sym c.loop-place.invariant ∙ ap (too_large c.loop-place.place) (drop_all c.loop-place.place sums past))
