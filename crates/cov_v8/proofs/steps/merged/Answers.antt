use Rattle.std.proofs.Common.{◌∙◌, [], None, ap, sym}
use Rattle.std.proofs.lemmas.List.{append-nil}
use Rattle.cov_v8.specs.private.Steps.{value_at}
use Rattle.cov_v8.proofs.steps.merged.Goals as goal

pub returns : goal.returns
returns c = λ at. ap (λ steps. value_at None steps at) (sym (append-nil c.next.all.items)) ∙ c.next.invariant at [] (c.in_default.ensures.none at)
