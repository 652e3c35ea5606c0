-- The parts as the code writes them.
use Rattle.std.proofs.Common.{◌∙◌, ℕ, Vec, Global, ap}
use Rattle.cov_commands.proofs.LineLemmas.{shortfall_is}
use Rattle.cov_commands.proofs.line.shortfall_line.Goals as goal

pub returns : goal.returns
returns c =
    ap (λ (bytes : Vec ℕ Global). bytes.items) c.into_bytes.ensures.value ∙ c.in_ok-format.ensures.ok
    ∙ shortfall_is c.args.shortfall.now c.metric_text-metric.result.now _ c.metric_text-metric.ensures (c.as_str-percent.ensures.value ∙ c.in_ok-percent.ensures)
