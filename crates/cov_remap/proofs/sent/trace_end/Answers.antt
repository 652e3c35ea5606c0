use Rattle.std.proofs.Common.{◌∙◌, sym, ap}
use Rattle.source_map.specs.Trace.{trace}
use Rattle.cov_remap.specs.Sent.{trace_end}
use Rattle.cov_remap.proofs.sent.trace_end.Goals as goal

pub returns-in-Some-clause-value : goal.returns-in-Some-clause-value
returns-in-Some-clause-value c = c.trace.ensures.value ∙ ap (λ n. trace c.args.map.now n c.in-Some.place.column) c.get.ensures.value ∙ ap (trace_end c.args.map.now) (sym c.in-Some.is)
