use Rattle.std.proofs.Common.{◌∙◌, ap, sym, option_map, option_and_then}
use Rattle.serde_json.specs.View.{items_view}
use Rattle.cov_v8.specs.Read as spec
use Rattle.cov_v8.proofs.ReaderLemmas.{some_items}
use Rattle.cov_v8.proofs.read.some_in.Goals as goal

pub returns-else-is_empty-clause-value : goal.returns-else-is_empty-clause-value
returns-else-is_empty-clause-value c =
    sym (some_items c.in-Some.values.now (sym c.is_empty.ensures ∙ c.if-is_empty.false))
    ∙ ap (option_and_then spec.nonempty) (sym (ap (option_map (λ values. items_view values.now)) c.in-Some.is) ∙ c.list_in.ensures)
