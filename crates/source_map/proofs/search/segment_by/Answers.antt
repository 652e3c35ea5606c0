use Rattle.std.proofs.Common.{◌∙◌, sym, ap}
use Rattle.source_map.specs.Trace.{segment_by}
use Rattle.source_map.proofs.SearchLemmas.{some_is, all_is}
use Rattle.source_map.proofs.search.segment_by.Goals as goal

pub returns-in-None-clause-value : goal.returns-in-None-clause-value
returns-in-None-clause-value g c =
    c.copied.ensures ∙ c.last.ensures.value
    ∙ all_is c.args.line c.args.segments.now c.on_line-segments.result.now c.on_line-segments.ensures.line
    ∙ ap (λ column. segment_by c.args.line column c.args.segments.now) (sym c.in-None.is)

pub returns-in-Some-clause-value : goal.returns-in-Some-clause-value
returns-in-Some-clause-value g c =
    c.last_to.ensures.value
    ∙ some_is c.args.line c.in-Some.column c.args.segments.now c.on_line-segments.result.now c.on_line-segments.ensures.line
    ∙ ap (λ column. segment_by c.args.line column c.args.segments.now) (sym c.in-Some.is)
