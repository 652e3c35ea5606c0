use Rattle.std.proofs.Common.{◌∙◌}
use Rattle.source_map.specs.Mappings.{to_column}
use Rattle.source_map.specs.private.Pieces.{columned}
use Rattle.source_map.proofs.PiecesLemmas.{none, stop, on}
use Rattle.source_map.proofs.segment.segment_in.Goals as goal

pub returns-in_err-column-clause-value : goal.returns-in_err-column-clause-value
returns-in_err-column-clause-value c =
    c.from_residual.ensures
    ∙ none c.args.sources c.args.names (λ n. to_column c.args.sources c.args.names n c.args.from) (columned c.args.sources c.args.names) c.args.bytes.now c.in_err-column.ensures.value

pub returns-in_err-with_column-clause-value : goal.returns-in_err-with_column-clause-value
returns-in_err-with_column-clause-value c =
    c.from_residual-in_err-with_column.ensures
    ∙ stop c.args.sources c.args.names (λ n. to_column c.args.sources c.args.names n c.args.from) (columned c.args.sources c.args.names) c.args.bytes.now
    c.in_ok-column.column c.in_ok-column.rest.now c.in_ok-column.ensures.value c.in_err-with_column.ensures.value

pub returns-clause-value : goal.returns-clause-value
returns-clause-value c =
    c.columned.ensures.value
    ∙ on c.args.sources c.args.names (λ n. to_column c.args.sources c.args.names n c.args.from) (columned c.args.sources c.args.names) c.args.bytes.now
    c.in_ok-column.column c.in_ok-column.rest.now c.in_ok-with_column.with_column c.in_ok-column.ensures.value c.in_ok-with_column.ensures.value
