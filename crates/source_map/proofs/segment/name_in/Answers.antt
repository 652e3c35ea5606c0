use Rattle.std.proofs.Common.{◌∙◌}
use Rattle.source_map.specs.Mappings.{to_name}
use Rattle.source_map.specs.private.Pieces.{named}
use Rattle.source_map.proofs.PiecesLemmas.{none, stop, on}
use Rattle.source_map.proofs.segment.name_in.Goals as goal

pub returns-in_err-name-clause-value : goal.returns-in_err-name-clause-value
returns-in_err-name-clause-value c =
    c.from_residual.ensures ∙ none c.args.sources c.args.names (λ n. to_name c.args.sources c.args.names n c.args.after) (named c.args.sources c.args.names) c.args.bytes.now c.in_err-name.ensures.value

pub returns-in_err-with_name-clause-value : goal.returns-in_err-with_name-clause-value
returns-in_err-with_name-clause-value c =
    c.from_residual-in_err-with_name.ensures ∙ stop c.args.sources c.args.names (λ n. to_name c.args.sources c.args.names n c.args.after) (named c.args.sources c.args.names) c.args.bytes.now c.in_ok-name.name c.in_ok-name.rest.now c.in_ok-name.ensures.value c.in_err-with_name.ensures.value

pub returns-clause-value : goal.returns-clause-value
returns-clause-value c =
    c.named.ensures.value ∙ on c.args.sources c.args.names (λ n. to_name c.args.sources c.args.names n c.args.after) (named c.args.sources c.args.names) c.args.bytes.now c.in_ok-name.name c.in_ok-name.rest.now c.in_ok-with_name.with_name c.in_ok-name.ensures.value c.in_ok-with_name.ensures.value
