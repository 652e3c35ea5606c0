use Rattle.std.proofs.Common.{ℕ, List, ◌∙◌, ap, Bor}
use Rattle.std.specs.Option.{option_map}
use Rattle.source_map.specs.declared.state.State.{State}
use Rattle.source_map.specs.Mappings.{to_source, to_line, to_source_column}
use Rattle.source_map.specs.private.Pieces.{found_place, step}
use Rattle.source_map.proofs.PiecesLemmas.{none, stop, on}
use Rattle.source_map.proofs.segment.place_in.Goals as goal

pub returns-in_err-source-clause-value : goal.returns-in_err-source-clause-value
returns-in_err-source-clause-value c =
    ap (option_map (λ (found : State × Bor (List ℕ)). (found.0, found.1.now))) c.from_residual.ensures ∙ none c.args.sources c.args.names (λ n. to_source c.args.sources c.args.names n c.args.from) (λ a. step c.args.sources c.args.names (λ n. to_line c.args.sources c.args.names n a) (λ b. step c.args.sources c.args.names (λ n. to_source_column c.args.sources c.args.names n b) (found_place c.args.sources c.args.names))) c.args.bytes.now c.in_err-source.ensures.value

pub returns-in_err-with_source-clause-value : goal.returns-in_err-with_source-clause-value
returns-in_err-with_source-clause-value c =
    ap (option_map (λ (found : State × Bor (List ℕ)). (found.0, found.1.now))) c.from_residual-in_err-with_source.ensures ∙ stop c.args.sources c.args.names (λ n. to_source c.args.sources c.args.names n c.args.from) (λ a. step c.args.sources c.args.names (λ n. to_line c.args.sources c.args.names n a) (λ b. step c.args.sources c.args.names (λ n. to_source_column c.args.sources c.args.names n b) (found_place c.args.sources c.args.names))) c.args.bytes.now c.in_ok-source.source c.in_ok-source.rest.now c.in_ok-source.ensures.value c.in_err-with_source.ensures.value

pub returns-in_err-line-clause-value : goal.returns-in_err-line-clause-value
returns-in_err-line-clause-value c =
    ap (option_map (λ (found : State × Bor (List ℕ)). (found.0, found.1.now))) c.from_residual-in_err-line.ensures ∙ none c.args.sources c.args.names (λ n. to_line c.args.sources c.args.names n c.in_ok-with_source.with_source) (λ b. step c.args.sources c.args.names (λ n. to_source_column c.args.sources c.args.names n b) (found_place c.args.sources c.args.names)) c.in_ok-source.rest.now c.in_err-line.ensures.value ∙ on c.args.sources c.args.names (λ n. to_source c.args.sources c.args.names n c.args.from) (λ a. step c.args.sources c.args.names (λ n. to_line c.args.sources c.args.names n a) (λ b. step c.args.sources c.args.names (λ n. to_source_column c.args.sources c.args.names n b) (found_place c.args.sources c.args.names))) c.args.bytes.now c.in_ok-source.source c.in_ok-source.rest.now c.in_ok-with_source.with_source c.in_ok-source.ensures.value c.in_ok-with_source.ensures.value

pub returns-in_err-with_line-clause-value : goal.returns-in_err-with_line-clause-value
returns-in_err-with_line-clause-value c =
    ap (option_map (λ (found : State × Bor (List ℕ)). (found.0, found.1.now))) c.from_residual-in_err-with_line.ensures ∙ stop c.args.sources c.args.names (λ n. to_line c.args.sources c.args.names n c.in_ok-with_source.with_source) (λ b. step c.args.sources c.args.names (λ n. to_source_column c.args.sources c.args.names n b) (found_place c.args.sources c.args.names)) c.in_ok-source.rest.now c.in_ok-line.line c.in_ok-line.after_line.now c.in_ok-line.ensures.value c.in_err-with_line.ensures.value ∙ on c.args.sources c.args.names (λ n. to_source c.args.sources c.args.names n c.args.from) (λ a. step c.args.sources c.args.names (λ n. to_line c.args.sources c.args.names n a) (λ b. step c.args.sources c.args.names (λ n. to_source_column c.args.sources c.args.names n b) (found_place c.args.sources c.args.names))) c.args.bytes.now c.in_ok-source.source c.in_ok-source.rest.now c.in_ok-with_source.with_source c.in_ok-source.ensures.value c.in_ok-with_source.ensures.value

pub returns-in_err-column-clause-value : goal.returns-in_err-column-clause-value
returns-in_err-column-clause-value c =
    ap (option_map (λ (found : State × Bor (List ℕ)). (found.0, found.1.now))) c.from_residual-in_err-column.ensures ∙ none c.args.sources c.args.names (λ n. to_source_column c.args.sources c.args.names n c.in_ok-with_line.with_line) (found_place c.args.sources c.args.names) c.in_ok-line.after_line.now c.in_err-column.ensures.value ∙ on c.args.sources c.args.names (λ n. to_line c.args.sources c.args.names n c.in_ok-with_source.with_source) (λ b. step c.args.sources c.args.names (λ n. to_source_column c.args.sources c.args.names n b) (found_place c.args.sources c.args.names)) c.in_ok-source.rest.now c.in_ok-line.line c.in_ok-line.after_line.now c.in_ok-with_line.with_line c.in_ok-line.ensures.value c.in_ok-with_line.ensures.value ∙ on c.args.sources c.args.names (λ n. to_source c.args.sources c.args.names n c.args.from) (λ a. step c.args.sources c.args.names (λ n. to_line c.args.sources c.args.names n a) (λ b. step c.args.sources c.args.names (λ n. to_source_column c.args.sources c.args.names n b) (found_place c.args.sources c.args.names))) c.args.bytes.now c.in_ok-source.source c.in_ok-source.rest.now c.in_ok-with_source.with_source c.in_ok-source.ensures.value c.in_ok-with_source.ensures.value

pub returns-in_err-placed-clause-value : goal.returns-in_err-placed-clause-value
returns-in_err-placed-clause-value c =
    ap (option_map (λ (found : State × Bor (List ℕ)). (found.0, found.1.now))) c.from_residual-in_err-placed.ensures ∙ stop c.args.sources c.args.names (λ n. to_source_column c.args.sources c.args.names n c.in_ok-with_line.with_line) (found_place c.args.sources c.args.names) c.in_ok-line.after_line.now c.in_ok-column.column c.in_ok-column.after_column.now c.in_ok-column.ensures.value c.in_err-placed.ensures.value ∙ on c.args.sources c.args.names (λ n. to_line c.args.sources c.args.names n c.in_ok-with_source.with_source) (λ b. step c.args.sources c.args.names (λ n. to_source_column c.args.sources c.args.names n b) (found_place c.args.sources c.args.names)) c.in_ok-source.rest.now c.in_ok-line.line c.in_ok-line.after_line.now c.in_ok-with_line.with_line c.in_ok-line.ensures.value c.in_ok-with_line.ensures.value ∙ on c.args.sources c.args.names (λ n. to_source c.args.sources c.args.names n c.args.from) (λ a. step c.args.sources c.args.names (λ n. to_line c.args.sources c.args.names n a) (λ b. step c.args.sources c.args.names (λ n. to_source_column c.args.sources c.args.names n b) (found_place c.args.sources c.args.names))) c.args.bytes.now c.in_ok-source.source c.in_ok-source.rest.now c.in_ok-with_source.with_source c.in_ok-source.ensures.value c.in_ok-with_source.ensures.value

pub returns-clause-value : goal.returns-clause-value
returns-clause-value c =
    on c.args.sources c.args.names (λ n. to_source_column c.args.sources c.args.names n c.in_ok-with_line.with_line) (found_place c.args.sources c.args.names) c.in_ok-line.after_line.now c.in_ok-column.column c.in_ok-column.after_column.now c.in_ok-placed.placed c.in_ok-column.ensures.value c.in_ok-placed.ensures.value ∙ on c.args.sources c.args.names (λ n. to_line c.args.sources c.args.names n c.in_ok-with_source.with_source) (λ b. step c.args.sources c.args.names (λ n. to_source_column c.args.sources c.args.names n b) (found_place c.args.sources c.args.names)) c.in_ok-source.rest.now c.in_ok-line.line c.in_ok-line.after_line.now c.in_ok-with_line.with_line c.in_ok-line.ensures.value c.in_ok-with_line.ensures.value ∙ on c.args.sources c.args.names (λ n. to_source c.args.sources c.args.names n c.args.from) (λ a. step c.args.sources c.args.names (λ n. to_line c.args.sources c.args.names n a) (λ b. step c.args.sources c.args.names (λ n. to_source_column c.args.sources c.args.names n b) (found_place c.args.sources c.args.names))) c.args.bytes.now c.in_ok-source.source c.in_ok-source.rest.now c.in_ok-with_source.with_source c.in_ok-source.ensures.value c.in_ok-with_source.ensures.value
