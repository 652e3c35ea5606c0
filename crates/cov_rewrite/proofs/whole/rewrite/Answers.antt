-- What is made of the file is the linked file, rewritten, with the name that the file's function gets.
use Rattle.std.proofs.Common.{◌≡◌, ap, sym, ◌∙◌}
use Rattle.std.specs.Borrow.{Bor}
use Rattle.std.specs.Prelude.{option_map}
use Rattle.std.proofs.lemmas.Result.{IfOk-weaker}
use Rattle.js_tree.specs.Tree.{plain_file, plain_stmts}
use Rattle.js_walk.specs.Constructs.{constructs_file}
use Rattle.js_scopes.specs.Mentions.{mentions_file}
use Rattle.js_scopes.specs.Names.{names_of}
use Rattle.cov_object.specs.Json.{file_data}
use Rattle.cov_maps.specs.Zero.{zero_file, with_map}
use Rattle.source_map.specs.declared.place.Parts.{Parts}
use Rattle.source_map.specs.Write.{map_text}
use Rattle.cov_preamble.specs.Name.{cov_name}
use Rattle.cov_rewritten.specs.Counters.{counter}
use Rattle.cov_rewritten.specs.Preamble.{preamble}
use Rattle.cov_rewritten.specs.Whole.{from_zero, rewritten}
use Rattle.cov_rewrite.specs.Made.{made_file}
use Rattle.cov_rewrite.proofs.Linking.{makes_rewritten}
use Rattle.cov_rewrite.proofs.whole.rewrite.Goals as goal

pub returns : goal.returns
returns c =
    let path = c.args.path.now in
    let hash = c.args.hash.now in
    let tree = plain_file c.args.tree in
    let zero = file_data (with_map (option_map (λ (map : Bor Parts). map_text map.now) c.args.input) (zero_file path hash (constructs_file tree))) in
    let name = c.as_str-name.result.now in
    let own = cov_name path (names_of (mentions_file tree)) in
    let named : name ≡ own = c.as_str-name.ensures.value ∙ c.in_ok-own.ensures ∙ ap (cov_name path) c.names.ensures.names in
    IfOk-weaker c.with_first.result (λ r. plain_file r ≡ made_file (counter name) (plain_stmts c.in_ok-first.first) (plain_file c.into_file.result) from_zero.counts)
    (λ r. plain_file r ≡ rewritten own path hash zero tree)
    (λ r made. made
    ∙ ap (λ f. made_file (counter name) (plain_stmts c.in_ok-first.first) (plain_file f) from_zero.counts) c.into_file.ensures.same
    ∙ ap (λ first. made_file (counter name) first tree from_zero.counts) c.in_ok-first.ensures
    ∙ sym (makes_rewritten (counter name) (preamble name path hash zero) tree)
    ∙ ap (λ n. rewritten n path hash zero tree) named)
    c.with_first.ensures
