use Rattle.std.proofs.Common.{◌≡◌, ℕ, List, ap, ap₂, ◌∙◌, rules}
use Rattle.js_tree.specs.Tree.{plain_file}
use Rattle.js_layout.specs.Layout.{marks}
use Rattle.printed_map.specs.Marked as map
use Rattle.source_map.specs.Write.{map_text}
use Rattle.cov_sim.specs.Instrumented.{after_map, instrumented}
use Rattle.cov_sim.specs.declared.instrumented.MappedText.{MappedText}
use Rattle.cov_sim.proofs.instrumenting.mapped_text_of.Goals as goal

abbrev of : List ℕ → List ℕ → MappedText
of text map = record { text = text; map = map }

pub returns-clause-made : goal.returns-clause-made
returns-clause-made c =
    let source = c.args.source.now in
    let path : c.as_str.result.now ≡ source.path = search rules in
    let told : c.as_slice.result.now ≡ marks (instrumented source.path source.bytes source.input (plain_file c.args.file)) = search rules in
    let back = c.in_ok-back.ensures ∙ ap (after_map source.input) (c.in_ok-map.ensures ∙ ap₂ map.map_of path told) in
    let written = c.in_ok-bytes.ensures.text ∙ ap map_text back in
    ap₂ of c.in_ok-printed.ensures.text (c.from_vec.ensures ∙ written)
