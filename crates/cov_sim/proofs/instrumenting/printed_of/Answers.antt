-- A text that was read has its constructs on lines; that of its tree, instrumented, is read again.
use Rattle.std.proofs.Common.{◌≡◌, ◌≤◌, List, ℕ, length, Option, None, Some, sym, ap, ap₂, subst, ◌∙◌, rules}
use Rattle.std.specs.Borrow.{Bor}
use Rattle.std.specs.Option.{option_copied, option_map}
use Rattle.std.specs.Str.{IsUtf8}
use Rattle.js_tree.specs.Plain.{File}
use Rattle.js_tree.specs.Tree.{plain_file}
use Rattle.js_walk.specs.Constructs.{constructs_file}
use Rattle.js_text.specs.Limits.{again_limits}
use Rattle.js_reading.proofs.placed.PlacedTexts.{reads_placed}
use Rattle.js_layout.specs.Layout.{layout, marks}
use Rattle.js_print.specs.declared.printed.Printed.{Printed}
use Rattle.cov_hash.specs.Hash.{hash_text}
use Rattle.source_map.specs.declared.place.Parts.{Parts}
use Rattle.source_map.specs.Write.{map_text}
use Rattle.cov_maps.specs.Zero.{zero_file, with_map}
use Rattle.cov_object.specs.Json.{file_data}
use Rattle.cov_rewritten.specs.Whole.{rewritten}
use Rattle.cov_sim.specs.Again.{IsReadAgain}
use Rattle.cov_sim.specs.Instrumented.{own_name, instrumented}
use Rattle.cov_sim.proofs.Spelt.{reads_sources}
use Rattle.cov_sim.proofs.instrumenting.printed_of.Goals as goal

pub rewrite-requires : goal.rewrite-requires
rewrite-requires c = reads_placed c.args.source.now.bytes (plain_file c.args.file) c.requires.reads

abbrev with_hash : (map : Option (List ℕ)) (path hash : List ℕ) → File → File
with_hash map path hash tree = rewritten (own_name path tree) path hash (file_data (with_map map (zero_file path hash (constructs_file tree)))) tree

-- the text of what is lent
lent : (input : Option (Bor Parts)) (map : Option Parts) → option_copied input ≡ map → option_map (λ m. map_text m.now) input ≡ option_map map_text map
lent None map is = ap (option_map map_text) is
lent (Some m) map is = ap (option_map map_text) is

pub returns : goal.returns
returns c =
    let source = c.args.source.now in
    let tree = plain_file c.args.file in
    let path : c.as_str.result.now ≡ source.path = search rules in
    let hash : c.as_str-2.result.now ≡ hash_text source.bytes = search rules in
    let same = c.in_ok-tree.ensures ∙ ap (λ map. with_hash map c.as_str.result.now c.as_str-2.result.now tree) (lent c.as_ref.result source.input c.as_ref.ensures.value)
    ∙ ap₂ (λ (p h : List ℕ). with_hash (option_map map_text source.input) p h tree) path hash in
    let printed = c.in_ok-printed.ensures.same in
    let text = ap (λ (p : Printed). p.bytes) printed ∙ c.in_ok-print.ensures.bytes ∙ ap layout same in
    let within = subst (λ text. length text ≤ again_limits.bytes) text c.in_ok-printed.ensures.within in
    record {
      text = text;
      marks = ap (λ (p : Printed). p.marks) printed ∙ c.in_ok-print.ensures.marks ∙ ap marks same;
      again = subst (λ text. IsReadAgain text (instrumented source.path source.bytes source.input tree)) (sym text) (reads_sources source.path source.bytes source.input tree c.requires (subst IsUtf8 path c.as_str.utf8) c.look_at_input.ensures within);
    }
