-- What the preamble of an accepted source holds is spelt, so that the text of the source, instrumented, is read again.
use Rattle.std.proofs.Common.{ℕ, ◌+◌, ◌≤◌, List, [], ◌∷◌, Option, IfSome, false, codes, refl, arith}
use Rattle.std.specs.Prelude.{option_map}
use Rattle.std.specs.List.{enumerate_from}
use Rattle.std.specs.Str.{IsUtf8}
use Rattle.serde_json.specs.Data.{depth}
use Rattle.js_terms.specs.declared.construct.BranchKind.{BranchKind}
use Rattle.js_terms.specs.declared.construct.BranchKind.TheVariants as branch_kind
use Rattle.js_terms.specs.declared.construct.Construct.{Construct}
use Rattle.js_terms.specs.declared.construct.Construct.TheVariants as construct
use Rattle.js_tree.specs.Plain.{File}
use Rattle.js_walk.specs.Constructs.{constructs_file}
use Rattle.js_spelling.proofs.Ones.{has_tokens}
use Rattle.js_layout.specs.Layout.{layout}
use Rattle.js_layout.proofs.Accepted.{accepted_prints}
use Rattle.js_scopes.specs.Accepted.{Accepted}
use Rattle.js_scopes.specs.Mentions.{mentions_file}
use Rattle.js_scopes.specs.Names.{names_of}
use Rattle.cov_hash.specs.Hash.{hash_text}
use Rattle.cov_maps.specs.Zero.{spelling_of, zero_functions, zero_branches, zero_file, with_map}
use Rattle.source_map.specs.declared.place.Parts.{Parts}
use Rattle.source_map.specs.Kept as kept
use Rattle.source_map.specs.Write.{map_text}
use Rattle.cov_preamble.specs.Texts.{IsSpeltMap, HasTexts, HaveNames, HaveKinds}
use Rattle.cov_preamble.proofs.FileSpelt.{file_value}
use Rattle.cov_preamble.proofs.Ours.{can_refer, is_new}
use Rattle.cov_rewritten.specs.Laws.{ReadsWell}
use Rattle.cov_rewritten.proofs.Again.{rewrites_well}
use Rattle.cov_sim.specs.Instrumented.{own_name, zero_data, instrumented}
use Rattle.cov_sim.specs.Laws.{AreNamed, SpellsSources, ReadsSources}
use Rattle.cov_sim.specs.Laws as all
use Rattle.cov_sim.proofs.Hexadecimal.{hash_utf8}
use Rattle.cov_sim.proofs.InputMaps.{input_spelt}
use Rattle.cov_sim.proofs.Named.{names_functions}

have_names : (n : ℕ) {list : List Construct} → AreNamed list → HaveNames (enumerate_from n (zero_functions list))
have_names n all.none = tt
have_names n (all.statement h) = have_names n h
have_names n (all.function utf8 h) = (utf8, have_names (n + 1) h)
have_names n (all.branch h) = have_names n h

kind_utf8 : (kind : BranchKind) → IsUtf8 (spelling_of kind)
unfolding lib.Utf8.encode
kind_utf8 branch_kind.If = (codes "if", (refl, refl))
kind_utf8 branch_kind.Conditional = (codes "cond-expr", (refl, refl))
kind_utf8 branch_kind.Switch = (codes "switch", (refl, refl))
kind_utf8 branch_kind.Logical = (codes "binary-expr", (refl, refl))
kind_utf8 branch_kind.Default = (codes "default-arg", (refl, refl))

have_kinds : (n : ℕ) (list : List Construct) → HaveKinds (enumerate_from n (zero_branches list))
have_kinds n [] = tt
have_kinds n (construct.Statement loc ∷ list) = have_kinds n list
have_kinds n (construct.Function name declared body ∷ list) = have_kinds n list
have_kinds n (construct.Branch kind loc paths ∷ list) = (kind_utf8 kind, have_kinds (n + 1) list)

has_texts : (map : Option (List ℕ)) (path hash : List ℕ) (list : List Construct) → IfSome map IsSpeltMap → IsUtf8 path → IsUtf8 hash → AreNamed list → HasTexts (with_map map (zero_file path hash list))
has_texts map path hash list spelt p q named = record { path = p; hash = q; source_map = spelt; names = have_names 0 named; kinds = have_kinds 0 list }

named : (bytes : List ℕ) (tree : File) → Accepted bytes tree → AreNamed (constructs_file tree)
named bytes tree source = names_functions tree (accepted_prints has_tokens false bytes tree source.utf8 source.reads source.unbroken)

pub spells_sources : SpellsSources
spells_sources path bytes input tree source utf8 has =
    let map = option_map map_text input in
    let texts = has_texts map path (hash_text bytes) (constructs_file tree) (input_spelt input has) utf8 (hash_utf8 bytes) (named bytes tree source) in
    let value = file_value (with_map map (zero_file path (hash_text bytes) (constructs_file tree))) texts in (value.spelt, value.within)

low : (d : ℕ) → d ≤ 6 → d ≤ 11
low d h = omega (arith, h)

reads_well : (path bytes : List ℕ) (input : Option Parts) (tree : File) → Accepted bytes tree → IsUtf8 path → IfSome input kept.HasTexts →
    ReadsWell (layout (instrumented path bytes input tree)) (instrumented path bytes input tree)
reads_well path bytes input tree source utf8 has =
    let value = spells_sources path bytes input tree source utf8 has in
    rewrites_well (own_name path tree) path (hash_text bytes) (zero_data path bytes input tree) bytes tree source (can_refer path (names_of (mentions_file tree))) (is_new path tree) utf8 (hash_utf8 bytes) value.0
    (low (depth (zero_data path bytes input tree)) value.1)

pub reads_sources : ReadsSources
reads_sources path bytes input tree source utf8 has within =
    let well = reads_well path bytes input tree source utf8 has in record {
      tree = well.tree;
      accepted = record { within = within; utf8 = well.utf8; reads = well.reads; low = well.low; unbroken = well.unbroken };
      same = well.same;
    }
