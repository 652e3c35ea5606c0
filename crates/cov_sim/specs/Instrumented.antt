-- The texts of the sources that are counted, and their maps.
use Rattle.std.specs.Prelude.{◌≡◌, ℕ, Bool, not, ◌||◌, true, false, List, [], ◌∷◌, ◌++◌, Option, Some, None, option_map}
use Rattle.serde_json.specs.Data.{Data}
use Rattle.js_tree.specs.Comments.{ignores_file}
use Rattle.js_tree.specs.Plain.{File, MakeFile}
use Rattle.js_terms.specs.declared.words.Comment.{Comment}
use Rattle.js_walk.specs.Constructs.{constructs_file}
use Rattle.js_layout.specs.Layout.{layout}
use Rattle.js_scopes.specs.Accepted.{Accepted}
use Rattle.js_scopes.specs.Mentions.{mentions_file}
use Rattle.js_scopes.specs.Names.{names_of}
use Rattle.cov_hash.specs.Hash.{hash_text}
use Rattle.cov_maps.specs.Zero.{zero_file, with_map}
use Rattle.cov_object.specs.Json.{file_data}
use Rattle.cov_preamble.specs.Name.{cov_name}
use Rattle.cov_rewritten.specs.Whole.{rewritten}
use Rattle.source_map.specs.declared.place.Parts.{Parts}
use Rattle.source_map.specs.Trace.{composed}
use Rattle.source_map.specs.Write.{map_text}
use Rattle.printed_map.specs.Marked.{marked}
use Rattle.cov_sources.specs.declared.source.Source.{Source}
use Rattle.cov_sim.specs.Again.{IsReadAgain}
use Rattle.cov_sim.specs.declared.instrumented.MappedText.{MappedText}
use Rattle.cov_sim.specs.declared.instrumented.Instrumented.{Instrumented}

-- the name of its function, and the coverage that it begins with, with the text of its source map, where it has one
abbrev pub own_name : List ℕ → File → List ℕ
own_name path tree = cov_name path (names_of (mentions_file tree))

abbrev pub zero_data : (path bytes : List ℕ) → (input : Option Parts) → File → Data
zero_data path bytes input tree = file_data (with_map (option_map map_text input) (zero_file path (hash_text bytes) (constructs_file tree)))

-- the tree of a file at a path, with these bytes, this source map and this tree, once it counts its own coverage
abbrev pub instrumented : (path bytes : List ℕ) → (input : Option Parts) → File → File
instrumented path bytes input tree = rewritten (own_name path tree) path (hash_text bytes) (zero_data path bytes input tree) tree

abbrev pub comments_of : File → List Comment
comments_of (MakeFile body comments) = comments

-- a comment takes the file out of what is counted
abbrev pub is_ignored : File → Bool
is_ignored tree = ignores_file (comments_of tree)

-- the source isn't counted, or a comment takes it out
abbrev pub is_left_out : Source → File → Bool
is_left_out source tree = not source.counted || is_ignored tree

-- a map and then the file's own source map, where it has one
abbrev pub after_map : Option Parts → Parts → Parts
after_map None map = map
after_map (Some input) map = composed map input

-- the map that leads from the text of that tree back to the file, or to what the file was itself made from
abbrev pub map_back : (path bytes : List ℕ) → (input : Option Parts) → File → Parts
map_back path bytes input tree = after_map input (marked path (instrumented path bytes input tree))

-- the text of that tree, and the text of that map
abbrev pub mapped_text : (path bytes : List ℕ) → (input : Option Parts) → File → MappedText
mapped_text path bytes input tree = record { text = layout (instrumented path bytes input tree); map = map_text (map_back path bytes input tree) }

-- a source of this tree has this text with its map, which is read again, or none as it isn't counted
pub data Instruments (source : Source) (tree : File) : Option MappedText → Type 0 where
  left : is_left_out source tree ≡ true → Instruments source tree None
  made : is_left_out source tree ≡ false → IsReadAgain (layout (instrumented source.path source.bytes source.input tree)) (instrumented source.path source.bytes source.input tree) →
      Instruments source tree (Some (mapped_text source.path source.bytes source.input tree))

abbrev pub instrumented_as : Source → MappedText → Instrumented
instrumented_as source mapped = record { path = source.path; text = mapped.text; map = mapped.map }

-- each source is accepted; the list has those that are counted, in their order
pub data AreInstrumented : List Source → List Instrumented → Type 0 where
  none : AreInstrumented [] []
  passed_over : {source : Source} {sources : List Source} {list : List Instrumented} (tree : File) → Accepted source.bytes tree → Instruments source tree None →
      AreInstrumented sources list → AreInstrumented (source ∷ sources) list
  counted : {source : Source} {sources : List Source} {list : List Instrumented} (tree : File) (mapped : MappedText) → Accepted source.bytes tree → Instruments source tree (Some mapped) →
      AreInstrumented sources list → AreInstrumented (source ∷ sources) (instrumented_as source mapped ∷ list)

-- ---- for private clauses

-- a list with the text of a source, where it has one
abbrev pub with_text : Source → Option MappedText → List Instrumented → List Instrumented
with_text source None list = list
with_text source (Some mapped) list = list ++ instrumented_as source mapped ∷ []
