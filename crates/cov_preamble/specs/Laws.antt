-- What is proved of the names of files' functions, and of the data that their preambles hold.
use Rattle.std.specs.Prelude.{◌≡◌, ℕ, ◌≤◌, List, false}
use Rattle.serde_json.specs.Data.{depth}
use Rattle.js_scopes.specs.Mentions.{mentions_file}
use Rattle.js_scopes.specs.Names.{names_of}
use Rattle.js_tree.specs.Plain.{File}
use Rattle.js_layout.specs.Printable.{Refers}
use Rattle.cov_object.specs.Json.{file_data}
use Rattle.cov_object.specs.declared.file.FileCoverage.{FileCoverage}
use Rattle.cov_rewritten.specs.Laws.{IsSpelt}
use Rattle.cov_rewritten.specs.Whole.{IsFresh}
use Rattle.cov_preamble.specs.Name.{is_among, cov_name}
use Rattle.cov_preamble.specs.Texts.{HasTexts}

-- it is none of the names
abbrev pub IsApart : Type 0
IsApart = (path : List ℕ) (names : List (List ℕ)) → is_among (cov_name path names) names ≡ false

-- it can be referred to
abbrev pub CanRefer : Type 0
CanRefer = (path : List ℕ) (names : List (List ℕ)) → Refers (cov_name path names)

-- no variable of the file whose names they are has it
abbrev pub IsNew : Type 0
IsNew = (path : List ℕ) (tree : File) → IsFresh (cov_name path (names_of (mentions_file tree))) tree

-- the data of such coverage is a value that the preamble spells, at most 6 deep
abbrev pub SpellsFiles : Type 0
SpellsFiles = (file : FileCoverage) → HasTexts file → IsSpelt (file_data file) × (depth (file_data file) ≤ 6)
