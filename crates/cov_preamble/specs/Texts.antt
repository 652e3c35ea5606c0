-- Which coverage the preamble spells: its texts are UTF-8, and its source map is a value that it spells.
use Rattle.std.specs.Prelude.{ℕ, ◌≤◌, List, [], ◌∷◌, IfSome}
use Rattle.std.specs.Str.{IsUtf8}
use Rattle.serde_json.specs.Data.{depth}
use Rattle.cov_object.specs.Branch.{BranchCoverage}
use Rattle.cov_object.specs.SourceMapText.{data_of}
use Rattle.cov_object.specs.declared.file.FileCoverage.{FileCoverage}
use Rattle.cov_object.specs.declared.file.FunctionCoverage.{FunctionCoverage}
use Rattle.cov_rewritten.specs.Laws.{IsSpelt}

abbrev pub HaveNames : List (ℕ × FunctionCoverage) → Type 0
HaveNames [] = Unit {0}
HaveNames (function ∷ functions) = IsUtf8 function.1.name × HaveNames functions

abbrev pub HaveKinds : List (ℕ × BranchCoverage) → Type 0
HaveKinds [] = Unit {0}
HaveKinds (branch ∷ branches) = IsUtf8 branch.1.kind × HaveKinds branches

-- a source map's text, of a value that is spelt, at most 5 deep
pub record IsSpeltMap (text : List ℕ) : Type 0 where
  pub spelt : IsSpelt (data_of text)
  pub within : depth (data_of text) ≤ 5

pub record HasTexts (file : FileCoverage) : Type 0 where
  pub path : IsUtf8 file.path
  pub hash : IfSome file.hash IsUtf8
  pub source_map : IfSome file.input_source_map IsSpeltMap
  pub names : HaveNames file.functions
  pub kinds : HaveKinds file.branches
