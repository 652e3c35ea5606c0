-- What is proved of the texts of accepted sources, instrumented.
use Rattle.std.specs.Prelude.{ℕ, ◌≤◌, List, [], ◌∷◌, Option, IfSome, length}
use Rattle.std.specs.Str.{IsUtf8}
use Rattle.serde_json.specs.Data.{depth}
use Rattle.js_terms.specs.declared.construct.BranchKind.{BranchKind}
use Rattle.js_terms.specs.declared.construct.Construct.{Construct}
use Rattle.js_terms.specs.declared.construct.Construct.TheVariants as construct
use Rattle.js_terms.specs.declared.place.Loc.{Loc}
use Rattle.js_tree.specs.Plain.{File}
use Rattle.js_walk.specs.Constructs.{constructs_file}
use Rattle.js_text.specs.Limits.{again_limits}
use Rattle.js_layout.specs.Layout.{layout}
use Rattle.js_layout.specs.Printable.{Printable}
use Rattle.js_scopes.specs.Accepted.{Accepted}
use Rattle.source_map.specs.declared.place.Parts.{Parts}
use Rattle.source_map.specs.Kept.{HasTexts}
use Rattle.cov_rewritten.specs.Laws.{IsSpelt}
use Rattle.cov_sim.specs.Again.{IsReadAgain}
use Rattle.cov_sim.specs.Instrumented.{zero_data, instrumented}

-- each function among the constructs has a name that is UTF-8
pub data AreNamed : List Construct → Type 0 where
  none : AreNamed []
  statement : {loc : Loc} {rest : List Construct} → AreNamed rest → AreNamed (construct.Statement loc ∷ rest)
  function : {name : List ℕ} {declared body : Loc} {rest : List Construct} → IsUtf8 name → AreNamed rest → AreNamed (construct.Function name declared body ∷ rest)
  branch : {kind : BranchKind} {loc : Loc} {paths : List (Option Loc)} {rest : List Construct} → AreNamed rest → AreNamed (construct.Branch kind loc paths ∷ rest)

-- in a file that can be printed
abbrev pub NamesFunctions : Type 0
NamesFunctions = (tree : File) → Printable tree → AreNamed (constructs_file tree)

-- what the preamble of an accepted source holds is a value that it spells as JavaScript, at most 6 deep, where the path and the texts of
-- its source map are UTF-8
abbrev pub SpellsSources : Type 0
SpellsSources = (path bytes : List ℕ) (input : Option Parts) (tree : File) → Accepted bytes tree → IsUtf8 path → IfSome input HasTexts →
    IsSpelt (zero_data path bytes input tree) × (depth (zero_data path bytes input tree) ≤ 6)

-- the text of such a source, instrumented, is read again as that tree, where it isn't too long for it
abbrev pub ReadsSources : Type 0
ReadsSources = (path bytes : List ℕ) (input : Option Parts) (tree : File) → Accepted bytes tree → IsUtf8 path → IfSome input HasTexts →
    length (layout (instrumented path bytes input tree)) ≤ again_limits.bytes →
    IsReadAgain (layout (instrumented path bytes input tree)) (instrumented path bytes input tree)
