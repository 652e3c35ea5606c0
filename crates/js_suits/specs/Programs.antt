-- A program with its counters, and which programs suit them.
use Rattle.std.specs.Prelude.{◌≡◌, ℕ, zero, suc, ◌+◌, ◌<◌, ◌++◌, length, Bool, true, false, List, [], ◌∷◌, Some, slice_get, if◌then◌else◌}
use Rattle.js_terms.specs.Mark.{Mark}
use Rattle.js_tree.specs.Plain.{File, MakeFile, Stmts}
use Rattle.js_tree.specs.Codes.{Code, functions_expr, functions_stmts, functions_file}
use Rattle.js_meaning.specs.Program.{Source, Sources}
use Rattle.js_suits.specs.Settings.{Home, Outside, Within, Setting}
use Rattle.js_suits.specs.Rewritten.{rewritten_stmts}
use Rattle.js_suits.specs.Suits.{SuitsStmts}

abbrev pub home_of : Bool → ℕ → Home
home_of counted file = if counted then Within file else Outside (suc file)

module _ (c : Setting) where
  abbrev pub instrumented_file : Bool → ℕ → File → File
  instrumented_file true file (MakeFile xs comments) = MakeFile (c.opened file (rewritten_stmts c (c.shift (Within file)) true xs)) comments
  instrumented_file false file (MakeFile xs comments) = MakeFile (rewritten_stmts c (c.shift (Outside (suc file))) true xs) comments

  abbrev pub instrumented_source : ℕ → Source → Source
  instrumented_source file source = record { path = source.path; tree = instrumented_file source.counted file source.tree; counted = false }

  abbrev pub instrumented_sources : ℕ → List Source → List Source
  instrumented_sources file [] = []
  instrumented_sources file (source ∷ sources) = instrumented_source file source ∷ instrumented_sources (suc file) sources

  abbrev pub instrumented_prelude : File → File
  instrumented_prelude (MakeFile xs comments) = MakeFile (rewritten_stmts c (c.shift (Outside 0)) true xs) comments

  -- of the linked program with its marks
  abbrev pub instrumented : Sources → Sources
  instrumented p = record { files = instrumented_sources 0 p.files; prelude = instrumented_prelude p.prelude }

  abbrev pub SuitsFile : Home → File → Type 0
  SuitsFile h (MakeFile xs comments) = SuitsStmts c h xs

  pub record Suits (p : Sources) : Type 0 where
    pub files : (file : ℕ) (source : Source) → slice_get p.files file ≡ Some source → SuitsFile (home_of source.counted file) source.tree
    pub prelude : SuitsFile (Outside 0) p.prelude

-- Where functions stand

abbrev pub starts_at : List Source → ℕ → ℕ
starts_at [] file = 0
starts_at (source ∷ sources) zero = 0
starts_at (source ∷ sources) (suc file) = length (functions_file source.tree) + starts_at sources file

-- the number of a file's first function
abbrev pub start_of : Sources → ℕ → ℕ
start_of p file = length (functions_file p.prelude) + starts_at p.files file

-- how many functions a file's counters are
abbrev pub added_to : (ℕ → List Code) → Bool → ℕ → ℕ
added_to added true file = length (added file)
added_to added false file = 0

-- counters of marks hold no functions, and those of a file hold these, before its own
pub record Silent (c : Setting) (added : ℕ → List Code) : Type 0 where
  pub code : (mark : Mark) → functions_expr (c.code mark) ≡ []
  pub opened : (file : ℕ) (xs : Stmts) → functions_stmts (c.opened file xs) ≡ added file ++ functions_stmts xs

-- the numbers of a function and of the one that stands for it
pub data Stands (p q : Sources) (added : ℕ → List Code) : Home → ℕ → ℕ → Type 0 where
  prelude_codes : (i : ℕ) → i < length (functions_file p.prelude) → Stands p q added (Outside 0) i i
  file_codes : (file : ℕ) (source : Source) → slice_get p.files file ≡ Some source → (i : ℕ) → i < length (functions_file source.tree) →
      Stands p q added (home_of source.counted file) (start_of p file + i) (start_of q file + (added_to added source.counted file + i))
