-- The coverage that is expected of a run, from what its meaning notes alone: each file started, with how often each of its
-- constructs was entered.
use Rattle.std.specs.Prelude.{ℕ, suc, ◌+◌, List, [], ◌∷◌, map}
use Rattle.js_terms.specs.Mark.{Mark}
use Rattle.js_terms.specs.declared.construct.ConstructKind.{ConstructKind}
use Rattle.js_terms.specs.declared.construct.ConstructKind.TheVariants as construct_kind
use Rattle.js_meaning.specs.World.{entered}
use Rattle.cov_object.specs.Branch.{BranchCoverage}
use Rattle.cov_object.specs.Files.{placed}
use Rattle.cov_object.specs.declared.file.FileCoverage.{FileCoverage}
use Rattle.cov_object.specs.declared.file.FunctionCoverage.{FunctionCoverage}
use Rattle.cov_object.specs.declared.file.PathCoverage.{PathCoverage}
use Rattle.cov_object.specs.declared.file.StatementCoverage.{StatementCoverage}

-- how often a file's construct of a kind, with a number, was entered by one of its paths
abbrev pub entries : List Mark → (file : ℕ) → ConstructKind → (number path : ℕ) → ℕ
entries log file kind number path = entered log (record { file = file; kind = kind; number = number; path = path })

module _ (log : List Mark) (file : ℕ) where
  -- each count with the entries that a log has of it: a statement and a function have one path
  abbrev pub counted_statement : ℕ × StatementCoverage → ℕ × StatementCoverage
  counted_statement s = (s.0, record { location = s.1.location; count = s.1.count + entries log file construct_kind.Statement s.0 0 })

  abbrev pub counted_function : ℕ × FunctionCoverage → ℕ × FunctionCoverage
  counted_function f = (
    f.0,
    record {
      name = f.1.name;
      declaration = f.1.declaration;
      location = f.1.location;
      count = f.1.count + entries log file construct_kind.Function f.0 0;
    },
  )

  -- the paths of a branch, from one on
  abbrev pub counted_paths : (number path : ℕ) → List PathCoverage → List PathCoverage
  counted_paths number path [] = []
  counted_paths number path (p ∷ paths) =
      record { location = p.location; count = p.count + entries log file construct_kind.Branch number path } ∷ counted_paths number (suc path) paths

  abbrev pub counted_branch : ℕ × BranchCoverage → ℕ × BranchCoverage
  counted_branch b = (b.0, record { kind = b.1.kind; location = b.1.location; paths = counted_paths b.0 0 b.1.paths })

  -- the coverage of a file with the entries that a log has of its constructs
  abbrev pub counted_file : FileCoverage → FileCoverage
  counted_file zero = record {
    path = zero.path;
    hash = zero.hash;
    input_source_map = zero.input_source_map;
    statements = map counted_statement zero.statements;
    functions = map counted_function zero.functions;
    branches = map counted_branch zero.branches;
  }

-- files in the byte order of their paths; of two with one path the first
abbrev pub in_order : List FileCoverage → List FileCoverage
in_order [] = []
in_order (file ∷ files) = placed file (in_order files)

-- the files started with their counts, in the order in which they started
abbrev pub counted_files : (zero : ℕ → FileCoverage) → List Mark → List ℕ → List FileCoverage
counted_files zero log [] = []
counted_files zero log (file ∷ started) = counted_file log file (zero file) ∷ counted_files zero log started

-- what is expected of a run that entered these constructs and started these files, where each file's coverage begins so
abbrev pub expected : (zero : ℕ → FileCoverage) → List Mark → List ℕ → List FileCoverage
expected zero log started = in_order (counted_files zero log started)
