-- The three kinds of what is counted in a file, each with its keys: a statement's is its location; a function's is where its name
-- and its body stand; a branch's is its kind, its location and the locations of its paths.
use Rattle.std.specs.Prelude.{ℕ, ◌&&◌, List, [], ◌∷◌, map}
use Rattle.std.specs.List.{zip}
use Rattle.std.specs.Cmp.Lexicographic.{pointwise}
use Rattle.cov_object.specs.declared.file.StatementCoverage.{StatementCoverage}
use Rattle.cov_object.specs.declared.file.FunctionCoverage.{FunctionCoverage}
use Rattle.cov_object.specs.declared.file.PathCoverage.{PathCoverage}
use Rattle.cov_object.specs.Branch.{BranchCoverage}
use Rattle.cov_merge.specs.declared.key.Counter.TheVariants.{Statement, Function, Branch}
use Rattle.cov_merge.specs.Kind.{Kind}
use Rattle.cov_merge.specs.Same.{same_location, same_text}

-- a statement that ran so often
abbrev pub statement_with : StatementCoverage → List ℕ → StatementCoverage
statement_with statement [] = statement
statement_with statement (count ∷ counts) = record { location = statement.location; count = count }

abbrev pub statements : Kind StatementCoverage
statements = record {
  entries = λ file. file.statements;
  same = λ a b. same_location a.location b.location;
  counts = λ statement. statement.count ∷ [];
  with_counts = statement_with;
  counter = λ statement place. Statement statement.location;
}

-- a function that was entered so often
abbrev pub function_with : FunctionCoverage → List ℕ → FunctionCoverage
function_with function [] = function
function_with function (count ∷ counts) = record {
  name = function.name;
  declaration = function.declaration;
  location = function.location;
  count = count;
}

abbrev pub functions : Kind FunctionCoverage
functions = record {
  entries = λ file. file.functions;
  same = λ a b. same_location a.declaration b.declaration && same_location a.location b.location;
  counts = λ function. function.count ∷ [];
  with_counts = function_with;
  counter = λ function place. Function function.declaration function.location;
}

-- paths that were taken so often
abbrev pub paths_with : List PathCoverage → List ℕ → List PathCoverage
paths_with paths counts = map (λ both. record { location = both.0.location; count = both.1 }) (zip paths counts)

abbrev pub branches : Kind BranchCoverage
branches = record {
  entries = λ file. file.branches;
  same = λ a b. same_text a.kind b.kind && (same_location a.location b.location && pointwise (λ p q. same_location p.location q.location) a.paths b.paths);
  counts = λ branch. map (λ path. path.count) branch.paths;
  with_counts = λ branch counts. record { kind = branch.kind; location = branch.location; paths = paths_with branch.paths counts };
  counter = λ branch place. Branch branch.kind branch.location (map (λ path. path.location) branch.paths) place;
}
