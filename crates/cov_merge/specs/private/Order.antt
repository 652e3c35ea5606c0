-- An order of places and keys, for private clauses: it tells apart what has not the same key.
use Rattle.std.specs.Ordering.{nat_cmp, ordering_then}
use Rattle.std.specs.Option.{option_cmp}
use Rattle.std.specs.Cmp.Lexicographic.{slice_cmp}
use Rattle.std.specs.declared.cmp.Ordering.{Ordering}
use Rattle.cov_object.specs.declared.location.Position.{Position}
use Rattle.cov_object.specs.declared.location.Location.{Location}
use Rattle.cov_object.specs.declared.file.StatementCoverage.{StatementCoverage}
use Rattle.cov_object.specs.declared.file.FunctionCoverage.{FunctionCoverage}
use Rattle.cov_object.specs.declared.file.PathCoverage.{PathCoverage}
use Rattle.cov_object.specs.Branch.{BranchCoverage}

abbrev pub position_cmp : Position → Position → Ordering
position_cmp a b = ordering_then (nat_cmp a.line b.line) (option_cmp nat_cmp a.column b.column)

abbrev pub location_cmp : Location → Location → Ordering
location_cmp a b = ordering_then (option_cmp position_cmp a.start b.start) (option_cmp position_cmp a.end b.end)

abbrev pub statement_cmp : StatementCoverage → StatementCoverage → Ordering
statement_cmp a b = location_cmp a.location b.location

abbrev pub function_cmp : FunctionCoverage → FunctionCoverage → Ordering
function_cmp a b = ordering_then (location_cmp a.declaration b.declaration) (location_cmp a.location b.location)

abbrev pub path_cmp : PathCoverage → PathCoverage → Ordering
path_cmp a b = location_cmp a.location b.location

abbrev pub branch_cmp : BranchCoverage → BranchCoverage → Ordering
branch_cmp a b = ordering_then (slice_cmp nat_cmp a.kind b.kind) (ordering_then (location_cmp a.location b.location) (slice_cmp path_cmp a.paths b.paths))
