-- Where a source map sends the entries of a file: each to a place in a source, or nowhere.
use Rattle.std.specs.Prelude.{ℕ, ◌==◌, nat_lt, nat_le, Bool, ◌&&◌, ◌||◌, is_none, if◌then◌else◌, List, [], ◌∷◌, filter_map, Option, Some, None, option_map, option_and_then}
use Rattle.cov_object.specs.declared.location.Position.{Position}
use Rattle.cov_object.specs.declared.location.Location.{Location}
use Rattle.cov_object.specs.declared.file.StatementCoverage.{StatementCoverage}
use Rattle.cov_object.specs.declared.file.FunctionCoverage.{FunctionCoverage}
use Rattle.cov_object.specs.declared.file.PathCoverage.{PathCoverage}
use Rattle.cov_object.specs.Branch.{BranchCoverage, settled}
use Rattle.cov_object.specs.declared.file.FileCoverage.{FileCoverage}
use Rattle.cov_merge.specs.Kind.{Kind}
use Rattle.cov_merge.specs.Kinds.{statements, functions, branches}
use Rattle.cov_remap.specs.declared.sent.Part.{Part}
use Rattle.source_map.specs.declared.place.Traced.{Traced}
use Rattle.source_map.specs.declared.place.Parts.{Parts}
use Rattle.source_map.specs.Trace.{trace, source}
use Rattle.cov_remap.specs.SourcePath.{source_path}

-- ---- locations

-- an end that is nowhere traces to nothing
abbrev pub trace_end : Parts → Option Position → Option Traced
trace_end map None = None
trace_end map (Some place) = trace map place.line place.column

abbrev pub position_of : Traced → Position
position_of place = record { line = place.line; column = Some place.column }

-- whether the first doesn't stand after the second
abbrev pub in_order : Traced → Traced → Bool
in_order a b = nat_lt a.line b.line || ((a.line == b.line) && nat_le a.column b.column)

-- both ends go to one source, and in order
abbrev pub between : Option Traced → Option Traced → Option Part
between (Some a) (Some b) =
    if (a.source == b.source) && in_order a b
    then Some (record { source = a.source; location = record { start = Some (position_of a); end = Some (position_of b) } }) else None
between (Some a) None = None
between None end = None

abbrev pub traced : Parts → Location → Option Part
traced map location = between (trace_end map location.start) (trace_end map location.end)

-- where a location stands in this source
abbrev pub within : ℕ → Part → Option Location
within number part = if part.source == number then Some part.location else None

abbrev pub traced_in : Parts → ℕ → Location → Option Location
traced_in map number location = option_and_then (within number) (traced map location)

-- ---- entries, each with the number of the source that it is sent to

abbrev pub send_statement : Parts → StatementCoverage → Option (ℕ × StatementCoverage)
send_statement map statement =
    option_map (λ part. (part.source, record { location = part.location; count = statement.count })) (traced map statement.location)

abbrev pub send_function : Parts → FunctionCoverage → Option (ℕ × FunctionCoverage)
send_function map function =
    option_and_then (λ part. option_map (λ body. (part.source, record { name = function.name; declaration = part.location; location = body; count = function.count }))
    (traced_in map part.source function.location)) (traced map function.declaration)

-- a path that is nowhere stays; any other has to go to the branch's source
abbrev pub send_location : Parts → ℕ → Location → Option Location
send_location map number location =
    if is_none location.start && is_none location.end then Some location else traced_in map number location

abbrev pub send_path : Parts → ℕ → PathCoverage → Option PathCoverage
send_path map number path = option_map (λ location. record { location = location; count = path.count }) (send_location map number path.location)

-- where an `else` and its `if` are sent to one place, the `else` is one that is missing
abbrev pub send_branch : Parts → BranchCoverage → Option (ℕ × BranchCoverage)
send_branch map branch =
    option_map (λ part. (part.source, settled (record { kind = branch.kind; location = part.location; paths = filter_map (send_path map part.source) branch.paths })))
    (traced map branch.location)

-- ---- the three kinds of entries

pub record Sending (T : Type 0) : Type 0 where
  pub kind : Kind T
  pub send : Parts → T → Option (ℕ × T)
  -- a file that has this entry and no other
  pub alone : List ℕ → T → FileCoverage

abbrev pub sending_statements : Sending StatementCoverage
sending_statements = record {
  kind = statements;
  send = send_statement;
  alone = λ path entry. record { path = path; hash = None; input_source_map = None; statements = (0, entry) ∷ []; functions = []; branches = [] };
}

abbrev pub sending_functions : Sending FunctionCoverage
sending_functions = record {
  kind = functions;
  send = send_function;
  alone = λ path entry. record { path = path; hash = None; input_source_map = None; statements = []; functions = (0, entry) ∷ []; branches = [] };
}

abbrev pub sending_branches : Sending BranchCoverage
sending_branches = record {
  kind = branches;
  send = send_branch;
  alone = λ path entry. record { path = path; hash = None; input_source_map = None; statements = []; functions = []; branches = (0, entry) ∷ [] };
}

-- the path of the source and the entry there, where the map of a file at this path sends the entry somewhere
module _ {T : Type 0} (sending : Sending T) (path : List ℕ) (map : Parts) where
  abbrev pub in_source : ℕ × T → Option (List ℕ × T)
  in_source to = option_map (λ text. (source_path path text, to.1)) (source map to.0)

  abbrev pub sent : T → Option (List ℕ × T)
  sent entry = option_and_then in_source (sending.send map entry)
