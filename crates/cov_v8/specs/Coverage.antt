-- What V8's coverage of a source tells of it as Istanbul's coverage of a file.
use Rattle.std.specs.Prelude.{ℕ, ◌+◌, ◌-◌, nat_le, nat_lt, Bool, true, false, not, ◌&&◌, if◌then◌else◌, List, [], ◌∷◌, ◌++◌, map, Option, Some, None, Result, Ok, Err, codes}
use Rattle.std.specs.List.{enumerate_from, list_all}
use Rattle.std.specs.Str.{chars}
use Rattle.js_terms.specs.declared.place.Pos.{Pos}
use Rattle.js_text.specs.Place.{Place}
use Rattle.js_text.specs.Position.{is_line_terminator, utf16_units, position_of}
use Rattle.js_text.specs.Character.{is_white_space}
use Rattle.cov_hash.specs.Hash.{hash_text}
use Rattle.cov_object.specs.declared.location.Position.{Position}
use Rattle.cov_object.specs.declared.location.Location.{Location}
use Rattle.cov_object.specs.declared.file.StatementCoverage.{StatementCoverage}
use Rattle.cov_object.specs.declared.file.FunctionCoverage.{FunctionCoverage}
use Rattle.cov_object.specs.Branch.{BranchCoverage}
use Rattle.cov_object.specs.declared.file.FileCoverage.{FileCoverage}
use Rattle.cov_v8.specs.declared.fault.V8Fault.{V8Fault}
use Rattle.cov_v8.specs.declared.fault.V8Fault.TheVariants as fault
use Rattle.cov_v8.specs.declared.v8.V8Range.{V8Range}
use Rattle.cov_v8.specs.declared.v8.V8Function.{V8Function}

-- ---- units (ECMA-262, 11.1.1) and places

-- how many units characters take
abbrev pub units : List ℕ → ℕ
units [] = 0
units (c ∷ cs) = utf16_units c + units cs

-- from a place on, the place after so many units more: after the characters that end there or before
abbrev pub place_after : List ℕ → List ℕ → ℕ → Place
place_after before [] at = record { before = before; after = [] }
place_after before (c ∷ after) at =
    if nat_le (utf16_units c) at then place_after (before ++ c ∷ []) after (at - utf16_units c) else record { before = before; after = c ∷ after }

-- the line and the column at this many units of the text of these characters
abbrev pub pos_at : List ℕ → ℕ → Pos
pos_at cs at = position_of (place_after [] cs at)

abbrev pub position_at : List ℕ → ℕ → Position
position_at cs at = record { line = (pos_at cs at).line; column = Some (pos_at cs at).column }

-- the part of the text between two offsets
abbrev pub part : List ℕ → ℕ → ℕ → Location
part cs start end = record { start = Some (position_at cs start); end = Some (position_at cs end) }

-- ---- statements

-- the characters of a line that are left, before its terminator
abbrev pub line_left : List ℕ → List ℕ
line_left [] = []
line_left (c ∷ cs) = if is_line_terminator c then [] else c ∷ line_left cs

-- of each line with a unit that isn't white space, the offset of its first such unit and that of the line's end:
-- so many units stand before the characters, and whether only white space stands before them on their line
abbrev pub lines_from : ℕ → Bool → List ℕ → List (ℕ × ℕ)
lines_from at blank [] = []
lines_from at blank (c ∷ cs) =
    if is_line_terminator c then lines_from (at + utf16_units c) true cs
    else (if blank && not (is_white_space c) then (at, at + units (line_left (c ∷ cs))) ∷ lines_from (at + utf16_units c) false cs
    else lines_from (at + utf16_units c) blank cs)

abbrev pub lines : List ℕ → List (ℕ × ℕ)
lines cs = lines_from 0 true cs

-- whether a range holds the unit at this offset
abbrev pub holds : ℕ → V8Range → Bool
holds at range = nat_le range.start at && nat_lt at range.end

abbrev pub size : V8Range → ℕ
size range = range.end - range.start

-- the shorter of two, and of equally long ones the last
abbrev pub shorter : Option V8Range → Option V8Range → Option V8Range
shorter None later = later
shorter (Some range) None = Some range
shorter (Some range) (Some later) = if nat_lt (size range) (size later) then Some range else Some later

abbrev pub if_holds : ℕ → V8Range → Option V8Range
if_holds at range = if holds at range then Some range else None

-- the shortest that holds the unit at this offset, of equally long ones the last
abbrev pub shortest : ℕ → List V8Range → Option V8Range
shortest at [] = None
shortest at (range ∷ ranges) = shorter (if_holds at range) (shortest at ranges)

abbrev pub count_or_none : Option V8Range → ℕ
count_or_none None = 0
count_or_none (Some range) = range.count

-- how often the unit at this offset ran
abbrev pub count_at : List V8Range → ℕ → ℕ
count_at ranges at = count_or_none (shortest at ranges)

-- all ranges of all functions
abbrev pub all_ranges : List V8Function → List V8Range
all_ranges [] = []
all_ranges (function ∷ functions) = function.ranges ++ all_ranges functions

abbrev pub statement : List ℕ → List V8Range → ℕ × ℕ → StatementCoverage
statement cs ranges line = record { location = part cs line.0 line.1; count = count_at ranges line.0 }

abbrev pub statements : List ℕ → List V8Function → List StatementCoverage
statements cs functions = map (statement cs (all_ranges functions)) (lines cs)

-- ---- functions

abbrev pub function_with : List ℕ → List ℕ → List V8Range → List FunctionCoverage
function_with cs [] ranges = []
function_with cs (byte ∷ name) [] = []
function_with cs (byte ∷ name) (first ∷ others) =
    record { name = byte ∷ name; declaration = part cs first.start first.end; location = part cs first.start first.end; count = first.count } ∷ []

-- each function with a name
abbrev pub functions : List ℕ → List V8Function → List FunctionCoverage
functions cs [] = []
functions cs (function ∷ rest) = function_with cs function.name function.ranges ++ functions cs rest

-- ---- branches

-- a further range of a function
abbrev pub branch : List ℕ → V8Range → BranchCoverage
branch cs range = record {
  kind = codes "branch";
  location = part cs range.start range.end;
  paths = record { location = part cs range.start range.end; count = range.count } ∷ [];
}

abbrev pub further : List V8Range → List V8Range
further [] = []
further (first ∷ others) = others

-- those of a function whose parts are counted
abbrev pub parts : V8Function → List V8Range
parts function = if function.is_block then further function.ranges else []

abbrev pub branches : List ℕ → List V8Function → List BranchCoverage
branches cs [] = []
branches cs (function ∷ rest) = map (branch cs) (parts function) ++ branches cs rest

-- ---- the file

abbrev pub file_of : List ℕ → List ℕ → List V8Function → FileCoverage
file_of path text list = let cs = chars text in record {
  path = path;
  hash = Some (hash_text text);
  input_source_map = None;
  statements = enumerate_from 0 (statements cs list);
  functions = enumerate_from 0 (functions cs list);
  branches = enumerate_from 0 (branches cs list);
}

-- neither offset is past so many units
abbrev pub is_within : ℕ → V8Range → Bool
is_within end range = nat_le range.start end && nat_le range.end end

-- the coverage of a source, or the fault of an offset past it
abbrev pub coverage_of : List ℕ → List ℕ → List V8Function → Result FileCoverage V8Fault
coverage_of path text list =
    if list_all (is_within (units (chars text))) (all_ranges list) then Ok (file_of path text list) else Err (fault.BadMember (codes "ranges"))
