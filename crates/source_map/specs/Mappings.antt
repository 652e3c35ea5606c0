-- The segments that mappings write (ECMA-426, mappings): lines end by `;`, segments by `,`, and each number is a difference to the
-- last one of its kind.
use Rattle.std.specs.Prelude.{ℕ, ◌+◌, ◌-◌, ◌^◌, ◌==◌, min, if◌then◌else◌, List, [], ◌∷◌, ◌++◌, length, fold, Option, Some, None, option_map, option_and_then, Result, Ok, Err}
use Rattle.std.specs.List.{slice_split}
use Rattle.source_map.specs.declared.place.Origin.{Origin}
use Rattle.source_map.specs.declared.place.Segment.{Segment}
use Rattle.source_map.specs.declared.state.State.{State}
use Rattle.source_map.specs.Vlq.{read_numbers, moved}
use Rattle.source_map.specs.Map.{is_before}

-- in a state the line counts from 1, and all else from 0
abbrev pub start : State
start = record { line = 1; column = 0; source = 0; source_line = 0; source_column = 0; name = 0 }

-- the segment at a state, by how many numbers it has

abbrev pub place_of : State → Option ℕ → Origin
place_of after name = record { source = after.source; line = after.source_line + 1; column = after.source_column; name = name }

abbrev pub origin_of : State → List ℕ → Option Origin
origin_of after (column ∷ source ∷ line ∷ source_column ∷ []) = Some (place_of after None)
origin_of after (column ∷ source ∷ line ∷ source_column ∷ name ∷ rest) = Some (place_of after (Some after.name))
origin_of after _ = None

abbrev pub segment_of : State → List ℕ → Segment
segment_of after numbers = record { line = after.line; column = after.column; origin = origin_of after numbers }

abbrev pub Found : Type 0
Found = Result (State × List Segment) ℕ

abbrev pub with_more : State × List Segment → Found → Found
with_more found (Err at) = Err at
with_more found (Ok more) = Ok (more.0, found.1 ++ more.1)

abbrev pub next : Found → (State → Found) → Found
next (Err at) later = Err at
next (Ok found) later = with_more found (later found.0)

abbrev pub or_at : ℕ → Option (State × Segment) → Found
or_at at None = Err at
or_at at (Some found) = Ok (found.0, found.1 ∷ [])

-- ---- one segment, where there are so many sources and names

module _ (sources names : ℕ) where
  abbrev pub to_column : ℕ → State → Option State
  to_column number from = option_map (λ n. record from { column = n }) (moved (2 ^ 32) from.column number)

  abbrev pub to_source : ℕ → State → Option State
  to_source number from = option_map (λ n. record from { source = n }) (moved (min sources (2 ^ 32)) from.source number)

  -- a line counts from 1 later, and stays below 2^32
  abbrev pub to_line : ℕ → State → Option State
  to_line number from = option_map (λ n. record from { source_line = n }) (moved (2 ^ 32 - 1) from.source_line number)

  abbrev pub to_source_column : ℕ → State → Option State
  to_source_column number from = option_map (λ n. record from { source_column = n }) (moved (2 ^ 32) from.source_column number)

  abbrev pub to_name : ℕ → State → Option State
  to_name number from = option_map (λ n. record from { name = n }) (moved (min names (2 ^ 32)) from.name number)

  -- a place in a source by three numbers
  abbrev pub to_place : ℕ → ℕ → ℕ → State → Option State
  to_place source line column from = option_and_then (to_source_column column) (option_and_then (to_line line) (to_source source from))

  -- a segment has one, four or five numbers
  abbrev pub after_numbers : State → List ℕ → Option State
  after_numbers from (column ∷ []) = to_column column from
  after_numbers from (column ∷ source ∷ line ∷ source_column ∷ []) = option_and_then (to_place source line source_column) (to_column column from)
  after_numbers from (column ∷ source ∷ line ∷ source_column ∷ name ∷ []) =
      option_and_then (to_name name) (option_and_then (to_place source line source_column) (to_column column from))
  after_numbers from _ = None

  -- ---- segments one after another, each with the state after it, or how many bytes stand before the first that is none

  abbrev pub with_numbers : State → List ℕ → Option (State × Segment)
  with_numbers from numbers = option_map (λ after. (after, segment_of after numbers)) (after_numbers from numbers)

  -- an empty one is none
  abbrev pub read_segment : State → ℕ → List ℕ → Found
  read_segment from at [] = Ok (from, [])
  read_segment from at (byte ∷ bytes) = or_at at (option_and_then (with_numbers from) (read_numbers (byte ∷ bytes)))

  abbrev pub read_line : State → ℕ → List (List ℕ) → Found
  read_line from at [] = Ok (from, [])
  read_line from at (piece ∷ pieces) = next (read_segment from at piece) (λ after. read_line after (at + (length piece + 1)) pieces)

  -- the column begins anew on each line
  abbrev pub read_lines : State → ℕ → List (List ℕ) → Found
  read_lines from at [] = Ok (from, [])
  read_lines from at (line ∷ lines) =
      next (read_line from at (slice_split (λ byte. byte == 44) line)) (λ after.
      read_lines (record after { line = after.line + 1; column = 0 }) (at + (length line + 1)) lines)

-- ---- in order: by line and column, those at one place as they come

abbrev pub placed : Segment → List Segment → List Segment
placed segment [] = segment ∷ []
placed segment (other ∷ others) = if is_before segment other then segment ∷ other ∷ others else other ∷ placed segment others

abbrev pub in_order : List Segment → List Segment
in_order segments = fold (λ sorted segment. placed segment sorted) [] segments

abbrev pub sorted : Result (State × List Segment) ℕ → Result (List Segment) ℕ
sorted (Err at) = Err at
sorted (Ok found) = Ok (in_order found.1)

abbrev pub segments_of : ℕ → ℕ → List ℕ → Result (List Segment) ℕ
segments_of sources names mappings = sorted (read_lines sources names start 0 (slice_split (λ byte. byte == 59) mappings))
