-- A segment as it is read, number by number, for private clauses.
use Rattle.std.specs.Prelude.{ℕ, List, [], ◌∷◌, Option, Some, None, option_and_then}
use Rattle.source_map.specs.declared.place.Origin.{Origin}
use Rattle.source_map.specs.declared.place.Segment.{Segment}
use Rattle.source_map.specs.declared.state.State.{State}
use Rattle.source_map.specs.Mappings.{to_column, to_source, to_line, to_source_column, to_name, place_of}
use Rattle.source_map.specs.private.Numbers.{first}

module _ (sources names : ℕ) where
  abbrev pub Read : Type 0
  Read = Option (State × Segment)

  abbrev pub at_origin : State → Option Origin → State × Segment
  at_origin after origin = (after, record { line = after.line; column = after.column; origin = origin })

  -- a number goes to the state, and the rest goes on
  abbrev pub step : {A : Type 0} → (ℕ → Option State) → (State → List ℕ → Option A) → List ℕ → Option A
  step move next bytes = option_and_then (λ found. option_and_then (λ after. next after found.1) (move found.0)) (first bytes)

  abbrev pub named : State → List ℕ → Read
  named after [] = Some (at_origin after (Some (place_of after (Some after.name))))
  named after (byte ∷ bytes) = None

  abbrev pub name_in : State → List ℕ → Read
  name_in after bytes = step (λ n. to_name sources names n after) named bytes

  abbrev pub placed : State → List ℕ → Read
  placed after [] = Some (at_origin after (Some (place_of after None)))
  placed after (byte ∷ bytes) = name_in after (byte ∷ bytes)

  abbrev pub found_place : State → List ℕ → Option (State × List ℕ)
  found_place after bytes = Some (after, bytes)

  abbrev pub place_in : State → List ℕ → Option (State × List ℕ)
  place_in from bytes =
      step (λ n. to_source sources names n from) (λ a. step (λ n. to_line sources names n a) (λ b. step (λ n. to_source_column sources names n b) found_place)) bytes

  abbrev pub columned : State → List ℕ → Read
  columned after [] = Some (at_origin after None)
  columned after (byte ∷ bytes) = option_and_then (λ found. placed found.0 found.1) (place_in after (byte ∷ bytes))

  abbrev pub segment_in : State → List ℕ → Read
  segment_in from bytes = step (λ n. to_column sources names n from) columned bytes
