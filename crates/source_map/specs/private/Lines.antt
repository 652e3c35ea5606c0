-- What is read of lines, for private clauses.
use Rattle.std.specs.Prelude.{◌≡◌, ℕ, ◌+◌, ◌==◌, List, [], ◌∷◌, ◌++◌, length, Result, Ok, Err}
use Rattle.std.specs.List.{slice_split}
use Rattle.std.specs.declared.vec.Vec.{Vec}
use Rattle.std.specs.declared.alloc.Global.{Global}
use Rattle.source_map.specs.declared.place.Segment.{Segment}
use Rattle.source_map.specs.declared.state.State.{State}
use Rattle.source_map.specs.declared.fault.MapFault.{MapFault}
use Rattle.source_map.specs.declared.fault.MapFault.TheVariants.{TooLong, BadJson, BadMember, BadMappings, Memory}

abbrev pub Found : Type 0
Found = Result (State × List Segment) ℕ

-- what is found after some segments
abbrev pub onto : List Segment → Found → Found
onto before (Err at) = Err at
onto before (Ok found) = Ok (found.0, before ++ found.1)

-- a call left these segments and answers this, or want of memory
abbrev pub Answers : List Segment → Result State MapFault → Found → Type 0
Answers segments (Ok after) found = found ≡ Ok (after, segments)
Answers segments (Err (BadMappings at)) found = found ≡ Err at
Answers segments (Err Memory) found = Unit {0}
Answers segments (Err TooLong) found = ⊥
Answers segments (Err BadJson) found = ⊥
Answers segments (Err (BadMember name)) found = ⊥

-- the pieces of a line, and the lines
abbrev pub pieces : List ℕ → List (List ℕ)
pieces line = slice_split (λ byte. byte == 44) line

abbrev pub lines : List ℕ → List (List ℕ)
lines text = slice_split (λ byte. byte == 59) text

-- how many bytes parts take, with the one after each
abbrev pub spent : List (List ℕ) → ℕ
spent [] = 0
spent (part ∷ parts) = (length part + 1) + spent parts

-- the segments that were found, without the state
abbrev pub segments_in : Found → Result (List Segment) ℕ
segments_in (Err at) = Err at
segments_in (Ok found) = Ok found.1

-- a call answers these segments, or want of memory
abbrev pub AnswersAll : Result (Vec Segment Global) MapFault → Found → Type 0
AnswersAll (Ok all) found = segments_in found ≡ Ok all.items
AnswersAll (Err (BadMappings at)) found = segments_in found ≡ Err at
AnswersAll (Err Memory) found = Unit {0}
AnswersAll (Err TooLong) found = ⊥
AnswersAll (Err BadJson) found = ⊥
AnswersAll (Err (BadMember name)) found = ⊥
