-- Coverage maps, remapped: the entries of the files that have a source map are sent to the sources, and then all is merged.
use Rattle.std.specs.Prelude.{ℕ, ◌-◌, ◌^◌, List, [], ◌∷◌, ◌++◌, filter_map, Option, Some, None, option_map, Result, Ok, Err}
use Rattle.cov_object.specs.declared.file.FileCoverage.{FileCoverage}
use Rattle.cov_merge.specs.declared.fault.MergeFault.{MergeFault}
use Rattle.cov_merge.specs.declared.fault.MergeFault.TheVariants as merge
use Rattle.cov_merge.specs.Maps.{merged}
use Rattle.source_map.specs.declared.place.Parts.{Parts}
use Rattle.source_map.specs.declared.fault.MapFault.{MapFault}
use Rattle.source_map.specs.Read.{source_map_of}
use Rattle.cov_remap.specs.declared.fault.RemapFault.{RemapFault}
use Rattle.cov_remap.specs.declared.fault.RemapFault.TheVariants as fault
use Rattle.cov_remap.specs.Sent.{Sending, sending_statements, sending_functions, sending_branches, sent}

abbrev pub and_then : {X Y : Type 0} → Result X RemapFault → (X → Result Y RemapFault) → Result Y RemapFault
and_then (Ok x) next = next x
and_then (Err why) next = Err why

-- ---- one file

-- each entry that is sent somewhere, as a file of its own
abbrev pub pieces_of : {T : Type 0} → Sending T → FileCoverage → Parts → List FileCoverage
pieces_of sending file map =
    filter_map (λ entry. option_map (λ to. sending.alone to.0 to.1) (sent sending file.path map entry.1)) (sending.kind.entries file)

abbrev pub pieces : FileCoverage → Parts → List FileCoverage
pieces file map = pieces_of sending_statements file map ++ (pieces_of sending_functions file map ++ pieces_of sending_branches file map)

-- the map of a file, where it has one
abbrev pub read_map : List ℕ → Result Parts MapFault
read_map text = source_map_of (2 ^ 64 - 1) text

abbrev pub pieces_or_fault : FileCoverage → Result Parts MapFault → Result (List FileCoverage) RemapFault
pieces_or_fault file (Err why) = Err (fault.BadMap file.path why)
pieces_or_fault file (Ok map) = Ok (pieces file map)

-- a file without a map stays as it is
abbrev pub spread_by : FileCoverage → Option (List ℕ) → Result (List FileCoverage) RemapFault
spread_by file None = Ok (file ∷ [])
spread_by file (Some text) = pieces_or_fault file (read_map text)

abbrev pub spread : FileCoverage → Result (List FileCoverage) RemapFault
spread file = spread_by file file.input_source_map

-- ---- all files

abbrev pub spread_all : List FileCoverage → Result (List FileCoverage) RemapFault
spread_all [] = Ok []
spread_all (file ∷ files) = and_then (spread file) (λ own. and_then (spread_all files) (λ others. Ok (own ++ others)))

abbrev pub or_too_large : Result (List FileCoverage) MergeFault → Result (List FileCoverage) RemapFault
or_too_large (Ok files) = Ok files
or_too_large (Err (merge.CountTooLarge key sum)) = Err (fault.CountTooLarge key sum)
or_too_large (Err merge.Memory) = Err fault.Memory

abbrev pub merged_all : List FileCoverage → Result (List FileCoverage) RemapFault
merged_all files = or_too_large (merged files)

abbrev pub remapped : List FileCoverage → Result (List FileCoverage) RemapFault
remapped files = and_then (spread_all files) merged_all
