-- Coverage files, read from a store one after another, each remapped, and merged: their sums, or the first refusal.
use Rattle.std.specs.Prelude.{◌≡◌, ℕ, List, [], ◌∷◌, ◌++◌, map, Option, Some, None, IfSome, Result, Ok, Err}
use Rattle.cov_base.specs.Store.{Held}
use Rattle.cov_object.specs.declared.file.FileCoverage.{FileCoverage}
use Rattle.cov_object.specs.declared.fault.CoverageFault.{CoverageFault}
use Rattle.cov_object.specs.declared.fault.CoverageFault.TheVariants as fault
use Rattle.cov_object.specs.Read.{coverage_of}
use Rattle.cov_merge.specs.declared.fault.MergeFault.{MergeFault}
use Rattle.cov_merge.specs.declared.fault.MergeFault.TheVariants as merge
use Rattle.cov_merge.specs.Maps.{merged}
use Rattle.source_map.specs.declared.fault.MapFault.{MapFault}
use Rattle.source_map.specs.declared.fault.MapFault.TheVariants as map_fault
use Rattle.cov_remap.specs.declared.fault.RemapFault.{RemapFault}
use Rattle.cov_remap.specs.declared.fault.RemapFault.TheVariants as remap
use Rattle.cov_remap.specs.Remapped.{remapped}
use Rattle.cov_inputs.specs.declared.fault.InputFault.{InputFault}
use Rattle.cov_inputs.specs.declared.fault.InputFault.TheVariants as why
use Rattle.cov_inputs.specs.declared.refusal.What.TheVariants.{NotJson, Member, Count, Mappings}
use Rattle.cov_inputs.specs.declared.refusal.Refusal.{Refusal}
use Rattle.cov_inputs.specs.declared.refusal.Refusal.TheVariants.{NoFile, TooLong, BadInput, CountTooLarge}

-- what was found at a path: none where there is no such file
pub record Input : Type 0 where
  pub path : List ℕ
  pub found : Option (List ℕ)

-- a value, or the first refusal
abbrev pub Sums : Type 0
Sums = Result (List FileCoverage) Refusal

-- goes on with the files, if there are some
abbrev pub then_by : (List FileCoverage → Sums) → Sums → Sums
then_by next (Ok files) = next files
then_by next (Err why) = Err why

-- ---- one file

-- why bytes at a path are no coverage file; the definition of reading never answers want of memory
abbrev pub refusal_of : List ℕ → CoverageFault → Refusal
refusal_of path fault.TooLong = TooLong path
refusal_of path fault.BadJson = BadInput path NotJson
refusal_of path (fault.BadMember file name) = BadInput path (Member name)
refusal_of path (fault.Count file name) = BadInput path (Count name)
refusal_of path fault.Memory = BadInput path NotJson

abbrev pub or_refused : List ℕ → Result (List FileCoverage) CoverageFault → Sums
or_refused path (Ok files) = Ok files
or_refused path (Err why) = Err (refusal_of path why)

-- what a path gives
abbrev pub read_at : List ℕ → Option (List ℕ) → Sums
read_at path None = Err (NoFile path)
read_at path (Some bytes) = or_refused path (coverage_of bytes)

-- why the source map of a file in it is none, of the path that was read; the definition of reading a map never answers want of memory
abbrev pub map_refusal : List ℕ → MapFault → Refusal
map_refusal path map_fault.TooLong = TooLong path
map_refusal path map_fault.BadJson = BadInput path NotJson
map_refusal path (map_fault.BadMember name) = BadInput path (Member name)
map_refusal path (map_fault.BadMappings at) = BadInput path (Mappings at)
map_refusal path map_fault.Memory = BadInput path NotJson

-- or that a sum in it is too large
abbrev pub remap_refusal : List ℕ → RemapFault → Refusal
remap_refusal path (remap.BadMap file why) = map_refusal path why
remap_refusal path (remap.CountTooLarge key sum) = CountTooLarge sum
remap_refusal path remap.Memory = CountTooLarge 0

abbrev pub or_unmapped : List ℕ → Result (List FileCoverage) RemapFault → Sums
or_unmapped path (Ok files) = Ok files
or_unmapped path (Err why) = Err (remap_refusal path why)

-- its entries where the source maps of its files send them, with their sums
abbrev pub remapped_at : List ℕ → List FileCoverage → Sums
remapped_at path files = or_unmapped path (remapped files)

-- ---- sums

-- merging tells the first key whose counts come to 2^53, and never want of memory by its definition
abbrev pub sum_of : MergeFault → Refusal
sum_of (merge.CountTooLarge key sum) = CountTooLarge sum
sum_of merge.Memory = CountTooLarge 0

abbrev pub or_too_large : Result (List FileCoverage) MergeFault → Sums
or_too_large (Ok files) = Ok files
or_too_large (Err why) = Err (sum_of why)

abbrev pub merged_or_refused : List FileCoverage → Sums
merged_or_refused files = or_too_large (merged files)

-- the sums with a file more: it is remapped, which sums its own equal keys, and then merged with those before
abbrev pub with_files : List ℕ → List FileCoverage → List FileCoverage → Sums
with_files path sums files = then_by (λ own. merged_or_refused (sums ++ own)) (remapped_at path files)

abbrev pub with_input : List FileCoverage → Input → Sums
with_input sums input = then_by (with_files input.path sums) (read_at input.path input.found)

-- the sums with all of these, from the first to the last
abbrev pub gathered : List FileCoverage → List Input → Sums
gathered sums [] = Ok sums
gathered sums (input ∷ inputs) = then_by (λ next. gathered next inputs) (with_input sums input)

-- ---- what a store gives

-- what is held at each path
abbrev pub read_from : Held → List (List ℕ) → List Input
read_from held files = map (λ file. record { path = file; found = held file }) files

-- an input for each file, which is what the store holds there, where it tells
pub record AreRead (told : Option Held) (files : List (List ℕ)) (inputs : List Input) : Type 0 where
  pub paths : map (λ input. input.path) inputs ≡ files
  pub held : IfSome told (λ at. inputs ≡ read_from at files)

-- the files have these sums; where the store doesn't tell, they are those of what the files could hold
pub record HaveSums (told : Option Held) (files : List (List ℕ)) (sums : List FileCoverage) : Type 0 where
  pub inputs : List Input
  pub read : AreRead told files inputs
  pub are : gathered [] inputs ≡ Ok sums

-- they are refused, for this reason
pub record AreRefused (told : Option Held) (files : List (List ℕ)) (why : Refusal) : Type 0 where
  pub inputs : List Input
  pub read : AreRead told files inputs
  pub are : gathered [] inputs ≡ Err why

-- the file at a path isn't read, where those before it were and have sums
pub record FailsAt (told : Option Held) (files : List (List ℕ)) (path : List ℕ) : Type 0 where
  pub first : List (List ℕ)
  pub rest : List (List ℕ)
  pub is : files ≡ first ++ path ∷ rest
  pub sums : List FileCoverage
  pub have : HaveSums told first sums

-- why each fault comes
abbrev pub IsCause : Option Held → List (List ℕ) → InputFault → Type 0
IsCause told files (why.Refused refusal) = AreRefused told files refusal
IsCause told files (why.ReadFailed path) = FailsAt told files path
IsCause told files why.Memory = Unit {0}
