-- What is owed for `instrument`: the instrumented texts of source files are put below a folder, each with its map. When each status is
-- due, what is put, and what is said. Nothing is printed. Of what is held it speaks where the store tells that.
use Rattle.std.specs.Prelude.{◌≡◌, ◌≢◌, ◌⊎◌, ℕ, ◌+◌, ◌<◌, ◌≤◌, true, false, List, [], ◌∷◌, ◌++◌, length, Option, None, Some, if◌then◌else◌, nat_eq, codes}
use Rattle.std.specs.List.{ends_with}
use Rattle.std.specs.Option.{option_or}
use Rattle.js_tree.specs.Plain.{File}
use Rattle.js_layout.specs.Layout.{layout}
use Rattle.source_map.specs.declared.place.Parts.{Parts}
use Rattle.source_map.specs.Write.{map_text}
use Rattle.cov_base.specs.Store.{Held, BothTell}
use Rattle.cov_run.specs.Loaded.{HasInput, IsSource, IsUnloaded, most}
use Rattle.cov_run.specs.declared.fault.LoadFault.{LoadFault}
use Rattle.cov_run.specs.declared.fault.LoadFault.TheVariants as fault
use Rattle.cov_sim.specs.Again.{IsReadAgain}
use Rattle.cov_sim.specs.Instrumented.{instrumented, is_ignored, map_back}
use Rattle.cov_commands.specs.Line as said
use Rattle.cov_commands.specs.Source.{message_of_fault, status_of_fault}
use Rattle.cov_commands.specs.declared.status.Status.{Status}
use Rattle.cov_commands.specs.declared.status.Status.TheVariants as status

-- P holds of each
abbrev pub Each : {A : Type 0} → (A → Type 0) → List A → Type 0
Each P [] = Unit {0}
Each P (x ∷ xs) = P x × Each P xs

-- the path of a source file
abbrev pub IsSourcePath : List ℕ → Type 0
IsSourcePath file = ends_with nat_eq file (codes ".js") ≡ true

-- ---- what is put

-- the path of a file below the folder, and that of its map
abbrev pub path_below : List ℕ → List ℕ → List ℕ
path_below out file = out ++ 0x2F ∷ file

abbrev pub map_below : List ℕ → List ℕ → List ℕ
map_below out file = path_below out (file ++ codes ".map")

-- what is put for the source at a path with these bytes, this source map and this tree: its bytes where a comment takes it out, and else its
-- instrumented text, which is read again as the instrumented tree
pub data IsTextOf (path bytes : List ℕ) (input : Option Parts) (tree : File) : List ℕ → Type 0 where
  left : is_ignored tree ≡ true → IsTextOf path bytes input tree bytes
  made : is_ignored tree ≡ false → IsReadAgain (layout (instrumented path bytes input tree)) (instrumented path bytes input tree) →
      IsTextOf path bytes input tree (layout (instrumented path bytes input tree))

-- the text of the map of its instrumented text, which leads back to it and then where its own source map does; it has none where a comment
-- takes it out
abbrev pub map_for : (path bytes : List ℕ) → (input : Option Parts) → File → Option (List ℕ)
map_for path bytes input tree = if is_ignored tree then None else Some (map_text (map_back path bytes input tree))

-- ---- when each status is due; `told` is what the store holds, where it tells

-- all files are sources with their maps, and not too many
abbrev pub HoldsSource : Option Held → List ℕ → Type 0
HoldsSource told file = (bytes : List ℕ) × (tree : File) × (input : Option Parts) × IsSource told file bytes tree × HasInput told file input

pub record AreSources (files : List (List ℕ)) (told : Option Held) : Type 0 where
  pub within : length files ≤ most
  pub each : Each (HoldsSource told) files

-- the first of the files that ends the work, where there were so many sources before: it isn't read, or is one source too many
pub data StopsAt (told : Option Held) : ℕ → List (List ℕ) → List ℕ → LoadFault → Type 0 where
  here : {before : ℕ} {file : List ℕ} {files : List (List ℕ)} {why : LoadFault} → IsUnloaded told file why → StopsAt told before (file ∷ files) file why
  too_many : {before : ℕ} {file : List ℕ} {files : List (List ℕ)} → HoldsSource told file → most ≤ before → StopsAt told before (file ∷ files) file fault.TooManyFiles
  later : {before : ℕ} {file at : List ℕ} {files : List (List ℕ)} {why : LoadFault} → HoldsSource told file → before < most → StopsAt told (before + 1) files at why →
      StopsAt told before (file ∷ files) at why

-- it ends with this status, and this is said of it
pub record EndsWith (result : Status) (files : List (List ℕ)) (told : Option Held) (message : said.Message) : Type 0 where
  pub file : List ℕ
  pub why : LoadFault
  pub stops : StopsAt told 0 files file why
  pub status : status_of_fault why ≡ result
  pub said : message ≡ message_of_fault file why

abbrev pub IsDue : Status → List (List ℕ) → Option Held → Type 0
IsDue status.Ok files told = AreSources files told
IsDue status.WriteFault files told = AreSources files told
IsDue status.Memory files told = Unit {0}
IsDue other files told = (message : said.Message) × EndsWith other files told message

-- ---- what the store holds

-- the text of a file stands below the folder, and its map beside it; where it has none, that path holds what it held
pub record Stands (out : List ℕ) (old new : Held) (file : List ℕ) : Type 0 where
  pub bytes : List ℕ
  pub tree : File
  pub text : List ℕ
  pub input : Option Parts
  pub source : IsSource (Some old) file bytes tree
  pub has : HasInput (Some old) file input
  pub is : IsTextOf file bytes input tree text
  pub stands : new (path_below out file) ≡ Some text
  pub map : new (map_below out file) ≡ option_or (map_for file bytes input tree) (old (map_below out file))

-- the path isn't that of a file below the folder, nor of its map
abbrev pub IsApart : List ℕ → List ℕ → List ℕ → Type 0
IsApart out path file = (path ≢ path_below out file) × (path ≢ map_below out file)

-- the texts of all files stand there, and every other path holds what it held
pub record PutsAll (out : List ℕ) (files : List (List ℕ)) (old new : Held) : Type 0 where
  pub stand : Each (Stands out old new) files
  pub others : (path : List ℕ) → Each (IsApart out path) files → new path ≡ old path

-- of the puts of a file one failed: that of its text, and nothing was put beside it, or that of its map, and the text stands
pub data PutsHalf (out : List ℕ) (old new : Held) (file : List ℕ) : Type 0 where
  no_map : new (map_below out file) ≡ old (map_below out file) → PutsHalf out old new file
  no_more : {bytes text : List ℕ} {tree : File} {input : Option Parts} → IsSource (Some old) file bytes tree → HasInput (Some old) file input → IsTextOf file bytes input tree text → new (path_below out file) ≡ Some text →
      PutsHalf out old new file

-- a put failed: the files before that one stand there, the path of what was put may hold anything, and every other path holds what it held
pub record PutsSome (out : List ℕ) (files : List (List ℕ)) (old new : Held) : Type 0 where
  pub before : List (List ℕ)
  pub failed : List ℕ
  pub after : List (List ℕ)
  pub split : files ≡ before ++ failed ∷ after
  pub stand : Each (λ file. file ≢ failed → Stands out old new file) before
  pub half : Each (λ file. file ≢ failed) before → PutsHalf out old new failed
  pub others : (path : List ℕ) → Each (IsApart out path) before → IsApart out path failed → new path ≡ old path

-- want of memory may come before any put, and where no put was tried all is as it was
abbrev pub Puts : Status → List ℕ → List (List ℕ) → Option Held → Option Held → Type 0
Puts status.Ok out files before after = BothTell before after (PutsAll out files)
Puts status.WriteFault out files before after = BothTell before after (PutsSome out files)
Puts status.Memory out files before after = (after ≡ before) ⊎ BothTell before after (PutsSome out files)
Puts other out files before after = after ≡ before

-- ---- the line on standard error

abbrev pub IsMessage : Status → List (List ℕ) → Option Held → said.Message → Type 0
IsMessage status.Ok files told message = ⊥
IsMessage status.WriteFault files told message = message ≡ said.WriteFailed
IsMessage status.Memory files told message = message ≡ said.OutOfMemory
IsMessage other files told message = EndsWith other files told message

-- with Ok there is none
abbrev pub IsLine : Status → List (List ℕ) → Option Held → List ℕ → Type 0
IsLine status.Ok files told line = line ≡ []
IsLine other files told line = (message : said.Message) × IsMessage other files told message × (line ≡ said.line message)
