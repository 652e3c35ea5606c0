-- The counters of the files of a program of accepted sources, of which this was read.
use Rattle.std.specs.Prelude.{◌≡◌, ◌≢◌, ℕ, zero, suc, ◌+◌, true, List, [], ◌∷◌, Option, Some, None, IfSome, slice_get, codes, nat_eq, if◌then◌else◌}
use Rattle.std.specs.List.{ends_with}
use Rattle.std.specs.Str.{IsUtf8}
use Rattle.js_walk.specs.Constructs.{constructs_file}
use Rattle.js_scopes.specs.Accepted.{Accepted}
use Rattle.js_meaning.specs.Program.{Source, Sources, linked}
use Rattle.js_prelude.specs.Prelude.{prelude_tree}
use Rattle.cov_hash.specs.Hash.{hash_text}
use Rattle.cov_maps.specs.Zero.{zero_file, with_map}
use Rattle.cov_object.specs.Json.{file_data}
use Rattle.cov_object.specs.Numbered.{AreSmall}
use Rattle.cov_object.specs.SourceMapText.{IsSourceMap}
use Rattle.cov_object.specs.private.Formed.{IsFormed}
use Rattle.cov_object.specs.declared.file.FileCoverage.{FileCoverage}
use Rattle.cov_rewritten.specs.Preamble.{json_string}
use Rattle.js_suits.specs.Programs.{start_of}
use Rattle.js_counted.specs.Files.{FileCounters}
use Rattle.js_counted.specs.Program.{counted_program, Prepared}
use Rattle.cov_suits.specs.Suited.{names}
use Rattle.cov_expected.specs.Plain.{IsPlainMap}
use Rattle.cov_counted.specs.Literals.{LiteralOf}

-- ---- such a program

-- what is read of a file: its bytes, and the text of its source map, where it has one
pub record Content : Type 0 where
  pub bytes : List ℕ
  pub map : Option (List ℕ)

-- the text of a source map that a coverage keeps, and that data tell
pub record IsMapText (text : List ℕ) : Type 0 where
  pub is : IsSourceMap text
  pub utf8 : IsUtf8 text
  pub plain : IsPlainMap text

-- each source is accepted, its source map's text is one, and the host's prelude runs before them
pub record AreAccepted (content : ℕ → Content) (p : Sources) : Type 0 where
  pub files : (file : ℕ) (source : Source) → slice_get p.files file ≡ Some source → Accepted (content file).bytes source.tree
  pub maps : (file : ℕ) → IfSome (content file).map IsMapText
  pub prelude : p.prelude ≡ prelude_tree

-- paths are source paths, and no two files have one
pub record HavePaths (p : Sources) : Type 0 where
  pub utf8 : (file : ℕ) (source : Source) → slice_get p.files file ≡ Some source → IsUtf8 source.path
  pub ends : (file : ℕ) (source : Source) → slice_get p.files file ≡ Some source → ends_with nat_eq source.path (codes ".js") ≡ true
  pub apart : (i j : ℕ) (one other : Source) → i ≢ j → slice_get p.files i ≡ Some one → slice_get p.files j ≡ Some other → one.path ≡ other.path → ⊥

-- ---- its counters

abbrev pub path_of : Option Source → List ℕ
path_of None = []
path_of (Some source) = source.path

-- the coverage that a file of which this was read begins with: zero for each of its constructs
abbrev pub zero_of : Content → Option Source → FileCoverage
zero_of content None = with_map content.map (zero_file [] (hash_text content.bytes) [])
zero_of content (Some source) = with_map content.map (zero_file source.path (hash_text content.bytes) (constructs_file source.tree))

-- how many functions the counted files before a file have more, two each
abbrev pub more_before : List Source → ℕ → ℕ
more_before [] file = 0
more_before (source ∷ sources) zero = 0
more_before (source ∷ sources) (suc file) = (if source.counted then 2 else 0) + more_before sources file

-- the number of a file's first function in the program with its counters
abbrev pub first_at : Sources → ℕ → ℕ
first_at p file = start_of (linked p) file + more_before p.files file

module _ (content : ℕ → Content) (p : Sources) where
  abbrev pub zero_at : ℕ → FileCoverage
  zero_at file = zero_of (content file) (slice_get p.files file)

  -- each file's data at the start have a literal
  abbrev pub HaveLiterals : Type 0
  HaveLiterals = (file : ℕ) → LiteralOf (file_data (zero_at file))

  abbrev pub files_of : HaveLiterals → ℕ → FileCounters
  files_of literals file = record {
    name = names p file;
    first = first_at p file;
    path = json_string (path_of (slice_get p.files file));
    hash = json_string (hash_text (content file).bytes);
    zero = (literals file).made;
  }

-- ---- what is proved of them

-- where each file's functions begin in the program with its counters
abbrev pub NumbersFirst : Type 0
NumbersFirst = (content : ℕ → Content) (p : Sources) (literals : HaveLiterals content p) (file : ℕ) → first_at p file ≡ start_of (counted_program (files_of content p literals) p) file

-- coverage that data tell: places, counts and texts as in every coverage, ids below 2^32, and a source map that is plain
pub record IsTellable (file : FileCoverage) : Type 0 where
  pub formed : IsFormed file
  pub statements : AreSmall file.statements
  pub functions : AreSmall file.functions
  pub branches : AreSmall file.branches
  pub source_map : IfSome file.input_source_map IsPlainMap

-- the coverage that each file begins with can be told
abbrev pub AcceptedTellable : Type 0
AcceptedTellable = (content : ℕ → Content) (p : Sources) → AreAccepted content p → HavePaths p → (file : ℕ) → IsTellable (zero_at content p file)

-- and its counters are as they are asked for
abbrev pub AcceptedPrepared : Type 0
AcceptedPrepared = (content : ℕ → Content) (p : Sources) → AreAccepted content p → HavePaths p → (literals : HaveLiterals content p) → Prepared (files_of content p literals) p
