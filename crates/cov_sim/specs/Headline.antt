-- The headline. For every set of accepted files and every number N, the instrumented texts, read again and run for N turns, print, end or
-- go on exactly as the sources do in N steps, and every counter then equals the entries of its construct.
use Rattle.std.specs.Prelude.{◌≡◌, ℕ, ◌-◌, ◌^◌, ◌≤◌, Bool, true, false, List, [], ◌∷◌, Option, Some, None, IfSome, option_map, slice_get, nat_eq, codes}
use Rattle.std.specs.List.{ends_with}
use Rattle.std.specs.Str.{IsUtf8}
use Rattle.js_tree.specs.Plain.{File}
use Rattle.js_tree.specs.Same.{bare_file}
use Rattle.js_scopes.specs.Accepted.{Accepted, AcceptedAgain}
use Rattle.js_meaning.specs.Program as program
use Rattle.js_meaning.specs.World.{World, PlainRun, world, plain}
use Rattle.js_prelude.specs.Prelude.{prelude_tree}
use Rattle.js_coverage.specs.Coverage.{IsCoverage}
use Rattle.cov_object.specs.declared.file.FileCoverage.{FileCoverage}
use Rattle.cov_expected.specs.Expected.{expected}
use Rattle.cov_counted.specs.Accepted.{Content, zero_at}
use Rattle.source_map.specs.Kept.{HasTexts}
use Rattle.source_map.specs.Write.{map_text}
use Rattle.cov_sources.specs.declared.source.Source.{Source}
use Rattle.cov_sim.specs.declared.instrumented.Instrumented.{Instrumented}
use Rattle.cov_sim.specs.Instrumented.{instrumented, is_left_out, AreInstrumented}

-- ---- a set of files, of any number: each at a path of its own, which ends with `.js` as source paths do

abbrev pub IsElsewhere : List ℕ → List Source → Type 0
IsElsewhere path [] = Unit {0}
IsElsewhere path (source ∷ sources) = (path ≡ source.path → ⊥) × IsElsewhere path sources

abbrev pub HavePaths : List Source → Type 0
HavePaths [] = Unit {0}
HavePaths (source ∷ sources) = (IsUtf8 source.path × (ends_with nat_eq source.path (codes ".js") ≡ true) × IsElsewhere source.path sources) × HavePaths sources

-- the texts in their source maps are UTF-8, as the maps' type says
abbrev pub HaveTexts : List Source → Type 0
HaveTexts [] = Unit {0}
HaveTexts (source ∷ sources) = IfSome source.input HasTexts × HaveTexts sources

-- ---- the files of the sources, and what stands in their place

abbrev pub file_of : Source → File → Bool → program.Source
file_of source tree counted = record { path = source.path; tree = tree; counted = counted }

-- the sources as files of a program that counts, each with its tree; and as files of one that doesn't: in place of each counted file a tree
-- that is the instrumented one but for places, comments and parentheses, and what isn't counted or is ignored as it is
pub data AreReplaced : List Source → (files again : List program.Source) → Type 0 where
  no_file : AreReplaced [] [] []
  kept : {source : Source} {sources : List Source} {files again : List program.Source} (tree : File) →
      Accepted source.bytes tree → is_left_out source tree ≡ true →
      AreReplaced sources files again → AreReplaced (source ∷ sources) (file_of source tree false ∷ files) (file_of source tree false ∷ again)
  by_tree : {source : Source} {sources : List Source} {files again : List program.Source} (tree other : File) →
      Accepted source.bytes tree → is_left_out source tree ≡ false → bare_file other ≡ bare_file (instrumented source.path source.bytes source.input tree) →
      AreReplaced sources files again → AreReplaced (source ∷ sources) (file_of source tree true ∷ files) (file_of source other false ∷ again)

-- the same with the tree of each counted file's text, read again
pub data AreRead : List Source → List Instrumented → (files again : List program.Source) → Type 0 where
  none : AreRead [] [] [] []
  as_it_is : {source : Source} {sources : List Source} {texts : List Instrumented} {files again : List program.Source} (tree : File) →
      Accepted source.bytes tree → is_left_out source tree ≡ true →
      AreRead sources texts files again → AreRead (source ∷ sources) texts (file_of source tree false ∷ files) (file_of source tree false ∷ again)
  by_text : {source : Source} {sources : List Source} {texts : List Instrumented} {files again : List program.Source} (tree other : File) (text map : List ℕ) →
      Accepted source.bytes tree → is_left_out source tree ≡ false → AcceptedAgain text other →
      AreRead sources texts files again →
      AreRead (source ∷ sources) (record { path = source.path; text = text; map = map } ∷ texts) (file_of source tree true ∷ files) (file_of source other false ∷ again)

abbrev pub program_of : List program.Source → program.Sources
program_of files = record { files = files; prelude = prelude_tree }

-- ---- the coverage that they begin with: of each file zero for each construct, with its path, the hash of its bytes and the text of its
-- source map, where it has one

abbrev pub content_if : Option Source → Content
content_if None = record { bytes = []; map = None }
content_if (Some source) = record { bytes = source.bytes; map = option_map map_text source.input }

abbrev pub content_of : List Source → ℕ → Content
content_of sources file = content_if (slice_get sources file)

abbrev pub zeros : List Source → List program.Source → ℕ → FileCoverage
zeros sources files = zero_at (content_of sources) (program_of files)

-- ---- the two runs are one

-- a run without counting ends and prints as one with counting does, and its heap holds the coverage of each file started, every count that
-- of the entries of its construct, and of no other file
pub record DoesTheSame (sources : List Source) (files : List program.Source) (w : World) (run : PlainRun) : Type 0 where
  pub end : run.end ≡ w.end
  pub output : run.store.output ≡ w.output
  pub coverage : IsCoverage run.store.heap (expected (zeros sources files) w.log w.started)

-- with each number of turns up to 2^53 - 1 what stands in the files' place does what the files do in as many steps, whichever is the entry
abbrev pub DoTheSame : List Source → (files again : List program.Source) → Type 0
DoTheSame sources files again = (entry : List ℕ) (n : ℕ) → n ≤ 2 ^ 53 - 1 → (w : World) → world (program_of files) entry n ≡ Some w →
    (run : PlainRun) × (plain (program_of again) entry n ≡ Some run) × DoesTheSame sources files w run

-- so do the trees that are the instrumented ones; and these texts can be read again, and so do they
pub record Simulates (sources : List Source) (texts : List Instrumented) : Type 0 where
  pub trees : (files again : List program.Source) → AreReplaced sources files again → DoTheSame sources files again
  pub read : (files : List program.Source) × (again : List program.Source) × AreRead sources texts files again
  pub texts_do : (files again : List program.Source) → AreRead sources texts files again → DoTheSame sources files again

abbrev pub Headline : Type 0
Headline = (sources : List Source) (texts : List Instrumented) → HavePaths sources → HaveTexts sources → AreInstrumented sources texts → Simulates sources texts
