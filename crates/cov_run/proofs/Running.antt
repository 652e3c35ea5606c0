-- The machine runs the first of the sources, as it is defined.
use Rattle.std.proofs.Common.{◌≡◌, ℕ, ◌+◌, List, [], ◌∷◌, ◌++◌, Some, None, refl, sym, ◌∙◌, subst, arith}
use Rattle.std.specs.List.{AllZip}
use Rattle.std.specs.Str.{bytes_eq}
use Rattle.std.proofs.lemmas.Iterator.Adapters.{position_from-zero}
use Rattle.std.proofs.lemmas.Slice.Eq.{bytes_eq-Decides}
use Rattle.js_meaning.specs.declared.outcome.End.{End}
use Rattle.js_meaning.specs.Program as program
use Rattle.js_meaning.specs.Program.{file_at}
use Rattle.js_meaning.specs.World.{plain}
use Rattle.js_machine.specs.Whole.{Whole, Begins, Goes, output_of}
use Rattle.cov_sources.specs.declared.source.Source.{Source}
use Rattle.cov_run.specs.Exec.{EndsAs, IsFirst, IsRead, program_of}

-- the first of the sources is at the path of the entry, so a file is
pub first_file : (path : List ℕ) (sources : List Source) (files : List program.Source) → IsFirst path sources → AllZip IsRead sources files → file_at (program_of files) path ≡ Some 0
first_file path [] files first zips = absurd first
first_file path (s ∷ sources) [] first zips = absurd zips
first_file path (s ∷ sources) (f ∷ files) first zips =
    position_from-zero (λ (file : program.Source). bytes_eq file.path path) (f ∷ files) ∙ rw ((bytes_eq-Decides f.path path).1 (zips.0.path ∙ first)) refl

pub never_none : (path : List ℕ) (sources : List Source) (files : List program.Source) → IsFirst path sources → AllZip IsRead sources files → file_at (program_of files) path ≡ None → ⊥
never_none path sources files first zips none = let both = sym (first_file path sources files first zips) ∙ none in cc

module _ (sources : List Source) (path : List ℕ) (turns : ℕ) (files : List program.Source) (read : AllZip IsRead sources files)
    (old new : Whole) (last : End) (begins : Begins (program_of files) path old) (goes : Goes old last new) (given : new.given ≡ old.given + turns) where
  pub ends_so : EndsAs sources path turns last (output_of new)
  ends_so =
      let ends = goes.ends (program_of files) path begins.follows in
      let all_turns : new.given ≡ turns = omega (arith, given, begins.given) in
      record {
        run = ends.run;
        runs = record { files = files; read = read; is = subst (λ n. plain (program_of files) path n ≡ Some ends.run) all_turns ends.is };
        ends = ends.end;
        prints = ends.output;
      }

-- ---- the sources as files, one after another

-- those that are left are read to files that follow those that were made
abbrev pub Follow : List Source → List Source → List program.Source → Type 0
Follow all left made = (rest : List program.Source) → AllZip IsRead left rest → AllZip IsRead all (made ++ rest)
