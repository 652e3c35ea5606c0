-- The machine runs the first of the files that stand for sources, as it is defined.
use Rattle.std.proofs.Common.{◌≡◌, ℕ, ◌+◌, ◌<◌, List, [], ◌∷◌, length, Some, None, refl, sym, ◌∙◌, subst, arith}
use Rattle.std.specs.Prelude.{Result, Ok, Err, IfOk, IfErr}
use Rattle.std.specs.List.{AllZip}
use Rattle.std.specs.Str.{bytes_eq}
use Rattle.std.proofs.lemmas.Iterator.Adapters.{position_from-zero}
use Rattle.std.proofs.lemmas.Slice.Eq.{bytes_eq-Decides}
use Rattle.js_coverage.specs.Coverage.{IsCoverage}
use Rattle.js_meaning.specs.declared.outcome.End.{End}
use Rattle.js_meaning.specs.Program as program
use Rattle.js_meaning.specs.Program.{file_at}
use Rattle.js_meaning.specs.World.{plain}
use Rattle.js_machine.specs.Whole.{Whole, Begins, EndsAs, Goes, heap_in, output_of}
use Rattle.cov_object.specs.declared.file.FileCoverage.{FileCoverage}
use Rattle.cov_sources.specs.declared.source.Source.{Source}
use Rattle.cov_sim.specs.Refused.{AreAccepted}
use Rattle.cov_run.specs.Exec.{program_of}
use Rattle.cov_run.specs.Session.{IsCounting, IsFault, Leaves, first_path}
use Rattle.cov_run.specs.private.Session.{Ends, HasLeft, HasLeftNone, IsUnmade}
use Rattle.cov_run.specs.declared.fault.SessionFault.{SessionFault}
use Rattle.cov_run.specs.declared.fault.SessionFault.TheVariants as fault
use Rattle.cov_run.specs.declared.sessions.SessionEnd.{SessionEnd}

-- ---- the files

-- a file is at the path of the first source
pub some_first : (sources : List Source) (files : List program.Source) → 0 < length sources → AllZip IsCounting sources files → file_at (program_of files) (first_path sources) ≡ None → ⊥
some_first [] files some zips none = omega (arith, some)
some_first (s ∷ sources) [] some zips none = zips
some_first (s ∷ sources) (f ∷ files) some zips none =
    let found : file_at (program_of (f ∷ files)) s.path ≡ Some 0 =
    position_from-zero (λ (file : program.Source). bytes_eq file.path s.path) (f ∷ files) ∙ rw ((bytes_eq-Decides f.path s.path).1 zips.0.path) refl in
    let both = sym found ∙ none in cc

-- sources for which files stand are accepted
pub are_accepted : (sources : List Source) (files : List program.Source) → AllZip IsCounting sources files → AreAccepted sources
are_accepted [] files zips = tt
are_accepted (s ∷ sources) [] zips = absurd zips
are_accepted (s ∷ sources) (f ∷ files) zips = ((zips.0.tree, zips.0.accepted), are_accepted sources files zips.1)

-- ---- the run

module _ (p : program.Sources) (path : List ℕ) (steps : ℕ) (old new : Whole) (last : End) (begins : Begins p path old) (goes : Goes old last new)
    (given : new.given ≡ old.given + steps) where
  ends : EndsAs p path last new
  ends = goes.ends p path begins.follows

  all_steps : new.given ≡ steps
  all_steps = omega (arith, given, begins.given)

  pub has_left : (left : SessionEnd) → left.end ≡ last → left.output ≡ output_of new → IsCoverage (heap_in new) left.coverage → HasLeft p path steps left
  has_left left end output covers = record {
    run = ends.run;
    is = subst (λ n. plain p path n ≡ Some ends.run) all_steps ends.is;
    ends = ends.end ∙ sym end;
    prints = ends.output ∙ sym output;
    covers = subst (λ h. IsCoverage h left.coverage) (sym ends.heap) covers;
  }

  pub has_left_none : ((files : List FileCoverage) → IsCoverage (heap_in new) files → ⊥) → HasLeftNone p path steps
  has_left_none none = record {
    run = ends.run;
    is = subst (λ n. plain p path n ≡ Some ends.run) all_steps ends.is;
    none = λ files is. none files (subst (λ h. IsCoverage h files) ends.heap is);
  }

-- ---- the same of the sources

module _ (sources : List Source) (steps : ℕ) (files : List program.Source) (counting : AllZip IsCounting sources files) where
  pub leaves : (result : Result SessionEnd SessionFault) → Ends (program_of files) (first_path sources) steps result →
      IfOk result (λ left. Leaves sources steps left.end left.output left.coverage)
  leaves (Ok left) run = record {
    run = run.run;
    counts = record { files = files; counting = counting; is = run.is };
    ends = run.ends;
    prints = run.prints;
    covers = run.covers;
  }
  leaves (Err why) run = tt

  pub faults : (result : Result SessionEnd SessionFault) → Ends (program_of files) (first_path sources) steps result → IfErr result (λ why. IsFault sources steps why)
  faults (Ok left) run = tt
  faults (Err (fault.Refused at because)) run = absurd run
  faults (Err fault.NotCoverage) run = record { run = run.run; counts = record { files = files; counting = counting; is = run.is }; none = run.none }
  faults (Err fault.Memory) run = tt

pub unmade : (sources : List Source) (steps : ℕ) (why : SessionFault) → IsUnmade sources why → IsFault sources steps why
unmade sources steps (fault.Refused at because) is = is
unmade sources steps fault.NotCoverage is = absurd is
unmade sources steps fault.Memory is = tt
