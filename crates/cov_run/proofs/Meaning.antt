-- A run of sources that count their own coverage ends, prints and counts as their meaning does.
use Rattle.std.proofs.Common.{◌≡◌, ℕ, ◌-◌, ◌^◌, ◌<◌, ◌≤◌, Bool, true, false, not, List, [], ◌∷◌, length, Option, Some, refl, sym, ap, ◌∙◌, subst, arith}
use Rattle.std.specs.Prelude.{Result, Ok, Err, IfOk, IfErr}
use Rattle.std.specs.List.{AllZip}
use Rattle.std.specs.Str.{bytes_eq}
use Rattle.std.proofs.lemmas.Iterator.Adapters.{position_from-zero}
use Rattle.std.proofs.lemmas.Slice.Eq.{bytes_eq-Decides}
use Rattle.js_tree.specs.Plain.{File}
use Rattle.js_scopes.specs.Accepted.{Accepted}
use Rattle.js_meaning.specs.declared.outcome.End.{End}
use Rattle.js_meaning.specs.Program as program
use Rattle.js_meaning.specs.Program.{file_at}
use Rattle.js_meaning.specs.World.{World, PlainRun, told, meaning, world}
use Rattle.js_coverage.specs.Coverage.{IsCoverage}
use Rattle.cov_object.specs.declared.file.FileCoverage.{FileCoverage}
use Rattle.cov_expected.specs.Expected.{expected}
use Rattle.cov_sources.specs.declared.source.Source.{Source}
use Rattle.cov_sim.specs.Counting.{RunsAs, itself, again}
use Rattle.cov_sim.specs.Headline.{AreReplaced, no_file, kept, by_tree, file_of, Headline, HavePaths, zeros, HaveTexts}
use Rattle.cov_sim.specs.Instrumented.{instrumented, instrumented_as, is_left_out, mapped_text, AreInstrumented, none, passed_over, counted, left, made}
use Rattle.cov_sim.specs.declared.instrumented.Instrumented.{Instrumented}
use Rattle.cov_run.specs.Exec.{program_of}
use Rattle.cov_run.proofs.OneSession.{one_coverage}
use Rattle.cov_run.specs.Meant.{AreApart, IsFile, IsMeant, SessionsMean}
use Rattle.cov_run.specs.Session.{IsCounting, IsFault, Leaves, LeavesNone, first_path}
use Rattle.cov_run.specs.declared.fault.SessionFault.{SessionFault}
use Rattle.cov_run.specs.declared.fault.SessionFault.TheVariants as fault
use Rattle.cov_run.specs.declared.sessions.SessionEnd.{SessionEnd}

-- ---- the files that stand for the sources, and the sources as files

-- the files of a program that counts, in whose place these run
record Files (sources : List Source) (replaced : List program.Source) : Type 0 where
  files : List program.Source
  texts : List Instrumented
  instrumented : AreInstrumented sources texts
  are : AllZip IsFile sources files
  stand : AreReplaced sources files replaced

-- one file that stands for a source
stands : (source : Source) (file : program.Source) → file.path ≡ source.path → file.counted ≡ false → {other : File} → file.tree ≡ other → file ≡ file_of source other false
stands source file path uncounted {other = other} tree =
    ap (λ p. record file { path = p }) path
    ∙ ap (λ t. record { path = source.path; tree = t; counted = file.counted }) tree
    ∙ ap (λ c. record { path = source.path; tree = other; counted = c }) uncounted

is_file : (source : Source) (tree : File) (counted : Bool) → Accepted source.bytes tree → is_left_out source tree ≡ not counted → IsFile source (file_of source tree counted)
is_file source tree true accepted is = record { path = refl; accepted = accepted; counted = sym (ap not is) }
is_file source tree false accepted is = record { path = refl; accepted = accepted; counted = sym (ap not is) }

one_file : (source : Source) (file : program.Source) (is : IsCounting source file) (sources : List Source) (rest : List program.Source) → Files sources rest → Files (source ∷ sources) (file ∷ rest)
one_file source file is sources rest more = by file.tree refl is.runs
  where
    by : (t : File) → file.tree ≡ t → RunsAs source is.tree t → Files (source ∷ sources) (file ∷ rest)
    by t same (itself out) = record {
      files = file_of source is.tree false ∷ more.files;
      texts = more.texts;
      instrumented = passed_over is.tree is.accepted (left out) more.instrumented;
      are = (is_file source is.tree false is.accepted out, more.are);
      stand = subst (λ f. AreReplaced (source ∷ sources) (file_of source is.tree false ∷ more.files) (f ∷ rest)) (sym (stands source file is.path is.uncounted same)) (kept is.tree is.accepted out more.stand);
    }
    by t same (again not_left reads) = record {
      files = file_of source is.tree true ∷ more.files;
      texts = instrumented_as source (mapped_text source.path source.bytes source.input is.tree) ∷ more.texts;
      instrumented = counted is.tree (mapped_text source.path source.bytes source.input is.tree) is.accepted (made not_left (record { tree = t; accepted = reads.accepted; same = reads.same })) more.instrumented;
      are = (is_file source is.tree true is.accepted not_left, more.are);
      stand = subst (λ f. AreReplaced (source ∷ sources) (file_of source is.tree true ∷ more.files) (f ∷ rest)) (sym (stands source file is.path is.uncounted same)) (by_tree is.tree t is.accepted not_left reads.same more.stand);
    }

all_files : (sources : List Source) (replaced : List program.Source) → AllZip IsCounting sources replaced → Files sources replaced
all_files [] [] zips = record { files = []; texts = []; instrumented = none; are = tt; stand = no_file }
all_files [] (f ∷ rest) zips = absurd zips
all_files (s ∷ sources) [] zips = absurd zips
all_files (s ∷ sources) (f ∷ rest) zips = one_file s f zips.0 sources rest (all_files sources rest zips.1)

-- ---- the first file is there

some_world : (sources : List Source) (files : List program.Source) (steps : ℕ) → 0 < length sources → AllZip IsFile sources files → (w : World) × (world (program_of files) (first_path sources) steps ≡ Some w)
some_world [] files steps some zips = absurd (omega (arith, some))
some_world (s ∷ sources) [] steps some zips = absurd zips
some_world (s ∷ sources) (f ∷ files) steps some zips =
    let found : file_at (program_of (f ∷ files)) s.path ≡ Some 0 =
    position_from-zero (λ (file : program.Source). bytes_eq file.path s.path) (f ∷ files) ∙ rw ((bytes_eq-Decides f.path s.path).1 zips.0.path) refl in
    (told (meaning (program_of (f ∷ files)) 0 steps), rw found refl)

run_is : {one other : PlainRun} → (◌≡◌) {A = Option PlainRun} (Some one) (Some other) → one ≡ other
run_is is = cc

-- ---- their paths

have_paths : (sources : List Source) (replaced : List program.Source) → AllZip IsCounting sources replaced → AreApart sources → HavePaths sources
have_paths [] replaced zips apart = tt
have_paths (s ∷ sources) [] zips apart = absurd zips
have_paths (s ∷ sources) (f ∷ rest) zips apart = ((zips.0.utf8, apart.0, apart.1), have_paths sources rest zips.1 apart.2)

have_texts : (sources : List Source) (replaced : List program.Source) → AllZip IsCounting sources replaced → HaveTexts sources
have_texts [] replaced zips = tt
have_texts (s ∷ sources) [] zips = absurd zips
have_texts (s ∷ sources) (f ∷ rest) zips = (zips.0.texts, have_texts sources rest zips.1)

-- ---- the law

pub sessions_mean : Headline → SessionsMean
sessions_mean headline sources steps run apart some within counts =
    let all = all_files sources counts.files counts.counting in
    let first = some_world sources all.files steps some all.are in
    let same = (headline sources all.texts (have_paths sources counts.files counts.counting apart) (have_texts sources counts.files counts.counting) all.instrumented).trees all.files counts.files all.stand (first_path sources) steps within first.0 first.1 in
    let one : same.0 ≡ run = run_is (sym same.1 ∙ counts.is) in
    let coverage = expected (zeros sources all.files) first.0.log first.0.started in (
      coverage,
      subst (λ (r : PlainRun). IsCoverage r.store.heap coverage) one same.2.coverage,
      record {
        files = all.files;
        w = first.0;
        means = record { are = all.are; is = first.1 };
        ends = ap (λ (r : PlainRun). r.end) (sym one) ∙ same.2.end;
        prints = ap (λ (r : PlainRun). r.store.output) (sym one) ∙ same.2.output;
        counts = refl;
      },
    )

-- what a session answers

module _ (sources : List Source) (steps : ℕ) (mean : SessionsMean) (apart : AreApart sources) (some : 0 < length sources) (within : steps ≤ 2 ^ 53 - 1) where
  pub left_is_meant : (end : End) (output : List ℕ) (coverage : List FileCoverage) → Leaves sources steps end output coverage → IsMeant sources steps end output coverage
  left_is_meant end output coverage ended =
      let found = mean sources steps ended.run apart some within ended.counts in
      subst (λ c. IsMeant sources steps end output c) (one_coverage ended.run.store.heap found.0 coverage found.1 ended.covers)
      (subst (λ e. IsMeant sources steps e output found.0) ended.ends (subst (λ o. IsMeant sources steps ended.run.end o found.0) ended.prints found.2))

  pub never_none : LeavesNone sources steps → ⊥
  never_none ended = let found = mean sources steps ended.run apart some within ended.counts in ended.none found.0 found.1

  pub result_is_meant : (r : Result SessionEnd SessionFault) → IfOk r (λ ended. Leaves sources steps ended.end ended.output ended.coverage) → IfOk r (λ ended. IsMeant sources steps ended.end ended.output ended.coverage)
  result_is_meant (Ok ended) is = left_is_meant ended.end ended.output ended.coverage is
  result_is_meant (Err f) is = tt

  pub result_counts : (r : Result SessionEnd SessionFault) → IfErr r (λ f. IsFault sources steps f) → r ≡ Err fault.NotCoverage → ⊥
  result_counts (Ok ended) is e = cc
  result_counts (Err f) is e = never_none (subst (IsFault sources steps) (let same : f ≡ fault.NotCoverage = cc in same) is)
