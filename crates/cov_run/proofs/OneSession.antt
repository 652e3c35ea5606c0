-- Sources that count their own coverage have one run, it leaves one coverage at most, and none of those that are loaded is refused.
use Rattle.std.proofs.Common.{◌≡◌, ℕ, List, [], ◌∷◌, ◌++◌, ◌<◌, length, Option, refl, sym, ap, ◌∙◌, subst, arith}
use Rattle.std.specs.Prelude.{Result, Ok}
use Rattle.std.specs.List.{AllZip}
use Rattle.js_tree.specs.Plain.{File}
use Rattle.js_scopes.specs.Accepted.{Accepted}
use Rattle.js_coverage.proofs.Levels.{one_tree}
use Rattle.js_meaning.specs.Program as program
use Rattle.js_meaning.specs.World.{plain}
use Rattle.cov_object.specs.Data.{coverage_of_data}
use Rattle.cov_object.specs.declared.fault.CoverageFault.{CoverageFault}
use Rattle.cov_object.specs.declared.file.FileCoverage.{FileCoverage}
use Rattle.cov_sources.specs.declared.source.Source.{Source}
use Rattle.cov_sim.specs.Counting.{RunsAs, itself, again}
use Rattle.cov_base.specs.Store.{Held}
use Rattle.cov_run.specs.Exec.{IsFirst, IsRead, program_of}
use Rattle.cov_run.specs.Laws.{OneCoverage, OneSession, RefusesNone}
use Rattle.cov_run.specs.Loaded.{Loaded}
use Rattle.cov_run.specs.Session.{IsCounting, first_path}
use Rattle.cov_run.proofs.Sources.{all_are_read, begins_with_entry, some_is}

-- ---- one run

same_tree : (source : Source) (tree : File) {one other : File} → RunsAs source tree one → RunsAs source tree other → one ≡ other
same_tree source tree (itself is) (itself also) = refl
same_tree source tree (itself is) (again not there) = let both = sym is ∙ not in absurd cc
same_tree source tree (again not here) (itself is) = let both = sym is ∙ not in absurd cc
same_tree source tree (again {other = one} not here) (again {other = other} also there) = sym (here.only other there.accepted.reads)

same_file : (source : Source) (one other : program.Source) → IsCounting source one → IsCounting source other → one ≡ other
same_file source one other here there =
    let sources : here.tree ≡ there.tree = sym (here.only there.tree there.accepted.reads) in
    let trees : one.tree ≡ other.tree = same_tree source there.tree (subst (λ t. RunsAs source t one.tree) sources here.runs) there.runs in
    let paths : one.path ≡ other.path = here.path ∙ sym there.path in
    let counts : one.counted ≡ other.counted = here.uncounted ∙ sym there.uncounted in
    ap (λ p. record one { path = p }) paths
    ∙ ap (λ t. record { path = other.path; tree = t; counted = one.counted }) trees
    ∙ ap (λ c. record { path = other.path; tree = other.tree; counted = c }) counts

same_files : (sources : List Source) (ones others : List program.Source) → AllZip IsCounting sources ones → AllZip IsCounting sources others → ones ≡ others
same_files [] [] [] here there = refl
same_files [] [] (o ∷ others) here there = absurd there
same_files [] (f ∷ ones) others here there = absurd here
same_files (s ∷ sources) [] others here there = absurd here
same_files (s ∷ sources) (f ∷ ones) [] here there = absurd there
same_files (s ∷ sources) (f ∷ ones) (o ∷ others) here there =
    ap (λ x. x ∷ ones) (same_file s f o here.0 there.0) ∙ ap (λ rest. o ∷ rest) (same_files sources ones others here.1 there.1)

pub one_session : OneSession
one_session sources steps one other here there =
    some_is (sym here.is ∙ ap (λ files. plain (program_of files) (first_path sources) steps) (same_files sources here.files there.files here.counting there.counting) ∙ there.is)

-- ---- one coverage

ok_is : {one other : List FileCoverage} → (◌≡◌) {A = Result (List FileCoverage) CoverageFault} (Ok one) (Ok other) → one ≡ other
ok_is is = cc

pub one_coverage : OneCoverage
one_coverage heap one other here there =
    ok_is (sym here.told ∙ ap coverage_of_data (one_tree heap here.tree there.tree here.is there.is) ∙ there.told)

-- ---- no refusal

is_source : (before : List Source) (source : Source) (after : List Source) (files : List program.Source) → AllZip IsRead (before ++ source ∷ after) files → (tree : File) × Accepted source.bytes tree
is_source [] source after [] zips = absurd zips
is_source [] source after (f ∷ files) zips = (f.tree, zips.0.accepted)
is_source (b ∷ before) source after [] zips = absurd zips
is_source (b ∷ before) source after (f ∷ files) zips = is_source before source after files zips.1

pub refuses_none : RefusesNone
refuses_none told entry exclude sources loads path because refused =
    let read = all_are_read told entry exclude sources loads in
    let found = is_source refused.before refused.source refused.after read.0 (subst (λ s. AllZip IsRead s read.0) refused.split read.1) in
    refused.no_source found.0 found.1

-- there is one at least
some_first : (entry : List ℕ) (sources : List Source) → IsFirst entry sources → 0 < length sources
some_first entry [] first = absurd first
some_first entry (s ∷ sources) first = omega arith

pub some_loaded : (told : Option Held) (entry : List ℕ) (exclude : List (List ℕ)) (sources : List Source) → Loaded told entry exclude (Ok sources) → 0 < length sources
some_loaded told entry exclude sources loads = some_first entry sources (begins_with_entry told entry exclude sources loads)
