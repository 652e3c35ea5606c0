-- What words ask for is within bounds: a branch of the reading after another.
use Rattle.std.proofs.Common.{◌≡◌, ℕ, ◌≤◌, Bool, true, false, List, [], ◌∷◌, ◌++◌, Option, None, Some, if◌then◌else◌, nat_eq, codes, refl}
use Rattle.std.specs.Prelude.{nat_le, option_and_then, option_map}
use Rattle.std.specs.List.{ends_with}
use Rattle.std.specs.Str.{bytes_eq}
use Rattle.std.proofs.lemmas.Bool.{leb-true}
use Rattle.clap.specs.Walk.{Row, Text, first_of}
use Rattle.path_globs.specs.NormalForm.{normal}
use Rattle.path_globs.specs.Source.{if_source, source_path}
use Rattle.cov_words.specs.declared.command.Command.{Command}
use Rattle.cov_words.specs.declared.command.Command.TheVariants.{Help, OnSource, Instrument, OnCoverage, OnV8}
use Rattle.cov_words.specs.declared.command.CoverageTask.{CoverageTask}
use Rattle.cov_words.specs.declared.command.SourceTask.{SourceTask}
use Rattle.cov_words.specs.declared.command.SourceTask.TheVariants.{Maps, Exec, Run, Demo}
use Rattle.cov_words.specs.Laws.{AreSourcePaths, AsksWithin, IsWithin}
use Rattle.cov_words.specs.Words as spec
use Rattle.cov_words.specs.Words.{max_turns}

-- either branch of a test
by_test : {A : Type 0} (P : A → Type 0) (test : Bool) (x y : A) → (test ≡ true → P x) → (test ≡ false → P y) → P (if test then x else y)
by_test P test x y holds fails = by test holds fails
  where
    by : (b : Bool) → (b ≡ true → P x) → (b ≡ false → P y) → P (if b then x else y)
    by true one other = one refl
    by false one other = other refl

-- of a task that of the turns
abbrev HasTurns : SourceTask → Type 0
HasTurns (Run turns out exclude) = turns ≤ max_turns
HasTurns other = Unit {0}

abbrev EndsSo : Option (List ℕ) → Type 0
EndsSo None = Unit {0}
EndsSo (Some path) = ends_with nat_eq path (codes ".js") ≡ true

source_ends : (path : Option (List ℕ)) → EndsSo (option_and_then if_source path)
source_ends None = tt
source_ends (Some path) = by_test EndsSo (ends_with nat_eq path (codes ".js")) (Some path) None (λ is. is) (λ is. tt)

file_ends : (word : Option Text) → EndsSo (option_and_then source_path word)
file_ends None = tt
file_ends (Some word) = source_ends (normal word)

-- ---- on a source

on_file : (task : SourceTask) (file : Option (List ℕ)) → HasTurns task → EndsSo file → IsWithin (option_map (OnSource task) file)
on_file task None few ends = tt
on_file Maps (Some file) few ends = tt
on_file (Exec turns) (Some file) few ends = tt
on_file (Run turns out exclude) (Some file) few ends = (ends, few)
on_file (Demo seed count) (Some file) few ends = ends

abbrev MayHaveTurns : Option SourceTask → Type 0
MayHaveTurns None = Unit {0}
MayHaveTurns (Some task) = HasTurns task

on_source : (task : Option SourceTask) (rows : List Row) → MayHaveTurns task → IsWithin (spec.on_source task rows)
on_source None rows few = tt
on_source (Some task) rows few = on_file task (spec.file_in rows) few (file_ends (first_of (codes "file") rows))

executed : (turns : Option ℕ) → MayHaveTurns (option_map Exec turns)
executed None = tt
executed (Some turns) = tt

run_with : (turns : ℕ) (exclude : List (List ℕ)) (out : Option (List ℕ)) → turns ≤ max_turns → MayHaveTurns (option_map (λ path. Run turns path exclude) out)
run_with turns exclude None few = tt
run_with turns exclude (Some out) few = few

abbrev AreFew : Option ℕ → Type 0
AreFew None = Unit {0}
AreFew (Some turns) = turns ≤ max_turns

few_turns : (number : Option ℕ) → AreFew (option_and_then spec.if_turns number)
few_turns None = tt
few_turns (Some n) = by_test AreFew (nat_le n max_turns) (Some n) None (λ is. leb-true n max_turns is) (λ is. tt)

run : (turns : Option ℕ) (out : Option (List ℕ)) (exclude : List (List ℕ)) → AreFew turns →
    MayHaveTurns (option_and_then (λ n. option_map (λ path. Run n path exclude) out) turns)
run None out exclude few = tt
run (Some turns) out exclude few = run_with turns exclude out few

-- ---- all else

demo : (seed count : Option ℕ) → IsWithin (option_and_then (λ n. option_map (spec.demo_of n) count) seed)
demo None count = tt
demo (Some seed) None = tt
demo (Some seed) (Some count) = refl

-- the files of `instrument`, one after another
one_more : (paths : List (List ℕ)) (path : List ℕ) → AreSourcePaths paths → EndsSo (Some path) → AreSourcePaths (paths ++ path ∷ [])
one_more [] path are ends = (ends, tt)
one_more (first ∷ paths) path are ends = (are.0, one_more paths path are.1 ends)

with_one : (paths : List (List ℕ)) (path : List ℕ) → AreSourcePaths paths → EndsSo (Some path) → AreSourcePaths (spec.with_path paths path)
with_one paths path are ends = by_test AreSourcePaths (spec.is_among path paths) paths (paths ++ path ∷ []) (λ is. are) (λ is. one_more paths path are ends)

abbrev AllEndSo : Option (List (List ℕ)) → Type 0
AllEndSo None = Unit {0}
AllEndSo (Some files) = AreSourcePaths files

all_paths : (paths : List (List ℕ)) (words : List Text) → AreSourcePaths paths → AllEndSo (spec.with_sources paths words)
all_paths paths [] are = are
all_paths paths (word ∷ words) are = by (source_path word) (file_ends (Some word)) (λ path ends. all_paths (spec.with_path paths path) words (with_one paths path are ends))
  where
    by : (found : Option (List ℕ)) → EndsSo found → ((path : List ℕ) → EndsSo (Some path) → AllEndSo (spec.with_sources (spec.with_path paths path) words)) →
        AllEndSo (option_and_then (λ path. spec.with_sources (spec.with_path paths path) words) found)
    by None ends rest = tt
    by (Some path) ends rest = rest path ends

sources : (words : Option (List Text)) → AllEndSo (option_and_then spec.sources_of words)
sources None = tt
sources (Some words) = all_paths [] words tt

instrument : (out : Option (List ℕ)) (files : Option (List (List ℕ))) → AllEndSo files → IsWithin (option_and_then (λ path. option_map (Instrument path) files) out)
instrument None files ends = tt
instrument (Some out) None ends = tt
instrument (Some out) (Some files) ends = ends

on_v8 : (out : Option (List ℕ)) (files : Option (List (List ℕ))) → IsWithin (option_and_then (λ path. option_map (OnV8 path) files) out)
on_v8 None files = tt
on_v8 (Some out) None = tt
on_v8 (Some out) (Some files) = tt

on_coverage : (task : Option CoverageTask) (files : Option (List (List ℕ))) → IsWithin (option_and_then (λ what. option_map (OnCoverage what) files) task)
on_coverage None files = tt
on_coverage (Some task) None = tt
on_coverage (Some task) (Some files) = tt

-- ---- by the command's name

by_name : (name word : Text) (x y : Option Command) → IsWithin x → IsWithin y → IsWithin (if bytes_eq name word then x else y)
by_name name word x y this rest = by_test IsWithin (bytes_eq name word) x y (λ is. this) (λ is. rest)

request : (name : Text) (rows : List Row) → IsWithin (spec.request_in (name, rows))
request name rows =
    by_name name (codes "maps") (spec.on_source (Some Maps) rows) _ (on_source (Some Maps) rows tt)
    (by_name name (codes "exec") (spec.on_source (spec.exec_in rows) rows) _ (on_source (spec.exec_in rows) rows (executed (spec.turns_in rows)))
    (by_name name (codes "instrument") (spec.instrument_in rows) _ (instrument (spec.out_in rows) (spec.sources_in rows) (sources (spec.files_in rows)))
    (by_name name (codes "run") (spec.on_source (spec.run_in rows) rows) _
    (on_source (spec.run_in rows) rows (run (spec.turns_in rows) (spec.out_in rows) (spec.exclude_in rows) (few_turns (spec.number_found (codes "turns") rows))))
    (by_name name (codes "demo") (spec.demo_in rows) _ (demo (spec.seed_in rows) (spec.count_in rows))
    (by_name name (codes "v8") (spec.on_v8 rows) _ (on_v8 (spec.out_in rows) (spec.files_in rows))
    (on_coverage (spec.coverage_task name rows) (spec.files_in rows)))))))

found : (what : Option (Text × List Row)) → IsWithin (option_and_then spec.request_in what)
found None = tt
found (Some (name, rows)) = request name rows

pub asks_within : AsksWithin
asks_within words = by_test IsWithin (spec.is_help words) (Some Help) _ (λ is. tt) (λ is. found (spec.found_in words))
