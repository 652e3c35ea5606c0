-- Sources that are loaded begin with the entry, each is read, and they have one run.
use Rattle.std.proofs.Common.{◌≡◌, ℕ, List, [], ◌∷◌, ◌++◌, Option, Some, refl, sym, ap, ◌∙◌, subst}
use Rattle.std.specs.Prelude.{Result, Ok}
use Rattle.std.specs.List.{AllZip}
use Rattle.js_tree.specs.Plain.{File}
use Rattle.js_meaning.specs.Program as program
use Rattle.js_meaning.specs.World.{PlainRun, plain}
use Rattle.source_map.specs.declared.place.Parts.{Parts}
use Rattle.cov_base.specs.Store.{Held}
use Rattle.cov_sources.specs.declared.source.Source.{Source}
use Rattle.cov_run.specs.Asked.{Asked}
use Rattle.cov_run.specs.Exec.{AreRead, IsFirst, IsRead, program_of}
use Rattle.cov_run.specs.Laws.{AllAreRead, BeginsWithEntry, OneRun}
use Rattle.cov_run.specs.Loaded.{IsSource, Loads, Loaded, all, bad_map, failed, map_failed, map_too_long, no_file, one_more, passed_over, refused, source_of, too_long, too_many, wanting}
use Rattle.cov_run.specs.declared.fault.LoadFault.{LoadFault}

-- a source that was accepted, as a file
file_of : {told : Option Held} (exclude : List (List ℕ)) (path bytes : List ℕ) (input : Option Parts) {tree : File} → IsSource told path bytes tree → (file : program.Source) × IsRead (source_of exclude path bytes input) file
file_of exclude path bytes input {tree = tree} good = (
  record { path = path; tree = tree; counted = (source_of exclude path bytes input).counted },
  record { path = refl; accepted = good.accepted; only = good.only; counted = refl },
)

pub both_zip : {A B : Type 0} (R : A → B → Type 0) (xs : List A) (ys : List B) (x : A) (y : B) → AllZip R xs ys → R x y → AllZip R (xs ++ x ∷ []) (ys ++ y ∷ [])
both_zip R [] [] x y zips is = (is, tt)
both_zip R [] (b ∷ ys) x y zips is = absurd zips
both_zip R (a ∷ xs) [] x y zips is = absurd zips
both_zip R (a ∷ xs) (b ∷ ys) x y zips is = (zips.0, both_zip R xs ys x y zips.1 is)

module _ (told : Option Held) (exclude : List (List ℕ)) where
  reads_all : {sources : List Source} {asked : Asked} (outcome : Result (List Source) LoadFault) (last : List Source) → outcome ≡ Ok last →
      Loads told exclude sources asked outcome → AreRead sources → AreRead last
  reads_all outcome last is all read = subst AreRead (let same = is in cc) read
  reads_all outcome last is (one_more {sources = sources} {path = path} {bytes = bytes} {input = input} good has room rest) read =
      let file = file_of exclude path bytes input good in
      reads_all outcome last is rest (read.0 ++ file.0 ∷ [], both_zip IsRead sources read.0 (source_of exclude path bytes input) file.0 read.1 file.1)
  reads_all outcome last is (passed_over none rest) read = reads_all outcome last is rest read
  reads_all outcome last is (no_file none) read = absurd cc
  reads_all outcome last is (too_long long) read = absurd cc
  reads_all outcome last is (refused bad) read = absurd cc
  reads_all outcome last is (map_too_long good faulty) read = absurd cc
  reads_all outcome last is (bad_map good faulty other) read = absurd cc
  reads_all outcome last is (map_failed good) read = absurd cc
  reads_all outcome last is (too_many good has full) read = absurd cc
  reads_all outcome last is failed read = absurd cc
  reads_all outcome last is wanting read = absurd cc

  -- what is loaded already stays at the front
  keeps_first : (entry : List ℕ) {sources : List Source} {asked : Asked} (outcome : Result (List Source) LoadFault) (last : List Source) → outcome ≡ Ok last →
      Loads told exclude sources asked outcome → IsFirst entry sources → IsFirst entry last
  keeps_first entry outcome last is all first = subst (IsFirst entry) (let same = is in cc) first
  keeps_first entry outcome last is (one_more {sources = []} {path = path} {bytes = bytes} good has room rest) first = absurd first
  keeps_first entry outcome last is (one_more {sources = s ∷ sources} {path = path} {bytes = bytes} good has room rest) first = keeps_first entry outcome last is rest first
  keeps_first entry outcome last is (passed_over none rest) first = keeps_first entry outcome last is rest first
  keeps_first entry outcome last is (no_file none) first = absurd cc
  keeps_first entry outcome last is (too_long long) first = absurd cc
  keeps_first entry outcome last is (refused bad) first = absurd cc
  keeps_first entry outcome last is (map_too_long good faulty) first = absurd cc
  keeps_first entry outcome last is (bad_map good faulty other) first = absurd cc
  keeps_first entry outcome last is (map_failed good) first = absurd cc
  keeps_first entry outcome last is (too_many good has full) first = absurd cc
  keeps_first entry outcome last is failed first = absurd cc
  keeps_first entry outcome last is wanting first = absurd cc

  first_is_entry : (entry : List ℕ) (outcome : Result (List Source) LoadFault) (last : List Source) → outcome ≡ Ok last → Loaded told entry exclude outcome → IsFirst entry last
  first_is_entry entry outcome last is (one_more good has room rest) = keeps_first entry outcome last is rest refl
  first_is_entry entry outcome last is (no_file none) = absurd cc
  first_is_entry entry outcome last is (too_long long) = absurd cc
  first_is_entry entry outcome last is (refused bad) = absurd cc
  first_is_entry entry outcome last is (map_too_long good faulty) = absurd cc
  first_is_entry entry outcome last is (bad_map good faulty other) = absurd cc
  first_is_entry entry outcome last is (map_failed good) = absurd cc
  first_is_entry entry outcome last is (too_many good has full) = absurd cc
  first_is_entry entry outcome last is failed = absurd cc
  first_is_entry entry outcome last is wanting = absurd cc

pub all_are_read : AllAreRead
all_are_read told entry exclude sources loads = reads_all told exclude (Ok sources) sources refl loads ([], tt)

pub begins_with_entry : BeginsWithEntry
begins_with_entry told entry exclude sources loads = first_is_entry told exclude entry (Ok sources) sources refl loads

-- ---- one run

same_file : (source : Source) (one other : program.Source) → IsRead source one → IsRead source other → one ≡ other
same_file source one other here there =
    let trees : one.tree ≡ other.tree = sym (here.only other.tree there.accepted.reads) in
    let paths : one.path ≡ other.path = here.path ∙ sym there.path in
    let counts : one.counted ≡ other.counted = here.counted ∙ sym there.counted in
    ap (λ p. record one { path = p }) paths
    ∙ ap (λ t. record { path = other.path; tree = t; counted = one.counted }) trees
    ∙ ap (λ c. record { path = other.path; tree = other.tree; counted = c }) counts

pub same_files : (sources : List Source) (ones others : List program.Source) → AllZip IsRead sources ones → AllZip IsRead sources others → ones ≡ others
same_files [] [] [] here there = refl
same_files [] [] (o ∷ others) here there = absurd there
same_files [] (f ∷ ones) others here there = absurd here
same_files (s ∷ sources) [] others here there = absurd here
same_files (s ∷ sources) (f ∷ ones) [] here there = absurd there
same_files (s ∷ sources) (f ∷ ones) (o ∷ others) here there =
    ap (λ x. x ∷ ones) (same_file s f o here.0 there.0) ∙ ap (λ rest. o ∷ rest) (same_files sources ones others here.1 there.1)

pub some_is : {one other : PlainRun} → (◌≡◌) {A = Option PlainRun} (Some one) (Some other) → one ≡ other
some_is is = cc

pub one_run : OneRun
one_run sources path turns one other here there =
    some_is (sym here.is ∙ ap (λ files. plain (program_of files) path turns) (same_files sources here.files there.files here.read there.read) ∙ there.is)
