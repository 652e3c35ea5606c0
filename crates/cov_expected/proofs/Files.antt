-- The data of files are their coverage.
use Rattle.std.proofs.Common.{◌≡◌, ℕ, ◌≤◌, List, [], ◌∷◌, map, fold, if◌then◌else◌, Err, refl, sym, ap, ◌∙◌, arith, le-leb}
use Rattle.std.specs.Ordering.{match_ordering}
use Rattle.std.specs.declared.cmp.Ordering.{Ordering}
use Rattle.std.specs.declared.cmp.Ordering.TheVariants.{Less, Equal, Greater}
use Rattle.std.specs.List.{AllByRecursion}
use Rattle.std.specs.List.Sorted.{IsStrictlySortedBy}
use Rattle.std.proofs.lemmas.Cmp.{nat_list_cmp_total}
use Rattle.std.proofs.lemmas.Map.Lookups.{exact_bytes}
use Rattle.serde_json.specs.Data.{Members as DataMembers, no_members as nothing, object, put}
use Rattle.serde_json.specs.Find.{as_object}
use Rattle.serde_json.specs.Read.{max_depth}
use Rattle.cov_object.specs.Data.{value_of as value_of_tree, depth_of}
use Rattle.cov_object.specs.Files.{placed, AreInOrder, HaveSmallIds}
use Rattle.cov_object.specs.Json.{by_key, file_data, files_data}
use Rattle.cov_object.specs.Read.{files_or_fault}
use Rattle.cov_object.specs.private.Formed.{IsFormed, AreFormed}
use Rattle.cov_object.specs.declared.fault.CoverageFault.TheVariants as fault
use Rattle.cov_object.specs.declared.file.FileCoverage.{FileCoverage}
use Rattle.cov_object.proofs.ReadBack.{value-read}
use Rattle.js_value.specs.Functions.{name_units}
use Rattle.js_coverage.specs.Coverage.{property_within}
use Rattle.js_counter.specs.Represents.{Members}
use Rattle.cov_expected.specs.Told.{value_of, entries_of, member_nesting, IsNew, MembersAreTellable, json_of, files_members}
use Rattle.cov_expected.specs.Expected.{in_order}
use Rattle.cov_expected.specs.Laws.{IsOther, AreApart, HavePlainMaps, TellsFiles}
use Rattle.cov_expected.proofs.Texts.{text_back, paired}
use Rattle.cov_expected.proofs.Ordered.{cmp, turned, Entry, put_entry, Away, put_past}
use Rattle.cov_expected.proofs.Values.{Value, value_back, tellable, nests, file_value}
use Rattle.cov_expected.proofs.Data.{tells_data}

abbrev entry : FileCoverage → Entry
entry file = (file.path, file_data file)

-- what is asked of the files, with small ids and plain maps
record Asked (files : List FileCoverage) : Type 0 where
  formed : AreFormed files
  small : HaveSmallIds files
  mapped : HavePlainMaps files

rest : (file : FileCoverage) (files : List FileCoverage) → Asked (file ∷ files) → Asked files
rest file files asked = record { formed = asked.formed.1; small = asked.small.1; mapped = asked.mapped.1 }

first : (file : FileCoverage) (files : List FileCoverage) → Asked (file ∷ files) → Value 6 (file_data file)
first file files asked = file_value file asked.formed.0 asked.small.0.0 asked.small.0.1 asked.small.0.2 asked.mapped.0

new_path : (file : FileCoverage) (files : List FileCoverage) → IsFormed file → AreFormed files → IsOther file.path files → IsNew (name_units file.path) (files_members files)
new_path file [] formed all other = tt
new_path file (next ∷ files) formed all other = (
  (λ same. other.0 (sym (text_back file.path formed.path_text) ∙ same ∙ text_back next.path all.0.path_text)),
  new_path file files formed all.1 other.1,
)

files_tellable : (files : List FileCoverage) → Asked files → AreApart files → MembersAreTellable (files_members files)
files_tellable [] asked apart = tt
files_tellable (file ∷ files) asked apart = (
  paired file.path asked.formed.0.path_text,
  tellable (file_data file) (first file files asked).good,
  new_path file files asked.formed.0 asked.formed.1 apart.0,
  files_tellable files (rest file files asked) apart.1,
)

files_nest : (files : List FileCoverage) → Asked files → member_nesting (files_members files) ≤ 6
files_nest [] asked = omega arith
files_nest (file ∷ files) asked = omega (arith, nests (file_data file), (first file files asked).within, files_nest files (rest file files asked))

files_entries : (files : List FileCoverage) → Asked files → entries_of (files_members files) ≡ map entry files
files_entries [] asked = refl
files_entries (file ∷ files) asked =
    ap (λ t. (t, value_of (json_of (file_data file))) ∷ entries_of (files_members files)) (text_back file.path asked.formed.0.path_text)
    ∙ ap (λ d. (file.path, d) ∷ entries_of (files_members files)) (value_back (file_data file) (first file files asked).good)
    ∙ ap (λ es. entry file ∷ es) (files_entries files (rest file files asked))

-- ---- in order

away : (path : List ℕ) (files : List FileCoverage) → IsOther path files → Away path (map entry files)
away path [] other = tt
away path (file ∷ files) other = ((λ same. other.0 (exact_bytes path file.path same)), away path files other.1)

other_by : (o : Ordering) (path : List ℕ) (file next : FileCoverage) (files more : List FileCoverage) → (path ≡ file.path → ⊥) → IsOther path (next ∷ files) → IsOther path more →
    IsOther path (match_ordering o (file ∷ next ∷ files) (file ∷ files) (next ∷ more))
other_by Less path file next files more here there later = (here, there)
other_by Equal path file next files more here there later = (here, there.1)
other_by Greater path file next files more here there later = (there.0, later)

other_placed : (path : List ℕ) (file : FileCoverage) (files : List FileCoverage) → (path ≡ file.path → ⊥) → IsOther path files → IsOther path (placed file files)
other_placed path file [] here there = (here, tt)
other_placed path file (next ∷ files) here there = other_by (cmp file.path next.path) path file next files (placed file files) here there (other_placed path file files here there.1)

other_in_order : (path : List ℕ) (files : List FileCoverage) → IsOther path files → IsOther path (in_order files)
other_in_order path [] other = tt
other_in_order path (file ∷ files) other = other_placed path file (in_order files) other.0 (other_in_order path files other.1)

-- what is placed among files
module _ (file : FileCoverage) where
  record IsPlaced (files all : List FileCoverage) : Type 0 where
    puts : (ms : DataMembers) → fold put_entry ms (map entry all) ≡ put file.path (file_data file) (fold put_entry ms (map entry files))
    asked : Asked all

  together : (one : FileCoverage) (files : List FileCoverage) → Asked (one ∷ []) → Asked files → Asked (one ∷ files)
  together one files a b = record { formed = (a.formed.0, b.formed); small = (a.small.0, b.small); mapped = (a.mapped.0, b.mapped) }

  alone : (one : FileCoverage) (files : List FileCoverage) → Asked (one ∷ files) → Asked (one ∷ [])
  alone one files a = record { formed = (a.formed.0, tt); small = (a.small.0, tt); mapped = (a.mapped.0, tt) }

  placed_by : (o : Ordering) (next : FileCoverage) (files : List FileCoverage) → cmp file.path next.path ≡ o → IsOther file.path (next ∷ files) → Asked (file ∷ []) → Asked (next ∷ files) →
      IsPlaced files (placed file files) → IsPlaced (next ∷ files) (match_ordering o (file ∷ next ∷ files) (file ∷ files) (next ∷ placed file files))
  placed_by Less next files is other one asked later = record {
    puts = λ ms. put_past file.path (file_data file) (map entry (next ∷ files)) ms (away file.path (next ∷ files) other);
    asked = together file (next ∷ files) one asked;
  }
  placed_by Equal next files is other one asked later = absurd (other.0 (exact_bytes file.path next.path is))
  placed_by Greater next files is other one asked later = record {
    puts = λ ms. later.puts (put next.path (file_data next) ms);
    asked = together next (placed file files) (alone next files asked) later.asked;
  }

  is_placed : (files : List FileCoverage) → IsOther file.path files → Asked (file ∷ []) → Asked files → IsPlaced files (placed file files)
  is_placed [] other one asked = record { puts = λ ms. refl; asked = one }
  is_placed (next ∷ files) other one asked =
      placed_by (cmp file.path next.path) next files refl other one asked (is_placed files other.1 one (rest next files asked))

  -- a path below all of them
  abbrev Below : List ℕ → List FileCoverage → Type 0
  Below path files = AllByRecursion (λ y. cmp path y ≡ Less) (map (λ f. f.path) files)

  below_by : (o : Ordering) (path : List ℕ) (next : FileCoverage) (files : List FileCoverage) → cmp path file.path ≡ Less → Below path (next ∷ files) → Below path (placed file files) →
      Below path (match_ordering o (file ∷ next ∷ files) (file ∷ files) (next ∷ placed file files))
  below_by Less path next files here all later = (here, all)
  below_by Equal path next files here all later = (here, all.1)
  below_by Greater path next files here all later = (all.0, later)

  below_placed : (path : List ℕ) (files : List FileCoverage) → cmp path file.path ≡ Less → Below path files → Below path (placed file files)
  below_placed path [] here all = (here, tt)
  below_placed path (next ∷ files) here all = below_by (cmp file.path next.path) path next files here all (below_placed path files here all.1)

  further : (a b : List ℕ) (files : List FileCoverage) → cmp a b ≡ Less → Below b files → Below a files
  further a b [] less all = tt
  further a b (next ∷ files) less all = (nat_list_cmp_total.trans a b next.path less all.0, further a b files less all.1)

  sorted_by : (o : Ordering) (next : FileCoverage) (files : List FileCoverage) → cmp file.path next.path ≡ o → IsOther file.path (next ∷ files) → AreInOrder (next ∷ files) → AreInOrder (placed file files) →
      AreInOrder (match_ordering o (file ∷ next ∷ files) (file ∷ files) (next ∷ placed file files))
  unfolding IsStrictlySortedBy
  sorted_by Less next files is other ordered later = ((is, further file.path next.path files is ordered.0), ordered)
  sorted_by Equal next files is other ordered later = absurd (other.0 (exact_bytes file.path next.path is))
  sorted_by Greater next files is other ordered later = (below_placed next.path files (turned file.path next.path Greater is) ordered.0, later)

  sorted_placed : (files : List FileCoverage) → IsOther file.path files → AreInOrder files → AreInOrder (placed file files)
  unfolding IsStrictlySortedBy
  sorted_placed [] other ordered = (tt, tt)
  sorted_placed (next ∷ files) other ordered = sorted_by (cmp file.path next.path) next files refl other ordered (sorted_placed files other.1 ordered.1)

all_asked : (files : List FileCoverage) → AreApart files → Asked files → Asked (in_order files)
all_asked [] apart asked = asked
all_asked (file ∷ files) apart asked =
    (is_placed file (in_order files) (other_in_order file.path files apart.0) (alone file file files asked) (all_asked files apart.1 (rest file files asked))).asked

all_in_order : (files : List FileCoverage) → AreApart files → AreInOrder (in_order files)
unfolding IsStrictlySortedBy
all_in_order [] apart = tt
all_in_order (file ∷ files) apart = sorted_placed file (in_order files) (other_in_order file.path files apart.0) (all_in_order files apart.1)

same_members : (files : List FileCoverage) → AreApart files → Asked files → by_key (map entry (in_order files)) ≡ by_key (map entry files)
same_members [] apart asked = refl
same_members (file ∷ files) apart asked =
    (is_placed file (in_order files) (other_in_order file.path files apart.0) (alone file file files asked) (all_asked files apart.1 (rest file files asked))).puts nothing
    ∙ ap (put file.path (file_data file)) (same_members files apart.1 (rest file files asked))
    ∙ sym (put_past file.path (file_data file) (map entry files) nothing (away file.path files apart.0))

-- ---- the coverage

pub tells_files : TellsFiles
tells_files h property files owns r apart formed small mapped =
    let asked : Asked files = record { formed = formed; small = small; mapped = mapped } in
    let ordered : Asked (in_order files) = all_asked files apart asked in
    let t = tells_data h property.value (Members (files_members files)) r (files_tellable files asked apart) 7 (omega (arith, files_nest files asked)) in
    let low : depth_of t.found ≤ max_depth = omega (arith, t.deep, files_nest files asked) in
    let value : value_of_tree t.found ≡ files_data (in_order files) = t.value ∙ ap (λ es. object (by_key es)) (files_entries files asked) ∙ ap object (sym (same_members files apart asked)) in
    record {
      tree = t.found;
      is = record { levels = 7; is = ap (property_within 7 h) owns ∙ t.is };
      told = ap (λ b. if b then files_or_fault (as_object (value_of_tree t.found)) else Err fault.BadJson) (le-leb (depth_of t.found) max_depth low)
          ∙ ap (λ d. files_or_fault (as_object d)) value
          ∙ value-read (in_order files) (all_in_order files apart) ordered.formed ordered.small;
    }
