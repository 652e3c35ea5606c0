-- What is told of the heap in the end is the coverage that is expected.
use Rattle.std.proofs.Common.{◌≡◌, ◌≢◌, ℕ, ◌^◌, ◌<◌, Bool, true, false, ◌||◌, List, [], ◌∷◌, length, Option, Some, None, refl, sym, ap, ap₂, subst, ◌∙◌, if◌then◌else◌}
use Rattle.std.specs.Prelude.{slice_get, nat_eq, nat_le, Ok, Err}
use Rattle.serde_json.specs.Find.{as_object}
use Rattle.serde_json.specs.Read.{max_depth}
use Rattle.std.specs.Str.{IsUtf8, chars}
use Rattle.std.proofs.lemmas.Bool.{eqb-false}
use Rattle.std.proofs.lemmas.Slice.Eq.{bytes_eq-Decides}
use Rattle.items.specs.declared.data.Data.TheVariants as form
use Rattle.js_terms.specs.Mark.{Mark}
use Rattle.js_value.specs.declared.built_in.Place.TheVariants as place
use Rattle.js_value.specs.State.{Property, Heap}
use Rattle.js_value.specs.Functions.{name_units}
use Rattle.js_value.specs.Objects.{own}
use Rattle.js_value.specs.Realm.{number_of}
use Rattle.js_value.specs.Running.{stands_in}
use Rattle.js_meaning.specs.Program.{Source, Sources}
use Rattle.js_coverage.specs.Coverage.{property_within, coverage_name, IsCoverage}
use Rattle.js_counter.specs.Represents.{Members, members, Represents}
use Rattle.js_counter.specs.Literals.{data_of}
use Rattle.js_counted.specs.Files as counters
use Rattle.js_counted.specs.Files.{FileCounters, counted_by}
use Rattle.js_counted.specs.Numbers.{AllCountable}
use Rattle.js_counted.specs.Holds.{coverage_text, Tells, EachOnce, Told}
use Rattle.js_counted.specs.Program.{is_counted, Prepared}
use Rattle.cov_object.specs.Data.{coverage_of_data}
use Rattle.cov_object.specs.Files.{HaveSmallIds}
use Rattle.cov_object.specs.Json.{file_data}
use Rattle.cov_object.specs.Read.{files_or_fault}
use Rattle.cov_object.specs.declared.fault.CoverageFault.TheVariants as fault
use Rattle.cov_object.proofs.DataForms.{value_object, depth_object}
use Rattle.cov_object.specs.private.Formed.{AreFormed}
use Rattle.cov_object.specs.declared.file.FileCoverage.{FileCoverage}
use Rattle.cov_rewritten.specs.Preamble.{json_string}
use Rattle.cov_expected.specs.Told.{json_of, files_members}
use Rattle.cov_expected.specs.Expected.{counted_file, counted_files, expected}
use Rattle.cov_expected.specs.Laws.{IsOther, AreApart, HavePlainMaps, TellsFiles}
use Rattle.cov_counted.specs.Literals.{SpellsUnits}
use Rattle.cov_counted.specs.Accepted.{Content, path_of, zero_of, zero_at, HaveLiterals, files_of, IsTellable}
use Rattle.cov_counted.specs.Entries.{CountsEntries}
use Rattle.cov_again.proofs.Entries.{stays_tellable}

path_is : (content : Content) (o : Option Source) → (zero_of content o).path ≡ path_of o
path_is content None = refl
path_is content (Some source) = refl

-- one of two that isn't there is neither
neither : (a b : Bool) → (a || b) ≡ false → (a ≡ false) × (b ≡ false)
neither true b e = absurd (let z = e in cc)
neither false b e = (refl, e)

true_false : {b : Bool} → b ≡ true → b ≡ false → ⊥
true_false t f = let z : true ≡ false = sym t ∙ f in cc

coverage_named : coverage_text.units ≡ coverage_name
unfolding chars
coverage_named = refl

named : (h : Heap) (o : Option Property) → own h (number_of place.Global) coverage_text.units ≡ o → own h (number_of place.Global) coverage_name ≡ o
named h o e = subst (λ key. own h (number_of place.Global) key ≡ o) coverage_named e

-- where there is no `__coverage__`, nothing is told
nothing_told : coverage_of_data (form.Object []) ≡ Ok []
nothing_told = ap₂ (λ depth value. if nat_le depth max_depth then files_or_fault (as_object value) else Err fault.BadJson) (depth_object []) (value_object [])

nothing : (h : Heap) → own h (number_of place.Global) coverage_name ≡ None → IsCoverage h []
nothing h e = record { tree = form.Object []; is = record { levels = 0; is = ap (property_within 0 h) e }; told = nothing_told }

module _ (content : ℕ → Content) (p : Sources) (literals : HaveLiterals content p) (tellable : (file : ℕ) → IsTellable (zero_at content p file)) (prepared : Prepared (files_of content p literals) p) where
  abbrev files : ℕ → FileCounters
  files = files_of content p literals

  abbrev zero : ℕ → FileCoverage
  zero = zero_at content p

  module _ (spells : SpellsUnits) (counts : CountsEntries) where
    units_are : (file : ℕ) → (files file).path.units ≡ name_units (zero file).path
    units_are file =
        let o = slice_get p.files file in
        let e = path_is (content file) o in
        spells (path_of o) (subst IsUtf8 e (tellable file).formed.path_text) ∙ ap name_units (sym e)

    data_are : (log : List Mark) → AllCountable log → (file : ℕ) → counted_by file log (data_of (files file).zero) ≡ json_of (file_data (counted_file log file (zero file)))
    data_are log countable file =
        let t = tellable file in
        ap (counted_by file log) (literals file).tells ∙ counts file log (zero file) t.statements t.functions t.branches countable

    members_are : (log : List Mark) → AllCountable log → (started : List ℕ) → counters.expected files started log ≡ files_members (counted_files zero log started)
    members_are log countable [] = refl
    members_are log countable (file ∷ started) =
        ap (λ key. members key (counted_by file log (data_of (files file).zero)) (counters.expected files started log)) (units_are file)
        ∙ ap₂ (members (name_units (zero file).path)) (data_are log countable file) (members_are log countable started)

  -- ---- no two have one path

  apart : (i j : ℕ) → is_counted p i ≡ true → is_counted p j ≡ true → i ≢ j → (zero i).path ≡ (zero j).path → ⊥
  apart i j ci cj differ e =
      let o = slice_get p.files in
      let same : path_of (o i) ≡ path_of (o j) = sym (path_is (content i) (o i)) ∙ e ∙ path_is (content j) (o j) in
      let units = ap (λ w. (json_string w).units) same in
      true_false ((bytes_eq-Decides (files i).path.units (files j).path.units).1 units) (prepared.paths i j differ ci cj)

  others : (log : List Mark) (i : ℕ) (started : List ℕ) → is_counted p i ≡ true → stands_in i started ≡ false → EachOnce (is_counted p) started → IsOther (zero i).path (counted_files zero log started)
  others log i [] c s once = tt
  others log i (j ∷ started) c s once =
      let n = neither (nat_eq i j) (stands_in i started) s in
      (apart i j c once.0 (eqb-false i j n.0), others log i started c n.1 once.2)

  all_apart : (log : List Mark) (started : List ℕ) → EachOnce (is_counted p) started → AreApart (counted_files zero log started)
  all_apart log [] once = tt
  all_apart log (file ∷ started) once = (others log file started once.0 once.1 once.2, all_apart log started once.2)

  -- ---- all of them can be told

  module _ (log : List Mark) (short : length log < 2 ^ 53) where
    one : (file : ℕ) → IsTellable (counted_file log file (zero file))
    one file = stays_tellable log file short (content file) (slice_get p.files file) (tellable file)

    all_formed : (started : List ℕ) → AreFormed (counted_files zero log started)
    all_formed [] = tt
    all_formed (file ∷ started) = ((one file).formed, all_formed started)

    all_small : (started : List ℕ) → HaveSmallIds (counted_files zero log started)
    all_small [] = tt
    all_small (file ∷ started) = let t = one file in ((t.statements, t.functions, t.branches), all_small started)

    all_plain : (started : List ℕ) → HavePlainMaps (counted_files zero log started)
    all_plain [] = tt
    all_plain (file ∷ started) = ((one file).source_map, all_plain started)

  by_started : TellsFiles → SpellsUnits → CountsEntries → (log : List Mark) (started : List ℕ) (h : Heap) → length log < 2 ^ 53 → EachOnce (is_counted p) started → AllCountable log → Tells files log started h →
      IsCoverage h (expected zero log started)
  by_started tells spells counts log [] h short once countable t = nothing h (named h None t)
  by_started tells spells counts log (file ∷ started) h short once countable t =
      let fs = file ∷ started in
      tells h t.property (counted_files zero log fs) (named h (Some t.property) t.has)
      (subst (λ ms. Represents h t.property.value (Members ms)) (members_are spells counts log countable fs) t.tells)
      (all_apart log fs once) (all_formed log short fs) (all_small log short fs) (all_plain log short fs)

  pub told_coverage : TellsFiles → SpellsUnits → CountsEntries → (log : List Mark) (started : List ℕ) (h : Heap) → length log < 2 ^ 53 → Told (files_of content p literals) (is_counted p) log started h →
      IsCoverage h (expected (zero_at content p) log started)
  told_coverage tells spells counts log started h short t = by_started tells spells counts log started h short t.each_once t.countable t.tells
