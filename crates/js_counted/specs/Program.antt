-- The counters of a program's files, and the law of its two runs.
use Rattle.std.specs.Prelude.{◌≡◌, ◌≢◌, ℕ, ◌+◌, ◌-◌, ◌^◌, Bool, true, false, IsTrue, List, [], ◌++◌, codes, Some, None, slice_get}
use Rattle.std.specs.Str.{bytes_eq}
use Rattle.js_terms.specs.Mark.{Mark}
use Rattle.js_tree.specs.Plain.{Stmts, no_stmt}
use Rattle.js_tree.specs.Codes.{Code, functions_stmts}
use Rattle.js_value.specs.Functions.{name_units}
use Rattle.js_value.specs.Realm.{opening}
use Rattle.js_meaning.specs.Program.{Sources, linked}
use Rattle.cov_rewritten.specs.Counters.{counter}
use Rattle.cov_rewritten.specs.Rewritten.{after_directives}
use Rattle.js_suits.specs.Settings.{Setting}
use Rattle.js_suits.specs.Programs.{start_of, instrumented}
use Rattle.js_suits.specs.Laws.{stands, shift_of, has_construct}
use Rattle.js_lockstep.specs.Worlds.{root}
use Rattle.js_counter.specs.Represents.{Text}
use Rattle.js_counter.specs.Literals.{data_of, KeysApart}
use Rattle.js_counter.specs.First.{hash_, Bare}
use Rattle.js_counter.specs.Starts.{opening_of}
use Rattle.js_counted.specs.Files.{FileCounters, way}
use Rattle.js_counted.specs.Numbers.{json_child, number_in, IsCountable}
use Rattle.js_counted.specs.Holds.{coverage_text, Told, Holds}

-- what stands before a file's statements: its function, and a call of it
abbrev pub preamble_of : FileCounters → Stmts
preamble_of f = opening_of [] f.name f.path f.hash coverage_text f.zero f.first (f.first + 1) no_stmt

abbrev pub preamble_codes : (ℕ → FileCounters) → ℕ → List Code
preamble_codes files file = functions_stmts (preamble_of (files file))

abbrev pub is_counted : Sources → ℕ → Bool
is_counted p file = elim (slice_get p.files file) [ None ↦ false | Some source ↦ source.counted ]

-- the code of a program's counters: `N().s[i]++` and the like, with the preamble of each file, up to 2^53 - 1 entries
abbrev pub counter_code : (ℕ → FileCounters) → Sources → Setting
counter_code files p = record {
  name = λ file. (files file).name;
  Codes = λ h code other. IsTrue (stands (preamble_codes files) (linked p) h code other);
  shift = shift_of (preamble_codes files) (linked p);
  Has = λ mark. IsTrue (has_construct p mark);
  code = λ mark. counter (files mark.file).name mark;
  opened = λ file xs. after_directives (preamble_of (files file)) xs;
  Hidden = λ w log started k. Unit {0};
  Counted = λ log started k. Unit {0};
  limit = 2 ^ 53 - 1;
}

-- the program with its counters
abbrev pub counted_program : (ℕ → FileCounters) → Sources → Sources
counted_program files p = instrumented (counter_code files p) (linked p)

-- the same code, with what is held for it
abbrev pub counters : (ℕ → FileCounters) → Sources → Setting
counters files p = record (counter_code files p) { Hidden = Holds files (is_counted p) (counted_program files p); Counted = Told files (is_counted p) }

-- what is asked of them: names begin with `cov_`; no two files counted have one path, and none has one that all objects have as a
-- property; a file's data have its hash, each key once, and a zero for each of its marks; and its function has its number
pub record Prepared (files : ℕ → FileCounters) (p : Sources) : Type 0 where
  pub named : (file : ℕ) → (more : List ℕ) × ((files file).name ≡ codes "cov_" ++ more)
  pub keys : (file : ℕ) → KeysApart (files file).zero
  pub hash : (file : ℕ) → is_counted p file ≡ true → json_child (name_units hash_) (data_of (files file).zero) ≡ Some (Text (files file).hash.units)
  pub zeros : (mark : Mark) → IsTrue (has_construct p mark) → IsCountable mark × (number_in (data_of (files mark.file).zero) (way mark) ≡ Some 0)
  pub paths : (i j : ℕ) → i ≢ j → is_counted p i ≡ true → is_counted p j ≡ true → bytes_eq (files i).path.units (files j).path.units ≡ false
  pub inherited : (file : ℕ) → is_counted p file ≡ true → Bare opening (Some root) (files file).path.units
  pub coverage_inherited : Bare opening (Some root) coverage_text.units
  pub first : (file : ℕ) → is_counted p file ≡ true → (files file).first ≡ start_of (counted_program files p) file
