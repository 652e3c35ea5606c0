-- What the counters of a file are, and what its data tell after a log.
use Rattle.std.specs.Prelude.{ℕ, List, [], ◌∷◌, codes, nat_eq, if◌then◌else◌}
use Rattle.js_terms.specs.Mark.{Mark}
use Rattle.js_terms.specs.declared.construct.ConstructKind.{ConstructKind}
use Rattle.js_terms.specs.declared.construct.ConstructKind.TheVariants as construct_kind
use Rattle.js_terms.specs.declared.words.Spelled.{Spelled}
use Rattle.js_value.specs.Functions.{name_units}
use Rattle.js_counter.specs.Represents.{Json, JsonMembers, no_members, members, json_ticked}
use Rattle.js_counter.specs.Literals.{Literal, data_of}
use Rattle.js_counter.specs.Steady.{index_key}

-- the name of a file's function, and the function's number; the file's path and its hash, as they are spelt; and its data at the start
pub record FileCounters : Type 0 where
  pub name : List ℕ
  pub first : ℕ
  pub path : Spelled
  pub hash : Spelled
  pub zero : Literal

-- where a mark's number stands in its file's data: `s[i]`, `f[i]`, `b[i][j]`
abbrev pub kind_key : ConstructKind → List ℕ
kind_key construct_kind.Statement = name_units (codes "s")
kind_key construct_kind.Function = name_units (codes "f")
kind_key construct_kind.Branch = name_units (codes "b")

abbrev pub number_keys : ConstructKind → (number path : ℕ) → List (List ℕ)
number_keys construct_kind.Statement number path = index_key number ∷ []
number_keys construct_kind.Function number path = index_key number ∷ []
number_keys construct_kind.Branch number path = index_key number ∷ index_key path ∷ []

abbrev pub way : Mark → List (List ℕ)
way mark = kind_key mark.kind ∷ number_keys mark.kind mark.number mark.path

-- a file's data after a log: one more at the place of each mark of the file that was entered
abbrev pub counted_once : ℕ → Mark → Json → Json
counted_once file mark x = if nat_eq mark.file file then json_ticked x (way mark) else x

abbrev pub counted_by : ℕ → List Mark → Json → Json
counted_by file [] x = x
counted_by file (mark ∷ log) x = counted_by file log (counted_once file mark x)

-- the coverage of the files started, in their order, each under its path; of no other file
abbrev pub expected : (ℕ → FileCounters) → (started : List ℕ) → (log : List Mark) → JsonMembers
expected files [] log = no_members
expected files (file ∷ started) log = members (files file).path.units (counted_by file log (data_of (files file).zero)) (expected files started log)
