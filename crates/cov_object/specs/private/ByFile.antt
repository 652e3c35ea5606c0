-- What each member of a coverage map tells, for private clauses.
use Rattle.std.specs.Prelude.{◌≡◌, ℕ, List, [], ◌∷◌, map, Bool, true, false, Result, Ok, IfOk, String, string_bytes}
use Rattle.std.specs.declared.alloc.Global.{Global}
use Rattle.json.specs.Token.{Token, begin_object}
use Rattle.serde_json.specs.Data.{Members, no_members, member}
use Rattle.cov_object.specs.declared.fault.CoverageFault.{CoverageFault}
use Rattle.cov_object.specs.declared.file.FileCoverage.{FileCoverage}
use Rattle.cov_object.specs.Read.{after, file_of}

-- a file or the fault that it has, beside its key
abbrev pub Answer : Type 0
Answer = List ℕ × Result FileCoverage CoverageFault

-- the answer of each member
abbrev pub answers : Members → List Answer
answers no_members = []
answers (member key value rest) = (key, file_of key value) ∷ answers rest

-- the answers that a map from keys holds
abbrev pub answered : List (String Global × Result FileCoverage CoverageFault) → List Answer
answered entries = map (λ entry. (string_bytes entry.0, entry.1)) entries

-- all files, or the first fault
abbrev pub all_or_first : List Answer → Result (List FileCoverage) CoverageFault
all_or_first [] = Ok []
all_or_first (answer ∷ rest) = after answer.1 (λ file. after (all_or_first rest) (λ files. Ok (file ∷ files)))

-- the path of each file is its key
abbrev pub AreUnderTheirKeys : List Answer → Type 0
AreUnderTheirKeys [] = Unit {0}
AreUnderTheirKeys (answer ∷ rest) = IfOk answer.1 (λ file. file.path ≡ answer.0) × AreUnderTheirKeys rest

-- the brace that opens an object comes first
abbrev pub begins_object : List Token → Bool
begins_object (begin_object ∷ rest) = true
begins_object _ = false
