-- What one step answers.
use Rattle.std.specs.Prelude.{◌≡◌, ℕ, List, Option, IfSome, Result, Ok, Err}
use Rattle.cov_base.specs.Store.{Held}
use Rattle.cov_object.specs.declared.file.FileCoverage.{FileCoverage}
use Rattle.cov_inputs.specs.Inputs.{Sums, with_input}
use Rattle.cov_inputs.specs.declared.refusal.Refusal.{Refusal}
use Rattle.cov_inputs.specs.declared.fault.InputFault.{InputFault}
use Rattle.cov_inputs.specs.declared.fault.InputFault.TheVariants.{Refused, ReadFailed, Memory}

-- a fault is this refusal, or want of memory
abbrev pub IsRefusal : InputFault → Refusal → Type 0
IsRefusal (Refused why) wanted = why ≡ wanted
IsRefusal (ReadFailed path) wanted = ⊥
IsRefusal Memory wanted = Unit {0}

-- a fault is that the read failed, or want of memory
abbrev pub IsReadFailure : InputFault → List ℕ → Type 0
IsReadFailure (Refused why) path = ⊥
IsReadFailure (ReadFailed at) path = at ≡ path
IsReadFailure Memory path = Unit {0}

-- a call answers these sums, or want of memory
abbrev pub Answers : Result (List FileCoverage) InputFault → Sums → Type 0
Answers (Ok files) sums = sums ≡ Ok files
Answers (Err (Refused why)) sums = sums ≡ Err why
Answers (Err (ReadFailed path)) sums = ⊥
Answers (Err Memory) sums = Unit {0}

-- where the store tells what it holds, this is what it holds at the path
abbrev pub Holds : Option Held → List ℕ → Option (List ℕ) → Type 0
Holds told path found = IfSome told (λ at. at path ≡ found)

-- what is found at a path is merged with these sums, or refused, or the read failed
abbrev pub AnswersAt : Option Held → List FileCoverage → List ℕ → Result (List FileCoverage) InputFault → Type 0
AnswersAt told sums path (Ok files) = (found : Option (List ℕ)) × Holds told path found × (with_input sums (record { path = path; found = found }) ≡ Ok files)
AnswersAt told sums path (Err (Refused why)) = (found : Option (List ℕ)) × Holds told path found × (with_input sums (record { path = path; found = found }) ≡ Err why)
AnswersAt told sums path (Err (ReadFailed at)) = at ≡ path
AnswersAt told sums path (Err Memory) = Unit {0}
