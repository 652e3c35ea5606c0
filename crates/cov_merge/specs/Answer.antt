-- What a call answers: a value, or the count that is too large.
use Rattle.std.specs.Prelude.{◌≡◌, Result, Ok, Err}
use Rattle.cov_merge.specs.declared.fault.MergeFault.{MergeFault}
use Rattle.cov_merge.specs.declared.fault.MergeFault.TheVariants.{CountTooLarge, Memory}

-- goes on with a value, if it is one
abbrev pub and_then : {X Y : Type 0} → Result X MergeFault → (X → Result Y MergeFault) → Result Y MergeFault
and_then (Ok x) f = f x
and_then (Err fault) f = Err fault

-- the answer is this, or memory ran out
abbrev pub Answers : {X : Type 0} → Result X MergeFault → Result X MergeFault → Type 0
Answers (Ok x) answer = answer ≡ Ok x
Answers (Err (CountTooLarge key sum)) answer = answer ≡ Err (CountTooLarge key sum)
Answers (Err Memory) answer = Unit {0}
