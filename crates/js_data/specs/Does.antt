-- What the code of a built-in function answers, by its definition.
use Rattle.std.specs.Prelude.{◌≡◌, Result, Ok, Err}
use Rattle.js_value.specs.declared.deed.Halt.{Halt}
use Rattle.js_value.specs.declared.deed.Halt.TheVariants.{Throw, Refuse, Memory}
use Rattle.js_value.specs.Arguments.{Or, throw, refuse}

-- the code does what is defined; for memory it may want
abbrev pub Does : {A : Type 0} → Or A → Result A Halt → Type 0
Does d (Ok a) = d ≡ Ok a
Does d (Err (Throw c)) = d ≡ throw c
Does d (Err (Refuse k)) = d ≡ refuse k
Does d (Err Memory) = Unit {0}
