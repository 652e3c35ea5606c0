-- Whether a value has properties.
use Rattle.std.specs.Prelude.{Ok}
use Rattle.js_value.specs.declared.value.Value.{Value}
use Rattle.js_value.specs.Arguments.{Or, ◌>>=◌}
use Rattle.js_value.specs.Members.{coercible}

abbrev pub coerced : Value → Or (Unit {0})
coerced v = coercible v >>= λ w. Ok tt
