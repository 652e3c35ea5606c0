-- The first value of a name.
use Rattle.std.specs.Prelude.{Bool, true, false, Option, Some, None}
use Rattle.js_value.specs.declared.value.Value.{Value}
use Rattle.js_value.specs.Realm.{undefined}

abbrev pub first_value : Bool → Option Value
first_value true = Some undefined
first_value false = None
