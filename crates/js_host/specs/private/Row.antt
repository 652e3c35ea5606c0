-- What is read of a row.
use Rattle.std.specs.Prelude.{ℕ, List, Option}
use Rattle.std.specs.Borrow.{Bor}
use Rattle.js_value.specs.declared.built_in.BuiltIn.{BuiltIn}
use Rattle.js_value.specs.declared.built_in.Place.{Place}
use Rattle.js_value.specs.Realm.{Row}

-- a row of the table of functions, as the code holds it
abbrev pub row_seen : BuiltIn × Option Place × Bor (List ℕ) × ℕ → Row
row_seen r = record { function = r.0; holder = r.1; name = r.2.now; length = r.3 }
