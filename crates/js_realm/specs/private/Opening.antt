-- The rows of the tables of the opening realm.
use Rattle.std.specs.Prelude.{ℕ, List, Option}
use Rattle.std.specs.Borrow.{Bor}
use Rattle.js_value.specs.declared.built_in.BuiltIn.{BuiltIn}
use Rattle.js_value.specs.declared.built_in.Place.{Place}
use Rattle.js_value.specs.Realm.{Row}

-- as the code holds them
abbrev pub row_seen : BuiltIn × Option Place × Bor (List ℕ) × ℕ → Row
row_seen r = record { function = r.0; holder = r.1; name = r.2.now; length = r.3 }

abbrev pub error_seen : Place × Bor (List ℕ) → Place × List ℕ
error_seen r = (r.0, r.1.now)

abbrev pub named_seen : Bor (List ℕ) × Place → List ℕ × Place
named_seen r = (r.0.now, r.1)
