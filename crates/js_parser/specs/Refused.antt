-- Why a text is refused at a place.
use Rattle.std.specs.Prelude.{ℕ, List}
use Rattle.js_reading.specs.Reads.{Reaches, NoTree, Supported, LeftOut, TooHigh}
use Rattle.js_parser.specs.declared.refused.Refusal.{Refusal}
use Rattle.js_parser.specs.declared.refused.Refusal.TheVariants as why
use Rattle.js_parser.specs.declared.refused.Refused.{Refused}

abbrev pub Because : Refusal → List ℕ → ℕ → ℕ → Type 0
Because why.Syntax text place limit = NoTree text place × Supported text place
Because (why.Unsupported form) text place limit = LeftOut text place form
Because why.TooDeep text place limit = TooHigh text place limit
Because why.Memory text place limit = Reaches text place

-- at the place that is told, for the cause that is told
abbrev pub RefusesText : Refused → List ℕ → ℕ → Type 0
RefusesText refused text limit = Because refused.why text refused.at limit
