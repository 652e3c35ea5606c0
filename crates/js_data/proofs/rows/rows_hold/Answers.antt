use Rattle.js_data.proofs.RowsLemmas.{made, units_at, searches, parts, numerals, mathematics}
use Rattle.js_data.proofs.rows.rows_hold.Goals as goal

pub returns : goal.returns
returns c = record { made = made; units_at = units_at; searches = searches; parts = parts; numerals = numerals; mathematics = mathematics }
