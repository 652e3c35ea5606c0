-- Parts of a text, from the places that a syntax tree tells.
use Rattle.std.specs.Prelude.{Some}
use Rattle.js_terms.specs.declared.place.Pos.{Pos}
use Rattle.js_terms.specs.declared.place.Loc.{Loc}
use Rattle.cov_object.specs.declared.location.Position.{Position}
use Rattle.cov_object.specs.declared.location.Location.{Location}

abbrev pub position_at : Pos → Position
position_at pos = record { line = pos.line; column = Some pos.column }

abbrev pub location_at : Loc → Location
location_at loc = record { start = Some (position_at loc.start); end = Some (position_at loc.end) }
