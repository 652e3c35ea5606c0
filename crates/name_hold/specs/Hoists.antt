-- Where the counter of an initializer may stand before its declaration.
use Rattle.std.specs.Prelude.{Bool, false}
use Rattle.name_hold.specs.declared.place.Place.{Place}
use Rattle.name_hold.specs.declared.place.Place.TheVariants as place

abbrev pub can_hoist : Place → Bool → Bool
can_hoist place.File first = first
can_hoist place.Body first = first
can_hoist place.Block first = first
can_hoist place.Other first = false
