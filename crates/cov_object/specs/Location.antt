-- Parts of a text that stand nowhere, and whether two parts are the same.
use Rattle.std.specs.Prelude.{Bool, ◌==◌, ◌&&◌, nat_eq, None}
use Rattle.std.specs.Option.{option_eq}
use Rattle.cov_object.specs.declared.location.Position.{Position}
use Rattle.cov_object.specs.declared.location.Location.{Location}

-- no part at all
abbrev pub nowhere : Location
nowhere = record { start = None; end = None }

abbrev pub same_position : Position → Position → Bool
same_position a b = (a.line == b.line) && option_eq nat_eq a.column b.column

abbrev pub same_location : Location → Location → Bool
same_location a b = option_eq same_position a.start b.start && option_eq same_position a.end b.end
