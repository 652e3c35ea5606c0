-- The next of the slots that are left.
use Rattle.std.specs.Prelude.{List, [], ◌∷◌, Option, Some, None}
use Rattle.js_grammar.specs.declared.slot.Slot.{Slot}

abbrev pub first_slot : List Slot → Option Slot
first_slot [] = None
first_slot (s ∷ ss) = Some s
