-- The early rules that a file breaks, and the first of them.
use Rattle.std.specs.Prelude.{Bool, List, [], ◌∷◌, ◌++◌, Option, if◌then◌else◌}
use Rattle.js_tree.specs.Plain.{File}
use Rattle.js_terms.specs.declared.place.Pos.{Pos}
use Rattle.js_walk.specs.Walk.{walk_file}
use Rattle.js_scopes.specs.Mentions.{mentions_file, nothing_told}
use Rattle.js_scopes.specs.Order.{first}
use Rattle.js_scopes.specs.Reserved.{is_reserved, is_strict}
use Rattle.js_scopes.specs.Scopes.{own_of_file, own_of_part}
use Rattle.js_scopes.specs.declared.mention.Mention.{Mention}
use Rattle.js_scopes.specs.declared.mention.Mention.TheVariants as mention
use Rattle.js_scopes.specs.declared.fault.ScopeFault.{ScopeFault}
use Rattle.js_scopes.specs.declared.fault.ScopeFaultKind.TheVariants as kind

-- a name that may be none is bound or referred to, or a word that strict code reserves is a label
abbrev pub reserved_if : Bool → Pos → List ScopeFault
reserved_if holds at = if holds then record { at = at; kind = kind.Reserved } ∷ [] else []

abbrev pub reserved_by : Bool → Mention → List ScopeFault
reserved_by again (mention.Variable at name) = reserved_if (is_reserved again name) at
reserved_by again (mention.Label at name) = reserved_if (is_strict name) at
reserved_by again (mention.Member _) = []
reserved_by again (mention.Required _) = []

abbrev pub reserved_among : Bool → List Mention → List ScopeFault
reserved_among again [] = []
reserved_among again (x ∷ xs) = reserved_by again x ++ reserved_among again xs

-- all that is broken; `again` allows the name `globalThis`
unfoldable pub faults : Bool → File → List ScopeFault
faults again file = reserved_among again (mentions_file file) ++ own_of_file file ++ walk_file own_of_part nothing_told file tt

-- the first rule that a file breaks
abbrev pub first_fault : Bool → File → Option ScopeFault
first_fault again file = first (faults again file)
