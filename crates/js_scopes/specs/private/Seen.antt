-- What a scope has declared of a name so far: how `Scopes`' clashes are answered without looking through all names again.
use Rattle.std.specs.Prelude.{ℕ, Bool, true, false, ◌||◌, List, [], ◌∷◌, if◌then◌else◌, unwrap_or}
use Rattle.std.specs.BTreeMap.{BTreeMap, get_by}
use Rattle.std.specs.Borrow.{Bor}
use Rattle.std.specs.Cmp.Lexicographic.{slice_cmp}
use Rattle.std.specs.Ordering.{nat_cmp}
use Rattle.std.specs.Str.{bytes_eq}
use Rattle.js_terms.specs.declared.place.Pos.{Pos}
use Rattle.js_scopes.specs.Declarations.{Declared}
use Rattle.js_scopes.specs.declared.binding.Binding.{Binding}
use Rattle.js_scopes.specs.declared.binding.Binding.TheVariants as binding
use Rattle.js_scopes.specs.declared.fault.ScopeFault.{ScopeFault}
use Rattle.js_scopes.specs.declared.fault.ScopeFaultKind.TheVariants as kind
use Rattle.js_scopes.specs.declared.seen.Seen.{Seen}

abbrev pub nothing_seen : Seen
nothing_seen = record { parameter = false; catch_name = false; lexical = false; var = false }

abbrev pub with_binding : Binding → Seen → Seen
with_binding binding.Parameter seen = record { parameter = true; catch_name = seen.catch_name; lexical = seen.lexical; var = seen.var }
with_binding binding.CatchName seen = record { parameter = seen.parameter; catch_name = true; lexical = seen.lexical; var = seen.var }
with_binding binding.Lexical seen = record { parameter = seen.parameter; catch_name = seen.catch_name; lexical = true; var = seen.var }
with_binding binding.Var seen = record { parameter = seen.parameter; catch_name = seen.catch_name; lexical = seen.lexical; var = true }

-- one that is declared like this may not stand beside it
abbrev pub seen_clashes : Seen → Binding → Bool
seen_clashes seen binding.Parameter = seen.parameter
seen_clashes seen binding.CatchName = false
seen_clashes seen binding.Lexical = seen.parameter || seen.catch_name || seen.lexical || seen.var
seen_clashes seen binding.Var = seen.catch_name || seen.lexical

-- what these declare of a name
abbrev pub seen_among : List ℕ → List Declared → Seen
seen_among name [] = nothing_seen
seen_among name (d ∷ ds) = if bytes_eq name d.name then with_binding d.how (seen_among name ds) else seen_among name ds

-- what a table has of a name
abbrev pub seen_in : BTreeMap (Bor (List ℕ)) Seen → List ℕ → Seen
seen_in table name = unwrap_or (get_by (λ k. slice_cmp nat_cmp name k.now) table) nothing_seen

abbrev pub found_if : Bool → Pos → List ScopeFault
found_if clashes at = if clashes then record { at = at; kind = kind.Duplicate } ∷ [] else []
