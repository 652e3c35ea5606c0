-- Which faults are of the text: all but want of memory.
use Rattle.std.specs.Prelude.{Bool, true, false, List}
use Rattle.std.specs.List.{list_all}
use Rattle.js_scopes.specs.declared.fault.ScopeFault.{ScopeFault}
use Rattle.js_scopes.specs.declared.fault.ScopeFaultKind.{ScopeFaultKind}
use Rattle.js_scopes.specs.declared.fault.ScopeFaultKind.TheVariants as kind

abbrev pub is_rule : ScopeFaultKind → Bool
is_rule kind.Duplicate = true
is_rule kind.Label = true
is_rule kind.BreakOutside = true
is_rule kind.ContinueOutside = true
is_rule kind.BadTarget = true
is_rule kind.Reserved = true
is_rule kind.Memory = false

abbrev pub are_rules : List ScopeFault → Bool
are_rules faults = list_all (λ fault. is_rule fault.kind) faults
