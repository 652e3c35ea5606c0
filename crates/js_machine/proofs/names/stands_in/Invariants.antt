use Rattle.std.proofs.Common.{◌≡◌, drop}
use Rattle.js_meaning.specs.Scopes.{stands_in}
use Rattle.js_machine.specs.private.Config.{labels_in}
use Rattle.js_machine.proofs.names.stands_in.Given as goal

abbrev pub invariant-loop-label : goal.invariant-loop-label
invariant-loop-label l = stands_in l.name (labels_in l.code.nodes (drop l.label-index l.labels)) ≡ stands_in l.name (labels_in l.code.nodes l.labels)
