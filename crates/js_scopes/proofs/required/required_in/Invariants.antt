-- What is left of the list is asked for after what is out already.
use Rattle.std.proofs.Common.{◌≡◌, ◌++◌, drop}
use Rattle.js_scopes.specs.Required.{required_of}
use Rattle.js_scopes.proofs.required.required_in.Given as goal

abbrev pub invariant-loop-mention : goal.invariant-loop-mention
invariant-loop-mention l = l.required ++ required_of (drop l.mention-index l.found) ≡ required_of l.found
