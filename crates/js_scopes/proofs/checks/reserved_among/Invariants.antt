-- What is left of the list is found after what is found already.
use Rattle.std.proofs.Common.{◌≡◌, ◌++◌, drop}
use Rattle.js_scopes.specs.Checks.{reserved_among}
use Rattle.js_scopes.proofs.checks.reserved_among.Given as goal

abbrev pub invariant-loop-mention : goal.invariant-loop-mention
invariant-loop-mention l = l.out ++ reserved_among l.again (drop l.mention-index l.mentions) ≡ l.fn.out ++ reserved_among l.again l.mentions
