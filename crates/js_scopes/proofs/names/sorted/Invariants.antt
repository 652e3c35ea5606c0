-- The names of the mentions that came are in the set.
use Rattle.std.proofs.Common.{◌≡◌, [], map}
use Rattle.std.specs.String.{string_bytes}
use Rattle.js_scopes.specs.Names.{with_mentions}
use Rattle.js_scopes.proofs.names.sorted.Given as goal

abbrev pub invariant-loop-mention : goal.invariant-loop-mention
invariant-loop-mention l = map string_bytes l.names.keys ≡ with_mentions [] l.yielded
