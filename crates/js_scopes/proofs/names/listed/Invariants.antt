-- The list has the names that came.
use Rattle.std.proofs.Common.{◌≡◌, ◌++◌, map}
use Rattle.std.specs.String.{string_bytes}
use Rattle.js_scopes.proofs.names.listed.Given as goal

abbrev pub invariant-loop-name : goal.invariant-loop-name
invariant-loop-name l = l.list ++ map string_bytes l.name-iterator ≡ map string_bytes l.fn.names.keys
