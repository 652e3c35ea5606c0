-- What is left goes to the names so far, without those of the set.
use Rattle.std.proofs.Common.{◌≡◌, ◌++◌, drop}
use Rattle.js_meaning.specs.Scopes.{once}
use Rattle.js_code.specs.private.Seen.{seen}
use Rattle.js_code.proofs.once.once.Given as goal

abbrev pub invariant-loop-name : goal.invariant-loop-name
invariant-loop-name l = l.kept ++ once (seen l.seen) (drop l.name-index l.names) ≡ once l.before l.names
