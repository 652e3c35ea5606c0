-- The set has the names that aren't left.
use Rattle.std.proofs.Common.{◌≡◌, List, ℕ, ◌||◌, drop}
use Rattle.js_meaning.specs.Scopes.{stands_in}
use Rattle.js_code.specs.private.Seen.{seen}
use Rattle.js_code.proofs.once.seen_of.Given as goal

abbrev pub invariant-loop-name : goal.invariant-loop-name
invariant-loop-name l = (q : List ℕ) → stands_in q (seen l.seen) || stands_in q (drop l.name-index l.names) ≡ stands_in q l.names
