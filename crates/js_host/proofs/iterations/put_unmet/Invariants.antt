use Rattle.std.proofs.Common.{◌≡◌, ◌++◌, drop}
use Rattle.indexmap.specs.IndexSet.{keys}
use Rattle.js_value.specs.Iterations.{unmet}
use Rattle.js_host.proofs.iterations.put_unmet.Given as goal

abbrev pub invariant-loop-key : goal.invariant-loop-key
invariant-loop-key l = l.keys ++ unmet (keys l.met) (drop l.key-index l.own) ≡ l.initial.keys ++ unmet (keys l.met) l.own
