use Rattle.std.proofs.Common.{◌++◌, map, take}
use Rattle.indexmap.specs.IndexSet.{keys}
use Rattle.js_value.specs.declared.key.Key.{Key}
use Rattle.js_host.specs.private.Met.{SameMet}
use Rattle.js_host.proofs.iterations.put_met.Given as goal

abbrev pub invariant-loop-key : goal.invariant-loop-key
invariant-loop-key l = SameMet (keys l.met) (map (λ (k : Key). k.key) (take l.key-index l.own) ++ keys l.initial.met)
