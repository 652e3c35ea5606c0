-- What is left of the list says it.
use Rattle.std.proofs.Common.{◌≡◌, ◌&&◌, map, drop}
use Rattle.std.specs.List.{list_any}
use Rattle.std.specs.Str.{bytes_eq}
use Rattle.js_scopes.specs.private.Plain.{plain_round}
use Rattle.js_scopes.proofs.labels.has_loop_label.Given as goal

abbrev pub invariant-loop-round : goal.invariant-loop-round
invariant-loop-round l = list_any (λ round. bytes_eq l.name round.name && round.is_loop) (map plain_round (drop l.round-index l.labels)) ≡ list_any (λ round. bytes_eq l.name round.name && round.is_loop) (map plain_round l.labels)
