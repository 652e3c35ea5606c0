use Rattle.std.proofs.Common.{ap, ◌∙◌}
use Rattle.js_host.specs.Iteration.{plain_iteration}
use Rattle.js_machine.specs.private.Config.{goes_through}
use Rattle.js_machine.proofs.loop_actions.go_through_keys.Goals as goal

pub returns-clause-means : goal.returns-clause-means
returns-clause-means c = λ t. ap (goes_through t c.args.round) (ap plain_iteration c.in_ok-rest.ensures ∙ c.in_ok-keys.ensures)
