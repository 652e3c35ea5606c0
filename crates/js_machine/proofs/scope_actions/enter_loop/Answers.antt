use Rattle.js_machine.proofs.scope_actions.enter_loop.Goals as goal

pub returns-in-Ok-clause-means : goal.returns-in-Ok-clause-means
returns-in-Ok-clause-means c = λ p. c.in-Ok.ensures p
