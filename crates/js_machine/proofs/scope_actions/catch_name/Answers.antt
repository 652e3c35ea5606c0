use Rattle.js_machine.specs.private.Config.{block_comp}
use Rattle.js_machine.proofs.Entered.{enters_within}
use Rattle.js_machine.proofs.scope_actions.catch_name.Goals as goal

pub returns-clause-means : goal.returns-clause-means
returns-clause-means c = λ t. enters_within _ c.in_ok-inner.inner.index c.args.heap.now c.make_name.new.heap (block_comp t c.args.block) c.in_ok-inner.ensures.made c.in_ok-inner.ensures.environment
