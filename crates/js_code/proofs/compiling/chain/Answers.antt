use Rattle.js_code.proofs.Lists.{chain_begins, chain_below, chain_ends, chain_goes_on}
use Rattle.js_code.proofs.compiling.chain.Goals as goal

pub push-rest-requires-in-loop-index-clause-below : goal.push-rest-requires-in-loop-index-clause-below
push-rest-requires-in-loop-index-clause-below c = chain_below c.args.places.now c.requires.below c.loop-index.invariant c.loop-index-test.true c.loop-index.auto.index

pub loop-index-init : goal.loop-index-init
loop-index-init c = chain_begins c.args.places.now c.push-rest.ensures

pub loop-index-preserved : goal.loop-index-preserved
loop-index-preserved c = chain_goes_on c.args.places.now c.requires.below c.loop-index.invariant c.loop-index-test.true c.loop-index.auto.index c.push-rest-in-loop-index.ensures

pub returns : goal.returns
returns c = chain_ends c.args.places.now c.loop-index-test.false c.loop-index.invariant
