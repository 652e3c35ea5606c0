use Rattle.js_counter.proofs.Laws.{reads_back, stays, tells_more, stays_ready, runs_one, counts_on}
use Rattle.js_counter.proofs.data_laws.Goals as goal

pub returns-clause-back : goal.returns-clause-back
returns-clause-back c = reads_back

pub returns-clause-stays : goal.returns-clause-stays
returns-clause-stays c = stays

pub returns-clause-more : goal.returns-clause-more
returns-clause-more c = tells_more

pub returns-clause-ready : goal.returns-clause-ready
returns-clause-ready c = stays_ready

pub returns-clause-runs : goal.returns-clause-runs
returns-clause-runs c = runs_one

pub returns-clause-on : goal.returns-clause-on
returns-clause-on c = counts_on
