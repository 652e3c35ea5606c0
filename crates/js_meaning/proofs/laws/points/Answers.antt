use Rattle.js_meaning.proofs.PointLemmas.{runs_from, point_handle, reads_name, writes_name, initializes_name, scope_is, asks_call, takes_one}
use Rattle.js_meaning.proofs.laws.points.Goals as goal

pub returns-clause-runs : goal.returns-clause-runs
returns-clause-runs c = runs_from

pub returns-clause-onward : goal.returns-clause-onward
returns-clause-onward c = point_handle

pub returns-clause-reads : goal.returns-clause-reads
returns-clause-reads c = reads_name

pub returns-clause-writes : goal.returns-clause-writes
returns-clause-writes c = writes_name

pub returns-clause-initializes : goal.returns-clause-initializes
returns-clause-initializes c = initializes_name

pub returns-clause-scope : goal.returns-clause-scope
returns-clause-scope c = scope_is

pub returns-clause-asks : goal.returns-clause-asks
returns-clause-asks c = asks_call

pub returns-clause-takes : goal.returns-clause-takes
returns-clause-takes c = takes_one
