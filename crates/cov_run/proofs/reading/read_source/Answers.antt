use Rattle.js_tree.specs.Tree.{plain_file}
use Rattle.cov_run.proofs.Unread.{found, unaccepted, unfound}
use Rattle.cov_run.proofs.reading.read_source.Goals as goal

pub returns-in-Ok-clause-source : goal.returns-in-Ok-clause-source
returns-in-Ok-clause-source g c =
    found plain_file (g.S.Store.held c.args.store.now) c.args.path.now c.in-Ok.bytes.items c.in-Ok.ensures.held c.accepted_of.result
    c.accepted_of.ensures.text c.accepted_of.ensures.accepted c.accepted_of.ensures.only

pub returns-in-Ok-clause-fault : goal.returns-in-Ok-clause-fault
returns-in-Ok-clause-fault g c =
    unaccepted plain_file (g.S.Store.held c.args.store.now) c.args.path.now c.in-Ok.bytes.items c.in-Ok.ensures.held c.accepted_of.result c.accepted_of.ensures.fault

pub returns-in-Err-clause-fault : goal.returns-in-Err-clause-fault
returns-in-Err-clause-fault g c = unfound (g.S.Store.held c.args.store.now) c.args.path.now c.in-Err.fault c.in-Err.ensures.fault
