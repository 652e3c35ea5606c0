-- The file isn't read, or what stands beside it isn't read as its map.
use Rattle.std.proofs.Common.{subst}
use Rattle.js_tree.specs.Tree.{plain_file}
use Rattle.cov_run.specs.Loaded.{HasInput, unread}
use Rattle.cov_run.specs.private.Step.{IsInputFault}
use Rattle.cov_run.specs.declared.fault.LoadFault.TheVariants.{ReadFault}
use Rattle.cov_run.proofs.Loading.{same_fault}
use Rattle.cov_run.proofs.Unread.{not_mapped}
use Rattle.cov_run.proofs.reading.read_mapped.Goals as goal

pub returns-in-Err-clause-fault : goal.returns-in-Err-clause-fault
returns-in-Err-clause-fault g c = unread c.in-Err.ensures.fault

pub returns-in-Err-clause-failed : goal.returns-in-Err-clause-failed
returns-in-Err-clause-failed g c = λ at is. (c.args.store.now, c.in-Err.ensures.failed at (same_fault c.in-Err.fault (ReadFault at) is))

pub returns-in-Err-input_at-clause-fault : goal.returns-in-Err-input_at-clause-fault
returns-in-Err-input_at-clause-fault g c =
    not_mapped (g.S.Store.held c.args.store.now) c.args.path.now c.in-Ok.text (plain_file c.in-Ok.tree) c.in-Err-input_at.fault c.in-Ok.ensures.source
    (subst (λ told. IsInputFault told c.in-Err-input_at.fault c.args.path.now) c.in-Ok.ensures.unchanged c.in-Err-input_at.ensures.fault)

pub returns-in-Err-input_at-clause-failed : goal.returns-in-Err-input_at-clause-failed
returns-in-Err-input_at-clause-failed g c = λ at is. (c.read_source.new.store, c.in-Err-input_at.ensures.failed at (same_fault c.in-Err-input_at.fault (ReadFault at) is))

pub returns-in-Ok-input_at-clause-input : goal.returns-in-Ok-input_at-clause-input
returns-in-Ok-input_at-clause-input g c = subst (λ told. HasInput told c.args.path.now c.in-Ok-input_at.input) c.in-Ok.ensures.unchanged c.in-Ok-input_at.ensures.input
