-- A path is read for the file itself, or for one of its entries.
use Rattle.std.proofs.Common.{◌≡◌, Err, ap, subst}
use Rattle.std.specs.Prelude.{IfSome}
use Rattle.cov_inputs.specs.V8.{ReadsSource}
use Rattle.cov_inputs.specs.declared.fault.InputFault.TheVariants.{ReadFailed}
use Rattle.cov_inputs.proofs.V8Steps.{sources_read}
use Rattle.cov_inputs.proofs.v8.with_v8.Goals as goal

pub returns-in-Ok-clause-reads : goal.returns-in-Ok-clause-reads
returns-in-Ok-clause-reads g c = λ at is.
    sources_read (g.S.Store.held c.args.store.now) (g.S.Store.held c.v8_at.new.store) c.in-Ok.ensures.unchanged c.args.sums c.args.file.now c.in-Ok.v8 c.in-Ok.ensures.gives at
    (subst (λ scripts. IfSome (g.S.Store.held c.v8_at.new.store) (λ held. ReadsSource held c.args.file.now c.args.sums scripts at)) c.as_slice.ensures (c.with_scripts.ensures.reads at is))

pub returns-in-Err-clause-failed : goal.returns-in-Err-clause-failed
returns-in-Err-clause-failed g c = λ at is.
    let same : c.in-Err.fault ≡ ReadFailed at = cc in
    (c.args.store.now, c.in-Err.ensures.failed at (ap Err same))
