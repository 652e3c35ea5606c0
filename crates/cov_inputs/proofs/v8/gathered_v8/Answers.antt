-- Each file is the next of those that are left.
use Rattle.std.proofs.Common.{◌∙◌, ◌∷◌, ap, sym}
use Rattle.cov_inputs.proofs.V8Steps.{files_read}
use Rattle.cov_inputs.proofs.v8.gathered_v8.Goals as goal

pub returns-in-Err-clause-reads : goal.returns-in-Err-clause-reads
returns-in-Err-clause-reads g c = λ at is.
    files_read (g.S.Store.held c.args.store.now) c.args.files.now (g.S.Store.held c.files.store) c.files.invariant.held c.files.sums c.as_str.result.now c.in-Some.rest.now c.files.left.now
    (c.in-Some.ensures.cases.0 ∙ ap (λ file. file ∷ c.in-Some.rest.now) (sym c.as_str.ensures)) c.files.invariant.go_on at (c.in-Err.ensures.reads at is)
