-- Each clause from what the files come to and from the complaint.
use Rattle.std.proofs.Common.{rules, ◌≢◌, ◌∙◌, [], Some, Err, refl, sym, ap, subst}
use Rattle.cov_words.specs.declared.command.Command.TheVariants.{OnCoverage}
use Rattle.cov_commands.specs.Line as said
use Rattle.cov_commands.specs.Program.{Says}
use Rattle.cov_commands.specs.declared.status.Status.TheVariants.{Memory}
use Rattle.cov_commands.proofs.FailedReads.{coverage_read}
use Rattle.cov_commands.proofs.Stands.{IsSaid, complained, says_at_most}
use Rattle.cov_commands.proofs.Judged.{fault_is_said, nothing_prints, write_is_said, prints_defined, below_is_said}
use Rattle.cov_commands.proofs.coverage_command.on_coverage.Given.{Over}
use Rattle.cov_commands.proofs.coverage_command.on_coverage.Goals as goal

fault_said : (g : Over) (c : goal.Joined-fault g) → IsSaid (Some (OnCoverage c.args.task.now c.args.files.now)) (g.S.Store.held c.args.store.now) (said.message_of c.complaint_of.result)
fault_said g c =
    subst (IsSaid (Some (OnCoverage c.args.task.now c.args.files.now)) (g.S.Store.held c.args.store.now)) (sym c.complaint_of.ensures)
    (fault_is_said c.args.task.now c.args.files.now (g.S.Store.held c.args.store.now) c.in-Err.fault c.in-Err.ensures.fault)

pub returns-in-Err-clause-comes : goal.returns-in-Err-clause-comes
returns-in-Err-clause-comes g c = (complained _ _ (fault_said g c) c.complain.ensures.status).comes

pub returns-in-Err-clause-failed_read : goal.returns-in-Err-clause-failed_read
returns-in-Err-clause-failed_read g c = λ is.
    let read = coverage_read c.in-Err.fault (said.message_of c.complaint_of.result) c.complain.result c.complaint_of.ensures c.complain.ensures.status is in
    let other : c.complain.result ≢ Memory = λ e. let both = sym e ∙ is in cc in
    record {
      path = read.0;
      failed = c.in-Err.ensures.failed read.0 (ap Err read.1);
      says = subst (λ m. Says (said.line m) (g.E.Sink.taken c.args.err.now) (g.E.Sink.taken c.complain.new.err) (g.E.Sink.faults c.args.err.now) (g.E.Sink.faults c.complain.new.err)) read.2 (c.complain.ensures.says other);
    }

pub returns-in-Err-clause-prefix : goal.returns-in-Err-clause-prefix
returns-in-Err-clause-prefix g c = nothing_prints c.args.task.now c.args.files.now (g.S.Store.held c.args.store.now) _ _ refl

pub returns-in-Err-clause-one_line : goal.returns-in-Err-clause-one_line
returns-in-Err-clause-one_line g c = λ memory. let said = c.complain.ensures.one_line in says_at_most _ _ (fault_said g c) said.1 said.2

pub returns-then-is_empty-clause-defined : goal.returns-then-is_empty-clause-defined
returns-then-is_empty-clause-defined g c =
    prints_defined c.args.task.now c.args.files.now (g.S.Store.held c.args.store.now) c.in-Ok.sums c.in-Ok.ensures.sums _ _ c.perform.ensures.prefix

pub returns-in-Ok-perform-clause-one_line : goal.returns-in-Ok-perform-clause-one_line
returns-in-Ok-perform-clause-one_line g c = λ memory.
    let told = c.complain-in-Ok-perform.ensures.one_line in
    let some : c.in-Ok-perform.below.items ≢ [] = search rules in
    let below = below_is_said c.args.task.now c.args.files.now (g.S.Store.held c.args.store.now) c.in-Ok.sums c.in-Ok.ensures.sums c.in-Ok-perform.below.items _ _ c.in-Ok-perform.ensures.done some in
    says_at_most _ _ (subst (λ list. IsSaid (Some (OnCoverage c.args.task.now c.args.files.now)) (g.S.Store.held c.args.store.now) (said.Below list)) (sym c.as_slice-shortfalls.ensures.value) below) told.1 told.2

pub returns-in-Err-Device-clause-defined : goal.returns-in-Err-Device-clause-defined
returns-in-Err-Device-clause-defined g c =
    prints_defined c.args.task.now c.args.files.now (g.S.Store.held c.args.store.now) c.in-Ok.sums c.in-Ok.ensures.sums _ _ c.perform.ensures.prefix

pub returns-in-Err-Device-clause-one_line : goal.returns-in-Err-Device-clause-one_line
returns-in-Err-Device-clause-one_line g c = λ memory.
    let told = c.complain-in-Err-Device.ensures.one_line in
    says_at_most _ _ (write_is_said c.args.task.now c.args.files.now (g.S.Store.held c.args.store.now) c.in-Ok.sums c.in-Ok.ensures.sums) told.1 told.2

pub returns-clause-defined : goal.returns-clause-defined
returns-clause-defined g c =
    prints_defined c.args.task.now c.args.files.now (g.S.Store.held c.args.store.now) c.in-Ok.sums c.in-Ok.ensures.sums _ _ c.perform.ensures.prefix
