-- For want of memory: the line of why there are no sums, or that of a put that failed, or its own.
use Rattle.std.proofs.Common.{sym, subst, Some}
use Rattle.cov_words.specs.declared.command.Command.TheVariants.{OnV8}
use Rattle.cov_commands.specs.Line as said
use Rattle.cov_commands.proofs.Stands.{IsSaid, says_at_most}
use Rattle.cov_commands.proofs.V8Judged.{fault_is_said, write_is_said}
use Rattle.cov_commands.proofs.v8_command.on_v8.Goals as goal

pub returns-in-Err-clause-one_line : goal.returns-in-Err-clause-one_line
returns-in-Err-clause-one_line g c = λ memory.
    let told = c.complain.ensures.one_line in
    let why : IsSaid (Some (OnV8 c.args.out.now c.args.files.now)) (g.S.Store.held c.args.store.now) (said.message_of c.complaint_of.result) =
    subst (IsSaid (Some (OnV8 c.args.out.now c.args.files.now)) (g.S.Store.held c.args.store.now)) (sym c.complaint_of.ensures)
    (fault_is_said c.args.out.now c.args.files.now (g.S.Store.held c.args.store.now) c.in-Err.fault c.in-Err.ensures.gives c.in-Err.ensures.reads) in
    says_at_most _ _ why told.1 told.2

pub returns-in-Err-Device-clause-one_line : goal.returns-in-Err-Device-clause-one_line
returns-in-Err-Device-clause-one_line g c = λ memory.
    let told = c.complain-in-Err-Device.ensures.one_line in
    says_at_most _ _ (write_is_said c.args.out.now c.args.files.now (g.S.Store.held c.args.store.now) c.in-Ok.sums c.in-Ok.ensures.gives) told.1 told.2
