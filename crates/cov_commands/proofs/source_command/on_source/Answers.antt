-- Each clause from what the task comes to and from the complaint.
use Rattle.std.proofs.Common.{◌≢◌, ◌∙◌, Some, Err, refl, sym, ap, subst}
use Rattle.cov_words.specs.declared.command.Command.TheVariants.{OnSource}
use Rattle.cov_commands.specs.Line.{line, message_of}
use Rattle.cov_commands.specs.Program.{Says, Stores}
use Rattle.cov_commands.specs.Source.{some}
use Rattle.cov_commands.specs.declared.status.Status.TheVariants.{Memory}
use Rattle.cov_commands.proofs.FailedSources.{never_written, source_read}
use Rattle.cov_commands.proofs.Stands.{IsSaid, complained, says_lines, says_at_most}
use Rattle.cov_commands.proofs.Due.{done_stands, end_is_said, fault_is_said, fault_prints, has_status, is_done, is_said, prints_defined, write_is_said}
use Rattle.cov_commands.proofs.HandedOn.{counts_on, end_stores, fault_stores, handed, only_wanting, said_stores, same_counts, write_stores}
use Rattle.cov_commands.proofs.source_command.on_source.Given.{Over}
use Rattle.cov_commands.proofs.source_command.on_source.Goals as goal

-- ---- there is no answer

fault_said : (g : Over) (c : goal.Joined-fault g) → IsSaid (Some (OnSource c.args.task.now c.args.path.now)) (g.S.Store.held c.args.store.now) (message_of c.complaint_of_fault.result)
fault_said g c = fault_is_said c.args.task.now c.args.path.now (g.S.Store.held c.args.store.now) c.in-Err.fault c.in-Err.ensures.comes c.complaint_of_fault.ensures

pub returns-in-Err-clause-due : goal.returns-in-Err-clause-due
returns-in-Err-clause-due g c = (complained _ _ (fault_said g c) c.complain.ensures.status).due

pub returns-in-Err-clause-comes : goal.returns-in-Err-clause-comes
returns-in-Err-clause-comes g c = (complained _ _ (fault_said g c) c.complain.ensures.status).comes

pub returns-in-Err-clause-read_fault : goal.returns-in-Err-clause-read_fault
returns-in-Err-clause-read_fault g c = λ is.
    let read = source_read c.args.path.now c.in-Err.fault (message_of c.complaint_of_fault.result) c.complain.result c.complaint_of_fault.ensures c.complain.ensures.status is in
    c.in-Err.ensures.rose read.0 (ap Err read.1)

pub returns-in-Err-clause-failed_read : goal.returns-in-Err-clause-failed_read
returns-in-Err-clause-failed_read g c = λ is.
    let read = source_read c.args.path.now c.in-Err.fault (message_of c.complaint_of_fault.result) c.complain.result c.complaint_of_fault.ensures c.complain.ensures.status is in
    let other : c.complain.result ≢ Memory = λ e. let both = sym e ∙ is in cc in
    record {
      path = read.0;
      failed = c.in-Err.ensures.failed read.0 (ap Err read.1);
      says = subst (λ m. Says (line m) (g.E.Sink.taken c.args.err.now) (g.E.Sink.taken c.complain.new.err) (g.E.Sink.faults c.args.err.now) (g.E.Sink.faults c.complain.new.err)) read.2 (c.complain.ensures.says other);
    }

pub returns-in-Err-clause-write_fault : goal.returns-in-Err-clause-write_fault
returns-in-Err-clause-write_fault g c = λ is.
    absurd (never_written c.args.path.now c.in-Err.fault (message_of c.complaint_of_fault.result) c.complain.result c.complaint_of_fault.ensures c.complain.ensures.status is)

pub returns-in-Err-clause-printed : goal.returns-in-Err-clause-printed
returns-in-Err-clause-printed g c = λ all.
    absurd (fault_prints c.args.task.now c.args.path.now (g.S.Store.held c.args.store.now) c.in-Err.fault c.in-Err.ensures.comes c.complaint_of_fault.ensures c.complain.ensures.status all)

pub returns-in-Err-clause-says : goal.returns-in-Err-clause-says
returns-in-Err-clause-says g c = λ other. says_lines _ _ (fault_said g c) c.complain.ensures.status other (c.complain.ensures.says other)

pub returns-in-Err-clause-one_line : goal.returns-in-Err-clause-one_line
returns-in-Err-clause-one_line g c = λ memory. let said = c.complain.ensures.one_line in says_at_most _ _ (fault_said g c) said.1 said.2

pub returns-in-Err-clause-stores : goal.returns-in-Err-clause-stores
returns-in-Err-clause-stores g c =
    fault_stores c.args.task.now c.args.path.now (g.S.Store.held c.args.store.now) c.in-Err.fault c.in-Err.ensures.comes c.complaint_of_fault.ensures c.complain.ensures.status c.in-Err.ensures.unchanged

pub returns-in-Err-clause-puts : goal.returns-in-Err-clause-puts
returns-in-Err-clause-puts g c = same_counts c.args.task.now c.args.path.now _ _ c.in-Err.ensures.puts

-- ---- an answer whose end is said

pub returns-in-Some-clause-comes : goal.returns-in-Some-clause-comes
returns-in-Some-clause-comes g c = (complained _ _ (end_is_said c.args.task.now c.args.path.now (g.S.Store.held c.args.store.now) c.in-Ok.answer c.in-Ok.ensures.comes (is_said c.args.task.now c.in-Ok.answer.end c.said_of.ensures c.in-Some.is)) c.complain-in-Some.ensures.status).comes

pub returns-in-Some-clause-prefix : goal.returns-in-Some-clause-prefix
returns-in-Some-clause-prefix g c =
    some c.in-Ok.ensures.comes c.hand_on.ensures.prefix

pub returns-in-Some-clause-defined : goal.returns-in-Some-clause-defined
returns-in-Some-clause-defined g c =
    prints_defined c.args.task.now c.args.path.now (g.S.Store.held c.args.store.now) c.in-Ok.answer c.in-Ok.ensures.comes (g.O.Sink.taken c.args.out.now) (g.O.Sink.taken c.hand_on.new.out)
    c.hand_on.ensures.prefix

pub returns-in-Some-clause-says : goal.returns-in-Some-clause-says
returns-in-Some-clause-says g c = λ other. says_lines _ _ (end_is_said c.args.task.now c.args.path.now (g.S.Store.held c.args.store.now) c.in-Ok.answer c.in-Ok.ensures.comes (is_said c.args.task.now c.in-Ok.answer.end c.said_of.ensures c.in-Some.is)) c.complain-in-Some.ensures.status other (c.complain-in-Some.ensures.says other)

pub returns-in-Some-clause-one_line : goal.returns-in-Some-clause-one_line
returns-in-Some-clause-one_line g c = λ memory. let said = c.complain-in-Some.ensures.one_line in says_at_most _ _ (end_is_said c.args.task.now c.args.path.now (g.S.Store.held c.args.store.now) c.in-Ok.answer c.in-Ok.ensures.comes (is_said c.args.task.now c.in-Ok.answer.end c.said_of.ensures c.in-Some.is)) said.1 said.2

pub returns-in-Some-clause-stores : goal.returns-in-Some-clause-stores
returns-in-Some-clause-stores g c =
    said_stores c.args.path.now (g.S.Store.held c.args.store.now) (g.S.Store.held c.hand_on.new.store) c.in-Ok.answer c.args.task.now c.in-Ok.ensures.comes
    (handed c.args.task.now c.in-Ok.answer.coverage (g.S.Store.held c.hand_on.new.store) c.in-Ok.ensures.unchanged c.in-Ok-hand_on.is c.hand_on.ensures.stores) _
    (has_status c.args.task.now c.in-Ok.answer.end c.said_of.ensures c.in-Some.is) c.complain-in-Some.ensures.status

pub returns-in-Some-clause-puts : goal.returns-in-Some-clause-puts
returns-in-Some-clause-puts g c = counts_on c.args.task.now c.args.path.now _ c.in-Ok.ensures.puts c.hand_on.ensures.puts

-- ---- one of which nothing is

pub returns-in-Ok-hand_on-clause-comes : goal.returns-in-Ok-hand_on-clause-comes
returns-in-Ok-hand_on-clause-comes g c =
    (done_stands c.args.task.now c.args.path.now (g.S.Store.held c.args.store.now) c.in-Ok.answer c.in-Ok.ensures.comes (is_done c.args.task.now c.in-Ok.answer.end c.said_of.ensures c.in-None.is)).comes

pub returns-in-Ok-hand_on-clause-prefix : goal.returns-in-Ok-hand_on-clause-prefix
returns-in-Ok-hand_on-clause-prefix g c =
    some c.in-Ok.ensures.comes c.hand_on.ensures.prefix

pub returns-in-Ok-hand_on-clause-defined : goal.returns-in-Ok-hand_on-clause-defined
returns-in-Ok-hand_on-clause-defined g c =
    prints_defined c.args.task.now c.args.path.now (g.S.Store.held c.args.store.now) c.in-Ok.answer c.in-Ok.ensures.comes (g.O.Sink.taken c.args.out.now) (g.O.Sink.taken c.hand_on.new.out)
    c.hand_on.ensures.prefix

pub returns-in-Ok-hand_on-clause-stores : goal.returns-in-Ok-hand_on-clause-stores
returns-in-Ok-hand_on-clause-stores g c =
    subst (λ s. Stores (Some (OnSource c.args.task.now c.args.path.now)) s (g.S.Store.held c.args.store.now) (g.S.Store.held c.hand_on.new.store))
    (is_done c.args.task.now c.in-Ok.answer.end c.said_of.ensures c.in-None.is)
    (end_stores c.args.path.now (g.S.Store.held c.args.store.now) (g.S.Store.held c.hand_on.new.store) c.in-Ok.answer c.args.task.now c.in-Ok.ensures.comes (handed c.args.task.now c.in-Ok.answer.coverage (g.S.Store.held c.hand_on.new.store) c.in-Ok.ensures.unchanged c.in-Ok-hand_on.is c.hand_on.ensures.stores))

pub returns-in-Ok-hand_on-clause-puts : goal.returns-in-Ok-hand_on-clause-puts
returns-in-Ok-hand_on-clause-puts g c = counts_on c.args.task.now c.args.path.now _ c.in-Ok.ensures.puts c.hand_on.ensures.puts

-- ---- one that isn't handed on whole

pub returns-in-Err-Device-clause-prefix : goal.returns-in-Err-Device-clause-prefix
returns-in-Err-Device-clause-prefix g c =
    some c.in-Ok.ensures.comes c.hand_on.ensures.prefix

pub returns-in-Err-Device-clause-defined : goal.returns-in-Err-Device-clause-defined
returns-in-Err-Device-clause-defined g c =
    prints_defined c.args.task.now c.args.path.now (g.S.Store.held c.args.store.now) c.in-Ok.answer c.in-Ok.ensures.comes (g.O.Sink.taken c.args.out.now) (g.O.Sink.taken c.hand_on.new.out)
    c.hand_on.ensures.prefix

pub returns-in-Err-Device-clause-one_line : goal.returns-in-Err-Device-clause-one_line
returns-in-Err-Device-clause-one_line g c = λ memory.
    let said = c.complain-in-Err-Device.ensures.one_line in
    says_at_most _ _ (write_is_said c.args.task.now c.args.path.now (g.S.Store.held c.args.store.now) c.in-Ok.answer c.in-Ok.ensures.comes) said.1 said.2

pub returns-in-Err-Device-clause-stores : goal.returns-in-Err-Device-clause-stores
returns-in-Err-Device-clause-stores g c =
    write_stores c.args.path.now (g.S.Store.held c.args.store.now) (g.S.Store.held c.hand_on.new.store) c.in-Ok.answer c.args.task.now c.hand_on.result
    (handed c.args.task.now c.in-Ok.answer.coverage (g.S.Store.held c.hand_on.new.store) c.in-Ok.ensures.unchanged refl c.hand_on.ensures.stores) c.complain-in-Err-Device.ensures.status

pub returns-in-Err-Device-clause-puts : goal.returns-in-Err-Device-clause-puts
returns-in-Err-Device-clause-puts g c = counts_on c.args.task.now c.args.path.now _ c.in-Ok.ensures.puts c.hand_on.ensures.puts

pub returns-clause-stores : goal.returns-clause-stores
returns-clause-stores g c =
    write_stores c.args.path.now (g.S.Store.held c.args.store.now) (g.S.Store.held c.hand_on.new.store) c.in-Ok.answer c.args.task.now c.hand_on.result
    (handed c.args.task.now c.in-Ok.answer.coverage (g.S.Store.held c.hand_on.new.store) c.in-Ok.ensures.unchanged refl c.hand_on.ensures.stores) (only_wanting c.complain-in-Err-Memory.ensures.status)

pub returns-clause-puts : goal.returns-clause-puts
returns-clause-puts g c = counts_on c.args.task.now c.args.path.now _ c.in-Ok.ensures.puts c.hand_on.ensures.puts

pub returns-clause-prefix : goal.returns-clause-prefix
returns-clause-prefix g c =
    some c.in-Ok.ensures.comes c.hand_on.ensures.prefix

pub returns-clause-defined : goal.returns-clause-defined
returns-clause-defined g c =
    prints_defined c.args.task.now c.args.path.now (g.S.Store.held c.args.store.now) c.in-Ok.answer c.in-Ok.ensures.comes (g.O.Sink.taken c.args.out.now) (g.O.Sink.taken c.hand_on.new.out)
    c.hand_on.ensures.prefix
