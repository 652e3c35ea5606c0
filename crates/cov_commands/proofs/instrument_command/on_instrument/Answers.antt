-- Each clause from the file that ends the work, or from what is put.
use Rattle.std.proofs.Common.{◌≢◌, ◌∙◌, sym, subst}
use Rattle.cov_commands.specs.Line.{line}
use Rattle.cov_commands.specs.Program.{Says}
use Rattle.cov_commands.specs.declared.status.Status.TheVariants.{Memory}
use Rattle.cov_commands.proofs.InstrumentJudged.{done_stands, stopped_puts, stopped_read, stopped_said, stopped_writes_not, write_is_said}
use Rattle.cov_commands.proofs.Stands.{complained, says_lines, says_at_most}
use Rattle.cov_commands.proofs.Texts.{are_sources}
use Rattle.cov_commands.proofs.instrument_command.on_instrument.Goals as goal

-- ---- a file ends the work

pub returns-in-Err-clause-due : goal.returns-in-Err-clause-due
returns-in-Err-clause-due g c =
    let said = stopped_said c.args.out.now c.args.files.now (g.S.Store.held c.args.store.now) c.in-Err.stopped.file.now c.in-Err.stopped.why c.in-Err.ensures.stops _ c.complaint_of_fault.ensures in
    (complained _ _ said c.complain.ensures.status).due

pub returns-in-Err-clause-comes : goal.returns-in-Err-clause-comes
returns-in-Err-clause-comes g c =
    let said = stopped_said c.args.out.now c.args.files.now (g.S.Store.held c.args.store.now) c.in-Err.stopped.file.now c.in-Err.stopped.why c.in-Err.ensures.stops _ c.complaint_of_fault.ensures in
    (complained _ _ said c.complain.ensures.status).comes

pub returns-in-Err-clause-read_fault : goal.returns-in-Err-clause-read_fault
returns-in-Err-clause-read_fault g c = λ is.
    let read = stopped_read c.args.out.now c.args.files.now (g.S.Store.held c.args.store.now) c.in-Err.stopped.file.now c.in-Err.stopped.why c.in-Err.ensures.stops _ c.complaint_of_fault.ensures _ c.complain.ensures.status is in
    c.in-Err.ensures.rose read.0 read.1

pub returns-in-Err-clause-failed_read : goal.returns-in-Err-clause-failed_read
returns-in-Err-clause-failed_read g c = λ is.
    let read = stopped_read c.args.out.now c.args.files.now (g.S.Store.held c.args.store.now) c.in-Err.stopped.file.now c.in-Err.stopped.why c.in-Err.ensures.stops _ c.complaint_of_fault.ensures _ c.complain.ensures.status is in
    let other : c.complain.result ≢ Memory = λ e. let both = sym e ∙ is in cc in
    record {
      path = read.0;
      failed = c.in-Err.ensures.failed read.0 read.1;
      says = subst (λ m. Says (line m) (g.E.Sink.taken c.args.err.now) (g.E.Sink.taken c.complain.new.err) (g.E.Sink.faults c.args.err.now) (g.E.Sink.faults c.complain.new.err)) read.2 (c.complain.ensures.says other);
    }

pub returns-in-Err-clause-write_fault : goal.returns-in-Err-clause-write_fault
returns-in-Err-clause-write_fault g c = λ is.
    absurd (stopped_writes_not c.args.out.now c.args.files.now (g.S.Store.held c.args.store.now) c.in-Err.stopped.file.now c.in-Err.stopped.why c.in-Err.ensures.stops _ c.complaint_of_fault.ensures _ c.complain.ensures.status is)

pub returns-in-Err-clause-stores : goal.returns-in-Err-clause-stores
returns-in-Err-clause-stores g c =
    stopped_puts c.args.out.now c.args.files.now (g.S.Store.held c.args.store.now) c.in-Err.stopped.file.now c.in-Err.stopped.why c.in-Err.ensures.stops _ c.complaint_of_fault.ensures _ c.complain.ensures.status _ c.in-Err.ensures.unchanged

pub returns-in-Err-clause-says : goal.returns-in-Err-clause-says
returns-in-Err-clause-says g c = λ other.
    let said = stopped_said c.args.out.now c.args.files.now (g.S.Store.held c.args.store.now) c.in-Err.stopped.file.now c.in-Err.stopped.why c.in-Err.ensures.stops _ c.complaint_of_fault.ensures in
    says_lines _ _ said c.complain.ensures.status other (c.complain.ensures.says other)

pub returns-in-Err-clause-one_line : goal.returns-in-Err-clause-one_line
returns-in-Err-clause-one_line g c = λ memory.
    let said = stopped_said c.args.out.now c.args.files.now (g.S.Store.held c.args.store.now) c.in-Err.stopped.file.now c.in-Err.stopped.why c.in-Err.ensures.stops _ c.complaint_of_fault.ensures in
    let told = c.complain.ensures.one_line in
    says_at_most _ _ said told.1 told.2

-- ---- the texts were put, or a put failed

pub returns-in-Ok-put_all-clause-due : goal.returns-in-Ok-put_all-clause-due
returns-in-Ok-put_all-clause-due g c = are_sources (g.S.Store.held c.args.store.now) c.args.files.now c.in-Ok.list.items c.in-Ok.ensures.written c.in-Ok.ensures.within

pub returns-in-Ok-put_all-clause-comes : goal.returns-in-Ok-put_all-clause-comes
returns-in-Ok-put_all-clause-comes g c =
    (done_stands c.args.out.now c.args.files.now (g.S.Store.held c.args.store.now) (are_sources (g.S.Store.held c.args.store.now) c.args.files.now c.in-Ok.list.items c.in-Ok.ensures.written c.in-Ok.ensures.within)).comes

pub returns-in-Err-Device-clause-due : goal.returns-in-Err-Device-clause-due
returns-in-Err-Device-clause-due g c =
    let sources = are_sources (g.S.Store.held c.args.store.now) c.args.files.now c.in-Ok.list.items c.in-Ok.ensures.written c.in-Ok.ensures.within in
    (complained _ _ (write_is_said c.args.out.now c.args.files.now (g.S.Store.held c.args.store.now) sources) c.complain-in-Err-Device.ensures.status).due

pub returns-in-Err-Device-clause-one_line : goal.returns-in-Err-Device-clause-one_line
returns-in-Err-Device-clause-one_line g c = λ memory.
    let sources = are_sources (g.S.Store.held c.args.store.now) c.args.files.now c.in-Ok.list.items c.in-Ok.ensures.written c.in-Ok.ensures.within in
    let told = c.complain-in-Err-Device.ensures.one_line in
    says_at_most _ _ (write_is_said c.args.out.now c.args.files.now (g.S.Store.held c.args.store.now) sources) told.1 told.2
