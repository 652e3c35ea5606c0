use Rattle.std.proofs.Common.{sym, ◌∙◌}
use Rattle.js_meaning.specs.Program.{sources_of}
use Rattle.js_machine.proofs.FileBegins.{begins, file_found}
use Rattle.js_machine.proofs.machine.Machine.new.Goals as goal

pub returns-in_ok-open-in-Some-clause-begins : goal.returns-in_ok-open-in-Some-clause-begins
returns-in_ok-open-in-Some-clause-begins c =
    begins (sources_of c.args.program.now) c.args.entry.now c.in-Some.file c.in_ok-code.code c.in_ok-open-in-Some.field-0
    (sym (file_found (sources_of c.args.program.now) c.args.entry.now c.in_ok-code.code c.in_ok-code.ensures) ∙ sym c.file_at.ensures ∙ c.in-Some.is)
    c.in_ok-code.ensures c.in_ok-open-in-Some.ensures

pub returns-in-None-clause-no_entry : goal.returns-in-None-clause-no_entry
returns-in-None-clause-no_entry c = λ e.
    sym (file_found (sources_of c.args.program.now) c.args.entry.now c.in_ok-code.code c.in_ok-code.ensures) ∙ sym c.file_at.ensures ∙ c.in-None.is
