use Rattle.std.proofs.Common.{arith}
use Rattle.js_meaning.specs.Program.{sources_of, uncounted}
use Rattle.js_code.proofs.Programs.{files_as, finished, program_compiled}
use Rattle.js_code.proofs.code.Code.compile.Goals as goal

pub returns : goal.returns
returns c = program_compiled (uncounted (sources_of c.args.program.now)) c.begin-code.ensures.functions (grind (arith, c.as_slice.ensures, c.file.ensures.same)) (finished c.stmts-list.ensures c.in_ok-prelude.ensures) (files_as 0 _ c.as_slice-2.ensures c.in_ok-files.ensures)
