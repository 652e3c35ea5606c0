use Rattle.std.proofs.Common.{arith}
use Rattle.js_code.proofs.Programs.{file_compiled, finished}
use Rattle.js_code.proofs.code.compile_file.Goals as goal

pub returns : goal.returns
returns c = file_compiled (grind (arith, c.as_slice-body.ensures, c.file.ensures.same)) (finished c.stmts-list.ensures c.in_ok-statements.ensures) c.in_ok-functions.ensures c.in_ok-names.ensures c.in_ok-scope.ensures c.in_ok-path.ensures
