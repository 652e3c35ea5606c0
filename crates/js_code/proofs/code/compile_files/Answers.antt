use Rattle.std.proofs.Common.{arith, refl}
use Rattle.js_code.proofs.Programs.{files_begin, files_step, files_end}
use Rattle.js_code.proofs.code.compile_files.Goals as goal

pub loop-index-init : goal.loop-index-init
loop-index-init c = rw c.new-made.ensures (files_begin _ _ _ refl)

pub loop-index-preserved : goal.loop-index-preserved
loop-index-preserved c = rw c.in_ok-push.ensures.ok (files_step c.args.files.now c.loop-index-test.true c.index-files-index.is c.loop-index.invariant c.in_ok-file.ensures)

pub returns : goal.returns
returns c = files_end c.args.files.now (omega arith) c.loop-index.invariant
