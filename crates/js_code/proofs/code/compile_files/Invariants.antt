-- The files so far, and what is left of them.
use Rattle.std.proofs.Common.{length, drop}
use Rattle.js_code.specs.private.Compiled.{FilesSoFar, sources_from}
use Rattle.js_code.proofs.code.compile_files.Given as goal

abbrev pub invariant-loop-index : goal.invariant-loop-index
invariant-loop-index l = FilesSoFar l.fn.code l.code l.made (sources_from l.files 0 (length l.fn.code.functions)) (sources_from (drop l.index l.files) l.index)
