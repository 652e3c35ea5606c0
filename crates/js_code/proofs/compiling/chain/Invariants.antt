use Rattle.std.proofs.Common.{drop}
use Rattle.js_code.specs.private.Compiled.{Chained, Kept}
use Rattle.js_code.proofs.compiling.chain.Given as goal

abbrev pub invariant-loop-index : goal.invariant-loop-index
invariant-loop-index l = Kept l.fn.code l.code (Chained l.fn.code l.code l.fn.kind (drop l.index l.places) l.rest)
