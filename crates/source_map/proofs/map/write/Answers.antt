use Rattle.source_map.proofs.WholeText.{with_map}
use Rattle.std.specs.declared.vec.Vec.{Vec}
use Rattle.std.specs.declared.alloc.Global.{Global}
use Rattle.std.proofs.Common.{ℕ}
use Rattle.source_map.proofs.map.write.Goals as goal

pub returns-clause-reads_back : goal.returns-clause-reads_back
returns-clause-reads_back c most = with_map (λ (b : Vec ℕ Global). b.items) c.map.inside.parts c.args.map.now c.map.invariant c.map.view_is c.write.result most (c.write.ensures.reads_back most)
