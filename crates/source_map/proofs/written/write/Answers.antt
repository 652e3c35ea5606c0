use Rattle.std.specs.declared.vec.Vec.{Vec}
use Rattle.std.specs.declared.alloc.Global.{Global}
use Rattle.std.proofs.Common.{ℕ}
use Rattle.serde_json.specs.View.{view}
use Rattle.source_map.proofs.WholeText.{text_is, back_is}
use Rattle.source_map.proofs.written.write.Goals as goal

pub returns-clause-text : goal.returns-clause-text
returns-clause-text c = text_is (λ (b : Vec ℕ Global). b.items) c.args.parts.now (view c.in_ok-value.value) c.in_ok-value.ensures c.to_vec.result c.to_vec.ensures.text

pub returns-clause-reads_back : goal.returns-clause-reads_back
returns-clause-reads_back c most =
    back_is (λ (b : Vec ℕ Global). b.items) c.args.parts.now (view c.in_ok-value.value) c.in_ok-value.ensures c.to_vec.result most c.reading.ensures.read_back c.to_vec.ensures.reads_back c.to_vec.ensures.utf8
