use Rattle.std.proofs.Common.{◌++◌, subst}
use Rattle.cov_base.specs.Pieces.{Moves, held_of}
use Rattle.cov_base.proofs.Moved.{prefix_on}
use Rattle.cov_report.proofs.put.put_whole.Goals as goal

pub returns-clause-prefix : goal.returns-clause-prefix
returns-clause-prefix g c =
    prefix_on c.args.text.now (held_of c.put_text.new.pieces) (g.S.Sink.taken c.args.sink.now) (g.S.Sink.taken c.put_text.new.sink) (g.S.Sink.taken c.finish.new.sink)
    (subst (λ nothing. Moves (nothing ++ c.args.text.now) (held_of c.put_text.new.pieces) (g.S.Sink.taken c.args.sink.now) (g.S.Sink.taken c.put_text.new.sink)) c.in_ok-pieces.ensures c.in_ok-put_text.ensures.moved)
    c.finish.ensures.prefix
