-- Each part is put after those before it.
use Rattle.std.proofs.Common.{[], map}
use Rattle.std.specs.List.{flat_map}
use Rattle.std.proofs.lemmas.Result.{on_ok_weaker}
use Rattle.cov_base.specs.Pieces.{held_of}
use Rattle.cov_report.proofs.Parts.{all_put, body_cut, last_cut, tail_cut}
use Rattle.cov_report.proofs.put.put_report.Goals as goal

pub returns-in_err-put_files-clause-prefix : goal.returns-in_err-put_files-clause-prefix
returns-in_err-put_files-clause-prefix g c =
    body_cut c.args.head.now (flat_map (g.R.Report.text c.args.report.now) (map (λ file. file.now) c.args.files.now)) c.args.tail.now (held_of c.in_ok-pieces.pieces) (held_of c.put_text.new.pieces) [] []
    (g.S.Sink.taken c.args.sink.now) (g.S.Sink.taken c.put_text.new.sink) (g.S.Sink.taken c.put_files.new.sink) (g.S.Sink.taken c.put_files.new.sink)
    c.in_ok-pieces.ensures c.in_ok-put_text.ensures.moved c.put_files.ensures.prefix

pub returns-in_err-put_text-2-clause-prefix : goal.returns-in_err-put_text-2-clause-prefix
returns-in_err-put_text-2-clause-prefix g c =
    tail_cut c.args.head.now (flat_map (g.R.Report.text c.args.report.now) (map (λ file. file.now) c.args.files.now)) c.args.tail.now (held_of c.in_ok-pieces.pieces) (held_of c.put_text.new.pieces) (held_of c.put_files.new.pieces) []
    (g.S.Sink.taken c.args.sink.now) (g.S.Sink.taken c.put_text.new.sink) (g.S.Sink.taken c.put_files.new.sink) (g.S.Sink.taken c.put_text-2.new.sink)
    c.in_ok-pieces.ensures c.in_ok-put_text.ensures.moved c.in_ok-put_files.ensures.moved c.put_text-2.ensures.prefix

pub returns-clause-prefix : goal.returns-clause-prefix
returns-clause-prefix g c =
    last_cut c.args.head.now (flat_map (g.R.Report.text c.args.report.now) (map (λ file. file.now) c.args.files.now)) c.args.tail.now (held_of c.in_ok-pieces.pieces) (held_of c.put_text.new.pieces) (held_of c.put_files.new.pieces) (held_of c.put_text-2.new.pieces)
    (g.S.Sink.taken c.args.sink.now) (g.S.Sink.taken c.put_text.new.sink) (g.S.Sink.taken c.put_files.new.sink) (g.S.Sink.taken c.put_text-2.new.sink)
    c.in_ok-pieces.ensures c.in_ok-put_text.ensures.moved c.in_ok-put_files.ensures.moved c.in_ok-put_text-2.ensures.moved (g.S.Sink.taken c.finish.new.sink) c.finish.ensures.prefix

pub returns-clause-all : goal.returns-clause-all
returns-clause-all g c =
    on_ok_weaker c.finish.result
    (all_put c.args.head.now (flat_map (g.R.Report.text c.args.report.now) (map (λ file. file.now) c.args.files.now)) c.args.tail.now (held_of c.in_ok-pieces.pieces) (held_of c.put_text.new.pieces) (held_of c.put_files.new.pieces) (held_of c.put_text-2.new.pieces)
    (g.S.Sink.taken c.args.sink.now) (g.S.Sink.taken c.put_text.new.sink) (g.S.Sink.taken c.put_files.new.sink) (g.S.Sink.taken c.put_text-2.new.sink)
    c.in_ok-pieces.ensures c.in_ok-put_text.ensures.moved c.in_ok-put_files.ensures.moved c.in_ok-put_text-2.ensures.moved (g.S.Sink.taken c.finish.new.sink)) c.finish.ensures.all
