-- Each file is put after those before it.
use Rattle.std.proofs.Common.{rules, ◌++◌, map, subst, arith}
use Rattle.std.specs.List.{flat_map}
use Rattle.std.proofs.lemmas.List.{take_all}
use Rattle.cov_base.specs.Sink.{TakesPrefix}
use Rattle.cov_base.specs.Pieces.{held_of}
use Rattle.cov_base.proofs.Moved.{moves_prefix}
use Rattle.cov_report.proofs.Parts.{one_cut, one_more}
use Rattle.cov_report.proofs.put.put_files.Goals as goal

pub returns-in_err-put_file-clause-prefix : goal.returns-in_err-put_file-clause-prefix
returns-in_err-put_file-clause-prefix g c =
    one_cut (g.R.Report.text c.args.report.now) c.args.files.now c.loop-file.file-index c.file-item.result c.loop-file-test.true c.file-item.is
    (held_of c.args.pieces.now) (held_of c.loop-file.pieces) (g.S.Sink.taken c.args.sink.now) (g.S.Sink.taken c.loop-file.sink) (g.S.Sink.taken c.put_file.new.sink)
    c.loop-file.invariant.moved c.put_file.ensures.prefix

pub loop-file-preserved : goal.loop-file-preserved
loop-file-preserved g c = record {
  moved = one_more (g.R.Report.text c.args.report.now) c.args.files.now c.loop-file.file-index c.file-item.result c.loop-file-test.true c.file-item.is
      (held_of c.args.pieces.now) (held_of c.loop-file.pieces) (g.S.Sink.taken c.args.sink.now) (g.S.Sink.taken c.loop-file.sink) (g.S.Sink.taken c.put_file.new.sink)
      c.loop-file.invariant.moved (held_of c.put_file.new.pieces) c.in_ok-put_file.ensures.moved;
  later = omega (arith, c.loop-file.invariant.later, c.put_file.ensures.cause.later);
}

pub returns-clause-prefix : goal.returns-clause-prefix
returns-clause-prefix g c =
    subst (λ files. TakesPrefix (g.S.Sink.taken c.args.sink.now) (g.S.Sink.taken c.loop-file.sink) (held_of c.args.pieces.now ++ flat_map (g.R.Report.text c.args.report.now) (map (λ file. file.now) files)))
    (take_all c.loop-file.file-index c.args.files.now (search rules))
    (moves_prefix _ (held_of c.loop-file.pieces) (g.S.Sink.taken c.args.sink.now) (g.S.Sink.taken c.loop-file.sink) c.loop-file.invariant.moved)
