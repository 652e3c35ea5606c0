-- The files so far are held or gone.
use Rattle.std.proofs.Common.{◌≤◌, ◌++◌, map, take}
use Rattle.std.specs.List.{flat_map}
use Rattle.cov_base.specs.Pieces.{Moves, held_of}
use Rattle.cov_report.proofs.put.put_files.Given as goal

abbrev pub invariant-loop-file : goal.invariant-loop-file
invariant-loop-file g l = record {
  moved : Moves (held_of l.fn.pieces ++ flat_map (g.R.Report.text l.report) (map (λ file. file.now) (take l.file-index l.files))) (held_of l.pieces) (g.S.Sink.taken l.fn.sink) (g.S.Sink.taken l.sink);
  later : g.S.Sink.faults l.fn.sink ≤ g.S.Sink.faults l.sink;
}
