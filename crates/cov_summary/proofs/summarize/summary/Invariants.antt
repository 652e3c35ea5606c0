-- The totals of the files so far.
use Rattle.std.proofs.Common.{◌≡◌, map, fold}
use Rattle.cov_summary.specs.Sums.{with_file, no_sums, file_sums}
use Rattle.cov_summary.proofs.summarize.summary.Given as goal

abbrev pub invariant-loop-file : goal.invariant-loop-file
invariant-loop-file l = record {
  total : l.total ≡ fold with_file no_sums (map (λ file. file.now) l.yielded);
  files : l.files ≡ map file_sums (map (λ file. file.now) l.yielded);
}
