-- All fit where those that are left do.
use Rattle.std.proofs.Common.{◌≡◌, drop, length}
use Rattle.cov_object.specs.Read as spec
use Rattle.cov_object.proofs.things.all_fit.Given as goal

abbrev pub invariant-loop-place : goal.invariant-loop-place
invariant-loop-place g l = record {
  as_many : length l.things ≡ length l.counts;
  rest : spec.all_fit g.T.Described.fits (drop l.place l.things) (drop l.place l.counts) ≡ spec.all_fit g.T.Described.fits l.things l.counts;
}
