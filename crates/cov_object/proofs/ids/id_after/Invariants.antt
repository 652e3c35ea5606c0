-- What is left of the digits, after those that were read, gives the id of all.
use Rattle.std.proofs.Common.{◌≡◌, ◌<◌, ◌^◌, drop}
use Rattle.cov_object.specs.Read as spec
use Rattle.cov_object.proofs.ids.id_after.Given as goal

abbrev pub invariant-loop-digit : goal.invariant-loop-digit
invariant-loop-digit l = record { rest : spec.id_after l.id (drop l.digit-index l.digits) ≡ spec.id_after 0 l.digits; small : l.id < 2 ^ 32 }
