-- The name with what is still to be put at its end is the whole.
use Rattle.std.proofs.Common.{◌≡◌, ◌-◌, length, string_bytes}
use Rattle.cov_preamble.specs.Name.{apart}
use Rattle.cov_preamble.proofs.name.apart_from.Given as goal

abbrev pub invariant-loop : goal.invariant-loop
invariant-loop l = apart (length l.names - l.counter) (string_bytes l.name) l.names ≡ apart (length l.names) (string_bytes l.initial.name) l.names
