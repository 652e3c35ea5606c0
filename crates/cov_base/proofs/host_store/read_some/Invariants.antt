use Rattle.std.specs.Io.KnownBytes.{Keeps}
use Rattle.cov_base.proofs.host_store.read_some.Given as goal

-- no interrupted read gave a byte
abbrev pub invariant-loop : goal.invariant-loop
invariant-loop g l = Keeps (g.F.Read.remaining l.initial.file) (g.F.Read.remaining l.file)
