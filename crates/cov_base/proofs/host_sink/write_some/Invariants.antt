use Rattle.std.specs.Io.KnownBytes.{Keeps}
use Rattle.cov_base.proofs.host_sink.write_some.Given as goal

-- no interrupted write took a byte
abbrev pub invariant-loop : goal.invariant-loop
invariant-loop g l = Keeps (g.W.Write.contents l.initial.writer) (g.W.Write.contents l.writer)
