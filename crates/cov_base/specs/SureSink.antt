-- What a sure sink has taken.
use Rattle.std.specs.Prelude.{ℕ, List}
use Rattle.cov_base.specs.declared.sure_sink.SureSink.{SureSink}

-- the bytes that it has taken
abbrev pub taken_of : SureSink → List ℕ
taken_of sink = sink.taken.items
