-- The faults of a sink over the host.
use Rattle.std.specs.Prelude.{ℕ}
use Rattle.cov_base.specs.declared.host_sink.HostSink.{HostSink}

-- how many writes answered `Device`
abbrev pub faults_of : {W : Type 0} → HostSink W → ℕ
faults_of host = host.faults

-- the writer that the bytes are passed on to
abbrev pub writer_of : {W : Type 0} → HostSink W → W
writer_of host = host.writer
