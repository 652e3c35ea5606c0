-- What a memory sink has taken, its calls and its faults.
use Rattle.std.specs.Prelude.{ℕ, List}
use Rattle.cov_base.specs.declared.memory_sink.MemorySink.{MemorySink}
use Rattle.cov_base.specs.SureSink as sure

-- the bytes that it has taken
abbrev pub taken_of : MemorySink → List ℕ
taken_of memory = sure.taken_of memory.sink

-- the numbers of the calls that fail
abbrev pub fails_of : MemorySink → List ℕ
fails_of memory = memory.calls.fails.items

-- the number of its last call, 0 before the first
abbrev pub calls_of : MemorySink → ℕ
calls_of memory = memory.calls.made

-- how many writes answered `Device`
abbrev pub faults_of : MemorySink → ℕ
faults_of memory = memory.faults
