-- What a memory store holds, its calls and its faults.
use Rattle.std.specs.Prelude.{ℕ, List}
use Rattle.cov_base.specs.Store.{Held}
use Rattle.cov_base.specs.declared.memory_store.MemoryStore.{MemoryStore}
use Rattle.cov_base.specs.SureStore as sure

-- the bytes that it holds at each path
abbrev pub held_of : MemoryStore → Held
held_of memory = sure.held_of memory.store

-- the numbers of the calls that fail
abbrev pub fails_of : MemoryStore → List ℕ
fails_of memory = memory.calls.fails.items

-- the number of its last call, 0 before the first; reads and puts are numbered together
abbrev pub calls_of : MemoryStore → ℕ
calls_of memory = memory.calls.made

-- how many reads answered `Device`
abbrev pub read_faults_of : MemoryStore → ℕ
read_faults_of memory = memory.read_faults

-- how many puts answered `Device`
abbrev pub put_faults_of : MemoryStore → ℕ
put_faults_of memory = memory.put_faults
