-- The faults of a store over the host.
use Rattle.std.specs.Prelude.{ℕ}
use Rattle.cov_base.specs.declared.host_store.HostStore.{HostStore}

-- how many reads answered `Device`
abbrev pub read_faults_of : {R : Type 0} → HostStore R → ℕ
read_faults_of host = host.read_faults

-- how many puts answered `Device`
abbrev pub put_faults_of : {R : Type 0} → HostStore R → ℕ
put_faults_of host = host.put_faults
