use Rattle.std.proofs.Common.{◌≡◌, ◌-◌, ◌≤◌, vec_len}
use Rattle.std.specs.Io.KnownBytes.{Consumes}
use Rattle.cov_base.specs.declared.host_store.TheConstants.{PIECE, LONGEST_READ}
use Rattle.cov_base.proofs.host_store.read_start.Given as goal

-- the room stays, and what was read is within the limit and the file's first bytes
abbrev pub invariant-loop-bytes : goal.invariant-loop-bytes
invariant-loop-bytes g l = record {
  room : vec_len l.piece ≡ PIECE;
  cut : vec_len l.bytes ≤ LONGEST_READ;
  start : Consumes (g.F.Read.remaining l.initial.file) (g.F.Read.remaining l.file) l.bytes.items;
}

-- the bytes that may still come
abbrev pub decreases-loop-bytes : goal.decreases-loop-bytes
decreases-loop-bytes g l = LONGEST_READ - vec_len l.bytes
