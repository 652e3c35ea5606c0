use Rattle.std.proofs.Common.{◌≡◌, ◌++◌, replicate, string_bytes}
use Rattle.source_map.proofs.written.push_ends.Given as goal

abbrev pub invariant-loop-ended : goal.invariant-loop-ended
invariant-loop-ended l = string_bytes l.out ≡ string_bytes l.initial.out ++ replicate l.ended 59
