use Rattle.std.proofs.Common.{◌≡◌, ◌≤◌, ◌+◌, [], length, drop}
use Rattle.source_map.specs.Mappings as exact
use Rattle.source_map.specs.private.Lines.{onto, lines, spent}
use Rattle.source_map.proofs.line.read_lines.Given as goal

abbrev pub invariant-loop-line : goal.invariant-loop-line
invariant-loop-line l = record {
  next : (goal.iterator-loop-line).can_next l.line-iterator;
  finite : (goal.iterator-loop-line).is_finite l.line-iterator;
  left : l.at + spent (drop (length l.yielded) (lines l.mappings)) ≡ length l.mappings + 1;
  few : l.state.line ≤ l.at + 1;
  found : onto l.segments.items (exact.read_lines l.sources l.names l.state l.at (drop (length l.yielded) (lines l.mappings)))
      ≡ onto [] (exact.read_lines l.sources l.names exact.start 0 (lines l.mappings));
}
