use Rattle.std.proofs.Common.{◌≡◌, ◌+◌, length, drop}
use Rattle.source_map.specs.Mappings as exact
use Rattle.source_map.specs.private.Lines.{onto, pieces, spent}
use Rattle.source_map.proofs.line.read_line.Given as goal

abbrev pub invariant-loop-piece : goal.invariant-loop-piece
invariant-loop-piece l = record {
  next : (goal.iterator-loop-piece).can_next l.piece-iterator;
  finite : (goal.iterator-loop-piece).is_finite l.piece-iterator;
  left : l.at + spent (drop (length l.yielded) (pieces l.line)) ≡ l.start + (length l.line + 1);
  same_line : l.state.line ≡ l.fn.from.line;
  found : onto l.segments.items (exact.read_line l.sources l.names l.state l.at (drop (length l.yielded) (pieces l.line)))
      ≡ onto l.initial.segments.items (exact.read_line l.sources l.names l.fn.from l.start (pieces l.line));
}
