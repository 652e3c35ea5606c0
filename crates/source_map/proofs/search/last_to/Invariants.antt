use Rattle.std.proofs.Common.{◌≡◌, ◌≤◌, ◌-◌, ◌+◌, ◌*◌, ◌^◌, None, length}
use Rattle.std.specs.Prelude.{nat_le}
use Rattle.std.specs.List.{filter, last_or}
use Rattle.source_map.specs.private.Order.{AreByColumn}
use Rattle.source_map.proofs.search.last_to.Given as goal

-- what is left gives the answer, and each step halved it
abbrev pub invariant-halves : goal.invariant-halves
invariant-halves g l = record {
  order : AreByColumn l.rest;
  value : last_or l.found (filter (λ segment. nat_le segment.column l.column) l.rest) ≡ last_or None (filter (λ segment. nat_le segment.column l.column) l.segments);
  later : l.fn.steps ≤ l.steps;
  left : 2 ^ (l.steps - l.fn.steps) * length l.rest ≤ length l.segments;
  few : 2 ^ (l.steps - l.fn.steps) ≤ 2 * length l.segments + 1;
}

abbrev pub decreases-halves : goal.decreases-halves
decreases-halves g l = length l.rest
