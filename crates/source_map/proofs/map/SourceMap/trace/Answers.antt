use Rattle.std.proofs.Common.{◌≤◌, IfSome, sym, subst}
use Rattle.source_map.specs.declared.place.Traced.{Traced}
use Rattle.source_map.proofs.MapLemmas.{traced_line}
use Rattle.source_map.proofs.SearchLemmas.{map_order}
use Rattle.source_map.proofs.map.SourceMap.trace.Goals as goal

pub trace-requires : goal.trace-requires
trace-requires c = map_order c.self.inside.parts c.self.invariant

pub returns-clause-from_one : goal.returns-clause-from_one
returns-clause-from_one c = subst (λ r. IfSome r (λ (place : Traced). 1 ≤ place.line)) (sym c.trace.ensures) (traced_line c.self.inside.parts c.self.invariant c.args.line c.args.column)
