use Rattle.std.proofs.Common.{◌≤◌, IfSome, sym, subst}
use Rattle.source_map.specs.declared.place.Traced.{Traced}
use Rattle.source_map.proofs.MapLemmas.{traced_line}
use Rattle.source_map.proofs.SearchLemmas.{map_order}
use Rattle.source_map.proofs.map.SourceMap.trace_counted.Goals as goal

pub trace_counted-requires : goal.trace_counted-requires
trace_counted-requires g c = map_order c.self.inside.parts c.self.invariant

pub returns-clause-from_one : goal.returns-clause-from_one
returns-clause-from_one g c = subst (λ r. IfSome r (λ (place : Traced). 1 ≤ place.line)) (sym c.trace_counted.ensures.value) (traced_line c.self.inside.parts c.self.invariant c.args.line c.args.column)
