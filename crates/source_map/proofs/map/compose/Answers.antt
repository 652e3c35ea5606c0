use Rattle.source_map.proofs.SearchLemmas.{map_order}
use Rattle.source_map.proofs.map.compose.Goals as goal

pub compose-requires : goal.compose-requires
compose-requires c = map_order c.inner.inside.parts c.inner.invariant
