use Rattle.path_globs.proofs.WildcardsLemmas.{next_run}
use Rattle.path_globs.specs.Wildcards.{is_two_stars, stands_for_component}
use Rattle.path_globs.proofs.wildcards.some_components.Goals as goal

pub loop-next-preserved-in-Run : goal.loop-next-preserved-in-Run
loop-next-preserved-in-Run c = next_run is_two_stars stands_for_component _ _ _ _ _ c.in-Run.ensures c.loop-next.invariant
