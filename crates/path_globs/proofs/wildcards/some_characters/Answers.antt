use Rattle.std.proofs.Common.{rules}
use Rattle.path_globs.proofs.WildcardsLemmas.{next_run}
use Rattle.path_globs.specs.Wildcards.{is_star, stands_for_character}
use Rattle.path_globs.proofs.wildcards.some_characters.Goals as goal

pub loop-next-preserved-in-Run : goal.loop-next-preserved-in-Run
loop-next-preserved-in-Run c = (search rules, search rules, next_run is_star stands_for_character _ _ _ _ _ c.in-Run.ensures c.loop-next.invariant.2)
