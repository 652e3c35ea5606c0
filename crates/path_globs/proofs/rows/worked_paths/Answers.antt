use Rattle.std.proofs.Common.{refl}
use Rattle.std.specs.Str.{chars}
use Rattle.path_globs.proofs.rows.worked_paths.Goals as goal

pub returns-clause-matches : goal.returns-clause-matches
unfolding chars
returns-clause-matches c = refl
