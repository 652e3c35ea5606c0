use Rattle.std.proofs.Common.{rules}
use Rattle.js_build.proofs.shapes.take_place.Goals as goal

pub returns-in-Some-Place-clause-read : goal.returns-in-Some-Place-clause-read
returns-in-Some-Place-clause-read c = search rules

pub returns-in-Some-Place-clause-shorter : goal.returns-in-Some-Place-clause-shorter
returns-in-Some-Place-clause-shorter c = c.next-piece.ensures.shorter

pub returns-in_default-clause-read : goal.returns-in_default-clause-read
returns-in_default-clause-read c = search rules

pub returns-in_default-clause-shorter : goal.returns-in_default-clause-shorter
returns-in_default-clause-shorter c = c.next-piece.ensures.shorter
