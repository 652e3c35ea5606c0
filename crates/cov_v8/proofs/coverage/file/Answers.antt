use Rattle.std.proofs.Common.{length, ◌∙◌}
use Rattle.std.specs.Str.{chars}
use Rattle.cov_v8.proofs.InsideLemmas.{lines-fit, lines-ascend, functions-inside}
use Rattle.cov_v8.proofs.coverage.file.Goals as goal

pub statements-requires-clause-within : goal.statements-requires-clause-within
statements-requires-clause-within c = lines-fit (chars c.args.text.now) c.args.table.now c.deref.result.now c.requires.known (c.deref.ensures.value ∙ c.in_ok-lines.ensures)

pub named-requires-clause-within : goal.named-requires-clause-within
named-requires-clause-within c = functions-inside (length c.args.table.now) c.args.ranges.now c.args.functions.now c.requires.all c.requires.within

pub branches-requires-clause-within : goal.branches-requires-clause-within
branches-requires-clause-within c = functions-inside (length c.args.table.now) c.args.ranges.now c.args.functions.now c.requires.all c.requires.within

pub statements-requires-clause-ordered : goal.statements-requires-clause-ordered
statements-requires-clause-ordered c = lines-ascend (chars c.args.text.now) c.deref.result.now (c.deref.ensures.value ∙ c.in_ok-lines.ensures)
