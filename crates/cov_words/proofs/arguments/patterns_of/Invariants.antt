use Rattle.std.proofs.Common.{◌≡◌, length, take}
use Rattle.cov_words.specs.Words.{patterns_of}
use Rattle.cov_words.proofs.arguments.patterns_of.Given as goal

abbrev pub invariant-loop-pattern : goal.invariant-loop-pattern
invariant-loop-pattern l =
    (goal.iterator-loop-pattern).can_next l.pattern-iterator
    × (goal.iterator-loop-pattern).is_finite l.pattern-iterator
    × (l.patterns ≡ take (length l.yielded) (patterns_of l.word))
