-- The words that are left are named after those before; the set has the same paths as the list.
use Rattle.std.proofs.Common.{◌≡◌, map, drop}
use Rattle.std.specs.String.{string_bytes}
use Rattle.cov_words.specs.Words.{sources_of, with_sources}
use Rattle.cov_words.specs.private.Known.{HaveSame}
use Rattle.cov_words.proofs.sources.sources_of.Given as goal

abbrev pub invariant-loop-word : goal.invariant-loop-word
invariant-loop-word l =
    (with_sources l.paths (map (λ word. word.now) (drop l.word-index l.words)) ≡ sources_of (map (λ word. word.now) l.words))
    × HaveSame (map string_bytes l.known.keys) l.paths
