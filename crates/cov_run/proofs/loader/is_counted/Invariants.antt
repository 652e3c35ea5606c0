-- No pattern so far stands for the path.
use Rattle.std.proofs.Common.{◌≡◌, drop, map, string_bytes}
use Rattle.std.specs.List.{list_any}
use Rattle.path_globs.specs.Wildcards.{matches}
use Rattle.cov_run.proofs.loader.is_counted.Given as goal

abbrev pub invariant-loop-pattern : goal.invariant-loop-pattern
invariant-loop-pattern l =
    list_any (λ pattern. matches pattern l.path) (map string_bytes (drop l.pattern-index l.exclude)) ≡ list_any (λ pattern. matches pattern l.path) (map string_bytes l.exclude)
