-- Numbers of 64 bits are spelt in decimal.
use Rattle.std.proofs.Common.{◌≡◌, ◌^◌, ◌<◌, ℕ, decimal, ap, refl}
use Rattle.std.proofs.lemmas.Bool.{lt-ltb}
use Rattle.std.specs.Prelude.{codes, if◌then◌else◌}
use Rattle.js_tree.proofs.Equations.{tree_rules}
use Rattle.cov_rewritten.specs.Counters.{spelt}

pub spelt_small : (n : ℕ) → n < 2 ^ 64 → spelt n ≡ decimal n
spelt_small n h = ap (λ b. if b then decimal n else codes "0") (lt-ltb n (2 ^ 64) h)

pub ruleset small_rules = (tree_rules, spelt_small)
