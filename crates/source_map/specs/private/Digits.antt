-- How large a number of so many digits is, for private clauses.
use Rattle.std.specs.Prelude.{ℕ, zero, suc, ◌*◌}

-- a number below it has at most so many digits more than one
abbrev pub most_of : ℕ → ℕ
most_of zero = 32
most_of (suc more) = 32 * most_of more
