-- How a height is answered.
use Rattle.std.specs.Prelude.{ℕ, ◌-◌, ◌^◌, min}

-- one above 2^64 - 1 stands as 2^64 - 1
unfoldable pub held : ℕ → ℕ
held height = min height (2 ^ 64 - 1)
