-- The number that three bytes are, for a private clause.
use Rattle.std.specs.Prelude.{ℕ, ◌+◌, ◌*◌}

abbrev pub three : ℕ → ℕ → ℕ → ℕ
three first second third = first * 0x10000 + second * 0x100 + third
