-- Lists with one more at the end.
use Rattle.std.specs.Prelude.{ℕ, ◌+◌, max, ◌==◌, if◌then◌else◌}

-- the height of what commas join, with one more that is so high: no expression has height 0
abbrev pub joined_more : ℕ → ℕ → ℕ
joined_more joined high = if joined == 0 then high else max joined high + 1
