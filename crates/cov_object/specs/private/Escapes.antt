-- Which bytes have an escape in a JSON string, for private clauses.
use Rattle.std.specs.Prelude.{ℕ, Bool, ◌||◌, ◌==◌, nat_lt}

-- a control character, a quote or a backslash
abbrev pub is_escaped : ℕ → Bool
is_escaped byte = nat_lt byte 32 || ((byte == 34) || (byte == 92))
