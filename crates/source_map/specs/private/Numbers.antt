-- Numbers as they are read, one after another, for private clauses.
use Rattle.std.specs.Prelude.{ℕ, ◌+◌, ◌-◌, ◌*◌, ◌%◌, ◌==◌, nat_lt, if◌then◌else◌, List, [], ◌∷◌, Option, Some, None, option_map, option_and_then}
use Rattle.source_map.specs.Vlq.{digit_of, below, limit}

-- a number so far and the five bits of a digit more
abbrev pub with_bits : ℕ → ℕ → ℕ → Option ℕ
with_bits value weight bits =
    if bits == 0 then Some value
    else (if nat_lt weight limit then (if nat_lt (value + weight * bits) limit then Some (value + weight * bits) else None) else None)

-- what the next digit weighs: past the limit it doesn't matter
abbrev pub heavier : ℕ → ℕ
heavier weight = if nat_lt weight limit then weight * 32 else weight

-- the first number and the bytes after it
abbrev pub taken : ℕ → ℕ → List ℕ → Option (ℕ × List ℕ)
taken value weight [] = None
taken value weight (byte ∷ bytes) =
    option_and_then (λ digit. option_and_then (λ more. if nat_lt digit 32 then Some (more, bytes) else taken more (heavier weight) bytes)
    (with_bits value weight (digit % 32))) (digit_of byte)

-- the same from its end
abbrev pub first : List ℕ → Option (ℕ × List ℕ)
first [] = None
first (byte ∷ bytes) =
    option_and_then (λ digit. if nat_lt digit 32 then Some (digit, bytes)
    else option_and_then (λ found. option_map (λ n. (n, found.1)) (below limit ((digit - 32) + 32 * found.0))) (first bytes)) (digit_of byte)
