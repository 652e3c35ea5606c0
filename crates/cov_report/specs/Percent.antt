-- How a percentage prints.
use Rattle.std.specs.Prelude.{ℕ, ◌/◌, ◌%◌, cond, nat_lt, List, ◌∷◌, ◌++◌, decimal}

-- from hundredths: a decimal without zeros at its end, as 66.66, 12.5 and 100
abbrev pub percent_text : ℕ → List ℕ
percent_text hundredths =
    let whole = decimal (hundredths / 100) in
    let tenths = hundredths / 10 % 10 in
    let ones = hundredths % 10 in
    cond (nat_lt 0 ones) (whole ++ 0x2E ∷ (decimal tenths ++ decimal ones))
    (cond (nat_lt 0 tenths) (whole ++ 0x2E ∷ decimal tenths) whole)
