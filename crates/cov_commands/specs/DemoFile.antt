-- The file that `demo` makes of a number, with so many functions.
use Rattle.std.specs.Prelude.{ℕ, zero, suc, ◌+◌, ◌*◌, ◌/◌, ◌%◌, ◌^◌, List, [], ◌++◌, codes, decimal}

-- each draw makes a number of the one before, modulo 2^64
abbrev pub next : ℕ → ℕ
next x = (x * 6364136223846793005 + 1442695040888963407) % 2 ^ 64

-- the number after so many draws
abbrev pub drawn : (seed draws : ℕ) → ℕ
drawn seed zero = seed
drawn seed (suc k) = next (drawn seed k)

-- what a draw gives, below 100
abbrev pub constant : ℕ → ℕ
constant x = x / 2 ^ 33 % 100

-- `function fK(a) { return a % 2 ? a + C : a - C; }`
abbrev pub function_line : (k constant : ℕ) → List ℕ
function_line k constant =
    codes "function f" ++ decimal k ++ codes "(a) { return a % 2 ? a + " ++ decimal constant ++ codes " : a - " ++ decimal constant ++ codes "; }\n"

-- `t = fK(t);`
abbrev pub call_line : ℕ → List ℕ
call_line k = codes "t = f" ++ decimal k ++ codes "(t);\n"

-- the lines of so many functions, each with a draw of its own, and those of their calls
abbrev pub function_lines : (seed count : ℕ) → List ℕ
function_lines seed zero = []
function_lines seed (suc k) = function_lines seed k ++ function_line k (constant (drawn seed (suc k)))

abbrev pub call_lines : ℕ → List ℕ
call_lines zero = []
call_lines (suc k) = call_lines k ++ call_line k

abbrev pub demo_text : (seed count : ℕ) → List ℕ
demo_text seed count = codes "let t = 0;\n" ++ function_lines seed count ++ call_lines count ++ codes "print(t);\n"
