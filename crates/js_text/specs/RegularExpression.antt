-- Regular expression literals (ECMA-262, 12.9.5).
use Rattle.std.specs.Prelude.{ℕ, ◌==◌, Bool, true, false, not, ◌&&◌, ◌||◌, List, [], ◌∷◌, Option, Some, None, if◌then◌else◌}
use Rattle.std.specs.List.{list_any}
use Rattle.js_text.specs.Position.{is_line_terminator}

-- what follows the `/` that ends the body, after a backslash or not, inside brackets or not; none where a line ends before
abbrev pub body_rest : Bool → Bool → List ℕ → Option (List ℕ)
body_rest escaped inside [] = None
body_rest escaped inside (c ∷ cs) =
    if is_line_terminator c then None
    else (if escaped then body_rest false inside cs
    else (if c == 0x5C then body_rest true inside cs
    else (if c == 0x5B then body_rest false true cs
    else (if c == 0x5D then body_rest false false cs
    else (if (c == 0x2F) && not inside then Some cs
    else body_rest false inside cs)))))

-- `d`, `g`, `i`, `m`, `s`, `u`, `v`, `y`
abbrev pub is_flag : ℕ → Bool
is_flag c = (c == 0x64) || (c == 0x67) || (c == 0x69) || (c == 0x6D) || (c == 0x73) || (c == 0x75) || (c == 0x76) || (c == 0x79)

-- this character is among these
abbrev pub has : ℕ → List ℕ → Bool
has c cs = list_any (λ other. other == c) cs

-- a flag stands again among these, or the one of `u` and `v` that it excludes
abbrev pub clashes : ℕ → List ℕ → Bool
clashes c cs = has c cs || ((c == 0x75) && has 0x76 cs) || ((c == 0x76) && has 0x75 cs)

-- these are flags, each once, and not `u` with `v`
abbrev pub are_flags : List ℕ → Bool
are_flags [] = true
are_flags (c ∷ cs) = is_flag c && not (clashes c cs) && are_flags cs
