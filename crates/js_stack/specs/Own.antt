-- What is asked of the parts of a production: whether there are any, and whether what comes after one is a function's own.
use Rattle.std.specs.Prelude.{Bool, true, false, List, []}
use Rattle.js_reading.specs.Slots.{Piece, TheStmts, IsMethod}

abbrev pub no_part : List Piece → Bool
no_part [] = true
no_part ps = false

-- a method's begins with its mark, and its body ends it, as it ends a function's
abbrev pub own_after : Piece → Bool → Bool
own_after IsMethod before = true
own_after (TheStmts ss) before = false
own_after p before = before
