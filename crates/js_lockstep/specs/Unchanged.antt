-- A file that isn't counted is the same in both programs, but for the numbers of its functions.
use Rattle.std.specs.Prelude.{◌≡◌, ℕ, ◌+◌, Bool}
use Rattle.js_tree.specs.Plain.{Stmts}
use Rattle.js_tree.specs.Linked.{Unmarked, Numbers, link_stmts}
use Rattle.js_suits.specs.Rewritten.{rewritten_stmts}
use Rattle.js_suits.specs.Settings.{Tests, setting_of}

-- a tree that is linked without marks, with its counters, is what is linked from a shift further
abbrev pub LeavesUnmarked : Type 0
LeavesUnmarked = (t : Tests) (shift : ℕ) (home : Bool) (xs : Stmts) (k j : Numbers) → j.code ≡ shift + k.code →
    (rewritten_stmts (setting_of t) shift home (link_stmts Unmarked xs k).tree ≡ (link_stmts Unmarked xs j).tree) × ((link_stmts Unmarked xs j).next.code ≡ shift + (link_stmts Unmarked xs k).next.code)
