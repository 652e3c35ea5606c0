-- What hints take out of a file. A comment belongs to the outermost node that starts, with its parentheses, at the next token. Nodes are
-- statements, cases, declarators, properties, parameters and expressions.
use Rattle.std.specs.Prelude.{Bool, true, false, List, [], ◌∷◌, ◌++◌, Option, Some, None, if◌then◌else◌}
use Rattle.js_tree.specs.Comments.{hint_before, ignores_file}
use Rattle.js_tree.specs.declared.hint.Hint.{Hint}
use Rattle.js_tree.specs.declared.hint.Hint.TheVariants as hint
use Rattle.js_terms.specs.declared.place.Loc.{Loc}
use Rattle.js_terms.specs.declared.place.Pos.{Pos}
use Rattle.js_terms.specs.declared.words.Comment.{Comment}
use Rattle.js_tree.specs.Places.{bare_place, expr_place, case_place}
use Rattle.js_tree.specs.Plain.{Expr, Logical, Parenthesized, Entered, Cases, no_case, more_case}

-- what is left in a part of a counted file: nothing where it is taken out; else all but what a hint before its token takes out
pub data Heed : Type 0 where
  Ignored : Heed
  Heeding : (hints : Pos → Option Hint) → Heed

-- a file: one without hints; one with these comments
abbrev pub no_hints : Heed
no_hints = Heeding (λ token. None)

abbrev pub heed_comments : List Comment → Heed
heed_comments comments = if ignores_file comments then Ignored else Heeding (hint_before comments)

-- the hint before what starts here: what stands nowhere has none
abbrev pub hint_at : (Pos → Option Hint) → Option Loc → Option Hint
hint_at hints None = None
hint_at hints (Some loc) = hints loc.start

-- a hint that takes out the arm where the condition holds, or fails
abbrev pub is_hint : Hint → Option Hint → Bool
is_hint which None = false
is_hint hint.If (Some hint.If) = true
is_hint hint.Else (Some hint.Else) = true
is_hint hint.Next (Some hint.Next) = true
is_hint which (Some other) = false

-- who owns the place: of the nodes that start here the outermost is asked first, and `next` takes it out with all in it; so no other
-- node is asked that starts at a token before which `next` stands
abbrev pub heed : Heed → Option Loc → Heed
heed Ignored place = Ignored
heed (Heeding hints) place = if is_hint hint.Next (hint_at hints place) then Ignored else Heeding hints

-- an arm of an `if` statement that stands here, which is the outermost node that starts with its `if`: that word takes it out with all in it
abbrev pub heed_arm : Hint → Heed → Option Loc → Heed
heed_arm which Ignored place = Ignored
heed_arm which (Heeding hints) place = if is_hint which (hint_at hints place) then Ignored else Heeding hints

-- what is taken out is counted nowhere
abbrev pub heeded_place : Heed → Option Loc → Option Loc
heeded_place Ignored place = None
heeded_place (Heeding hints) place = place

-- ---- the paths of a branch: those of the parts that aren't taken out

-- of a part that stands here
abbrev pub path_in : Heed → Option Loc → List (Option Loc)
path_in Ignored place = []
path_in (Heeding hints) place = place ∷ []

-- of the cases of a `switch`
abbrev pub case_paths : Heed → Cases → List (Option Loc)
case_paths left no_case = []
case_paths left (more_case x cases) = path_in (heed left (case_place x)) (case_place x) ++ case_paths left cases

-- of the leaves of a chain of logical operators, parentheses notwithstanding
abbrev pub leaf_paths : Heed → Expr → List (Option Loc)
leaf_paths left (Logical _ _ e f) = leaf_paths (heed left (expr_place e)) e ++ leaf_paths (heed left (expr_place f)) f
leaf_paths left (Parenthesized _ inner) = leaf_paths left inner
leaf_paths left (Entered _ inner) = leaf_paths left inner
leaf_paths left leaf = path_in left (bare_place leaf)
