-- `this` outside every function (ECMA-262, 13.2.1): in an arrow it is what it is around it, and a function or a method has its own, in
-- its parameters and its body.
use Rattle.std.specs.Prelude.{Bool, true, false, List, [], ◌∷◌, Option, Some, None}
use Rattle.js_terms.specs.declared.place.Loc.{Loc}
use Rattle.js_tree.specs.Plain.{This, Stmts}
use Rattle.js_walk.specs.Part.{Part, AnExpr, AFunction}
use Rattle.js_walk.specs.Walk.{within_stmts}

-- where it stands
abbrev pub own_this : Unit {0} → Part → List (Option Loc)
own_this _ (AnExpr (This loc)) = loc ∷ []
own_this _ part = []

-- functions and methods are passed over, and arrows aren't
abbrev pub outside_functions : Unit {0} → Part → Option (Unit {0})
outside_functions _ (AFunction function) = None
outside_functions _ part = Some tt

abbrev pub is_there : {A : Type 0} → List A → Bool
is_there [] = false
is_there (x ∷ xs) = true

abbrev pub this_stmts : Stmts → Bool
this_stmts statements = is_there (within_stmts own_this outside_functions statements tt)
