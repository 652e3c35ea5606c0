-- What names a set has, and what a parameter has.
use Rattle.std.specs.Prelude.{ℕ, Bool, true, false, List, map}
use Rattle.js_tree.specs.Plain as P
use Rattle.std.specs.BTreeSet.{BTreeSet}
use denote.Ref.{Bor}

abbrev pub seen : BTreeSet (Bor (List ℕ)) → List (List ℕ)
seen s = map (λ k. k.now) s.keys

abbrev pub defaulted : P.Param → Bool
defaulted (P.MakeParam loc pattern P.none_expr) = false
defaulted (P.MakeParam loc pattern (P.some_expr e)) = true
