-- The parts of an object that is whole, gone through one by one.
use Rattle.std.specs.Prelude.{Bool, true, false, not, List, [], ◌∷◌, if◌then◌else◌}
use Rattle.js_tree.specs.Plain.{PropertyKey, NameKey}
use Rattle.js_reading.specs.Kinds.{is_keyword}
use Rattle.js_reading.specs.Slots.{Piece, AnExpr, TheStmts, AWord, AKey, APlace, Missing, IsComputed, IsMethod}
use Rattle.js_reading.specs.Makes.{is_proto}
use Rattle.js_stack.specs.declared.objects.Awaits.{Awaits}
use Rattle.js_stack.specs.declared.objects.Awaits.TheVariants as a

-- a key may be a property alone (13.2.5), and have a value
abbrev pub is_alone : PropertyKey → Bool
is_alone (NameKey w) = not (is_keyword w)
is_alone k = false

abbrev pub is_valued : PropertyKey → Bool
is_valued k = not (is_proto k)

-- what is awaited after a part
abbrev pub after_place : Awaits → Piece → Awaits
after_place next (APlace l) = next
after_place next p = a.Nothing

abbrev pub after : Awaits → Piece → Awaits
after a.Key IsComputed = a.KeyPlace
after a.Key (AKey k l) = a.Definition (is_alone k) (is_valued k)
after a.KeyPlace p = after_place a.KeyExpression p
after a.KeyExpression (AnExpr i e) = a.Definition false true
after (a.Definition alone valued) Missing = if alone then a.Key else a.Nothing
after (a.Definition alone valued) (AnExpr i e) = if valued then a.ValueEnd else a.Nothing
after (a.Definition alone valued) IsMethod = a.Parameter
after a.ValueEnd p = after_place a.Key p
after a.Parameter (AWord w l) = a.Initializer
after a.Parameter (APlace l) = a.Body
after a.Initializer Missing = a.Parameter
after a.Initializer (AnExpr i e) = a.InitializerEnd
after a.InitializerEnd p = after_place a.Parameter p
after a.Body (TheStmts ss) = a.BodyEnd
after a.BodyEnd p = after_place a.Key p
after s p = a.Nothing

abbrev pub is_key : Awaits → Bool
is_key a.Key = true
is_key s = false

-- these parts come to the end of a property, or to none
abbrev pub ends : Awaits → List Piece → Bool
ends s [] = is_key s
ends s (p ∷ ps) = ends (after s p) ps
