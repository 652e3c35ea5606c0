-- The parts of an object that come to the end of a property are those that an object is made of.
use Rattle.std.proofs.Common.{◌≡◌, ◌≤◌, ℕ, zero, suc, Bool, true, false, List, [], ◌∷◌, Option, Some, None, is_some, if◌then◌else◌, refl, ap, ◌∙◌, arith}
use Rattle.std.specs.Prelude.{not}
use Rattle.js_terms.specs.declared.place.Loc.{Loc}
use Rattle.js_tree.specs.Plain.{Property, PropertyKey, NameKey, StringKey, NumberKey, ComputedKey, Properties}
use Rattle.js_tree.specs.Plain as tree
use Rattle.js_reading.specs.Spans.{through}
use Rattle.js_reading.specs.Kinds.{is_keyword}
use Rattle.js_reading.specs.Slots.{Piece, AnExpr, TheStmts, AWord, AKey, APlace, Missing, IsComputed, IsMethod}
use Rattle.js_reading.specs.Makes.{after_key, is_proto, length_of, method_of, method_param, method_with, one_more_property, property_of}
use Rattle.js_build.specs.Objects.{all_properties, definition_of, shorthand_of, with_rest}
use Rattle.js_build.proofs.ObjectLaws.{after_defined, after_definition, all_end, all_more, more_of, property_shorter}
use Rattle.js_stack.specs.declared.objects.Awaits.{Awaits}
use Rattle.js_stack.specs.declared.objects.Awaits.TheVariants as a
use Rattle.js_stack.specs.Objects.{is_alone, is_valued, ends}

-- where nothing is awaited nothing ends
dead : (ps : List Piece) → false ≡ ends a.Nothing ps
dead [] = refl
dead (p ∷ ps) = dead ps

-- ---- a method

abbrev pub MethodRest : Type 0
MethodRest = Option (tree.Function × Loc × List Piece)

abbrev pub method_ends : MethodRest → Bool
method_ends None = false
method_ends (Some (f, m, rest)) = ends a.Key rest

param_ends : (p : tree.Param) (o : MethodRest) → method_ends (method_param p o) ≡ method_ends o
param_ends p None = refl
param_ends p (Some (tree.MakeFunction n xs body, m, rest)) = refl

method_is : (ps : List Piece) → method_ends (method_of ps) ≡ ends a.Parameter ps
method_is [] = refl
method_is (APlace l ∷ []) = refl
method_is (APlace l ∷ TheStmts ss ∷ []) = refl
method_is (APlace l ∷ TheStmts ss ∷ APlace m ∷ ps) = refl
method_is (APlace l ∷ TheStmts ss ∷ p ∷ ps) = dead ps
method_is (APlace l ∷ p ∷ ps) = dead ps
method_is (AWord w l ∷ []) = refl
method_is (AWord w l ∷ Missing ∷ ps) = param_ends _ (method_of ps) ∙ method_is ps
method_is (AWord w l ∷ AnExpr i e ∷ []) = refl
method_is (AWord w l ∷ AnExpr i e ∷ APlace m ∷ ps) = param_ends _ (method_of ps) ∙ method_is ps
method_is (AWord w l ∷ AnExpr i e ∷ p ∷ ps) = dead ps
method_is (AWord w l ∷ p ∷ ps) = dead ps
method_is (p ∷ ps) = dead ps

-- ---- a property

abbrev pub rest_ends : Option (Property × List Piece) → Bool
rest_ends None = false
rest_ends (Some x) = ends a.Key x.1

with_ends : (k : PropertyKey) (l : Loc) (o : MethodRest) → rest_ends (method_with k l o) ≡ method_ends o
with_ends k l None = refl
with_ends k l (Some (f, m, rest)) = refl

-- a choice of a property, and of what is awaited
unless_ends : (b : Bool) (p : Property) (s : Awaits) (ps qs : List Piece) → ends a.Key qs ≡ ends s ps → rest_ends (with_rest (if b then None else Some p) qs) ≡ ends (if not b then s else a.Nothing) ps
unless_ends true p s ps qs h = dead ps
unless_ends false p s ps qs h = h

-- a value that does not end with its place
value_ends : (b : Bool) (ps : List Piece) → false ≡ ends a.ValueEnd ps → false ≡ ends (if not b then a.ValueEnd else a.Nothing) ps
value_ends true ps h = dead ps
value_ends false ps h = h

alone_is : (k : PropertyKey) (l : Loc) (ps : List Piece) → rest_ends (with_rest (shorthand_of k l) ps) ≡ ends (if is_alone k then a.Key else a.Nothing) ps
alone_is (NameKey w) l ps = unless_ends (is_keyword w) (tree.Shorthand (Some l) w) a.Key ps ps refl
alone_is (StringKey s) l ps = dead ps
alone_is (NumberKey w) l ps = dead ps
alone_is (ComputedKey e) l ps = dead ps

defined_is : (k : PropertyKey) (l : Loc) (ps : List Piece) → rest_ends (after_definition k l (definition_of ps)) ≡ ends (a.Definition (is_alone k) (is_valued k)) ps
defined_is k l [] = refl
defined_is k l (Missing ∷ ps) = alone_is k l ps
defined_is k l (AnExpr i v ∷ []) = value_ends (is_proto k) [] refl
defined_is k l (AnExpr i v ∷ APlace m ∷ ps) = unless_ends (is_proto k) (tree.KeyValue (Some (through l m)) k v) a.ValueEnd (APlace m ∷ ps) ps refl
defined_is k l (AnExpr i v ∷ p ∷ ps) = value_ends (is_proto k) (p ∷ ps) (dead ps)
defined_is k l (IsMethod ∷ ps) = with_ends k l (method_of ps) ∙ method_is ps
defined_is k l (p ∷ ps) = dead ps

after_is : (k : PropertyKey) (l : Loc) (ps : List Piece) → rest_ends (after_key k l ps) ≡ ends (a.Definition (is_alone k) (is_valued k)) ps
after_is k l ps = ap rest_ends (after_defined k l ps) ∙ defined_is k l ps

property_is : (p : Piece) (ps : List Piece) → rest_ends (property_of (p ∷ ps)) ≡ ends a.Key (p ∷ ps)
property_is IsComputed [] = refl
property_is IsComputed (APlace l ∷ []) = refl
property_is IsComputed (APlace l ∷ AnExpr i e ∷ ps) = after_is (ComputedKey e) l ps
property_is IsComputed (APlace l ∷ p ∷ ps) = dead ps
property_is IsComputed (p ∷ ps) = dead ps
property_is (AKey k l) ps = after_is k l ps
property_is p ps = dead ps

-- ---- all properties

one_more_is : (p : Property) (o : Option Properties) → is_some (one_more_property p o) ≡ is_some o
one_more_is p None = refl
one_more_is p (Some ps) = refl

more_is : (o : Option (Property × List Piece)) → ((q : Property) (rest : List Piece) → Some (q, rest) ≡ o → is_some (all_properties rest) ≡ ends a.Key rest) → is_some (more_of o) ≡ rest_ends o
more_is None is = refl
more_is (Some (q, rest)) is = one_more_is q (all_properties rest) ∙ is q rest refl

within : (n : ℕ) (ps : List Piece) → length_of ps ≤ n → is_some (all_properties ps) ≡ ends a.Key ps
within n [] le = ap is_some all_end
within zero (p ∷ ps) le = absurd (omega arith)
within (suc n) (p ∷ ps) le =
    ap is_some (all_more p ps)
    ∙ (more_is (property_of (p ∷ ps)) (λ q rest is. let h = property_shorter q rest p ps is in within n rest (omega arith))
    ∙ property_is p ps)

pub object_is : (ps : List Piece) → is_some (all_properties ps) ≡ ends a.Key ps
object_is ps = within (length_of ps) ps (omega arith)
