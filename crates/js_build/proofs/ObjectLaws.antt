-- Properties, read one by one from the front.
use Rattle.std.proofs.Common.{◌≡◌, ◌≤◌, ◌<◌, ℕ, zero, suc, max, Bool, true, false, List, [], ◌∷◌, Option, Some, None, if◌then◌else◌, refl, ap, sym, subst, ◌∙◌, arith}
use Rattle.js_terms.specs.declared.place.Loc.{Loc}
use Rattle.js_tree.specs.Plain.{Expr, Property, PropertyKey, NameKey, StringKey, NumberKey, ComputedKey, Properties, no_property, more_property, push_properties}
use Rattle.js_tree.specs.Plain as tree
use Rattle.js_tree.specs.Height.{height_properties, height_property}
use Rattle.js_tree.proofs.Equations.{property_rolled, property_shorthand, property_key_value, property_method, property_key_name_key, property_key_string_key, property_key_number_key, property_key_computed_key}
use Rattle.js_reading.specs.Spans.{through}
use Rattle.js_reading.specs.Kinds.{is_keyword}
use Rattle.js_reading.specs.Slots.{Piece, AnExpr, TheStmts, AWord, AKey, APlace, Missing, IsComputed, IsMethod}
use Rattle.js_reading.specs.Makes.{after_key, is_proto, length_of, method_of, method_param, method_with, one_more_property, properties_of, property_of, then_properties}
use Rattle.js_build.specs.Objects.{Defined, BySelf, ByValue, ByMethod, all_properties, computed_of, definition_of, first_place, key_of, key_value_of, shorthand_of, with_rest}
use Rattle.js_build.specs.Shapes.{first_expr}

pub ruleset key_rules = (property_key_name_key, property_key_string_key, property_key_number_key, property_key_computed_key)

pub ruleset property_rules = (property_rolled, property_shorthand, property_key_value, property_method)

-- ---- keys

abbrev pub computed_after : Loc → Option ((ℕ × Expr) × List Piece) → Option ((PropertyKey × Loc) × List Piece)
computed_after l None = None
computed_after l (Some x) = Some ((ComputedKey x.0.1, l), x.1)

abbrev pub computed_at : Option (Loc × List Piece) → Option ((PropertyKey × Loc) × List Piece)
computed_at None = None
computed_at (Some x) = computed_after x.0 (first_expr x.1)

pub computed_first : (ps : List Piece) → computed_of ps ≡ computed_at (first_place ps)
computed_first [] = refl
computed_first (APlace l ∷ []) = refl
computed_first (APlace l ∷ AnExpr i e ∷ ps) = refl
computed_first (APlace l ∷ p ∷ ps) = refl
computed_first (p ∷ ps) = refl

abbrev pub with_key : Option ((PropertyKey × Loc) × List Piece) → Option (Property × List Piece)
with_key None = None
with_key (Some x) = after_key x.0.0 x.0.1 x.1

pub property_keyed : (p : Piece) (ps : List Piece) → property_of (p ∷ ps) ≡ with_key (key_of p ps)
property_keyed IsComputed [] = refl
property_keyed IsComputed (APlace l ∷ []) = refl
property_keyed IsComputed (APlace l ∷ AnExpr i e ∷ ps) = refl
property_keyed IsComputed (APlace l ∷ p ∷ ps) = refl
property_keyed IsComputed (p ∷ ps) = refl
property_keyed (AKey k l) ps = refl
property_keyed p ps = refl

-- ---- what stands after a key

abbrev pub valued : Expr → Option (Loc × List Piece) → Option (Defined × List Piece)
valued v None = None
valued v (Some x) = Some (ByValue v x.0, x.1)

pub definition_value : (i : ℕ) (v : Expr) (ps : List Piece) → definition_of (AnExpr i v ∷ ps) ≡ valued v (first_place ps)
definition_value i v [] = refl
definition_value i v (APlace m ∷ ps) = refl
definition_value i v (p ∷ ps) = refl

abbrev pub after_definition : PropertyKey → Loc → Option (Defined × List Piece) → Option (Property × List Piece)
after_definition k l None = None
after_definition k l (Some (BySelf, ps)) = with_rest (shorthand_of k l) ps
after_definition k l (Some (ByValue v m, ps)) = with_rest (key_value_of k l v m) ps
after_definition k l (Some (ByMethod, ps)) = method_with k l (method_of ps)

unless_rest : (b : Bool) (p : Property) (ps : List Piece) → (if b then None else Some (p, ps)) ≡ with_rest (if b then None else Some p) ps
unless_rest true p ps = refl
unless_rest false p ps = refl

pub after_defined : (k : PropertyKey) (l : Loc) (ps : List Piece) → after_key k l ps ≡ after_definition k l (definition_of ps)
after_defined (NameKey w) l [] = refl
after_defined (NameKey w) l (Missing ∷ ps) = unless_rest (is_keyword w) (tree.Shorthand (Some l) w) ps
after_defined (NameKey w) l (AnExpr i v ∷ []) = refl
after_defined (NameKey w) l (AnExpr i v ∷ APlace m ∷ ps) = unless_rest (is_proto (NameKey w)) (tree.KeyValue (Some (through l m)) (NameKey w) v) ps
after_defined (NameKey w) l (AnExpr i v ∷ p ∷ ps) = refl
after_defined (NameKey w) l (p ∷ ps) = refl
after_defined (StringKey s) l [] = refl
after_defined (StringKey s) l (AnExpr i v ∷ []) = refl
after_defined (StringKey s) l (AnExpr i v ∷ APlace m ∷ ps) = unless_rest (is_proto (StringKey s)) (tree.KeyValue (Some (through l m)) (StringKey s) v) ps
after_defined (StringKey s) l (AnExpr i v ∷ p ∷ ps) = refl
after_defined (StringKey s) l (p ∷ ps) = refl
after_defined (NumberKey w) l [] = refl
after_defined (NumberKey w) l (AnExpr i v ∷ []) = refl
after_defined (NumberKey w) l (AnExpr i v ∷ APlace m ∷ ps) = refl
after_defined (NumberKey w) l (AnExpr i v ∷ p ∷ ps) = refl
after_defined (NumberKey w) l (p ∷ ps) = refl
after_defined (ComputedKey e) l [] = refl
after_defined (ComputedKey e) l (AnExpr i v ∷ []) = refl
after_defined (ComputedKey e) l (AnExpr i v ∷ APlace m ∷ ps) = refl
after_defined (ComputedKey e) l (AnExpr i v ∷ p ∷ ps) = refl
after_defined (ComputedKey e) l (p ∷ ps) = refl

-- ---- a property takes a piece at least

abbrev pub MethodWithin : ℕ → Option (tree.Function × Loc × List Piece) → Type 0
MethodWithin n None = Unit {0}
MethodWithin n (Some (f, m, rest)) = length_of rest ≤ n

method_weaker : (n k : ℕ) (o : Option (tree.Function × Loc × List Piece)) → MethodWithin n o → n ≤ k → MethodWithin k o
method_weaker n k None is le = tt
method_weaker n k (Some (f, m, rest)) is le = omega arith

param_within : (n k : ℕ) (p : tree.Param) (o : Option (tree.Function × Loc × List Piece)) → MethodWithin n o → n ≤ k → MethodWithin k (method_param p o)
param_within n k p None is le = tt
param_within n k p (Some (tree.MakeFunction j xs body, m, rest)) is le = omega arith

method_within : (ps : List Piece) → MethodWithin (length_of ps) (method_of ps)
method_within (APlace l ∷ TheStmts ss ∷ APlace m ∷ ps) = omega arith
method_within (AWord w l ∷ Missing ∷ ps) = param_within (length_of ps) (length_of (AWord w l ∷ Missing ∷ ps)) _ (method_of ps) (method_within ps) (omega arith)
method_within (AWord w l ∷ AnExpr i e ∷ APlace m ∷ ps) = param_within (length_of ps) (length_of (AWord w l ∷ AnExpr i e ∷ APlace m ∷ ps)) _ (method_of ps) (method_within ps) (omega arith)
method_within ps = tt

abbrev pub Within : ℕ → Option (Property × List Piece) → Type 0
Within n None = Unit {0}
Within n (Some x) = length_of x.1 ≤ n

weaker : (n k : ℕ) (o : Option (Property × List Piece)) → Within n o → n ≤ k → Within k o
weaker n k None is le = tt
weaker n k (Some x) is le = omega arith

with_within : (n : ℕ) (k : PropertyKey) (l : Loc) (o : Option (tree.Function × Loc × List Piece)) → MethodWithin n o → Within n (method_with k l o)
with_within n k l None is = tt
with_within n k l (Some (f, m, rest)) is = is

rest_within : (n : ℕ) (o : Option Property) (ps : List Piece) → length_of ps ≤ n → Within n (with_rest o ps)
rest_within n None ps le = tt
rest_within n (Some p) ps le = le

definition_within : (k : PropertyKey) (l : Loc) (ps : List Piece) → Within (length_of ps) (after_definition k l (definition_of ps))
definition_within k l (Missing ∷ ps) = rest_within (length_of (Missing ∷ ps)) (shorthand_of k l) ps (omega arith)
definition_within k l (AnExpr i v ∷ APlace m ∷ ps) = rest_within (length_of (AnExpr i v ∷ APlace m ∷ ps)) (key_value_of k l v m) ps (omega arith)
definition_within k l (IsMethod ∷ ps) = weaker (length_of ps) (length_of (IsMethod ∷ ps)) (method_with k l (method_of ps)) (with_within (length_of ps) k l (method_of ps) (method_within ps)) (omega arith)
definition_within k l ps = tt

after_within : (k : PropertyKey) (l : Loc) (ps : List Piece) → Within (length_of ps) (after_key k l ps)
after_within k l ps = subst (λ o. Within (length_of ps) o) (sym (after_defined k l ps)) (definition_within k l ps)

property_within : (p : Piece) (ps : List Piece) → Within (length_of ps) (property_of (p ∷ ps))
property_within IsComputed (APlace l ∷ AnExpr i e ∷ ps) = weaker (length_of ps) (length_of (APlace l ∷ AnExpr i e ∷ ps)) (after_key (ComputedKey e) l ps) (after_within (ComputedKey e) l ps) (omega arith)
property_within (AKey k l) ps = after_within k l ps
property_within p ps = tt

pub property_shorter : (q : Property) (rest : List Piece) (p : Piece) (ps : List Piece) → Some (q, rest) ≡ property_of (p ∷ ps) → length_of rest < length_of (p ∷ ps)
property_shorter q rest p ps is = let h : length_of rest ≤ length_of ps = subst (λ o. Within (length_of ps) o) (sym is) (property_within p ps) in omega arith

-- ---- all properties, however many pieces may be read

then_same : (n : ℕ) (o : Option (Property × List Piece)) (f g : List Piece → Option Properties) → Within n o → ((rest : List Piece) → length_of rest ≤ n → f rest ≡ g rest) → then_properties o f ≡ then_properties o g
then_same n None f g is same = refl
then_same n (Some (p, rest)) f g is same = ap (one_more_property p) (same rest is)

enough : (n k : ℕ) (ps : List Piece) → length_of ps ≤ n → length_of ps ≤ k → properties_of n ps ≡ properties_of k ps
enough zero zero [] one two = refl
enough zero (suc k) [] one two = refl
enough (suc n) zero [] one two = refl
enough (suc n) (suc k) [] one two = refl
enough zero k (p ∷ ps) one two = absurd (omega arith)
enough (suc n) zero (p ∷ ps) one two = absurd (omega arith)
enough (suc n) (suc k) (p ∷ ps) one two = then_same (length_of ps) (property_of (p ∷ ps)) (λ rest. properties_of n rest) (λ rest. properties_of k rest) (property_within p ps) (λ rest le. enough n k rest (omega arith) (omega arith))

abbrev pub more_of : Option (Property × List Piece) → Option Properties
more_of None = None
more_of (Some x) = one_more_property x.0 (all_properties x.1)

then_all : (n : ℕ) (o : Option (Property × List Piece)) → Within n o → then_properties o (λ rest. properties_of n rest) ≡ more_of o
unfolding all_properties
then_all n None is = refl
then_all n (Some (p, rest)) is = ap (one_more_property p) (enough n (length_of rest) rest is (omega arith))

pub all_more : (p : Piece) (ps : List Piece) → all_properties (p ∷ ps) ≡ more_of (property_of (p ∷ ps))
unfolding all_properties
all_more p ps = then_all (length_of ps) (property_of (p ∷ ps)) (property_within p ps)

pub all_end : all_properties [] ≡ Some no_property
unfolding all_properties
all_end = refl

-- ---- those that are made, before the others

abbrev pub front : Properties → Option Properties → Option Properties
front no_property o = o
front (more_property p ps) o = one_more_property p (front ps o)

pub front_push : (ps : Properties) (p : Property) (o : Option Properties) → front (push_properties ps p) o ≡ front ps (one_more_property p o)
front_push no_property p o = refl
front_push (more_property q ps) p o = ap (one_more_property q) (front_push ps p o)

pub front_none : (ps : Properties) → front ps None ≡ None
front_none no_property = refl
front_none (more_property q ps) = ap (one_more_property q) (front_none ps)

pub front_all : (ps : Properties) → front ps (Some no_property) ≡ Some ps
front_all no_property = refl
front_all (more_property q ps) = ap (one_more_property q) (front_all ps)

pub max_push : (xs : Properties) (a : Property) → height_properties (push_properties xs a) ≡ max (height_property a) (height_properties xs)
max_push no_property a = omega arith
max_push (more_property x xs) a = let e = max_push xs a in omega arith

pub property_turn : (xs : Properties) (x : Property) (p : Piece) (ps rest : List Piece) (whole : Option Properties) → Some (x, rest) ≡ property_of (p ∷ ps) → front xs (all_properties (p ∷ ps)) ≡ whole → front (push_properties xs x) (all_properties rest) ≡ whole
property_turn xs x p ps rest whole read so = front_push xs x (all_properties rest) ∙ ap (λ o. front xs (more_of o)) read ∙ ap (front xs) (sym (all_more p ps)) ∙ so

pub property_missing : (xs : Properties) (p : Piece) (ps : List Piece) (whole : Option Properties) → None ≡ property_of (p ∷ ps) → front xs (all_properties (p ∷ ps)) ≡ whole → None ≡ whole
property_missing xs p ps whole read so = sym (front_none xs) ∙ ap (λ o. front xs (more_of o)) read ∙ ap (front xs) (sym (all_more p ps)) ∙ so

pub properties_end : (xs : Properties) (ps : List Piece) (whole : Option Properties) → ps ≡ [] → front xs (all_properties ps) ≡ whole → Some xs ≡ whole
properties_end xs ps whole over so = sym (front_all xs) ∙ ap (front xs) (sym all_end) ∙ ap (λ left. front xs (all_properties left)) (sym over) ∙ so

pub ruleset object_rules = (front_push, front_none, front_all, max_push, all_more, all_end)
