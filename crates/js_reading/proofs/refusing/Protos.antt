-- A property with the key `__proto__` and a value: no object is made of parts with it.
use Rattle.std.proofs.Common.{◌≡◌, ℕ, zero, suc, Bool, true, false, List, [], ◌∷◌, ◌++◌, Option, Some, None, if◌then◌else◌, refl, sym, ap, subst, ◌∙◌}
use Rattle.std.proofs.lemmas.Bool.{cond-true}
use Rattle.js_terms.specs.declared.place.Loc.{Loc}
use Rattle.js_tree.specs.Plain.{Expr, Stmts}
use Rattle.js_tree.specs.Plain as tree
use Rattle.js_reading.specs.Kinds.{is_keyword}
use Rattle.js_reading.specs.Slots.{Piece, AnExpr, TheStmts, AWord, AKey, APlace, Missing, IsComputed, IsMethod, Form}
use Rattle.js_reading.specs.Slots as slot
use Rattle.js_reading.specs.Makes.{build, is_proto, one_more_property, method_param, method_of, method_with, after_key, property_of, then_properties, properties_of, object_of, length_of}

-- the parts of such a property, and those after it
abbrev pub part : tree.PropertyKey → Loc → ℕ → Expr → Loc → List Piece → List Piece
part k l i e m qs = AKey k l ∷ AnExpr i e ∷ APlace m ∷ qs

-- what is left ends with them
abbrev pub Left : {A : Type 0} → List Piece → Option (A × List Piece) → Type 0
Left z None = Unit {0}
Left z (Some found) = (ps : List Piece) × (found.1 ≡ ps ++ z)

abbrev pub LeftMethod : List Piece → Option (tree.Function × Loc × List Piece) → Type 0
LeftMethod z None = Unit {0}
LeftMethod z (Some (f, m, rest)) = (ps : List Piece) × (rest ≡ ps ++ z)

param_left : (z : List Piece) (p : tree.Param) (o : Option (tree.Function × Loc × List Piece)) → LeftMethod z o → LeftMethod z (method_param p o)
param_left z p None h = tt
param_left z p (Some (tree.MakeFunction n xs body, m, rest)) h = h

method_left : (k : tree.PropertyKey) (l : Loc) (i : ℕ) (e : Expr) (m : Loc) (qs ps : List Piece) → LeftMethod (part k l i e m qs) (method_of (ps ++ part k l i e m qs))
method_left k l i e m qs [] = tt
method_left k l i e m qs (APlace x ∷ TheStmts ss ∷ APlace y ∷ ps) = (ps, refl)
method_left k l i e m qs (APlace x ∷ []) = tt
method_left k l i e m qs (APlace x ∷ TheStmts ss ∷ []) = tt
method_left k l i e m qs (APlace x ∷ TheStmts ss ∷ p ∷ ps) = tt
method_left k l i e m qs (APlace x ∷ p ∷ ps) = tt
method_left k l i e m qs (AWord w x ∷ Missing ∷ ps) = param_left (part k l i e m qs) _ (method_of (ps ++ part k l i e m qs)) (method_left k l i e m qs ps)
method_left k l i e m qs (AWord w x ∷ AnExpr j y ∷ APlace z ∷ ps) = param_left (part k l i e m qs) _ (method_of (ps ++ part k l i e m qs)) (method_left k l i e m qs ps)
method_left k l i e m qs (AWord w x ∷ []) = tt
method_left k l i e m qs (AWord w x ∷ AnExpr j y ∷ []) = tt
method_left k l i e m qs (AWord w x ∷ AnExpr j y ∷ p ∷ ps) = tt
method_left k l i e m qs (AWord w x ∷ p ∷ ps) = tt
method_left k l i e m qs (p ∷ ps) = tt

with_left : (z : List Piece) (k : tree.PropertyKey) (l : Loc) (o : Option (tree.Function × Loc × List Piece)) → LeftMethod z o → Left z (method_with k l o)
with_left z k l None h = tt
with_left z k l (Some (f, m, rest)) h = h

by_test : {A : Type 0} (z : List Piece) (b : Bool) (x : A) (ps : List Piece) → Left z (if b then None else Some (x, ps ++ z))
by_test z true x ps = tt
by_test z false x ps = (ps, refl)

key_left : (k : tree.PropertyKey) (l : Loc) (i : ℕ) (e : Expr) (m : Loc) (qs : List Piece) (j : tree.PropertyKey) (x : Loc) (ps : List Piece) → Left (part k l i e m qs) (after_key j x (ps ++ part k l i e m qs))
key_left k l i e m qs (tree.NameKey w) x (Missing ∷ ps) = by_test (part k l i e m qs) (is_keyword w) _ ps
key_left k l i e m qs (tree.NameKey w) x (AnExpr a v ∷ APlace y ∷ ps) = by_test (part k l i e m qs) (is_proto (tree.NameKey w)) _ ps
key_left k l i e m qs (tree.StringKey w) x (AnExpr a v ∷ APlace y ∷ ps) = by_test (part k l i e m qs) (is_proto (tree.StringKey w)) _ ps
key_left k l i e m qs (tree.NumberKey w) x (AnExpr a v ∷ APlace y ∷ ps) = (ps, refl)
key_left k l i e m qs (tree.ComputedKey w) x (AnExpr a v ∷ APlace y ∷ ps) = (ps, refl)
key_left k l i e m qs j x (IsMethod ∷ ps) = method_key j
  where
    rest : (j : tree.PropertyKey) → Left (part k l i e m qs) (method_with j x (method_of (ps ++ part k l i e m qs)))
    rest j = with_left (part k l i e m qs) j x (method_of (ps ++ part k l i e m qs)) (method_left k l i e m qs ps)

    method_key : (j : tree.PropertyKey) → Left (part k l i e m qs) (after_key j x (IsMethod ∷ (ps ++ part k l i e m qs)))
    method_key (tree.NameKey w) = rest (tree.NameKey w)
    method_key (tree.StringKey w) = rest (tree.StringKey w)
    method_key (tree.NumberKey w) = rest (tree.NumberKey w)
    method_key (tree.ComputedKey w) = rest (tree.ComputedKey w)
key_left k l i e m qs j x [] = none_key j
  where
    none_key : (j : tree.PropertyKey) → Left (part k l i e m qs) (after_key j x (part k l i e m qs))
    none_key (tree.NameKey w) = tt
    none_key (tree.StringKey w) = tt
    none_key (tree.NumberKey w) = tt
    none_key (tree.ComputedKey w) = tt
key_left k l i e m qs (tree.NameKey w) x (AnExpr a v ∷ []) = tt
key_left k l i e m qs (tree.StringKey w) x (AnExpr a v ∷ []) = tt
key_left k l i e m qs (tree.NumberKey w) x (AnExpr a v ∷ []) = tt
key_left k l i e m qs (tree.ComputedKey w) x (AnExpr a v ∷ []) = tt
key_left k l i e m qs (tree.NameKey w) x (AnExpr a v ∷ p ∷ ps) = tt
key_left k l i e m qs (tree.StringKey w) x (AnExpr a v ∷ p ∷ ps) = tt
key_left k l i e m qs (tree.NumberKey w) x (AnExpr a v ∷ p ∷ ps) = tt
key_left k l i e m qs (tree.ComputedKey w) x (AnExpr a v ∷ p ∷ ps) = tt
key_left k l i e m qs (tree.NameKey w) x (p ∷ ps) = tt
key_left k l i e m qs (tree.StringKey w) x (p ∷ ps) = tt
key_left k l i e m qs (tree.NumberKey w) x (p ∷ ps) = tt
key_left k l i e m qs (tree.ComputedKey w) x (p ∷ ps) = tt

proto_none : (k : tree.PropertyKey) → is_proto k ≡ true → (l : Loc) (i : ℕ) (e : Expr) (m : Loc) (qs : List Piece) → after_key k l (AnExpr i e ∷ APlace m ∷ qs) ≡ None
proto_none (tree.NameKey w) h l i e m qs = cond-true (is_proto (tree.NameKey w)) _ _ h
proto_none (tree.StringKey w) h l i e m qs = cond-true (is_proto (tree.StringKey w)) _ _ h
proto_none (tree.NumberKey w) h l i e m qs = absurd cc
proto_none (tree.ComputedKey w) h l i e m qs = absurd cc

property_left : (k : tree.PropertyKey) (l : Loc) (i : ℕ) (e : Expr) (m : Loc) (qs : List Piece) → is_proto k ≡ true → (ps : List Piece) → Left (part k l i e m qs) (property_of (ps ++ part k l i e m qs))
property_left k l i e m qs h [] = subst (λ o. Left (part k l i e m qs) o) (sym (proto_none k h l i e m qs)) tt
property_left k l i e m qs h (IsComputed ∷ APlace x ∷ AnExpr a v ∷ ps) = key_left k l i e m qs (tree.ComputedKey v) x ps
property_left k l i e m qs h (IsComputed ∷ APlace x ∷ []) = tt
property_left k l i e m qs h (IsComputed ∷ APlace x ∷ p ∷ ps) = tt
property_left k l i e m qs h (IsComputed ∷ []) = tt
property_left k l i e m qs h (IsComputed ∷ p ∷ ps) = tt
property_left k l i e m qs h (AKey j x ∷ ps) = key_left k l i e m qs j x ps
property_left k l i e m qs h (p ∷ ps) = tt

properties_none : (n : ℕ) (k : tree.PropertyKey) (l : Loc) (i : ℕ) (e : Expr) (m : Loc) (qs : List Piece) → is_proto k ≡ true → (ps : List Piece) → properties_of n (ps ++ part k l i e m qs) ≡ None
properties_none zero k l i e m qs h [] = refl
properties_none zero k l i e m qs h (p ∷ ps) = refl
properties_none (suc n) k l i e m qs h [] = ap (λ o. then_properties o (λ rest. properties_of n rest)) (proto_none k h l i e m qs)
properties_none (suc n) k l i e m qs h (p ∷ ps) = by_property (property_of (p ∷ (ps ++ part k l i e m qs))) (property_left k l i e m qs h (p ∷ ps)) (λ rest. properties_none n k l i e m qs h rest)
  where
    by_property : (o : Option (tree.Property × List Piece)) → Left (part k l i e m qs) o → ((rest : List Piece) → properties_of n (rest ++ part k l i e m qs) ≡ None) → then_properties o (λ rest. properties_of n rest) ≡ None
    by_property None x go = refl
    by_property (Some (y, rest)) x go = ap (λ r. one_more_property y (properties_of n r)) x.1 ∙ ap (one_more_property y) (go x.0)

-- no object has it
pub no_object : (k : tree.PropertyKey) (l : Loc) (i : ℕ) (e : Expr) (m : Loc) (ps qs : List Piece) → is_proto k ≡ true → (w : Loc) → build slot.ObjectLiteral w (ps ++ part k l i e m qs) ≡ None
no_object k l i e m ps qs h w = ap (object_of w) (properties_none (length_of (ps ++ part k l i e m qs)) k l i e m qs h ps)
