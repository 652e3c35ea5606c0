-- Declarators, read one by one from the front.
use Rattle.std.proofs.Common.{◌≡◌, ℕ, max, Bool, true, false, List, [], ◌∷◌, Option, Some, None, refl, ap, sym, ◌∙◌, arith}
use Rattle.js_terms.specs.declared.operators.VariableKind.{VariableKind}
use Rattle.js_terms.specs.declared.place.Loc.{Loc}
use Rattle.js_tree.specs.Plain.{Expr, Declarator, Declarators, no_declarator, more_declarator, push_declarators}
use Rattle.js_tree.specs.Height.{height_declarator, height_declarators}
use Rattle.js_reading.specs.Slots.{AnExpr, APlace, AWord, Missing}
use Rattle.js_reading.specs.Slots as slot
use Rattle.js_reading.specs.declared.form.Form.TheVariants as form
use Rattle.js_reading.specs.Makes.{build, declarators_of, is_const, one_more_declarator, variables_of}
use Rattle.js_build.specs.Callables.{initializer_of}
use Rattle.js_build.specs.DeclaratorPieces.{cons_if, declarator_with, front, is_word, one_declared, refuses, settled, unless_refused}
use Rattle.js_build.specs.declared.piece.Piece.{Piece}
use Rattle.js_build.specs.declared.piece.Piece.TheVariants as p

pub max_push : (xs : Declarators) (a : Declarator) → height_declarators (push_declarators xs a) ≡ max (height_declarator a) (height_declarators xs)
max_push no_declarator a = omega arith
max_push (more_declarator x xs) a = let e = max_push xs a in omega arith

pub front_push : (ds : Declarators) (d : Declarator) (o : Option (Declarators × List slot.Piece)) → front (push_declarators ds d) o ≡ front ds (one_more_declarator d o)
front_push no_declarator d o = refl
front_push (more_declarator q ds) d o = ap (one_more_declarator q) (front_push ds d o)

pub front_none : (ds : Declarators) → front ds None ≡ None
front_none no_declarator = refl
front_none (more_declarator q ds) = ap (one_more_declarator q) (front_none ds)

pub front_some : (ds : Declarators) (ps : List slot.Piece) → front ds (Some (no_declarator, ps)) ≡ Some (ds, ps)
front_some no_declarator ps = refl
front_some (more_declarator q ds) ps = ap (one_more_declarator q) (front_some ds ps)

settled_more : (d : Declarator) (o : Option (Declarators × List slot.Piece)) → settled (one_more_declarator d o) ≡ one_more_declarator d (settled o)
settled_more d None = refl
settled_more d (Some (ds, [])) = refl
settled_more d (Some (ds, AWord w l ∷ ps)) = refl
settled_more d (Some (ds, q ∷ ps)) = refl

abbrev pub unless : Bool → Option (Declarators × List slot.Piece) → Option (Declarators × List slot.Piece)
unless true o = None
unless false o = o

-- declarators after the first name, by what stands after it
abbrev pub word_declared : Bool → List ℕ → Loc → Option (Option (Expr × Loc) × List slot.Piece) → Option (Declarators × List slot.Piece)
word_declared strict w l None = None
word_declared strict w l (Some x) = unless (refuses strict x.0) (one_more_declarator (declarator_with w l x.0) (settled (declarators_of strict x.1)))

pub declared_word : (strict : Bool) (w : List ℕ) (l : Loc) (ps : List slot.Piece) → settled (declarators_of strict (AWord w l ∷ ps)) ≡ word_declared strict w l (initializer_of ps)
declared_word true w l [] = refl
declared_word true w l (Missing ∷ ps) = refl
declared_word true w l (AnExpr i e ∷ []) = refl
declared_word true w l (AnExpr i e ∷ APlace m ∷ ps) = settled_more (declarator_with w l (Some (e, m))) (declarators_of true ps)
declared_word true w l (AnExpr i e ∷ q ∷ ps) = refl
declared_word true w l (q ∷ ps) = refl
declared_word false w l [] = refl
declared_word false w l (Missing ∷ ps) = settled_more (declarator_with w l None) (declarators_of false ps)
declared_word false w l (AnExpr i e ∷ []) = refl
declared_word false w l (AnExpr i e ∷ APlace m ∷ ps) = settled_more (declarator_with w l (Some (e, m))) (declarators_of false ps)
declared_word false w l (AnExpr i e ∷ q ∷ ps) = refl
declared_word false w l (q ∷ ps) = refl

-- with a declarator before the others
abbrev pub more_declarators : Bool → Option (Declarator × List slot.Piece) → Option (Declarators × List slot.Piece)
more_declarators strict None = None
more_declarators strict (Some x) = one_more_declarator x.0 (settled (declarators_of strict x.1))

unless_more : (strict refused : Bool) (w : List ℕ) (l : Loc) (x : Option (Expr × Loc) × List slot.Piece) → unless refused (one_more_declarator (declarator_with w l x.0) (settled (declarators_of strict x.1))) ≡ more_declarators strict (unless_refused refused w l x)
unless_more strict true w l x = refl
unless_more strict false w l x = refl

word_more : (strict : Bool) (w : List ℕ) (l : Loc) (o : Option (Option (Expr × Loc) × List slot.Piece)) → word_declared strict w l o ≡ more_declarators strict (one_declared strict w l o)
word_more strict w l None = refl
word_more strict w l (Some x) = unless_more strict (refuses strict x.0) w l x

pub declared_first : (strict : Bool) (w : List ℕ) (l : Loc) (ps : List slot.Piece) → settled (declarators_of strict (AWord w l ∷ ps)) ≡ more_declarators strict (one_declared strict w l (initializer_of ps))
declared_first strict w l ps = declared_word strict w l ps ∙ word_more strict w l (initializer_of ps)

-- one turn: a declarator that is read goes behind those that are made
pub declared_turn : (strict : Bool) (ds : Declarators) (d : Declarator) (w : List ℕ) (l : Loc) (ps qs rs : List slot.Piece) (o : Option (Declarators × List slot.Piece)) → ps ≡ AWord w l ∷ qs → Some (d, rs) ≡ one_declared strict w l (initializer_of qs) → front ds (settled (declarators_of strict ps)) ≡ o → front (push_declarators ds d) (settled (declarators_of strict rs)) ≡ o
declared_turn strict ds d w l ps qs rs o is read made =
    let first : settled (declarators_of strict ps) ≡ one_more_declarator d (settled (declarators_of strict rs)) = ap (λ x. settled (declarators_of strict x)) is ∙ (declared_first strict w l qs ∙ ap (more_declarators strict) (sym read)) in
    front_push ds d (settled (declarators_of strict rs)) ∙ (ap (front ds) (sym first) ∙ made)

declared_other : (strict : Bool) (x : Piece) (ps : List slot.Piece) → is_word (Some x) ≡ false → settled (declarators_of strict (cons_if (Some x) ps)) ≡ Some (no_declarator, cons_if (Some x) ps)
declared_other true (p.Word w l) ps h = cc
declared_other false (p.Word w l) ps h = cc
declared_other true x ps h = refl
declared_other false x ps h = refl

-- what begins with no name is no declarator
pub declared_rest : (strict : Bool) (o : Option Piece) (ps : List slot.Piece) → is_word o ≡ false → settled (declarators_of strict (cons_if o ps)) ≡ Some (no_declarator, cons_if o ps)
declared_rest true None ps h = refl
declared_rest false None ps h = refl
declared_rest strict (Some x) ps h = declared_other strict x ps h

pub ruleset declared_rules = (max_push, front_push, front_none, front_some, declared_first, declared_rest)

variables_settled : (l : Loc) (k : VariableKind) (o : Option (Declarators × List slot.Piece)) → variables_of l k o ≡ variables_of l k (settled o)
variables_settled l k None = refl
variables_settled l k (Some (ds, [])) = refl
variables_settled l k (Some (ds, AWord w m ∷ ps)) = refl
variables_settled l k (Some (ds, q ∷ ps)) = refl

pub variables_form : (l : Loc) (k : VariableKind) (ps : List slot.Piece) → build (form.Variables k) l ps ≡ variables_of l k (settled (declarators_of (is_const k) ps))
variables_form l k ps = variables_settled l k (declarators_of (is_const k) ps)
