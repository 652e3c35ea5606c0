-- What a place allows: the level of a production that a token begins there, an arrow's body, and declarations.
use Rattle.std.proofs.Common.{◌≡◌, ℕ, ◌≤◌, Bool, true, false, not, ◌&&◌, List, [], ◌∷◌, ◌++◌, Option, Some, None, if◌then◌else◌, refl, sym, subst, ◌∙◌, arith, le_trans}
use Rattle.std.specs.Prelude.{nat_le, ◌||◌}
use Rattle.std.proofs.lemmas.Bool.{true≢false, le-leb, leb-true, and_parts}
use Rattle.js_terms.specs.declared.place.Loc.{Loc}
use Rattle.js_terms.specs.declared.operators.VariableKind.{VariableKind}
use Rattle.js_terms.specs.declared.operators.VariableKind.TheVariants as variable
use Rattle.js_tree.specs.Plain.{Expr, Exprs, no_expr, more_expr, Stmt}
use Rattle.js_tree.specs.Plain as tree
use Rattle.js_text.specs.Token.{Token, Kind}
use Rattle.js_text.specs.Token as T
use Rattle.js_text.specs.declared.punctuator.Punctuator.TheVariants as P
use Rattle.js_reading.specs.Level.{assignment}
use Rattle.js_reading.specs.Spans.{first}
use Rattle.js_reading.specs.Slots.{Wanted, Level, WithoutIn, Slot, Sign, Text, Expr_, Stmt_, Stmts_, Items_, Place_, By, Piece, AnExpr, AStmt, TheStmts, TheExprs, AWord, AText, APlace, Missing, Branch, Refuse, Pass, Go, Form, Choice}
use Rattle.js_reading.specs.Slots as slot
use Rattle.js_reading.specs.Productions.{mark, is_mark, slots, form_level, strength, wants, prefix, prefixes, statement, statements, join, joins, as_it_is, after_first}
use Rattle.js_reading.specs.Choices.{branch, either}
use Rattle.js_reading.specs.Makes.{build, is_target, is_declaration, last_level, is_const, arrow_of, params_of, concise, expression_of, declaration_of, object_of, properties_of, length_of, template_of, template_parts, function_of, variables_of, declarators_of}
use Rattle.js_reading.specs.Sentences
use Rattle.js_reading.specs.Sentences.{least, grip, bans, stands_for, goes_on, continues, Spells, SpellsSlots}
use Rattle.js_reading.specs.Turns.{Frame, InForm, wanted, inner, place, begun_level, leads, declares}
use Rattle.js_reading.proofs.sentences.Branches.{branches, each, among}
use Rattle.js_reading.proofs.sentences.Shapes.{find_all, join_found}
use Rattle.js_reading.proofs.sentences.Firsts.{remade}
use Rattle.js_reading.proofs.levels.Makings.{is_first}

-- ---- no production that a token begins makes a higher level than the token tells

abbrev pub UpTo : Form → Option Piece → Type 0
UpTo f (Some (AnExpr i e)) = i ≤ begun_level f
UpTo f o = Unit {0}

up_arrow : (l : Loc) (xs : Option tree.Params) (o : Option tree.ConciseBody) → UpTo slot.Parentheses (arrow_of l xs o)
up_arrow l (Some xs) (Some x) = omega arith
up_arrow l xs o = tt

up_function : (make : tree.Function → Expr) (o : Option tree.Function) → UpTo slot.FunctionExpression (expression_of make o)
up_function make None = tt
up_function make (Some f) = omega arith

pub up_to : (f : Form) (l : Loc) (ps : List Piece) → is_first f ≡ true → UpTo f (build f l ps)
up_to slot.Parentheses l (TheExprs false (more_expr e es) ∷ Missing ∷ []) is = omega arith
up_to slot.Parentheses l (TheExprs b xs ∷ p ∷ ps) is = up_arrow l (params_of xs) (concise (p ∷ ps))
up_to slot.Parentheses l ps is = tt
up_to slot.ArrayLiteral l (TheExprs b xs ∷ []) is = omega arith
up_to slot.ArrayLiteral l ps is = tt
up_to slot.ObjectLiteral l ps is = elim (properties_of (length_of ps) ps) as (λ o. UpTo slot.ObjectLiteral (object_of l o)) [ None ↦ tt | Some xs ↦ (omega arith) ]
up_to slot.Template l (AText s ∷ ps) is = elim (template_parts ps) as (λ o. UpTo slot.Template (template_of l s o)) [ None ↦ tt | Some xs ↦ (omega arith) ]
up_to slot.Template l ps is = tt
up_to slot.FunctionExpression l (Missing ∷ ps) is = up_function _ (function_of ps)
up_to slot.FunctionExpression l (AWord w m ∷ ps) is = up_function _ (function_of ps)
up_to slot.FunctionExpression l ps is = tt
up_to slot.New l (AnExpr i c ∷ TheExprs b xs ∷ []) is = omega arith
up_to slot.New l (AnExpr i c ∷ Missing ∷ []) is = omega arith
up_to slot.New l ps is = tt
up_to (slot.PrefixUpdate o) l (AnExpr i e ∷ []) is = by_test (is_target e)
  where
    by_test : (b : Bool) → UpTo (slot.PrefixUpdate o) (if b then Some (AnExpr 17 (tree.PrefixUpdate (Some l) o e)) else None)
    by_test true = omega arith
    by_test false = tt
up_to (slot.PrefixUpdate o) l ps is = tt
up_to (slot.Unary o) l (AnExpr i e ∷ []) is = omega arith
up_to (slot.Unary o) l ps is = tt
up_to f l ps is = absurd (true≢false (sym is))

pub begins_first : (t : Token) (f : Form) → prefix t ≡ Some f → is_first f ≡ true
begins_first t f h = (find_all is_first as_it_is prefixes t f refl h).0

-- ---- an arrow's body follows parentheses alone, and only where an arrow may stand

abbrev pub unled : List Slot → Bool
unled [] = true
unled (By slot.Arrow ∷ ss) = false
unled (s ∷ ss) = unled ss

abbrev pub is_missing : List Piece → Bool
is_missing (Missing ∷ ps) = true
is_missing ps = false

abbrev pub Lets : List Slot → List Frame → List Piece → Type 0
Lets (Sign k ∷ ss) fs ps = Lets ss fs ps
Lets (Items_ p ∷ ss) fs (q ∷ ps) = Lets ss fs ps
Lets (By slot.Arrow ∷ ss) fs ps = (unled ss ≡ true) × (is_missing ps ≡ false → least (place fs) ≤ assignment)
Lets ss fs ps = unled ss ≡ true

pub lets_none : (ss : List Slot) (fs : List Frame) (ps : List Piece) → unled ss ≡ true → Lets ss fs ps
lets_none [] fs ps h = h
lets_none (Sign k ∷ ss) fs ps h = lets_none ss fs ps h
lets_none (Items_ p ∷ ss) fs (q ∷ ps) h = lets_none ss fs ps h
lets_none (Items_ p ∷ ss) fs [] h = h
lets_none (By slot.Arrow ∷ ss) fs ps h = absurd (true≢false (sym h))
lets_none (s ∷ ss) fs ps h = h

pub lets_rest : (c : Choice) (ss : List Slot) (fs : List Frame) (ps : List Piece) → Lets (By c ∷ ss) fs ps → unled ss ≡ true
lets_rest slot.Arrow ss fs ps h = h.0
lets_rest c ss fs ps h = h

abbrev pub AtMost : ℕ → Option Piece → Type 0
AtMost n (Some (AnExpr i e)) = i ≤ n
AtMost n o = Unit {0}

arrow_low : (l : Loc) (xs : Option tree.Params) (o : Option tree.ConciseBody) → AtMost assignment (arrow_of l xs o)
arrow_low l (Some xs) (Some x) = omega arith
arrow_low l xs o = tt

pub lets_form : (g : Form) (l : Loc) (ps : List Piece) (fs : List Frame) (i : ℕ) (e : Expr) → build g l ps ≡ Some (AnExpr i e) → least (place fs) ≤ i → Lets (slots g) fs ps
lets_form slot.Parentheses l (TheExprs false (more_expr x xs) ∷ Missing ∷ []) fs i e made le = (refl, λ k. absurd (true≢false k))
lets_form slot.Parentheses l (TheExprs b xs ∷ p ∷ ps) fs i e made le = (refl, λ k. le_trans le (subst (AtMost assignment) made (arrow_low l (params_of xs) (concise (p ∷ ps)))))
lets_form slot.Parentheses l ps fs i e made le = let q : None ≡ Some (AnExpr i e) = made in absurd cc
lets_form g l ps fs i e made le = lets_none (slots g) fs ps refl

unled_append : (rs ss : List Slot) → unled rs ≡ true → unled ss ≡ true → unled (rs ++ ss) ≡ true
unled_append [] ss h k = k
unled_append (By slot.Arrow ∷ rs) ss h k = absurd (true≢false (sym h))
unled_append (r ∷ rs) ss h k = unled_append rs ss h k

abbrev pub unled_branch : Branch → Bool
unled_branch (Go qs s rs) = unled (s ∷ rs)
unled_branch b = true

unled_branches : (c : Choice) → each unled_branch (branches c) ≡ true
unled_branches slot.Semicolon = refl
unled_branches c = refl

pub unled_chosen : (c : Choice) (t : Token) (qs : List Piece) (s : Slot) (rs ss : List Slot) → branch c t ≡ Go qs s rs → unled ss ≡ true → unled (s ∷ (rs ++ ss)) ≡ true
unled_chosen c t qs s rs ss h k = unled_append (s ∷ rs) ss (subst (λ b. unled_branch b ≡ true) h (among c t unled_branch (unled_branches c))) k

-- what the body of an arrow leaves
abbrev pub Firm : Branch → Type 0
Firm (Go qs s rs) = (ss : List Slot) (ps : List Piece) (l m : Loc) (us : List Token) (next : Token) → SpellsSlots (s ∷ (rs ++ ss)) ps l m us next → is_missing (qs ++ ps) ≡ false
Firm b = ⊥

firm_either : (b : Bool) (x y : Branch) → Firm x → Firm y → Firm (either b x y)
firm_either true x y h k = h
firm_either false x y h k = k

firm_braces : (ss : List Slot) (ps : List Piece) (l m : Loc) (us : List Token) (next : Token) → SpellsSlots (mark P.OpenBrace ∷ Place_ ∷ (Stmts_ ∷ mark P.CloseBrace ∷ Place_ ∷ []) ++ ss) ps l m us next → is_missing ps ≡ false
firm_braces ss ps l m us next (Sentences.sign t is (Sentences.place d)) = refl

firm_value : (ss : List Slot) (ps : List Piece) (l m : Loc) (us : List Token) (next : Token) → SpellsSlots (Expr_ (Level assignment) ∷ ss) ps l m us next → is_missing ps ≡ false
firm_value ss ps l m us next (Sentences.expr fit de go d) = refl

firm_concise : (t : Token) → Firm (branch slot.ConciseBody t)
firm_concise t = firm_either (is_mark P.OpenBrace t) _ _ firm_braces firm_value

firm_body : (ss : List Slot) (ps : List Piece) (l m : Loc) (us : List Token) (next : Token) → SpellsSlots (mark P.Arrow ∷ By slot.ConciseBody ∷ ss) ps l m us next → is_missing ps ≡ false
firm_body ss ps l m us next (Sentences.sign t is (Sentences.passed {us = vs} h d)) = absurd (subst Firm h (firm_concise (first vs next)))
firm_body ss ps l m us next (Sentences.sign t is (Sentences.chosen {ps = qs} {m = y} {us = vs} h d)) = subst Firm h (firm_concise (first vs next)) ss qs _ y vs next d

abbrev pub Led : Branch → Type 0
Led (Go qs s rs) = (ss : List Slot) (ps : List Piece) (l m : Loc) (us : List Token) (next : Token) → SpellsSlots (s ∷ (rs ++ ss)) ps l m us next → is_missing (qs ++ ps) ≡ false
Led b = Unit {0}

led_arrow : (t : Token) → Led (branch slot.Arrow t)
led_arrow t = by_test (is_mark P.Arrow t && not t.line_terminator_before)
  where
    by_test : (b : Bool) → Led (either b (Go [] (mark P.Arrow) (By slot.ConciseBody ∷ [])) (Pass (Missing ∷ [])))
    by_test true = firm_body
    by_test false = tt

pub lets_choice : (c : Choice) (fs : List Frame) (xs : List Piece) (s : Slot) (rs ss : List Slot) (qs : List Piece) (l m : Loc) (us : List Token) (next : Token) → branch c (first us next) ≡ Go xs s rs → SpellsSlots (s ∷ (rs ++ ss)) qs l m us next →
    Lets (By c ∷ ss) fs (xs ++ qs) → leads (place fs) c ≡ true
lets_choice slot.Arrow fs xs s rs ss qs l m us next h d lets = le-leb (least (place fs)) assignment (lets.1 (subst Led h (led_arrow (first us next)) ss qs l m us next d))
lets_choice c fs xs s rs ss qs l m us next h d lets = refl

pub statement_unled : (t : Token) (f : Form) → statement t ≡ Some f → unled (slots f) ≡ true
statement_unled t f h = (find_all (λ g. unled (slots g)) as_it_is statements t f refl h).0

pub join_unled : (t : Token) (g : Form) → join t ≡ Some g → unled (slots g) ≡ true
join_unled t g h = (find_all (λ f. unled (slots f)) after_first joins t g refl (join_found t g h)).0

-- ---- what declares makes a declaration

abbrev pub Declared : Option Piece → Type 0
Declared (Some (AStmt s)) = is_declaration s ≡ true
Declared o = Unit {0}

declared_variables : (l : Loc) (k : VariableKind) (o : Option (tree.Declarators × List Piece)) → declares (slot.Variables k) ≡ true → Declared (variables_of l k o)
declared_variables l variable.Let (Some (ds, [])) h = refl
declared_variables l variable.Const (Some (ds, [])) h = refl
declared_variables l variable.Var (Some (ds, [])) h = absurd (true≢false (sym h))
declared_variables l k (Some (ds, p ∷ ps)) h = tt
declared_variables l k None h = tt

declared_function : (make : tree.Function → Stmt) (o : Option tree.Function) → ((f : tree.Function) → is_declaration (make f) ≡ true) → Declared (declaration_of make o)
declared_function make None h = tt
declared_function make (Some f) h = h f

pub declared_made : (f : Form) (l : Loc) (ps : List Piece) → declares f ≡ true → Declared (build f l ps)
declared_made (slot.Variables k) l ps is = declared_variables l k (declarators_of (is_const k) ps) is
declared_made slot.FunctionDeclaration l (AWord w m ∷ ps) is = declared_function _ (function_of ps) (λ f. refl)
declared_made slot.FunctionDeclaration l ps is = tt
declared_made f l ps is = absurd (true≢false (sym is))

-- ---- what goes on with an expression is of the level that the place grips

no_stands : (t : Token) (g : Form) → join t ≡ Some g → stands_for t.kind ≡ 0
no_stands t g h = by_kind t.kind refl
  where
    none : (k : Kind) → t.kind ≡ k → join (remade t k) ≡ None → stands_for k ≡ 0
    none k is q = let r : join t ≡ None = subst (λ x. join (remade t x) ≡ None) (sym is) q in let c : None ≡ Some g = sym r ∙ h in absurd cc

    by_kind : (k : Kind) → t.kind ≡ k → stands_for k ≡ 0
    by_kind (T.RegularExpression w) is = none (T.RegularExpression w) is refl
    by_kind (T.NoSubstitutionTemplate w) is = none (T.NoSubstitutionTemplate w) is refl
    by_kind (T.TemplateHead w) is = none (T.TemplateHead w) is refl
    by_kind k is = refl

grip_place : (f : Frame) (fs : List Frame) → grip (place (f ∷ fs)) ≡ grip (wanted f)
grip_place (InForm f w (Expr_ (Level n)) [] ps) fs = by_place (place fs)
  where
    by_place : (v : Wanted) → grip (inner (Level n) [] v) ≡ n
    by_place (WithoutIn m) = refl
    by_place v = refl
grip_place (InForm f w (Expr_ v) ss ps) fs = refl
grip_place f fs = refl

pub gripped : (f : Frame) (fs : List Frame) (e : Expr) (t : Token) (g : Form) → continues (wanted f) e t ≡ true → join t ≡ Some g → grip (place (f ∷ fs)) ≤ form_level g
gripped f fs e t g h is = subst (λ n. n ≤ form_level g) (sym (grip_place f fs)) (leb-true (grip (wanted f)) (form_level g) (subst (λ o. nat_le (grip (wanted f)) (strength o) ≡ true) is (by_sides (stands_for t.kind) (no_stands t g is) (and_parts (not (bans (wanted f) t)) (goes_on (wanted f) e t) h).1)))
  where
    by_sides : (n : ℕ) → n ≡ 0 → ((nat_le 1 n && nat_le n (last_level e)) || (nat_le 1 (strength (join t)) && (nat_le (grip (wanted f)) (strength (join t)) && nat_le (wants (join t)) (last_level e)))) ≡ true → nat_le (grip (wanted f)) (strength (join t)) ≡ true
    by_sides n zero_is q =
        let r = subst (λ x. ((nat_le 1 x && nat_le x (last_level e)) || (nat_le 1 (strength (join t)) && (nat_le (grip (wanted f)) (strength (join t)) && nat_le (wants (join t)) (last_level e)))) ≡ true) zero_is q in
        (and_parts (nat_le (grip (wanted f)) (strength (join t))) (nat_le (wants (join t)) (last_level e)) (and_parts (nat_le 1 (strength (join t))) (nat_le (grip (wanted f)) (strength (join t)) && nat_le (wants (join t)) (last_level e)) r).1).0
