-- How tightly the operand binds with which an expression ends.
use Rattle.std.proofs.Common.{◌≡◌, ℕ, ◌≤◌, Bool, true, false, not, ◌&&◌, List, [], ◌∷◌, ◌++◌, Option, Some, None, codes, if◌then◌else◌, inl, inr, ◌⊎◌, refl, sym, subst, arith}
use Rattle.std.specs.Prelude.{◌||◌}
use Rattle.std.specs.Str.{bytes_eq}
use Rattle.std.proofs.lemmas.Bool.{true≢false, leb-true}
use Rattle.js_terms.specs.declared.place.Loc.{Loc}
use Rattle.js_terms.specs.declared.operators.BinaryOperator.{BinaryOperator}
use Rattle.js_terms.specs.declared.operators.BinaryOperator.TheVariants as b
use Rattle.js_terms.specs.declared.operators.LogicalOperator.TheVariants as logic
use Rattle.js_tree.specs.Plain.{Expr, Exprs, no_expr, more_expr}
use Rattle.js_tree.specs.Plain as tree
use Rattle.js_text.specs.Token.{Token, Kind, Word}
use Rattle.js_text.specs.Token as T
use Rattle.js_text.specs.declared.punctuator.Punctuator.TheVariants as P
use Rattle.js_reading.specs.Spans.{through, first}
use Rattle.js_reading.specs.Level.{assignment, binary_level, right_level}
use Rattle.js_reading.specs.Slots.{Wanted, Level, WithoutIn, Callee, Slot, Sign, Text, Expr_, Stmt_, Stmts_, Items_, Place_, By, Piece, AnExpr, TheStmts, TheExprs, AWord, AText, APlace, Missing, Branch, Refuse, Pass, Go, Form, Choice}
use Rattle.js_reading.specs.Slots as slot
use Rattle.js_reading.specs.Productions.{primary, bound_name, mark, is_mark, slots, after_first, prefix, join, prefixes, joins, as_it_is, logical_right}
use Rattle.js_reading.specs.Choices.{branch}
use Rattle.js_reading.specs.Makes.{build, is_target, is_and_or, bare_in, last_level, arrow_of, params_of, concise, expression_of, object_of, properties_of, length_of, template_of, template_parts, function_of}
use Rattle.js_reading.specs.Sentences
use Rattle.js_reading.specs.Sentences.{body_and_flags, regular_expression, leaf_of, of_word, named, Spells, SpellsSlots}
use Rattle.js_reading.proofs.sentences.Shapes.{begins_sign, find_all, join_found, begins_join}
use Rattle.js_reading.proofs.levels.Makings.{is_first, is_join, High, high_made, member_is}

abbrev pub Strong : ℕ → Expr → Type 0
Strong i e = (i ≤ last_level e) ⊎ ((i ≡ 3) × (2 ≤ last_level e))

pub at_least : (n i : ℕ) (e : Expr) → Strong i e → n ≤ i → (n ≤ 2) ⊎ (4 ≤ n) → n ≤ last_level e
at_least n i e (inl h) low side = omega arith
at_least n i e (inr h) low (inl k) = let c = h.1 in omega arith
at_least n i e (inr h) low (inr k) = let c = h.0 in absurd (omega arith)

-- ---- an expression that is one token

abbrev pub Leaf : Option Expr → Type 0
Leaf (Some e) = (bare_in e ≡ false) × (last_level e ≡ primary)
Leaf None = Unit {0}

leaf_named : (l : Loc) (o : Option (List ℕ)) → Leaf (named l o)
leaf_named l None = tt
leaf_named l (Some w) = (refl, refl)

leaf_pattern : (l : Loc) (o : Option (List ℕ × List ℕ)) → Leaf (regular_expression l o)
leaf_pattern l None = tt
leaf_pattern l (Some found) = (refl, refl)

leaf_either : (b : Bool) (x y : Option Expr) → Leaf x → Leaf y → Leaf (if b then x else y)
leaf_either true x y h k = h
leaf_either false x y h k = k

leaf_word : (w : List ℕ) (k : Kind) (l : Loc) → Leaf (of_word w k l)
leaf_word w k l =
    leaf_either (bytes_eq w (codes "this")) _ _ (refl, refl) (leaf_either (bytes_eq w (codes "null")) _ _ (refl, refl) (leaf_either (bytes_eq w (codes "true")) _ _ (refl, refl)
    (leaf_either (bytes_eq w (codes "false")) _ _ (refl, refl) (leaf_named l (bound_name k)))))

pub leaf_made : (k : Kind) (l : Loc) → Leaf (leaf_of k l)
leaf_made (Word w) l = leaf_word w (Word w) l
leaf_made (T.EscapedWord w) l = leaf_named l (bound_name (T.EscapedWord w))
leaf_made (T.Numeral w) l = (refl, refl)
leaf_made (T.StringLiteral w) l = (refl, refl)
leaf_made (T.NoSubstitutionTemplate w) l = (refl, refl)
leaf_made (T.RegularExpression w) l = leaf_pattern l (body_and_flags w)
leaf_made k l = tt

pub is_first_form : (t : Token) (f : Form) → prefix t ≡ Some f → (is_first f || is_join f) ≡ true
is_first_form t f h = (find_all (λ g. is_first g || is_join g) as_it_is prefixes t f refl h).0

pub is_join_form : (t : Token) (f : Form) → join t ≡ Some f → (is_first f || is_join f) ≡ true
is_join_form t f h = (find_all (λ g. is_first g || is_join g) after_first joins t f refl (join_found t f h)).0

-- what binds as tightly as an update has no bare `in`
pub high_bare : {i : ℕ} {e : Expr} {l : Loc} {ts : List Token} {next : Token} → Spells (AnExpr i e) l ts next → 17 ≤ i → bare_in e ≡ false
high_bare (Sentences.leaf t none is) h = (subst Leaf is (leaf_made t.kind t.loc)).0
high_bare (Sentences.prefixed f {ps = ps} {l = l} t is d made) h = subst High made (high_made f (through t.loc l) ps (is_first_form t f is)) h
high_bare (Sentences.joined f {ps = ps} {i = i} {a = a} {la = la} {l = l} t is are low da d made) h = subst High made (high_made f (through la l) (AnExpr i a ∷ ps) (is_join_form t f is)) h

-- ---- the last part of a production

abbrev pub Body : List Piece → Type 0
Body (AnExpr i e ∷ []) = 2 ≤ last_level e
Body ps = Unit {0}

abbrev pub Filled : List Slot → List Piece → Type 0
Filled (Sign k ∷ ss) ps = Filled ss ps
Filled (Expr_ (Level n) ∷ []) (AnExpr i e ∷ []) = (n ≤ i) × Strong i e
Filled (Expr_ w ∷ s ∷ ss) (p ∷ ps) = Filled (s ∷ ss) ps
Filled (Items_ p ∷ ss) (q ∷ ps) = Filled ss ps
Filled (By slot.ConciseBody ∷ []) ps = Body ps
Filled (By slot.Arrow ∷ []) ps = Body ps
Filled ss ps = Unit {0}

abbrev pub After : Branch → Type 0
After (Go qs s rs) = (ps : List Piece) (l m : Loc) (us : List Token) (next : Token) → SpellsSlots (s ∷ (rs ++ [])) ps l m us next → Filled (s ∷ (rs ++ [])) ps → Body (qs ++ ps)
After (Pass qs) = (ps : List Piece) → Body (qs ++ ps)
After Refuse = Unit {0}

after_either : (b : Bool) (x y : Branch) → After x → After y → After (if b then x else y)
after_either true x y h k = h
after_either false x y h k = k

braced_body : (ps : List Piece) (l m : Loc) (us : List Token) (next : Token) → SpellsSlots (mark P.OpenBrace ∷ Place_ ∷ Stmts_ ∷ mark P.CloseBrace ∷ Place_ ∷ []) ps l m us next → Body ps
braced_body ps l m us next (Sentences.sign t is (Sentences.place (Sentences.stmts ds ends d))) = tt

value_body : (ps : List Piece) (l m : Loc) (us : List Token) (next : Token) → SpellsSlots (Expr_ (Level assignment) ∷ []) ps l m us next → Filled (Expr_ (Level assignment) ∷ []) ps → Body ps
value_body ps l m us next (Sentences.expr {i = i} {e = e} fit de go Sentences.done) h = at_least 2 i e h.1 h.0 (inl (omega arith))

after_concise : (t : Token) → After (branch slot.ConciseBody t)
after_concise t = after_either (is_mark P.OpenBrace t) _ _ (λ ps l m us next d h. braced_body ps l m us next d) value_body

after_arrow : (t : Token) → After (branch slot.Arrow t)
after_arrow t = after_either (is_mark P.Arrow t && not t.line_terminator_before) _ _ (λ ps l m us next d h. h) (λ ps. tt)

-- ---- what is made of it

abbrev pub StrongPiece : Option Piece → Type 0
StrongPiece (Some (AnExpr i e)) = Strong i e
StrongPiece o = Unit {0}

arrow_strong : (l : Loc) (xs : Option tree.Params) (ps : List Piece) → Body ps → StrongPiece (arrow_of l xs (concise ps))
arrow_strong l None ps h = tt
arrow_strong l (Some xs) (AnExpr i e ∷ []) h = inl h
arrow_strong l (Some xs) (APlace m ∷ TheStmts ss ∷ APlace n ∷ []) h = inl (omega arith)
arrow_strong l (Some xs) ps h = tt

target_last : (e : Expr) → is_target e ≡ true → last_level e ≡ primary
target_last (tree.IdentifierReference l w) h = refl
target_last (tree.NamedMember l o w) h = refl
target_last (tree.ComputedMember l o k) h = refl
target_last e h = absurd (true≢false (sym h))

right_facts : (o : BinaryOperator) → (binary_level o ≤ right_level o) × (4 ≤ right_level o)
right_facts b.Exponentiate = (omega arith, omega arith)
right_facts o = (omega arith, omega arith)

strong_function : (make : tree.Function → Expr) (o : Option tree.Function) → ((f : tree.Function) → last_level (make f) ≡ primary) → StrongPiece (expression_of make o)
strong_function make None h = tt
strong_function make (Some f) h = let q = h f in inl (omega arith)

pub strong_made : (f : Form) (l : Loc) (ps : List Piece) → (is_first f || is_join f) ≡ true → Filled (slots f) ps → StrongPiece (build f l ps)
strong_made slot.Parentheses l (TheExprs false (more_expr e es) ∷ Missing ∷ []) is h = inl (omega arith)
strong_made slot.Parentheses l (TheExprs c xs ∷ p ∷ ps) is h = arrow_strong l (params_of xs) (p ∷ ps) h
strong_made slot.Parentheses l ps is h = tt
strong_made slot.ArrayLiteral l (TheExprs c xs ∷ []) is h = inl (omega arith)
strong_made slot.ArrayLiteral l ps is h = tt
strong_made slot.ObjectLiteral l ps is h = elim (properties_of (length_of ps) ps) as (λ o. StrongPiece (object_of l o)) [ None ↦ tt | Some xs ↦ inl (omega arith) ]
strong_made slot.Template l (AText s ∷ ps) is h = elim (template_parts ps) as (λ o. StrongPiece (template_of l s o)) [ None ↦ tt | Some xs ↦ inl (omega arith) ]
strong_made slot.Template l ps is h = tt
strong_made slot.FunctionExpression l (Missing ∷ ps) is h = strong_function _ (function_of ps) (λ f. refl)
strong_made slot.FunctionExpression l (AWord w m ∷ ps) is h = strong_function _ (function_of ps) (λ f. refl)
strong_made slot.FunctionExpression l ps is h = tt
strong_made slot.New l (AnExpr i c ∷ TheExprs d xs ∷ []) is h = inl (omega arith)
strong_made slot.New l (AnExpr i c ∷ Missing ∷ []) is h = inl (omega arith)
strong_made slot.New l ps is h = tt
strong_made slot.Call l (AnExpr i f ∷ TheExprs c xs ∷ []) is h = inl (omega arith)
strong_made slot.Call l ps is h = tt
strong_made slot.Dot l (AnExpr i o ∷ AWord w m ∷ []) is h = let q = (member_is i).0 in inl (omega arith)
strong_made slot.Dot l ps is h = tt
strong_made slot.Member l (AnExpr i o ∷ AnExpr j k ∷ []) is h = let q = (member_is i).0 in inl (omega arith)
strong_made slot.Member l ps is h = tt
strong_made (slot.Postfix o) l (AnExpr i e ∷ []) is h = elim (is_target e) as (λ t. StrongPiece (if t then Some (AnExpr 17 (tree.PostfixUpdate (Some l) o e)) else None)) [ true ↦ inl (omega arith) | false ↦ tt ]
strong_made (slot.Postfix o) l ps is h = tt
strong_made (slot.PrefixUpdate o) l (AnExpr i e ∷ []) is h = by_test (is_target e) refl
  where
    by_test : (c : Bool) → is_target e ≡ c → StrongPiece (if c then Some (AnExpr 17 (tree.PrefixUpdate (Some l) o e)) else None)
    by_test true q = let r = target_last e q in inl (omega arith)
    by_test false q = tt
strong_made (slot.PrefixUpdate o) l ps is h = tt
strong_made (slot.Unary o) l (AnExpr i e ∷ []) is h = inl (at_least 16 i e h.1 h.0 (inr (omega arith)))
strong_made (slot.Unary o) l ps is h = tt
strong_made (slot.Binary o) l (AnExpr i x ∷ AnExpr j y ∷ []) is h = let r = right_facts o in let r0 = r.0 in let q = at_least (right_level o) j y h.1 h.0 (inr r.1) in inl (omega arith)
strong_made (slot.Binary o) l ps is h = tt
strong_made (slot.Logical logic.Coalesce) l (AnExpr i x ∷ AnExpr j y ∷ []) is h =
    let q = at_least (logical_right logic.Coalesce) j y h.1 h.0 (inr (omega arith)) in elim (is_and_or x) as (λ t. StrongPiece (if t then None else Some (AnExpr 4 (tree.Logical (Some l) logic.Coalesce x y)))) [ true ↦ tt | false ↦ inl (omega arith) ]
strong_made (slot.Logical logic.And) l (AnExpr i x ∷ AnExpr j y ∷ []) is h = let q = at_least (logical_right logic.And) j y h.1 h.0 (inr (omega arith)) in inl (omega arith)
strong_made (slot.Logical logic.Or) l (AnExpr i x ∷ AnExpr j y ∷ []) is h = let q = at_least (logical_right logic.Or) j y h.1 h.0 (inr (omega arith)) in inl (omega arith)
strong_made (slot.Logical logic.Coalesce) l ps is h = tt
strong_made (slot.Logical o) l ps is h = tt
strong_made slot.Conditional l (AnExpr k c ∷ AnExpr i x ∷ AnExpr j y ∷ []) is h = inr (refl, at_least 2 j y h.1 h.0 (inl (omega arith)))
strong_made slot.Conditional l ps is h = tt
strong_made (slot.Assignment o) l (AnExpr i x ∷ AnExpr j v ∷ []) is h =
    let q = at_least 2 j v h.1 h.0 (inl (omega arith)) in elim (is_target x) as (λ t. StrongPiece (if t then Some (AnExpr assignment (tree.Assignment (Some l) o x v)) else None)) [ true ↦ inl q | false ↦ tt ]
strong_made (slot.Assignment o) l ps is h = tt
strong_made slot.ArrowOfName l (AnExpr i (tree.IdentifierReference m w) ∷ ps) is h = arrow_strong l (params_of (more_expr (tree.IdentifierReference m w) no_expr)) ps h
strong_made slot.ArrowOfName l ps is h = tt
strong_made slot.Comma l (AnExpr i x ∷ AnExpr j y ∷ []) is h = let q = at_least 2 j y h.1 h.0 (inl (omega arith)) in inl (omega arith)
strong_made slot.Comma l ps is h = tt
strong_made f l ps is h = absurd (true≢false (sym is))

filled_first : (n i : ℕ) (a : Expr) (ss : List Slot) (ps : List Piece) → begins_sign ss ≡ true → Filled ss ps → Filled (Expr_ (Level n) ∷ ss) (AnExpr i a ∷ ps)
filled_first n i a (Sign k ∷ ss) ps is h = h
filled_first n i a ss ps is h = absurd (true≢false (sym is))

more_after : (c : Choice) (s : Slot) (ss : List Slot) (ps : List Piece) → Filled (By c ∷ s ∷ ss) ps
more_after slot.ConciseBody s ss ps = tt
more_after slot.Arrow s ss ps = tt
more_after c s ss ps = tt

passed_end : (c : Choice) (ss : List Slot) (qs ps : List Piece) (t : Token) → branch c t ≡ Pass qs → Filled (By c ∷ ss) (qs ++ ps)
passed_end slot.ConciseBody [] qs ps t h = subst After h (after_concise t) ps
passed_end slot.Arrow [] qs ps t h = subst After h (after_arrow t) ps
passed_end c (s ∷ ss) qs ps t h = more_after c s ss (qs ++ ps)
passed_end c [] qs ps t h = tt

chosen_end : (c : Choice) (qs : List Piece) (s : Slot) (rs : List Slot) (ps : List Piece) (l m : Loc) (us : List Token) (next : Token) → branch c (first us next) ≡ Go qs s rs → SpellsSlots (s ∷ (rs ++ [])) ps l m us next → Filled (s ∷ (rs ++ [])) ps →
    Filled (By c ∷ []) (qs ++ ps)
chosen_end slot.ConciseBody qs s rs ps l m us next h d k = subst After h (after_concise (first us next)) ps l m us next d k
chosen_end slot.Arrow qs s rs ps l m us next h d k = subst After h (after_arrow (first us next)) ps l m us next d k
chosen_end c qs s rs ps l m us next h d k = tt

mutual
  -- an expression binds as tightly as its last operand, but that of a conditional
  pub strong : {i : ℕ} {e : Expr} {l : Loc} {ts : List Token} {next : Token} → Spells (AnExpr i e) l ts next → Strong i e
  strong (Sentences.leaf t none is) = let q = (subst Leaf is (leaf_made t.kind t.loc)).1 in inl (omega arith)
  strong (Sentences.prefixed f {ps = ps} {l = l} t is d made) = subst StrongPiece made (strong_made f (through t.loc l) ps (is_first_form t f is) (filled d))
  strong (Sentences.joined f {n = n} {ss = ss} {ps = ps} {i = i} {a = a} {la = la} {l = l} t is are low da d made) =
      subst StrongPiece made (strong_made f (through la l) (AnExpr i a ∷ ps) (is_join_form t f is)
      (subst (λ x. Filled x (AnExpr i a ∷ ps)) (sym are) (filled_first n i a ss ps (subst (λ x. begins_sign (after_first x) ≡ true) are (begins_join t f is).0) (filled d))))

  pub filled : {ss : List Slot} {ps : List Piece} {l m : Loc} {us : List Token} {next : Token} → SpellsSlots ss ps l m us next → Filled ss ps
  filled Sentences.done = tt
  filled (Sentences.sign t is d) = filled d
  filled (Sentences.text t is d) = tt
  filled (Sentences.expr {w = Level n} {i = i} fit de go Sentences.done) = (leb-true n i fit, strong de)
  filled (Sentences.expr {w = WithoutIn n} fit de go Sentences.done) = tt
  filled (Sentences.expr {w = Callee} fit de go Sentences.done) = tt
  filled (Sentences.expr {ss = s ∷ ss} fit de go d) = filled d
  filled (Sentences.stmt plainly ds d) = tt
  filled (Sentences.stmts ds ends d) = tt
  filled (Sentences.items t ds is d) = filled d
  filled (Sentences.place d) = tt
  filled (Sentences.passed {c = c} {qs = qs} {ss = ss} {ps = ps} {us = us} {next = next} h d) = passed_end c ss qs ps (first us next) h
  filled (Sentences.chosen {c = c} {qs = qs} {s = s} {rs = rs} {ss = []} {ps = ps} {l = l} {m = m} {us = us} {next = next} h d) = chosen_end c qs s rs ps l m us next h d (filled d)
  filled (Sentences.chosen {c = c} {qs = qs} {ss = r ∷ ss} {ps = ps} h d) = more_after c r ss (qs ++ ps)
