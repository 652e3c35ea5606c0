-- What stands in a pair of parentheses is read as items with commas.
use Rattle.std.proofs.Common.{◌≡◌, ℕ, ◌≤◌, Bool, true, false, List, [], ◌∷◌, ◌++◌, Option, Some, None, if◌then◌else◌, refl, sym, ap, subst, ◌∙◌, arith, append_assoc, append-nil}
use Rattle.std.specs.Prelude.{nat_le, ◌||◌}
use Rattle.std.proofs.lemmas.Bool.{true≢false, leb-true}
use Rattle.js_terms.specs.declared.place.Loc.{Loc}
use Rattle.js_terms.specs.declared.operators.BinaryOperator.{BinaryOperator}
use Rattle.js_terms.specs.declared.operators.BinaryOperator.TheVariants as b
use Rattle.js_terms.specs.declared.operators.LogicalOperator.TheVariants as logic
use Rattle.js_tree.specs.Plain.{Expr, Exprs, no_expr, more_expr}
use Rattle.js_tree.specs.Plain as tree
use Rattle.js_text.specs.Token.{Token}
use Rattle.js_text.specs.Token as T
use Rattle.js_text.specs.declared.punctuator.Punctuator.TheVariants as P
use Rattle.js_reading.specs.Level.{assignment, binary_level}
use Rattle.js_reading.specs.Spans.{through}
use Rattle.js_reading.specs.Slots.{Level, Slot, Expr_, Piece, AnExpr, TheExprs, AWord, AText, Missing}
use Rattle.js_reading.specs.declared.form.Form.{Form}
use Rattle.js_reading.specs.declared.form.Form.TheVariants as slot
use Rattle.js_reading.specs.Productions.{mark, slots, join, begins_with, after_first, member, call, member_level}
use Rattle.js_reading.specs.Makes.{build, comma_of, loc_of, is_target, is_and_or, arrow_of, params_of, concise, expression_of, object_of, properties_of, length_of, template_of, template_parts, function_of}
use Rattle.js_reading.specs.Sentences
use Rattle.js_reading.specs.Sentences.{Spells, SpellsSlots, SpellsItems, goes_on}
use Rattle.js_reading.proofs.sentences.KindsLemmas.{kind_is}
use Rattle.js_reading.proofs.sentences.Shapes.{begins_prefix, begins_join}
use Rattle.js_reading.proofs.levels.Makings.{is_first, is_join}
use Rattle.js_reading.proofs.levels.Tightness.{is_first_form, is_join_form}
use Rattle.js_layout.specs.Unplaced.{unplaced_expr}
use Rattle.js_layout.proofs.Follows.{Quiet}
use Rattle.js_layout.proofs.ExpressLevels.{no_going_on}
use Rattle.js_layout.proofs.ExpressSigns.{quiet_comma}

-- ---- only commas are looser than assignments

abbrev is_comma : Form → Bool
is_comma slot.Comma = true
is_comma f = false

abbrev Firm : Option Piece → Type 0
Firm (Some (AnExpr i e)) = 2 ≤ i
Firm o = Unit {0}

firm_arrow : (l : Loc) (xs : Option tree.Params) (o : Option tree.ConciseBody) → Firm (arrow_of l xs o)
firm_arrow l (Some xs) (Some x) = omega arith
firm_arrow l xs o = tt

firm_function : (make : tree.Function → Expr) (o : Option tree.Function) → Firm (expression_of make o)
firm_function make None = tt
firm_function make (Some f) = omega arith

firm_binary : (o : BinaryOperator) → 2 ≤ binary_level o
firm_binary b.Exponentiate = omega arith
firm_binary o = omega arith

firm_member : (i : ℕ) → 2 ≤ member_level i
firm_member i = elim (nat_le member i) as (λ t. 2 ≤ (if t then member else call)) [ true ↦ omega arith | false ↦ omega arith ]

firm_made : (f : Form) (l : Loc) (ps : List Piece) → (is_first f || is_join f) ≡ true → is_comma f ≡ false → Firm (build f l ps)
firm_made slot.Parentheses l (TheExprs false (more_expr e es) ∷ Missing ∷ []) is free = omega arith
firm_made slot.Parentheses l (TheExprs b xs ∷ p ∷ ps) is free = firm_arrow l (params_of xs) (concise (p ∷ ps))
firm_made slot.Parentheses l ps is free = tt
firm_made slot.ArrayLiteral l (TheExprs b xs ∷ []) is free = omega arith
firm_made slot.ArrayLiteral l ps is free = tt
firm_made slot.ObjectLiteral l ps is free = elim (properties_of (length_of ps) ps) as (λ o. Firm (object_of l o)) [ None ↦ tt | Some xs ↦ (omega arith) ]
firm_made slot.Template l (AText s ∷ ps) is free = elim (template_parts ps) as (λ o. Firm (template_of l s o)) [ None ↦ tt | Some xs ↦ (omega arith) ]
firm_made slot.Template l ps is free = tt
firm_made slot.FunctionExpression l (Missing ∷ ps) is free = firm_function _ (function_of ps)
firm_made slot.FunctionExpression l (AWord w m ∷ ps) is free = firm_function _ (function_of ps)
firm_made slot.FunctionExpression l ps is free = tt
firm_made slot.New l (AnExpr i c ∷ TheExprs b xs ∷ []) is free = omega arith
firm_made slot.New l (AnExpr i c ∷ Missing ∷ []) is free = omega arith
firm_made slot.New l ps is free = tt
firm_made slot.Call l (AnExpr i f ∷ TheExprs b xs ∷ []) is free = omega arith
firm_made slot.Call l ps is free = tt
firm_made slot.Dot l (AnExpr i o ∷ AWord w m ∷ []) is free = firm_member i
firm_made slot.Dot l ps is free = tt
firm_made slot.Member l (AnExpr i o ∷ AnExpr j k ∷ []) is free = firm_member i
firm_made slot.Member l ps is free = tt
firm_made (slot.Postfix o) l (AnExpr i e ∷ []) is free = elim (is_target e) as (λ t. Firm (if t then Some (AnExpr 17 (tree.PostfixUpdate (Some l) o e)) else None)) [ true ↦ (omega arith) | false ↦ tt ]
firm_made (slot.Postfix o) l ps is free = tt
firm_made (slot.PrefixUpdate o) l (AnExpr i e ∷ []) is free = by_test (is_target e) refl
  where
    by_test : (b : Bool) → is_target e ≡ b → Firm (if b then Some (AnExpr 17 (tree.PrefixUpdate (Some l) o e)) else None)
    by_test true h = omega arith
    by_test false h = tt
firm_made (slot.PrefixUpdate o) l ps is free = tt
firm_made (slot.Unary o) l (AnExpr i e ∷ []) is free = omega arith
firm_made (slot.Unary o) l ps is free = tt
firm_made (slot.Binary o) l (AnExpr i x ∷ AnExpr j y ∷ []) is free = firm_binary o
firm_made (slot.Binary o) l ps is free = tt
firm_made (slot.Logical logic.Coalesce) l (AnExpr i x ∷ AnExpr j y ∷ []) is free = elim (is_and_or x) as (λ t. Firm (if t then None else Some (AnExpr 4 (tree.Logical (Some l) logic.Coalesce x y)))) [ true ↦ tt | false ↦ omega arith ]
firm_made (slot.Logical logic.And) l (AnExpr i x ∷ AnExpr j y ∷ []) is free = omega arith
firm_made (slot.Logical logic.Or) l (AnExpr i x ∷ AnExpr j y ∷ []) is free = omega arith
firm_made (slot.Logical logic.Coalesce) l ps is free = tt
firm_made (slot.Logical o) l ps is free = tt
firm_made slot.Conditional l (AnExpr h c ∷ AnExpr i x ∷ AnExpr j y ∷ []) is free = omega arith
firm_made slot.Conditional l ps is free = tt
firm_made (slot.Assignment o) l (AnExpr i x ∷ AnExpr j v ∷ []) is free = elim (is_target x) as (λ t. Firm (if t then Some (AnExpr assignment (tree.Assignment (Some l) o x v)) else None)) [ true ↦ omega arith | false ↦ tt ]
firm_made (slot.Assignment o) l ps is free = tt
firm_made slot.ArrowOfName l (AnExpr i (tree.IdentifierReference m w) ∷ ps) is free = firm_arrow l (params_of (more_expr (tree.IdentifierReference m w) no_expr)) (concise ps)
firm_made slot.ArrowOfName l ps is free = tt
firm_made slot.Comma l ps is free = absurd (true≢false free)
firm_made f l ps is free = absurd (true≢false (sym is))

-- ---- items

abbrev pub snoc : Exprs → Expr → Exprs
snoc no_expr y = more_expr y no_expr
snoc (more_expr x xs) y = more_expr x (snoc xs y)

append_item : {xs : Exprs} {ta : List Token} {t : Token} {j : ℕ} {y : Expr} {ly : Loc} {ty : List Token} {next : Token} → SpellsItems false xs ta t → t.kind ≡ T.Punctuator P.Comma → assignment ≤ j → Spells (AnExpr j y) ly ty next →
    goes_on (Level assignment) y next ≡ false → SpellsItems false (snoc xs y) (ta ++ t ∷ ty) next
append_item {t = t} (Sentences.last_item low d go) is low_y dy ends = Sentences.more_items t low d is (Sentences.last_item low_y dy ends)
append_item {t = t} {y = y} {ty = ty} {next = next} (Sentences.more_items {e = e} {xs = xs} {ts = ts} {us = us} comma low d is_comma_ more) is low_y dy ends =
    subst (λ v. SpellsItems false (more_expr e (snoc xs y)) v next) (sym (append_assoc ts (comma ∷ us) (t ∷ ty))) (Sentences.more_items comma low d is_comma_ (append_item more is low_y dy ends))

comma_snoc : (e : Expr) (xs : Exprs) (y : Expr) → unplaced_expr (comma_of loc_of e (snoc xs y)) ≡ tree.Comma None (unplaced_expr (comma_of loc_of e xs)) (unplaced_expr y)
comma_snoc e no_expr y = refl
comma_snoc e (more_expr x xs) y = comma_snoc _ xs y

-- what is read in a pair, of which the same expression is made but for places
pub record Content (e : Expr) (ts : List Token) (next : Token) : Type 0 where
  pub first : Expr
  pub rest : Exprs
  pub spells : SpellsItems false (more_expr first rest) ts next
  pub same : unplaced_expr (comma_of loc_of first rest) ≡ unplaced_expr e

single : {i : ℕ} {e : Expr} {l : Loc} {ts : List Token} {next : Token} → 2 ≤ i → Spells (AnExpr i e) l ts next → Quiet 2 next → Content e ts next
single {e = e} {next = next} low d q = record { first = e; rest = no_expr; spells = Sentences.last_item low d (no_going_on (Level assignment) e next 2 (omega arith) q); same = refl }

comma_rest : {ps : List Piece} {lt l : Loc} {ts : List Token} {next : Token} (i j : ℕ) (a e : Expr) (la : Loc) (ta : List Token) (t : Token) → Content a ta t → SpellsSlots (mark P.Comma ∷ Expr_ (Level assignment) ∷ []) ps lt l (t ∷ ts) next →
    build slot.Comma (through la l) (AnExpr i a ∷ ps) ≡ Some (AnExpr j e) → Content e (ta ++ t ∷ ts) next
comma_rest {l = l} {next = next} i j a e la ta t c (Sentences.sign _ is (Sentences.expr {i = k} {e = y} {te = ty} fit dy go Sentences.done)) made =
    let whole : tree.Comma (Some (through la l)) a y ≡ e = cc in
    record {
      first = c.first;
      rest = snoc c.rest y;
      spells = subst (λ us. SpellsItems false (more_expr c.first (snoc c.rest y)) (ta ++ t ∷ us) next) (sym (append-nil ty)) (append_item c.spells is (leb-true 2 k fit) dy go);
      same = comma_snoc c.first c.rest y ∙ ap (λ x. tree.Comma None x (unplaced_expr y)) c.same ∙ ap unplaced_expr whole;
    }

comma_items : (f : Form) {n : ℕ} {ss : List Slot} {ps : List Piece} {l : Loc} {ts : List Token} {next : Token} (i j : ℕ) (a e : Expr) (la : Loc) (ta : List Token) (t : Token) → is_comma f ≡ true → slots f ≡ Expr_ (Level n) ∷ ss → Content a ta t → SpellsSlots ss ps la l (t ∷ ts) next →
    build f (through la l) (AnExpr i a ∷ ps) ≡ Some (AnExpr j e) → Content e (ta ++ t ∷ ts) next
comma_items slot.Comma {ps = ps} {l = l} {ts = ts} {next = next} i j a e la ta t is are c d made = comma_rest i j a e la ta t c (subst (λ ss. SpellsSlots ss ps la l (t ∷ ts) next) (sym (ap after_first are)) d) made
comma_items f i j a e la ta t is are c d made = absurd (true≢false (sym is))

comma_kind : (t : Token) (f : Form) → join t ≡ Some f → is_comma f ≡ true → begins_with (after_first (slots f)) t ≡ true → t.kind ≡ T.Punctuator P.Comma
comma_kind t slot.Comma h is b = kind_is (T.Punctuator P.Comma) t.kind b
comma_kind t f h is b = absurd (true≢false (sym is))

pub items_of : {i : ℕ} {e : Expr} {l : Loc} {ts : List Token} {next : Token} → Spells (AnExpr i e) l ts next → Quiet 2 next → Content e ts next
items_of (Sentences.leaf t none is) q = single (omega arith) (Sentences.leaf t none is) q
items_of {e = e} (Sentences.prefixed f {ps = ps} {i = i} {l = l} {ts = ts} {next = next} t is d made) q = by_comma (is_comma f) refl
  where
    no_first : (g : Form) → is_comma g ≡ true → begins_with (slots g) t ≡ true → ⊥
    no_first slot.Comma h b = true≢false (sym b)
    no_first g h b = true≢false (sym h)

    by_comma : (c : Bool) → is_comma f ≡ c → Content e (t ∷ ts) next
    by_comma false free = single (subst Firm made (firm_made f (through t.loc l) ps (is_first_form t f is) free)) (Sentences.prefixed f t is d made) q
    by_comma true one = absurd (no_first f one (begins_prefix t f is))
items_of {e = e} (Sentences.joined f {n = n} {ss = ss} {ps = ps} {i = i} {j = j} {a = a} {la = la} {l = l} {ta = ta} {ts = ts} {next = next} t is are low da d made) q = by_comma (is_comma f) refl (λ r. items_of da r)
  where
    by_comma : (c : Bool) → is_comma f ≡ c → (Quiet 2 t → Content a ta t) → Content e (ta ++ t ∷ ts) next
    by_comma false free go = single (subst Firm made (firm_made f (through la l) (AnExpr i a ∷ ps) (is_join_form t f is) free)) (Sentences.joined f t is are low da d made) q
    by_comma true one go = comma_items f i j a e la ta t one are (go (quiet_comma 2 t (omega arith) (comma_kind t f is one (begins_join t f is).1))) d made
