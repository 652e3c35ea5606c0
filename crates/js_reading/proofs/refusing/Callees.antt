-- The arguments of a name: which tokens spell them.
use Rattle.std.proofs.Common.{◌≡◌, ℕ, Bool, true, false, not, List, [], ◌∷◌, ◌++◌, Option, Some, None, if◌then◌else◌, refl, sym, ap, subst, ◌∙◌, arith, codes}
use Rattle.std.specs.Prelude.{nat_le}
use Rattle.std.specs.Str.{bytes_eq}
use Rattle.std.proofs.lemmas.Bool.{true≢false}
use Rattle.js_terms.specs.declared.place.Loc.{Loc}
use Rattle.js_terms.specs.declared.words.Spelled.{Spelled}
use Rattle.js_terms.specs.declared.operators.LogicalOperator.TheVariants as logic
use Rattle.js_tree.specs.Plain.{Expr, Exprs, no_expr, more_expr}
use Rattle.js_tree.specs.Plain as tree
use Rattle.js_text.specs.Token.{Token, Kind}
use Rattle.js_text.specs.Token as T
use Rattle.js_reading.specs.Level.{assignment}
use Rattle.js_reading.specs.Spans.{through, first}
use Rattle.js_text.specs.declared.punctuator.Punctuator.TheVariants as P
use Rattle.js_reading.specs.Kinds.{is_kind}
use Rattle.js_reading.specs.Slots.{Wanted, Level, Callee, Slot, Sign, Expr_, Items_, By, Piece, AnExpr, TheExprs, AWord, AText, Missing, Refuse, Pass, Go, Form}
use Rattle.js_reading.specs.Slots as slot
use Rattle.js_reading.specs.Productions.{member, bare, mark, is_mark, bound_name, slots, prefix, prefixes, as_it_is, join, joins, wants, after_first}
use Rattle.js_reading.specs.Choices.{either}
use Rattle.js_reading.specs.Makes.{build, is_target, is_and_or, arrow_of, params_of, concise, expression_of, template_of, template_parts, function_of, object_of, properties_of, length_of}
use Rattle.js_reading.specs.Sentences
use Rattle.js_reading.specs.Sentences.{named, regular_expression, body_and_flags, of_word, leaf_of, fits, Spells, SpellsSlots, SpellsItems}
use Rattle.js_reading.proofs.sentences.Rows.{makes}
use Rattle.js_reading.proofs.sentences.Shapes.{find_all, join_found}
use Rattle.js_reading.proofs.levels.Tightness.{is_first_form, is_join_form}

-- ---- which production makes a call, `new` and a name

abbrev pub is_call_form : Form → Bool
is_call_form slot.Call = true
is_call_form f = false

abbrev pub is_new_form : Form → Bool
is_new_form slot.New = true
is_new_form f = false

abbrev pub may_make : Form → Expr → Bool
may_make f (tree.Call l c xs) = is_call_form f
may_make f (tree.New l c xs) = is_new_form f
may_make f (tree.IdentifierReference l w) = false
may_make f e = true

abbrev pub Own : Form → Option Piece → Type 0
Own f (Some (AnExpr i e)) = may_make f e ≡ true
Own f o = Unit {0}

own_arrow : (f : Form) (l : Loc) (xs : Option tree.Params) (o : Option tree.ConciseBody) → Own f (arrow_of l xs o)
own_arrow f l (Some xs) (Some x) = refl
own_arrow f l xs o = tt

own_template : (f : Form) (l : Loc) (s : Spelled) (o : Option tree.TemplateParts) → Own f (template_of l s o)
own_template f l s (Some xs) = refl
own_template f l s None = tt

own_function : (f : Form) (make : tree.Function → Expr) (o : Option tree.Function) → ((g : tree.Function) → may_make f (make g) ≡ true) → Own f (expression_of make o)
own_function f make (Some g) h = h g
own_function f make None h = tt

own_object : (f : Form) (l : Loc) (o : Option tree.Properties) → Own f (object_of l o)
own_object f l (Some xs) = refl
own_object f l None = tt

own_made : (f : Form) (l : Loc) (ps : List Piece) → makes f ≡ true → Own f (build f l ps)
own_made slot.Parentheses l (TheExprs false (more_expr e es) ∷ Missing ∷ []) is = refl
own_made slot.Parentheses l (TheExprs x xs ∷ p ∷ ps) is = own_arrow slot.Parentheses l (params_of xs) (concise (p ∷ ps))
own_made slot.Parentheses l ps is = tt
own_made slot.ArrayLiteral l (TheExprs x xs ∷ []) is = refl
own_made slot.ArrayLiteral l ps is = tt
own_made slot.ObjectLiteral l ps is = own_object slot.ObjectLiteral l (properties_of (length_of ps) ps)
own_made slot.Template l (AText s ∷ ps) is = own_template slot.Template l s (template_parts ps)
own_made slot.Template l ps is = tt
own_made slot.FunctionExpression l (Missing ∷ ps) is = own_function slot.FunctionExpression _ (function_of ps) (λ f. refl)
own_made slot.FunctionExpression l (AWord w m ∷ ps) is = own_function slot.FunctionExpression _ (function_of ps) (λ f. refl)
own_made slot.FunctionExpression l ps is = tt
own_made slot.New l (AnExpr i c ∷ TheExprs x xs ∷ []) is = refl
own_made slot.New l (AnExpr i c ∷ Missing ∷ []) is = refl
own_made slot.New l ps is = tt
own_made slot.Call l (AnExpr i f ∷ TheExprs x xs ∷ []) is = refl
own_made slot.Call l ps is = tt
own_made slot.Dot l (AnExpr i o ∷ AWord w m ∷ []) is = refl
own_made slot.Dot l ps is = tt
own_made slot.Member l (AnExpr i o ∷ AnExpr j k ∷ []) is = refl
own_made slot.Member l ps is = tt
own_made (slot.Postfix o) l (AnExpr i e ∷ []) is = elim (is_target e) as (λ t. Own (slot.Postfix o) (if t then Some (AnExpr 17 (tree.PostfixUpdate (Some l) o e)) else None)) [ true ↦ refl | false ↦ tt ]
own_made (slot.Postfix o) l ps is = tt
own_made (slot.PrefixUpdate o) l (AnExpr i e ∷ []) is = elim (is_target e) as (λ t. Own (slot.PrefixUpdate o) (if t then Some (AnExpr 17 (tree.PrefixUpdate (Some l) o e)) else None)) [ true ↦ refl | false ↦ tt ]
own_made (slot.PrefixUpdate o) l ps is = tt
own_made (slot.Unary o) l (AnExpr i e ∷ []) is = refl
own_made (slot.Unary o) l ps is = tt
own_made (slot.Binary o) l (AnExpr i x ∷ AnExpr j y ∷ []) is = refl
own_made (slot.Binary o) l ps is = tt
own_made (slot.Logical logic.Coalesce) l (AnExpr i x ∷ AnExpr j y ∷ []) is = elim (is_and_or x) as (λ t. Own (slot.Logical logic.Coalesce) (if t then None else Some (AnExpr 4 (tree.Logical (Some l) logic.Coalesce x y)))) [ true ↦ tt | false ↦ refl ]
own_made (slot.Logical logic.And) l (AnExpr i x ∷ AnExpr j y ∷ []) is = refl
own_made (slot.Logical logic.Or) l (AnExpr i x ∷ AnExpr j y ∷ []) is = refl
own_made (slot.Logical logic.Coalesce) l ps is = tt
own_made (slot.Logical o) l ps is = tt
own_made slot.Conditional l (AnExpr k c ∷ AnExpr i x ∷ AnExpr j y ∷ []) is = refl
own_made slot.Conditional l ps is = tt
own_made (slot.Assignment o) l (AnExpr i x ∷ AnExpr j v ∷ []) is = elim (is_target x) as (λ t. Own (slot.Assignment o) (if t then Some (AnExpr assignment (tree.Assignment (Some l) o x v)) else None)) [ true ↦ refl | false ↦ tt ]
own_made (slot.Assignment o) l ps is = tt
own_made slot.ArrowOfName l (AnExpr i (tree.IdentifierReference m w) ∷ ps) is = own_arrow slot.ArrowOfName l (params_of (more_expr (tree.IdentifierReference m w) no_expr)) (concise ps)
own_made slot.ArrowOfName l ps is = tt
own_made slot.Comma l (AnExpr i x ∷ AnExpr j y ∷ []) is = refl
own_made slot.Comma l ps is = tt
own_made f l ps is = absurd (true≢false (sym is))

-- ---- a name is one token

abbrev pub NamedAt : Loc → Option Expr → Type 0
NamedAt l (Some (tree.IdentifierReference (Some m) w)) = l ≡ m
NamedAt l (Some (tree.Call m f xs)) = ⊥
NamedAt l (Some (tree.New m f xs)) = ⊥
NamedAt l o = Unit {0}

at_named : (l : Loc) (o : Option (List ℕ)) → NamedAt l (named l o)
at_named l None = tt
at_named l (Some w) = refl

at_pattern : (l m : Loc) (o : Option (List ℕ × List ℕ)) → NamedAt l (regular_expression m o)
at_pattern l m None = tt
at_pattern l m (Some found) = tt

at_either : (l : Loc) (b : Bool) (x y : Option Expr) → NamedAt l x → NamedAt l y → NamedAt l (if b then x else y)
at_either l true x y h k = h
at_either l false x y h k = k

at_word : (w : List ℕ) (k : Kind) (l : Loc) → NamedAt l (of_word w k l)
at_word w k l = at_either l (bytes_eq w (codes "this")) _ _ tt (at_either l (bytes_eq w (codes "null")) _ _ tt (at_either l (bytes_eq w (codes "true")) _ _ tt (at_either l (bytes_eq w (codes "false")) _ _ tt (at_named l (bound_name k)))))

at_leaf : (k : Kind) (l : Loc) → NamedAt l (leaf_of k l)
at_leaf (T.Word w) l = at_word w (T.Word w) l
at_leaf (T.EscapedWord w) l = at_named l (bound_name (T.EscapedWord w))
at_leaf (T.Numeral w) l = tt
at_leaf (T.StringLiteral w) l = tt
at_leaf (T.NoSubstitutionTemplate w) l = tt
at_leaf (T.RegularExpression w) l = at_pattern l l (body_and_flags w)
at_leaf k l = tt

abbrev pub NameAt : Loc → Expr → Type 0
NameAt m (tree.IdentifierReference (Some l) w) = l ≡ m
NameAt m e = ⊥

pub data OneToken (l : Loc) : List Token → Type 0 where
  one_token : (t : Token) → t.loc ≡ l → is_kind T.End t.kind ≡ false → OneToken l (t ∷ [])

leaf_no_end : (k : Kind) (l : Loc) (e : Expr) → leaf_of k l ≡ Some e → is_kind T.End k ≡ false
leaf_no_end T.End l e h = absurd cc
leaf_no_end k l e h = refl

name_at_leaf : (l m : Loc) (e : Expr) → NamedAt l (Some e) → NameAt m e → l ≡ m
name_at_leaf l m (tree.IdentifierReference (Some n) w) h k = h ∙ k
name_at_leaf l m e h k = absurd k

no_own_name : (f : Form) (m : Loc) (e : Expr) → may_make f e ≡ true → NameAt m e → ⊥
no_own_name f m (tree.IdentifierReference (Some n) w) h k = true≢false (sym h)
no_own_name f m e h k = absurd k

pub name_token : {i : ℕ} {e : Expr} {l : Loc} {ts : List Token} {next : Token} (m : Loc) → Spells (AnExpr i e) l ts next → NameAt m e → OneToken m ts
name_token {e = e} m (Sentences.leaf t none is) k = one_token t (name_at_leaf t.loc m e (subst (NamedAt t.loc) is (at_leaf t.kind t.loc)) k) (leaf_no_end t.kind t.loc e is)
name_token {e = e} m (Sentences.prefixed g {ps = ps} {l = l} t is d made) k = absurd (no_own_name g m e (subst (Own g) made (own_made g (through t.loc l) ps (is_first_form t g is))) k)
name_token {e = e} m (Sentences.joined g {ps = ps} {i = i} {a = a} {la = la} {l = l} t is are low da d made) k = absurd (no_own_name g m e (subst (Own g) made (own_made g (through la l) (AnExpr i a ∷ ps) (is_join_form t g is))) k)

-- ---- a name's arguments

-- the tokens are a name at this location, `(`, items and `)`
pub data Arguments (m : Loc) : List Token → Type 0 where
  arguments : {b : Bool} {xs : Exprs} {tx : List Token} (t opening closing_ : Token) → t.loc ≡ m → is_kind T.End t.kind ≡ false → opening.kind ≡ T.Punctuator P.OpenParenthesis → SpellsItems b xs tx closing_ → closing_.kind ≡ T.Punctuator P.CloseParenthesis → Arguments m (t ∷ opening ∷ (tx ++ closing_ ∷ []))

-- items and `)`
pub data Listed : List Token → Type 0 where
  listed : {b : Bool} {xs : Exprs} {tx : List Token} (closing_ : Token) → SpellsItems b xs tx closing_ → closing_.kind ≡ T.Punctuator P.CloseParenthesis → Listed (tx ++ closing_ ∷ [])

off : (b : Bool) → not b ≡ true → b ≡ false
off false h = refl
off true h = absurd (true≢false (sym h))

head_same : {t u : Token} {ts us : List Token} → t ∷ ts ≡ u ∷ us → t ≡ u
head_same h = cc

tail_same : {t u : Token} {ts us : List Token} → t ∷ ts ≡ u ∷ us → ts ≡ us
tail_same h = cc

with_name : {m : Loc} {ta ts : List Token} (t : Token) → OneToken m ta → t.kind ≡ T.Punctuator P.OpenParenthesis → Listed ts → Arguments m (ta ++ t ∷ ts)
with_name t (one_token tok at no_end) is (listed closing_ dxs is_closing) = arguments tok t closing_ at no_end is dxs is_closing

abbrev pub CallOf : Loc → Expr → Type 0
CallOf m (tree.Call l f xs) = NameAt m f
CallOf m e = ⊥

abbrev pub MadeCall : Loc → Option Piece → Type 0
MadeCall m (Some (AnExpr i e)) = CallOf m e
MadeCall m o = ⊥

no_leaf_call : (l m : Loc) (e : Expr) → NamedAt l (Some e) → CallOf m e → ⊥
no_leaf_call l m (tree.Call n f xs) h k = h
no_leaf_call l m e h k = k

call_own : (f : Form) (m : Loc) (e : Expr) → may_make f e ≡ true → CallOf m e → is_call_form f ≡ true
call_own f m (tree.Call l c xs) h k = h
call_own f m e h k = absurd k

no_prefix_call : (t : Token) (g : Form) → prefix t ≡ Some g → is_call_form g ≡ false
no_prefix_call t g h = off (is_call_form g) (find_all (λ f. not (is_call_form f)) as_it_is prefixes t g refl h).0

listed_of : {ps : List Piece} {l m : Loc} {ts : List Token} {next : Token} (n : Loc) (i : ℕ) (a : Expr) → SpellsSlots (mark P.OpenParenthesis ∷ Items_ P.CloseParenthesis ∷ []) ps l m ts next → MadeCall n (build slot.Call (through l m) (AnExpr i a ∷ ps)) → (t : Token) (us : List Token) → ts ≡ t ∷ us →
    (t.kind ≡ T.Punctuator P.OpenParenthesis) × Listed us × NameAt n a
listed_of n i a (Sentences.sign opening is (Sentences.items closing_ dxs is_closing Sentences.done)) made t us e = (subst (λ x. x.kind ≡ T.Punctuator P.OpenParenthesis) (head_same e) is, subst Listed (tail_same e) (listed closing_ dxs is_closing), made)

rest_same : {s r : Slot} {ss rs : List Slot} → s ∷ ss ≡ r ∷ rs → ss ≡ rs
rest_same h = cc

joined_arguments : {n : ℕ} {ss : List Slot} {ps : List Piece} {i j : ℕ} {a e : Expr} {la l : Loc} {ta ts : List Token} {next : Token} (m : Loc) (g : Form) (t : Token) → is_call_form g ≡ true → slots g ≡ Expr_ (Level n) ∷ ss → Spells (AnExpr i a) la ta t → SpellsSlots ss ps la l (t ∷ ts) next →
    build g (through la l) (AnExpr i a ∷ ps) ≡ Some (AnExpr j e) → CallOf m e → Arguments m (ta ++ t ∷ ts)
joined_arguments {ps = ps} {i = i} {a = a} {la = la} {l = l} {ts = ts} {next = next} m slot.Call t is are da d made k =
    let x = listed_of m i a (subst (λ y. SpellsSlots y ps la l (t ∷ ts) next) (sym (rest_same are)) d) (subst (MadeCall m) (sym made) k) t ts refl in
    with_name t (name_token m da x.2) x.0 x.1
joined_arguments m g t is are da d made k = absurd (true≢false (sym is))

pub call_arguments : {i : ℕ} {e : Expr} {l : Loc} {ts : List Token} {next : Token} (m : Loc) → Spells (AnExpr i e) l ts next → CallOf m e → Arguments m ts
call_arguments {e = e} m (Sentences.leaf t none is) k = absurd (no_leaf_call t.loc m e (subst (NamedAt t.loc) is (at_leaf t.kind t.loc)) k)
call_arguments {e = e} m (Sentences.prefixed g {ps = ps} {l = l} t is d made) k = absurd (true≢false (sym (call_own g m e (subst (Own g) made (own_made g (through t.loc l) ps (is_first_form t g is))) k) ∙ no_prefix_call t g is))
call_arguments {e = e} m (Sentences.joined g {ps = ps} {i = i} {a = a} {la = la} {l = l} t is are low da d made) k =
    joined_arguments m g t (call_own g m e (subst (Own g) made (own_made g (through la l) (AnExpr i a ∷ ps) (is_join_form t g is))) k) are da d made k

-- ---- those of `new`

pub data NewArguments (m : Loc) : List Token → Type 0 where
  new_arguments : {ts : List Token} (b : Token) → prefix b ≡ Some slot.New → Arguments m ts → NewArguments m (b ∷ ts)

abbrev pub NewOf : Loc → Expr → Type 0
NewOf m (tree.New l f xs) = NameAt m f
NewOf m e = ⊥

abbrev pub MadeNew : Loc → Option Piece → Type 0
MadeNew m (Some (AnExpr i e)) = (i ≡ member) × NewOf m e
MadeNew m o = ⊥

no_leaf_new : (l m : Loc) (e : Expr) → NamedAt l (Some e) → NewOf m e → ⊥
no_leaf_new l m (tree.New n f xs) h k = h
no_leaf_new l m e h k = k

new_own : (f : Form) (m : Loc) (e : Expr) → may_make f e ≡ true → NewOf m e → is_new_form f ≡ true
new_own f m (tree.New l c xs) h k = h
new_own f m e h k = absurd k

no_join_new : (t : Token) (g : Form) → join t ≡ Some g → is_new_form g ≡ false
no_join_new t g h = off (is_new_form g) (find_all (λ f. not (is_new_form f)) after_first joins t g refl (join_found t g h)).0

arguments_or_not : {A : Type 0} (x y : Bool) {qs : List Piece} {s : Slot} {rs : List Slot} → ([] ≡ qs → mark P.OpenParenthesis ≡ s → Items_ P.CloseParenthesis ∷ [] ≡ rs → A) →
    either x (Go [] (mark P.OpenParenthesis) (Items_ P.CloseParenthesis ∷ [])) (either y (Pass (Missing ∷ [])) Refuse) ≡ Go qs s rs → A
arguments_or_not true y f h = f (cc) (cc) (cc)
arguments_or_not false true f h = absurd cc
arguments_or_not false false f h = absurd cc

none_passed : (x y : Bool) {qs : List Piece} → either x (Go [] (mark P.OpenParenthesis) (Items_ P.CloseParenthesis ∷ [])) (either y (Pass (Missing ∷ [])) Refuse) ≡ Pass qs → Missing ∷ [] ≡ qs
none_passed true y h = absurd cc
none_passed false true h = cc
none_passed false false h = absurd cc

new_listed : {ps : List Piece} {l m : Loc} {ts ta : List Token} {next : Token} (n : Loc) → SpellsSlots (mark P.OpenParenthesis ∷ Items_ P.CloseParenthesis ∷ []) ps l m ts next → OneToken n ta → Arguments n (ta ++ ts)
new_listed n (Sentences.sign opening is (Sentences.items closing_ dxs is_closing Sentences.done)) one = with_name opening one is (listed closing_ dxs is_closing)

made_name : (l n : Loc) (i : ℕ) (a : Expr) (ps : List Piece) → MadeNew n (build slot.New l (AnExpr i a ∷ ps)) → NameAt n a
made_name l n i a (TheExprs x xs ∷ []) h = h.1
made_name l n i a (Missing ∷ []) h = h.1
made_name l n i a ps h = absurd h

none_made : (l n : Loc) (i : ℕ) (a : Expr) → MadeNew n (build slot.New l (AnExpr i a ∷ Missing ∷ [])) → ⊥
none_made l n i a h = let e = h.0 in omega arith

new_slots : {ps : List Piece} {l m : Loc} {ts : List Token} {next : Token} (n w : Loc) → SpellsSlots (Expr_ Callee ∷ By slot.Arguments ∷ []) ps l m ts next → MadeNew n (build slot.New w ps) → Arguments n ts
new_slots n w (Sentences.expr {i = i} {e = e} fit de go (Sentences.passed {qs = qs} {next = next} h Sentences.done)) made =
    absurd (none_made w n i e (subst (λ x. MadeNew n (build slot.New w (AnExpr i e ∷ (x ++ [])))) (sym (none_passed (is_mark P.OpenParenthesis next) (nat_le (wants (join next)) bare) h)) made))
new_slots n w (Sentences.expr {i = i} {e = e} {m = m} {te = te} {us = us} {next = next} fit de go (Sentences.chosen {qs = qs} {s = s} {rs = rs} {ps = ps} {l = l} h d)) made =
    arguments_or_not (is_mark P.OpenParenthesis (first us next)) (nat_le (wants (join (first us next))) bare)
    (λ x y z. new_listed n (subst (λ v. SpellsSlots v ps l m us next) (ap (λ v. v ∷ (rs ++ [])) (sym y) ∙ ap (λ v. mark P.OpenParenthesis ∷ (v ++ [])) (sym z)) d) (name_token n de (made_name w n i e (qs ++ ps) made))) h

prefixed_new : {ps : List Piece} {i : ℕ} {e : Expr} {l : Loc} {ts : List Token} {next : Token} (m : Loc) (g : Form) (t : Token) → is_new_form g ≡ true → prefix t ≡ Some g → SpellsSlots (slots g) ps t.loc l (t ∷ ts) next → build g (through t.loc l) ps ≡ Some (AnExpr i e) → i ≡ member → NewOf m e → NewArguments m (t ∷ ts)
prefixed_new {l = l} m slot.New t is pre (Sentences.sign _ at d) made top k = new_arguments t pre (new_slots m (through t.loc l) d (subst (MadeNew m) (sym made) (top, k)))
prefixed_new m g t is pre d made top k = absurd (true≢false (sym is))

pub new_call : {i : ℕ} {e : Expr} {l : Loc} {ts : List Token} {next : Token} (m : Loc) → Spells (AnExpr i e) l ts next → i ≡ member → NewOf m e → NewArguments m ts
new_call {e = e} m (Sentences.leaf t none is) top k = absurd (no_leaf_new t.loc m e (subst (NamedAt t.loc) is (at_leaf t.kind t.loc)) k)
new_call {e = e} m (Sentences.prefixed g {ps = ps} {l = l} t is d made) top k = prefixed_new m g t (new_own g m e (subst (Own g) made (own_made g (through t.loc l) ps (is_first_form t g is))) k) is d made top k
new_call {e = e} m (Sentences.joined g {ps = ps} {i = i} {a = a} {la = la} {l = l} t is are low da d made) top k =
    absurd (true≢false (sym (new_own g m e (subst (Own g) made (own_made g (through la l) (AnExpr i a ∷ ps) (is_join_form t g is))) k) ∙ no_join_new t g is))
