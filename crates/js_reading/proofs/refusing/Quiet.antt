-- After an expression or a bound name a word on the line goes on only as one of the head of a `for`, before an expression: where `async`
-- was read as a name, no function and no arrow goes on.
use Rattle.std.proofs.Common.{◌≡◌, ℕ, Bool, true, false, not, ◌&&◌, List, [], ◌∷◌, ◌++◌, Option, Some, None, codes, if◌then◌else◌, refl, sym, ap, subst, ◌∙◌}
use Rattle.std.specs.Str.{bytes_eq}
use Rattle.js_reading.proofs.sentences.KindsLemmas.{kind_is}
use Rattle.js_reading.specs.Productions.{bound_name}
use Rattle.js_reading.specs.Productions.{slots, joins, begins_with, after_first}
use Rattle.js_reading.proofs.sentences.Shapes.{find_all, join_found}
use Rattle.std.specs.Prelude.{is_some, nat_le, ◌||◌}
use Rattle.std.proofs.lemmas.Bool.{true≢false, and_parts}
use Rattle.js_terms.specs.declared.place.Loc.{Loc}
use Rattle.js_terms.specs.declared.operators.LogicalOperator.TheVariants as logic
use Rattle.js_tree.specs.Plain.{Expr, Exprs, no_expr, more_expr, Stmt}
use Rattle.js_tree.specs.Plain as tree
use Rattle.js_text.specs.Token.{Token, Kind, Word, End}
use Rattle.js_text.specs.Token as T
use Rattle.js_text.specs.Word.{reserved_word}
use Rattle.js_reading.specs.Level.{assignment}
use Rattle.js_reading.specs.Spans.{through}
use Rattle.js_text.specs.declared.punctuator.Punctuator.TheVariants as P
use Rattle.js_reading.specs.Kinds.{is_kind, is_keyword}
use Rattle.js_reading.specs.Slots.{Wanted, Slot, Sign, Text, Expr_, Stmt_, Stmts_, Items_, Place_, By, Piece, AnExpr, AStmt, TheStmts, TheExprs, AWord, AText, APlace, Missing, Branch, Refuse, Pass, Go, Form, Choice, Class, LaterText, FirstText, AnyName, Key, BoundName}
use Rattle.js_reading.specs.Slots as slot
use Rattle.js_reading.specs.Productions.{primary, is_mark, piece_of, prefix, statement, join}
use Rattle.js_reading.specs.Choices.{branch, stops, either}
use Rattle.js_reading.specs.Makes.{build, is_target, is_and_or, arrow_of, params_of, concise, expression_of, object_of, properties_of, length_of, template_of, template_parts, function_of}
use Rattle.js_reading.specs.Sentences.{leaf_of, fits, continues}
use Rattle.js_reading.specs.Turns.{leads, place, texted, enter, Frame, InForm, InExpression, InItems, Config, Due, begin_leaf, want_by, want, begin_by, take, pass, wanted, banned, is_name, have, turn}
use Rattle.js_reading.proofs.sentences.Branches.{branches, each, among}
use Rattle.js_reading.proofs.sentences.Firsts.{remade}
use Rattle.js_reading.proofs.sentences.Runs.{nowhere, by_bool, by_branch}
use Rattle.js_reading.proofs.sentences.Rows.{inner_kind, sign_inner, makes, settles, steady, plain_sign, calm, follows, either_of, DueFine}
use Rattle.js_reading.proofs.sentences.Ways.{Framed, FineAt, named, may, turn_way, lands}
use Rattle.js_reading.proofs.goals.Asking.{no_shift, no_sign, leads_nowhere, piece_option}

-- ---- an expression's production makes no statement

abbrev pub NoStmt : Option Piece → Type 0
NoStmt (Some (AStmt s)) = ⊥
NoStmt o = Unit {0}

arrow_plain : (l : Loc) (xs : Option tree.Params) (o : Option tree.ConciseBody) → NoStmt (arrow_of l xs o)
arrow_plain l (Some xs) (Some x) = tt
arrow_plain l xs o = tt

function_plain : (make : tree.Function → Expr) (o : Option tree.Function) → NoStmt (expression_of make o)
function_plain make None = tt
function_plain make (Some f) = tt

test_plain : (b : Bool) (x : Option Piece) → NoStmt x → NoStmt (if b then x else None)
test_plain true x h = h
test_plain false x h = tt

pub plain_made : (f : Form) (l : Loc) (ps : List Piece) → makes f ≡ true → NoStmt (build f l ps)
plain_made slot.Parentheses l (TheExprs false (more_expr e es) ∷ Missing ∷ []) is = tt
plain_made slot.Parentheses l (TheExprs b xs ∷ p ∷ ps) is = arrow_plain l (params_of xs) (concise (p ∷ ps))
plain_made slot.Parentheses l ps is = tt
plain_made slot.ArrayLiteral l (TheExprs b xs ∷ []) is = tt
plain_made slot.ArrayLiteral l ps is = tt
plain_made slot.ObjectLiteral l ps is = elim (properties_of (length_of ps) ps) as (λ o. NoStmt (object_of l o)) [ None ↦ tt | Some xs ↦ tt ]
plain_made slot.Template l (AText s ∷ ps) is = elim (template_parts ps) as (λ o. NoStmt (template_of l s o)) [ None ↦ tt | Some xs ↦ tt ]
plain_made slot.Template l ps is = tt
plain_made slot.FunctionExpression l (Missing ∷ ps) is = function_plain _ (function_of ps)
plain_made slot.FunctionExpression l (AWord w m ∷ ps) is = function_plain _ (function_of ps)
plain_made slot.FunctionExpression l ps is = tt
plain_made slot.New l (AnExpr i c ∷ TheExprs b xs ∷ []) is = tt
plain_made slot.New l (AnExpr i c ∷ Missing ∷ []) is = tt
plain_made slot.New l ps is = tt
plain_made slot.Call l (AnExpr i f ∷ TheExprs b xs ∷ []) is = tt
plain_made slot.Call l ps is = tt
plain_made slot.Dot l (AnExpr i o ∷ AWord w m ∷ []) is = tt
plain_made slot.Dot l ps is = tt
plain_made slot.Member l (AnExpr i o ∷ AnExpr j k ∷ []) is = tt
plain_made slot.Member l ps is = tt
plain_made (slot.Postfix o) l (AnExpr i e ∷ []) is = test_plain (is_target e) _ tt
plain_made (slot.Postfix o) l ps is = tt
plain_made (slot.PrefixUpdate o) l (AnExpr i e ∷ []) is = test_plain (is_target e) _ tt
plain_made (slot.PrefixUpdate o) l ps is = tt
plain_made (slot.Unary o) l (AnExpr i e ∷ []) is = tt
plain_made (slot.Unary o) l ps is = tt
plain_made (slot.Binary o) l (AnExpr i x ∷ AnExpr j y ∷ []) is = tt
plain_made (slot.Binary o) l ps is = tt
plain_made (slot.Logical logic.Coalesce) l (AnExpr i x ∷ AnExpr j y ∷ []) is = elim (is_and_or x) as (λ t. NoStmt (if t then None else Some (AnExpr 4 (tree.Logical (Some l) logic.Coalesce x y)))) [ true ↦ tt | false ↦ tt ]
plain_made (slot.Logical logic.And) l (AnExpr i x ∷ AnExpr j y ∷ []) is = tt
plain_made (slot.Logical logic.Or) l (AnExpr i x ∷ AnExpr j y ∷ []) is = tt
plain_made (slot.Logical logic.Coalesce) l ps is = tt
plain_made (slot.Logical o) l ps is = tt
plain_made slot.Conditional l (AnExpr h c ∷ AnExpr i x ∷ AnExpr j y ∷ []) is = tt
plain_made slot.Conditional l ps is = tt
plain_made (slot.Assignment o) l (AnExpr i x ∷ AnExpr j v ∷ []) is = test_plain (is_target x) _ tt
plain_made (slot.Assignment o) l ps is = tt
plain_made slot.ArrowOfName l (AnExpr i (tree.IdentifierReference m w) ∷ ps) is = arrow_plain l (params_of (more_expr (tree.IdentifierReference m w) no_expr)) (concise ps)
plain_made slot.ArrowOfName l ps is = tt
plain_made slot.Comma l (AnExpr i x ∷ AnExpr j y ∷ []) is = tt
plain_made slot.Comma l ps is = tt
plain_made f l ps is = absurd (true≢false (sym is))

-- ---- a word on the line: after an expression it may be one of the head of a `for`

abbrev pub is_marking : Kind → Bool
is_marking (T.Punctuator p) = true
is_marking End = true
is_marking k = false

pub record Quiet (t : Token) : Type 0 where
  pub no_join : join t ≡ None
  pub no_mark : is_marking t.kind ≡ false
  pub no_later : piece_of LaterText t.kind t.loc ≡ None
  pub on_line : t.line_terminator_before ≡ false

abbrev pub is_each_kind : Kind → Bool
is_each_kind (Word w) = bytes_eq w (codes "in") || bytes_eq w (codes "of")
is_each_kind k = false

-- there an expression is due behind it
abbrev pub Each : Token → (Config → Type 0) → Type 0
Each t Q = (f : Form) (w : Loc) (n : Wanted) (ss : List Slot) (ps : List Piece) (fs : List Frame) → is_each_kind t.kind ≡ true → Q (Due f w (Expr_ n ∷ ss) ps t.loc fs)

unmarked : {A : Type 0} (t : Token) (k : Kind) → Quiet t → is_marking k ≡ true → is_kind k t.kind ≡ true → A
unmarked t k q is h = absurd (true≢false (sym is ∙ ap is_marking (sym (kind_is k t.kind h)) ∙ q.no_mark))

quiet_stops : (t : Token) → Quiet t → stops t ≡ false
quiet_stops t q = ap (λ b. b || is_mark P.CloseBrace t || is_kind End t.kind) q.on_line ∙ by_sides (is_mark P.CloseBrace t) (is_kind End t.kind) refl refl
  where
    by_sides : (x y : Bool) → is_mark P.CloseBrace t ≡ x → is_kind End t.kind ≡ y → (false || x || y) ≡ false
    by_sides false false h k = refl
    by_sides true y h k = unmarked t (T.Punctuator P.CloseBrace) q refl h
    by_sides false true h k = unmarked t End q refl k

-- a choice that takes a mark, or a word before an expression, or what continues a template
abbrev pub plain_first : Slot → List Slot → Bool
plain_first (Sign (Word w)) (Expr_ n ∷ rs) = is_each_kind (Word w)
plain_first (Sign k) rs = plain_sign k
plain_first (Text LaterText) rs = true
plain_first s rs = false

abbrev pub signs : Choice → Branch → Bool
signs c (Go qs s rs) = not (settles c || steady c) || plain_first s rs
signs c b = true

sign_branches : (c : Choice) → each (signs c) (branches c) ≡ true
sign_branches slot.Semicolon = refl
sign_branches c = refl

abbrev pub never_passes : Choice → Bool
never_passes slot.AfterParameter = true
never_passes slot.AfterProperty = true
never_passes slot.TemplateRest = true
never_passes slot.AfterTarget = true
never_passes slot.AfterBound = true
never_passes c = false

abbrev pub stays : Choice → Branch → Bool
stays c (Pass qs) = not (never_passes c)
stays c b = true

stay_branches : (c : Choice) → each (stays c) (branches c) ≡ true
stay_branches slot.Semicolon = refl
stay_branches c = refl

stayed : {A : Type 0} (t : Token) (c : Choice) (qs : List Piece) → never_passes c ≡ true → branch c t ≡ Pass qs → A
stayed t c qs n h = absurd (true≢false (sym (subst (λ b. stays c b ≡ true) h (among c t (stays c) (stay_branches c))) ∙ ap not n))

no_pass : {A : Type 0} (x : Bool) (qs : List Piece) → either x (Go [] (Sign (T.Punctuator P.Semicolon)) []) Refuse ≡ Pass qs → A
no_pass true qs k = absurd cc
no_pass false qs k = absurd cc

settled_stays : {A : Type 0} (t : Token) → Quiet t → (c : Choice) (qs : List Piece) → settles c ≡ true → branch c t ≡ Pass qs → A
settled_stays t q slot.Semicolon qs s h =
    no_pass (is_mark P.Semicolon t) qs (subst (λ b. either (is_mark P.Semicolon t) (Go [] (Sign (T.Punctuator P.Semicolon)) []) (either (b && not (is_mark P.Colon t)) (Pass []) Refuse) ≡ Pass qs) (quiet_stops t q) h)
settled_stays t q slot.AfterParameter qs s h = stayed t slot.AfterParameter qs refl h
settled_stays t q slot.AfterProperty qs s h = stayed t slot.AfterProperty qs refl h
settled_stays t q slot.TemplateRest qs s h = stayed t slot.TemplateRest qs refl h
settled_stays t q slot.AfterTarget qs s h = stayed t slot.AfterTarget qs refl h
settled_stays t q slot.AfterBound qs s h = stayed t slot.AfterBound qs refl h
settled_stays t q c qs s h = absurd (true≢false (sym s))

first_plain : (c : Choice) (t : Token) (qs : List Piece) (s : Slot) (rs : List Slot) → (settles c || steady c) ≡ true → branch c t ≡ Go qs s rs → plain_first s rs ≡ true
first_plain c t qs s rs is h = by_sides (settles c || steady c) (plain_first s rs) is (subst (λ b. signs c b ≡ true) h (among c t (signs c) (sign_branches c)))
  where
    by_sides : (x y : Bool) → x ≡ true → (not x || y) ≡ true → y ≡ true
    by_sides true y e k = k
    by_sides false y e k = absurd (true≢false (sym e))

plain_marking : (k : Kind) → plain_sign k ≡ true → is_marking k ≡ true
plain_marking (T.Punctuator p) h = refl
plain_marking k h = absurd (true≢false (sym h))

take_quiet : (Q : Config → Type 0) (t : Token) → Quiet t → Each t Q → (f : Form) (w : Loc) (s : Slot) (rs ss : List Slot) (ps : List Piece) (fs : List Frame) (d : Config) → plain_first s rs ≡ true → take f w s (rs ++ ss) ps fs t ≡ Some d → Q d
take_quiet Q t q on f w (Sign (Word v)) (Expr_ n ∷ rs) ss ps fs d is h =
    by_bool (is_kind (Word v) t.kind) _ _ d (λ c g. lands Q g (on f w n (rs ++ ss) ps fs (subst (λ k. is_each_kind k ≡ true) (sym (kind_is (Word v) t.kind c)) is))) (λ c g. nowhere g) h
take_quiet Q t q on f w (Sign k) rs ss ps fs d is h = by_bool (is_kind k t.kind) _ _ d (λ c g. unmarked t k q (plain_marking k is) c) (λ c g. nowhere g) h
take_quiet Q t q on f w (Text LaterText) rs ss ps fs d is h = leads_nowhere (ap (λ o. texted o (λ p. enter f w (rs ++ ss) (ps ++ p ∷ []) t.loc fs)) q.no_later) h
take_quiet Q t q on f w s rs ss ps fs d is h = absurd (true≢false (sym is))

-- it passes slots only up to the end of an expression's production
pass_quiet : (Q : Config → Type 0) (t : Token) → Quiet t → Each t Q → (f : Form) (w : Loc) (ss : List Slot) (ps : List Piece) (l : Loc) (fs : List Frame) (d : Config) (go : Option Piece → Loc → Option Config) → calm (makes f) ss ≡ true →
    (makes f ≡ true → (qs : List Piece) → go (build f (through w l) qs) (through w l) ≡ Some d → Q d) → pass f w ss ps l fs t go ≡ Some d → Q d
pass_quiet Q t q on f w [] ps l fs d go c rec h = rec c ps h
pass_quiet Q t q on f w (Sign k ∷ ss) ps l fs d go c rec h = by_bool (is_kind k t.kind) _ _ d (λ x g. unmarked t k q (plain_marking k c) x) (λ x g. nowhere g) h
pass_quiet Q t q on f w (Place_ ∷ ss) ps l fs d go c rec h = pass_quiet Q t q on f w ss (ps ++ APlace l ∷ []) l fs d go c rec h
pass_quiet Q t q on f w (By k ∷ ss) ps l fs d go c rec h =
    by_branch (branch k t) _ _ d
    (λ qs e g. either_of (settles k) (steady k && calm (makes f) ss) c (λ x. settled_stays t q k qs x e) (λ x. pass_quiet Q t q on f w ss (ps ++ qs) l fs d go (and_parts (steady k) (calm (makes f) ss) x).1 rec g))
    (λ qs s rs e g. by_bool (leads (place fs) k) _ _ d (λ x y. take_quiet Q t q on f w s rs ss (ps ++ qs) fs d (first_plain k t qs s rs (chosen_by (settles k) (steady k) (calm (makes f) ss) c) e) y) (λ x y. nowhere y) g) h
  where
    chosen_by : (x y z : Bool) → (x || (y && z)) ≡ true → (x || y) ≡ true
    chosen_by true y z k = refl
    chosen_by false true z k = refl
    chosen_by false false z k = k
pass_quiet Q t q on f w (Text k ∷ ss) ps l fs d go c rec h = absurd (true≢false (sym c))
pass_quiet Q t q on f w (Expr_ n ∷ ss) ps l fs d go c rec h = absurd (true≢false (sym c))
pass_quiet Q t q on f w (Stmt_ ∷ ss) ps l fs d go c rec h = absurd (true≢false (sym c))
pass_quiet Q t q on f w (Stmts_ ∷ ss) ps l fs d go c rec h = absurd (true≢false (sym c))
pass_quiet Q t q on f w (Items_ p ∷ ss) ps l fs d go c rec h = absurd (true≢false (sym c))

-- after an expression
have_quiet : (Q : Config → Type 0) (t : Token) → Quiet t → Each t Q → (fs : List Frame) (d : Config) → Framed fs → (i : ℕ) (e : Expr) (m : Loc) → have fs (Some (AnExpr i e)) m t ≡ Some d → Q d
have_quiet Q t q on [] d fr i e m h = nowhere h
have_quiet Q t q on (InForm f w (Expr_ n) ss ps ∷ fs) d fr i e m h =
    by_bool (continues n e t) _ _ d (λ c g. by_bool (banned t (InForm f w (Expr_ n) ss ps ∷ fs)) _ _ d (λ k y. nowhere y) (λ k y. no_shift t i e m (InForm f w (Expr_ n) ss ps ∷ fs) d q.no_join y) g)
    (λ c g. by_bool (fits n i e) _ _ d
    (λ k y. pass_quiet Q t q on f w ss (ps ++ AnExpr i e ∷ []) m fs d (λ p x. have fs p x t) (and_parts (calm (makes f) ss) (follows (makes f) ss) fr.0.2).0
    (λ x qs z. piece_option fs (build f (through w m) qs) (through w m) t d (λ j v made r. have_quiet Q t q on fs d fr.1 j v (through w m) r) (λ s made r. absurd (subst NoStmt made (plain_made f (through w m) qs x))) z) y)
    (λ k y. nowhere y) g) h
have_quiet Q t q on (InExpression w ∷ fs) d fr i e m h =
    by_bool (continues (wanted (InExpression w)) e t) _ _ d (λ c g. by_bool (banned t (InExpression w ∷ fs)) _ _ d (λ k y. nowhere y) (λ k y. no_shift t i e m (InExpression w ∷ fs) d q.no_join y) g)
    (λ c g. by_bool (is_mark P.Colon t && (is_name e && nat_le primary i)) _ _ d (λ k y. unmarked t (T.Punctuator P.Colon) q refl (and_parts (is_mark P.Colon t) _ k).0)
    (λ k y. pass_quiet Q t q on slot.Expression w (By slot.Semicolon ∷ []) (AnExpr i e ∷ []) m fs d (λ p x. have fs p x t) refl (λ x qs z. absurd (true≢false (sym x))) y) g) h
have_quiet Q t q on (InItems f w p ss ps xs ∷ fs) d fr i e m h =
    by_bool (continues (wanted (InItems f w p ss ps xs)) e t) _ _ d (λ c g. by_bool (banned t (InItems f w p ss ps xs ∷ fs)) _ _ d (λ k y. nowhere y) (λ k y. no_shift t i e m (InItems f w p ss ps xs ∷ fs) d q.no_join y) g)
    (λ c g. by_bool (nat_le assignment i) _ _ d
    (λ k y. by_bool (is_mark P.Comma t) _ _ d (λ x z. unmarked t (T.Punctuator P.Comma) q refl x) (λ x z. by_bool (is_mark p t) _ _ d (λ u v. unmarked t (T.Punctuator p) q refl u) (λ u v. nowhere v) z) y)
    (λ k y. nowhere y) g) h
have_quiet Q t q on (f ∷ fs) d fr i e m h =
    by_bool (continues (wanted f) e t) _ _ d (λ c g. by_bool (banned t (f ∷ fs)) _ _ d (λ k y. nowhere y) (λ k y. no_shift t i e m (f ∷ fs) d q.no_join y) g) (λ c g. nowhere g) h

-- ---- `async` as a name, and such a word after it

pub record IsName (t : Token) : Type 0 where
  pub no_prefix : prefix t ≡ None
  pub no_statement : statement t ≡ None
  pub no_join : join t ≡ None
  pub no_inner : inner_kind t.kind ≡ false
  pub no_later : piece_of LaterText t.kind t.loc ≡ None
  pub no_first : piece_of FirstText t.kind t.loc ≡ None
  pub value : Expr
  pub is_leaf : leaf_of t.kind t.loc ≡ Some value

pub name_quiet : (Q : Config → Type 0) (a t : Token) → IsName a → Quiet t → Each t Q → (c : Config) → FineAt c → named c ≡ false → (d : Config) → turn c a ≡ Some d → (e : Config) → turn d t ≡ Some e → Q e
name_quiet Q a t n q on c fine unnamed d h =
    turn_way {Q = After} c d (record {
      by_want = λ fs x fr k. wanted_ fs x fr k;
      by_begin = λ fs x fr k. wanted_ (InExpression a.loc ∷ fs) x (tt, fr) (sym (ap (λ o. begin_by o a fs) n.no_statement) ∙ k);
      by_sign = λ k f w ss ps fs is e fin fr. no_sign a k n.no_inner (sign_inner k is) e;
      by_text = λ k p f w ss ps fs e m x fin fr. texts_ k p f w ss ps fs e m x fin fr;
      by_comma = λ fs e fr. no_sign a (T.Punctuator P.Comma) n.no_inner refl e;
      by_end = λ ss e. no_sign a End n.no_inner refl e;
    }) (λ i e l fs x fr g. no_shift a i e l fs x n.no_join g) (λ p f w ss ps fs e fin fr. clash n.no_later e) fine h
  where
    After : Config → Type 0
    After x = (e : Config) → turn x t ≡ Some e → Q e

    clash : {A : Type 0} {o : Option Piece} {p : Piece} → o ≡ None → o ≡ Some p → A
    clash {p = p} none e = let q : None ≡ Some p = sym none ∙ e in absurd cc

    wanted_ : (fs : List Frame) (x : Config) → Framed fs → want a fs ≡ Some x → After x
    wanted_ fs x fr k = lands After (sym (ap (λ o. want_by o a fs) n.no_prefix ∙ ap (begin_leaf a fs) n.is_leaf) ∙ k) (λ y g. have_quiet Q t q on fs y fr primary n.value a.loc g)

    bound_ : (f : Form) (w : Loc) (ss : List Slot) (ps : List Piece) (fs : List Frame) → follows (makes f) (Text BoundName ∷ ss) ≡ true → Framed fs → After (Due f w ss ps a.loc fs)
    bound_ f w ss ps fs x fr y g =
        pass_quiet Q t q on f w ss ps a.loc fs y (λ p z. have fs p z t) (and_parts (calm (makes f) ss) (follows (makes f) ss) x).0
        (λ u qs z. piece_option fs (build f (through w a.loc) qs) (through w a.loc) t y (λ j v made r. have_quiet Q t q on fs y fr j v (through w a.loc) r) (λ s made r. absurd (subst NoStmt made (plain_made f (through w a.loc) qs u))) z) g

    texts_ : (k : Class) (p : Piece) (f : Form) (w : Loc) (ss : List Slot) (ps : List Piece) (fs : List Frame) → piece_of k a.kind a.loc ≡ Some p → may (Text k ∷ ss) (named c) ≡ true → follows (makes f) (Text k ∷ ss) ≡ true → DueFine f ss → Framed fs → After (Due f w ss ps a.loc fs)
    texts_ BoundName p f w ss ps fs e m x fin fr = bound_ f w ss ps fs x fr
    texts_ AnyName p f w ss ps fs e m x fin fr = absurd (true≢false (sym m ∙ unnamed))
    texts_ Key p f w ss ps fs e m x fin fr = absurd (true≢false (sym m ∙ unnamed))
    texts_ FirstText p f w ss ps fs e m x fin fr = clash n.no_first e
    texts_ LaterText p f w ss ps fs e m x fin fr = absurd (true≢false (sym m))

pub async_name : (t : Token) → IsName (remade t (Word (codes "async")))
unfolding is_keyword reserved_word
async_name t = record { no_prefix = refl; no_statement = refl; no_join = refl; no_inner = refl; no_later = refl; no_first = refl; value = tree.IdentifierReference (Some t.loc) (codes "async"); is_leaf = refl }

pub function_quiet : (t : Token) → t.line_terminator_before ≡ false → Quiet (remade t (Word (codes "function"))) × (is_each_kind (remade t (Word (codes "function"))).kind ≡ false)
unfolding is_keyword reserved_word
function_quiet t h = (record { no_join = refl; no_mark = refl; no_later = refl; on_line = h }, refl)

-- ---- a name

abbrev pub no_name_sign : List Slot → Bool
no_name_sign (Sign k ∷ ss) = not (is_some (bound_name k))
no_name_sign ss = false

no_name_join : (t : Token) (g : Form) → join t ≡ Some g → (no_name_sign (after_first (slots g)) ≡ true) × (begins_with (after_first (slots g)) t ≡ true)
unfolding is_keyword reserved_word
no_name_join t g h = find_all (λ f. no_name_sign (after_first (slots f))) after_first joins t g refl (join_found t g h)

sign_clash : (t : Token) (ss : List Slot) → no_name_sign ss ≡ true → begins_with ss t ≡ true → is_some (bound_name t.kind) ≡ true → ⊥
sign_clash t (Sign k ∷ ss) n b h = true≢false (sym h ∙ ap (λ x. is_some (bound_name x)) (kind_is k t.kind b) ∙ off (is_some (bound_name k)) n)
  where
    off : (x : Bool) → not x ≡ true → x ≡ false
    off false q = refl
    off true q = absurd (true≢false (sym q))
sign_clash t ss n b h = true≢false (sym n)

name_join : (t : Token) → is_some (bound_name t.kind) ≡ true → join t ≡ None
name_join t h = by_form (join t) refl
  where
    by_form : (o : Option Form) → join t ≡ o → join t ≡ None
    by_form None e = e
    by_form (Some g) e = let a = no_name_join t g e in absurd (sign_clash t (after_first (slots g)) a.0 a.1 h)

pub name_is_quiet : (t : Token) → is_some (bound_name t.kind) ≡ true → t.line_terminator_before ≡ false → Quiet t
name_is_quiet t h line = record { no_join = name_join t h; no_mark = by_mark t.kind h; no_later = by_later t.kind h; on_line = line }
  where
    by_later : (k : Kind) → is_some (bound_name k) ≡ true → piece_of LaterText k t.loc ≡ None
    by_later (Word w) q = refl
    by_later (T.EscapedWord w) q = refl
    by_later k q = absurd (true≢false (sym q))

    by_mark : (k : Kind) → is_some (bound_name k) ≡ true → is_marking k ≡ false
    by_mark (Word w) q = refl
    by_mark (T.EscapedWord w) q = refl
    by_mark k q = absurd (true≢false (sym q))
