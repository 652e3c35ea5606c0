-- Declarators, in a declaration and in the first part of a `for`.
use Rattle.std.proofs.Common.{◌≡◌, ℕ, Bool, true, false, not, ◌&&◌, List, [], ◌∷◌, ◌++◌, Option, Some, None, refl, sym, ap, ◌∙◌, append_assoc}
use Rattle.std.specs.Prelude.{nat_le}
use Rattle.js_terms.specs.declared.place.Loc.{Loc}
use Rattle.js_terms.specs.declared.operators.VariableKind.{VariableKind}
use Rattle.js_terms.specs.declared.operators.VariableKind.TheVariants as variable
use Rattle.js_tree.specs.Plain as tree
use Rattle.js_tree.specs.Plain.{Expr, Declarator, MakeDeclarator, Declarators, no_declarator, more_declarator, BindingIdentifier, none_expr, some_expr}
use Rattle.js_text.specs.Token.{Token, Word}
use Rattle.js_text.specs.Token as T
use Rattle.js_text.specs.declared.punctuator.Punctuator.TheVariants as P
use Rattle.js_reading.specs.Level.{assignment}
use Rattle.js_reading.specs.Spans.{through}
use Rattle.js_reading.specs.declared.class.Class.TheVariants.{BoundName}
use Rattle.js_reading.specs.declared.choice.Choice.{Choice}
use Rattle.js_reading.specs.declared.choice.Choice.TheVariants as choice
use Rattle.js_reading.specs.declared.form.Form.TheVariants as form
use Rattle.js_reading.specs.Slots.{Wanted, Level, WithoutIn, Slot, Sign, Text, Expr_, Place_, By, Piece, AnExpr, AWord, APlace, Missing, Pass, Go}
use Rattle.js_reading.specs.Productions.{is_mark, variable_word, statement}
use Rattle.js_reading.specs.Choices.{branch, either}
use Rattle.js_reading.specs.Makes.{bound, bare_in, is_declaration, is_const, declarators_of, one_more_declarator, variables_of}
use Rattle.js_reading.specs.Sentences.{fits}
use Rattle.js_spelling.specs.Written.{Written, Origin}
use Rattle.js_layout.specs.Tokens.{expr_tokens, declarator_tokens, more_declarators_tokens, begun, mark, last_mark, word, origin_of}
use Rattle.js_layout.specs.Printable.{Binds}
use Rattle.js_layout.specs.Unplaced.{unplaced_declarator, unplaced_declarators}
use Rattle.js_layout.proofs.Follows.{Follows}
use Rattle.js_layout.proofs.Spelt.{Traits, standing, WillExpr, WillStmt}
use Rattle.js_layout.proofs.StatementSteps.{made_of, At, at_mark, Will, same_tokens, mapped, signed, named, placed, passed, chosen, expressed, Like, Ends, edge_two, ends_semicolon}
use Rattle.js_layout.proofs.StatementHeads.{MadeStmt, headed, semicolon}

-- ---- in a declaration, or in the first part of a `for`

abbrev pub initial : Bool → Choice
initial false = choice.Initializer
initial true = choice.InitializerInHead

abbrev pub others : Bool → Choice
others false = choice.Declarators
others true = choice.DeclaratorsInHead

abbrev pub taken : Bool → Wanted
taken false = Level assignment
taken true = WithoutIn assignment

-- what is shown of an initializer
pub record WillInitial (head : Bool) (e : Expr) : Type 0 where
  pub will : WillExpr e
  pub high : nat_le assignment (standing e) ≡ true
  pub no_in : head ≡ true → bare_in e ≡ false

-- and of declarators, of which each has one where it is due
abbrev pub WillInit : Bool → Bool → Declarator → Type 0
WillInit head true (MakeDeclarator l x none_expr) = ⊥
WillInit head false (MakeDeclarator l x none_expr) = Binds x
WillInit head due (MakeDeclarator l x (some_expr e)) = Binds x × WillInitial head e

abbrev pub WillInits : Bool → Bool → Declarators → Type 0
WillInits head due no_declarator = Unit {0}
WillInits head due (more_declarator d ds) = WillInit head due d × WillInits head due ds

both_true : (a b : Bool) → a ≡ true → b ≡ false → (a && not b) ≡ true
both_true a b h k = ap (λ x. x && not b) h ∙ ap not k

same_in : (e x : Expr) → Like e x → bare_in x ≡ bare_in e
same_in e x like = ap (λ (r : Traits). r.bare_in) like.traits

pub initial_fits : (head : Bool) (e x : Expr) → WillInitial head e → Like e x → fits (taken head) (standing e) x ≡ true
initial_fits false e x will like = will.high
initial_fits true e x will like = both_true _ _ will.high (same_in e x like ∙ will.no_in refl)

-- what a declarator is followed by
pub record Comes (head : Bool) (t : Token) : Type 0 where
  pub no_assign : is_mark P.Assign t ≡ false
  pub ends : (n : ℕ) → Ends (taken head) n t

comes_comma : (head b : Bool) (t : Token) → Comes head (made_of (T.Punctuator P.Comma) b t)
comes_comma false b t = record { no_assign = refl; ends = λ n. record { quiet = record { no_literal = refl; no_arrow = refl; weak = edge_two n }; stops = λ e. refl } }
comes_comma true b t = record { no_assign = refl; ends = λ n. record { quiet = record { no_literal = refl; no_arrow = refl; weak = edge_two n }; stops = λ e. refl } }

comes_semicolon : (head b : Bool) (t : Token) → Comes head (made_of (T.Punctuator P.Semicolon) b t)
comes_semicolon false b t = record { no_assign = refl; ends = λ n. ends_semicolon (Level assignment) n b t }
comes_semicolon true b t = record { no_assign = refl; ends = λ n. ends_semicolon (WithoutIn assignment) n b t }

-- the `;` after declarators
abbrev pub stop : Origin → Bool → Written
stop o e = record { kind = T.Punctuator P.Semicolon; origin = o; ends_line = e }

pub at_more : {N Q : Token → Type 0} (ws : List Written) (l : Option Loc) (ds : Declarators) (o : Origin) (e b : Bool) → ((t : Token) → Q (made_of (T.Punctuator P.Comma) b t)) → ((t : Token) → Q (made_of (T.Punctuator P.Semicolon) b t)) →
    At b (more_declarators_tokens l ds ++ stop o e ∷ ws) N Q
at_more ws l no_declarator o e b h k = at_mark k
at_more ws l (more_declarator d ds) o e b h k = at_mark h

pub comes_more : {N : Token → Type 0} (ws : List Written) (head : Bool) (l : Option Loc) (ds : Declarators) (o : Origin) (e b : Bool) → At b (more_declarators_tokens l ds ++ stop o e ∷ ws) N (Comes head)
comes_more ws head l ds o e b = at_more ws l ds o e b (λ t. comes_comma head b t) (λ t. comes_semicolon head b t)

-- ---- where a declarator begins in the source is no matter

unbegun_before : (l : Option Loc) (line : Bool) (vs ws : List Written) (ts : List Token) → Follows line (begun l vs ++ ws) ts → Follows line (vs ++ ws) ts
unbegun_before None line vs ws ts h = h
unbegun_before (Some l) line [] ws ts h = h
unbegun_before (Some l) line (v ∷ vs) ws [] h = absurd h
unbegun_before (Some l) line (v ∷ vs) ws (t ∷ ts) h = h

pub from_begun : {line : Bool} {ss : List Slot} {Q : List Piece → Type 0} {N : Token → Type 0} (l : Option Loc) (vs ws : List Written) → Will line ss Q (vs ++ ws) N → Will line ss Q (begun l vs ++ ws) N
from_begun {line = line} l vs ws r = record { read = λ ts next m h n. r.read ts next m (unbegun_before l line vs ws ts h) n }

-- ---- one declarator

without_initial : (head : Bool) (t : Token) → is_mark P.Assign t ≡ false → branch (initial head) t ≡ Pass (Missing ∷ [])
without_initial false t h = ap (λ b. either b (Go [] (Sign (T.Punctuator P.Assign)) (Expr_ (Level assignment) ∷ Place_ ∷ [])) (Pass (Missing ∷ []))) h
without_initial true t h = ap (λ b. either b (Go [] (Sign (T.Punctuator P.Assign)) (Expr_ (WithoutIn assignment) ∷ Place_ ∷ [])) (Pass (Missing ∷ []))) h

with_initial : (head b : Bool) (t : Token) → branch (initial head) (made_of (T.Punctuator P.Assign) b t) ≡ Go [] (Sign (T.Punctuator P.Assign)) (Expr_ (taken head) ∷ Place_ ∷ [])
with_initial false b t = refl
with_initial true b t = refl

-- the pieces of a declarator are those of a tree that is the same but for places
pub record MadeDeclarator (due : Bool) (d : Declarator) (qs : List Piece) : Type 0 where
  pub tree : Declarator
  pub made : (ps : List Piece) → declarators_of due (qs ++ ps) ≡ one_more_declarator tree (declarators_of due ps)
  pub same : unplaced_declarator tree ≡ unplaced_declarator d

made_some : (due : Bool) (w : List ℕ) (a z : Loc) (i : ℕ) (e : Expr) (ps : List Piece) →
    declarators_of due (AWord w a ∷ AnExpr i e ∷ APlace z ∷ ps) ≡ one_more_declarator (MakeDeclarator (Some (through a z)) (bound w a) (some_expr e)) (declarators_of due ps)
made_some true w a z i e ps = refl
made_some false w a z i e ps = refl

pub made_value : (due : Bool) (k m : Option Loc) (w : List ℕ) (e x : Expr) (a z : Loc) → Like e x → MadeDeclarator due (MakeDeclarator k (BindingIdentifier m w) (some_expr e)) (AWord w a ∷ AnExpr (standing e) x ∷ APlace z ∷ [])
made_value due k m w e x a z like = record {
  tree = MakeDeclarator (Some (through a z)) (bound w a) (some_expr x);
  made = λ ps. made_some due w a z (standing e) x ps;
  same = ap (λ y. MakeDeclarator None (BindingIdentifier None w) (some_expr y)) like.same;
}

declared_value : {line : Bool} {ss : List Slot} {Q : List Piece → Type 0} {ws : List Written} {N : Token → Type 0} (head due : Bool) (k m : Option Loc) (w : List ℕ) (e : Expr) → Binds (BindingIdentifier m w) → WillInitial head e →
    ((b : Bool) → At b ws N (Comes head)) → ((b : Bool) (qs : List Piece) → MadeDeclarator due (MakeDeclarator k (BindingIdentifier m w) (some_expr e)) qs → Will b ss (λ ps. Q (qs ++ ps)) ws N) →
    Will line (Text BoundName ∷ By (initial head) ∷ ss) Q (declarator_tokens (MakeDeclarator k (BindingIdentifier m w) (some_expr e)) ++ ws) N
declared_value {ws = ws} {N = N} head due k m w e is will comes r =
    from_begun k (word k w ∷ mark k P.Assign ∷ expr_tokens e) ws (named w is refl (λ a. chosen (at_mark (λ t. with_initial head false t)) (signed refl (expressed e will.will (λ x like. initial_fits head e x will like)
    (λ b. ending b) (λ b x like. placed (λ z. r b (AWord w a ∷ AnExpr (standing e) x ∷ APlace z ∷ []) (made_value due k m w e x a z like)))))))
  where
    ending : (b : Bool) → At b ws N (Ends (taken head) (standing e))
    ending b = record { holds = λ us next f n. ((comes b).holds us next f n).ends (standing e) }

declared_bare : {line : Bool} {ss : List Slot} {Q : List Piece → Type 0} {ws : List Written} {N : Token → Type 0} (head : Bool) (k m : Option Loc) (w : List ℕ) → Binds (BindingIdentifier m w) →
    ((b : Bool) → At b ws N (Comes head)) → ((b : Bool) (qs : List Piece) → MadeDeclarator false (MakeDeclarator k (BindingIdentifier m w) none_expr) qs → Will b ss (λ ps. Q (qs ++ ps)) ws N) →
    Will line (Text BoundName ∷ By (initial head) ∷ ss) Q (declarator_tokens (MakeDeclarator k (BindingIdentifier m w) none_expr) ++ ws) N
declared_bare {ws = ws} {N = N} head k m w is comes r =
    from_begun k (word k w ∷ []) ws (named w is refl (λ a. passed ending (r false (AWord w a ∷ Missing ∷ []) (record { tree = MakeDeclarator (Some a) (bound w a) none_expr; made = λ ps. refl; same = refl }))))
  where
    ending : At false ws N (λ t. branch (initial head) t ≡ Pass (Missing ∷ []))
    ending = record { holds = λ us next f n. without_initial head _ ((comes false).holds us next f n).no_assign }

pub declared : {line : Bool} {ss : List Slot} {Q : List Piece → Type 0} {ws : List Written} {N : Token → Type 0} (head due : Bool) (d : Declarator) → WillInit head due d →
    ((b : Bool) → At b ws N (Comes head)) → ((b : Bool) (qs : List Piece) → MadeDeclarator due d qs → Will b ss (λ ps. Q (qs ++ ps)) ws N) → Will line (Text BoundName ∷ By (initial head) ∷ ss) Q (declarator_tokens d ++ ws) N
declared head true (MakeDeclarator k (BindingIdentifier m w) none_expr) will comes r = absurd will
declared head false (MakeDeclarator k (BindingIdentifier m w) none_expr) will comes r = declared_bare head k m w will comes r
declared head true (MakeDeclarator k (BindingIdentifier m w) (some_expr e)) will comes r = declared_value head true k m w e will.0 will.1 comes r
declared head false (MakeDeclarator k (BindingIdentifier m w) (some_expr e)) will comes r = declared_value head false k m w e will.0 will.1 comes r

-- ---- more declarators

-- the pieces of declarators, and what holds of those after them
pub record MadeDeclarators (due : Bool) (ds : Declarators) (R : List Piece → Type 0) (ps : List Piece) : Type 0 where
  pub tree : Declarators
  pub rest : List Piece
  pub made : declarators_of due ps ≡ Some (tree, rest)
  pub same : unplaced_declarators tree ≡ unplaced_declarators ds
  pub left : R rest

-- no declarator begins with these pieces
pub record NoMore (due : Bool) (R : List Piece → Type 0) (ps : List Piece) : Type 0 where
  pub none : declarators_of due ps ≡ Some (no_declarator, ps)
  pub left : R ps

pub one_before : {due : Bool} {d : Declarator} {ds : Declarators} {R : List Piece → Type 0} {qs ps : List Piece} → MadeDeclarator due d qs → MadeDeclarators due ds R ps → MadeDeclarators due (more_declarator d ds) R (qs ++ ps)
one_before {d = d} {ds = ds} {ps = ps} x xs = record {
  tree = more_declarator x.tree xs.tree;
  rest = xs.rest;
  made = x.made ps ∙ ap (one_more_declarator x.tree) xs.made;
  same = ap (λ y. more_declarator y (unplaced_declarators xs.tree)) x.same ∙ ap (λ y. more_declarator (unplaced_declarator d) y) xs.same;
  left = xs.left;
}

next_declarator : (head b : Bool) (t : Token) → branch (others head) (made_of (T.Punctuator P.Comma) b t) ≡ Go [] (Sign (T.Punctuator P.Comma)) (Text BoundName ∷ By (initial head) ∷ By (others head) ∷ [])
next_declarator false b t = refl
next_declarator true b t = refl

no_declarator_more : (head b : Bool) (t : Token) → branch (others head) (made_of (T.Punctuator P.Semicolon) b t) ≡ Pass []
no_declarator_more false b t = refl
no_declarator_more true b t = refl

pub more_declared : {line : Bool} {ss : List Slot} {R : List Piece → Type 0} {ws : List Written} {N : Token → Type 0} (head due : Bool) (l : Option Loc) (ds : Declarators) (o : Origin) (e : Bool) → WillInits head due ds →
    ((b : Bool) → Will b ss (NoMore due R) (stop o e ∷ ws) N) → Will line (By (others head) ∷ ss) (MadeDeclarators due ds R) (more_declarators_tokens l ds ++ stop o e ∷ ws) N
more_declared {line = line} head due l no_declarator o e will r =
    passed (at_mark (λ t. no_declarator_more head line t)) (mapped (λ ps x. record { tree = no_declarator; rest = ps; made = x.none; same = refl; left = x.left }) (r line))
more_declared {line = line} {ws = ws} head due l (more_declarator d ds) o e will r =
    chosen (at_mark (λ t. next_declarator head line t)) (signed refl (same_tokens (sym (append_assoc (declarator_tokens d) (more_declarators_tokens l ds) (stop o e ∷ ws)))
    (declared head due d will.0 (λ b. comes_more ws head l ds o e b) (λ b qs x. mapped (λ ps xs. one_before x xs) (more_declared head due l ds o e will.1 r)))))

-- ---- declarations

declaration : (k : VariableKind) (b : Bool) (t : Token) → statement (made_of (Word (variable_word k)) b t) ≡ Some (form.Variables k)
declaration variable.Var b t = refl
declaration variable.Let b t = refl
declaration variable.Const b t = refl

same_kind : (l m : Option Loc) (k : VariableKind) (ds es : Declarators) → is_declaration (tree.VariableDeclaration l k ds) ≡ is_declaration (tree.VariableDeclaration m k es)
same_kind l m variable.Var ds es = refl
same_kind l m variable.Let ds es = refl
same_kind l m variable.Const ds es = refl

abbrev Nothing : List Piece → Type 0
Nothing ps = ps ≡ []

no_pieces : (due : Bool) → declarators_of due [] ≡ Some (no_declarator, [])
no_pieces true = refl
no_pieces false = refl

pub will_variables : (l : Option Loc) (k : VariableKind) (d : Declarator) (ds : Declarators) → WillInits false (is_const k) (more_declarator d ds) → WillStmt (tree.VariableDeclaration l k (more_declarator d ds))
will_variables l k d ds will =
    headed (form.Variables k) (tree.VariableDeclaration l k (more_declarator d ds)) l
    (λ line. signed refl (mapped (λ ps x. made x) (same_tokens (sym (append_assoc (declarator_tokens d) (more_declarators_tokens l ds) (last_mark l P.Semicolon ∷ [])))
    (declared false (is_const k) d will.0 (λ b. comes_more [] false l ds (origin_of l) true b) (λ b qs x. mapped (λ ps xs. one_before x xs)
    (more_declared false (is_const k) l ds (origin_of l) true will.1 (λ b. semicolon l (record { none = no_pieces (is_const k); left = refl }))))))))
    (λ t. declaration k t.line_terminator_before t) refl
  where
    made : {ps : List Piece} → MadeDeclarators (is_const k) (more_declarator d ds) Nothing ps → MadeStmt (form.Variables k) (tree.VariableDeclaration l k (more_declarator d ds)) ps
    made x = record {
      tree = λ m. tree.VariableDeclaration (Some m) k x.tree;
      made = λ m. ap (variables_of m k) (x.made ∙ ap (λ ps. Some (x.tree, ps)) x.left);
      same = λ m. ap (λ y. tree.VariableDeclaration None k y) x.same;
      declares = λ m. same_kind (Some m) l k x.tree (more_declarator d ds);
      string = λ m. refl;
    }
