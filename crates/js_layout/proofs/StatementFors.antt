-- `for` in its three shapes.
use Rattle.std.proofs.Common.{◌≡◌, ℕ, Bool, true, false, not, ◌&&◌, List, [], ◌∷◌, ◌++◌, Option, Some, None, codes, refl, sym, ap, ◌∙◌}
use Rattle.std.proofs.lemmas.Bool.{true≢false}
use Rattle.js_terms.specs.declared.place.Loc.{Loc}
use Rattle.js_tree.specs.Plain as tree
use Rattle.js_tree.specs.Plain.{Expr, Stmt, MaybeExpr, none_expr, some_expr, ForInit, NoInit, InitExpression, no_declarator}
use Rattle.js_text.specs.Token.{Token, Word}
use Rattle.js_text.specs.Token as T
use Rattle.js_text.specs.Word.{reserved_word}
use Rattle.js_text.specs.declared.punctuator.Punctuator.TheVariants as P
use Rattle.js_reading.specs.Level.{any}
use Rattle.js_reading.specs.Spans.{first}
use Rattle.js_reading.specs.Kinds.{is_keyword}
use Rattle.js_reading.specs.declared.choice.Choice.TheVariants as choice
use Rattle.js_reading.specs.declared.form.Form.TheVariants as form
use Rattle.js_reading.specs.Slots.{Level, WithoutIn, Slot, Expr_, By, Piece, AnExpr, AStmt, Missing, Branch, Go}
use Rattle.js_reading.specs.Choices.{branch, either, for_rest}
use Rattle.js_reading.specs.Makes.{bare_in, is_declaration, declarators_of, maybe, for_with, for_of, for_parts}
use Rattle.js_reading.specs.Sentences.{fits}
use Rattle.js_reading.proofs.sentences.Firsts.{opens, not_kind}
use Rattle.js_spelling.specs.Written.{Written}
use Rattle.js_layout.specs.Tokens.{expr_tokens, stmt_tokens, maybe_tokens, mark}
use Rattle.js_layout.specs.Neat.{first_is}
use Rattle.js_layout.specs.Unplaced.{unplaced_expr_if, unplaced_stmt, unplaced_for_init}
use Rattle.js_layout.proofs.Spelt.{Traits, standing, AfterStmt, WillExpr, WillStmt}
use Rattle.js_layout.proofs.StatementSteps.{At, at_mark, Will, mapped, before, ended, signed, passed, chosen, expressed, Like, Ends, ends_semicolon, ends_parenthesis}
use Rattle.js_layout.proofs.StatementWords.{no_let, is_let, let_kind, first_kind, first_append}
use Rattle.js_layout.proofs.StatementHeads.{any_level, MadeStmt, headed, last_stated, opening, value_before}

-- ---- an operand that may be left out

abbrev pub WillMaybe : MaybeExpr → Type 0
WillMaybe none_expr = Unit {0}
WillMaybe (some_expr e) = WillExpr e

pub record MadeMaybe (y : MaybeExpr) (p : Piece) : Type 0 where
  pub tree : MaybeExpr
  pub made : maybe p ≡ Some tree
  pub same : unplaced_expr_if tree ≡ unplaced_expr_if y
  -- it is neither a declarator nor what stands after a target
  pub no_declarator : (due : Bool) (ps : List Piece) → declarators_of due (p ∷ ps) ≡ Some (no_declarator, p ∷ ps)
  pub no_target : (m : Loc) (j : ℕ) (x : Expr) (ps : List Piece) → for_parts m (AnExpr j x ∷ p ∷ ps) ≡ for_of m (InitExpression x) (p ∷ ps)

none_of : (due : Bool) (ps : List Piece) → declarators_of due (Missing ∷ ps) ≡ Some (no_declarator, Missing ∷ ps)
none_of true ps = refl
none_of false ps = refl

none_of_value : (due : Bool) (i : ℕ) (e : Expr) (ps : List Piece) → declarators_of due (AnExpr i e ∷ ps) ≡ Some (no_declarator, AnExpr i e ∷ ps)
none_of_value true i e ps = refl
none_of_value false i e ps = refl

made_missing : MadeMaybe none_expr Missing
made_missing = record { tree = none_expr; made = refl; same = refl; no_declarator = none_of; no_target = λ m j x ps. refl }

made_present : (e x : Expr) → Like e x → MadeMaybe (some_expr e) (AnExpr (standing e) x)
made_present e x like = record { tree = some_expr x; made = refl; same = ap some_expr like.same; no_declarator = λ due ps. none_of_value due (standing e) x ps; no_target = λ m j z ps. refl }

before_semicolon : {line : Bool} {ss : List Slot} {Q : List Piece → Type 0} {ws : List Written} {N : Token → Type 0} (l : Option Loc) (y : MaybeExpr) → WillMaybe y →
    ((b : Bool) (p : Piece) → MadeMaybe y p → Will b ss (λ ps. Q (p ∷ ps)) (mark l P.Semicolon ∷ ws) N) → Will line (By (choice.ValueBefore P.Semicolon) ∷ ss) Q (maybe_tokens y ++ mark l P.Semicolon ∷ ws) N
before_semicolon {line = line} l none_expr will r = passed (at_mark (λ t. refl)) (r line Missing made_missing)
before_semicolon l (some_expr e) will r =
    opening (λ us next f h. value_before P.Semicolon (first us next) refl h)
    (expressed e will (λ x like. any_level e) (λ b. at_mark (λ t. ends_semicolon (Level any) (standing e) b t)) (λ b x like. r b (AnExpr (standing e) x) (made_present e x like)))

before_parenthesis : {line : Bool} {ss : List Slot} {Q : List Piece → Type 0} {ws : List Written} {N : Token → Type 0} (l : Option Loc) (y : MaybeExpr) → WillMaybe y →
    ((b : Bool) (p : Piece) → MadeMaybe y p → Will b ss (λ ps. Q (p ∷ ps)) (mark l P.CloseParenthesis ∷ ws) N) → Will line (By (choice.ValueBefore P.CloseParenthesis) ∷ ss) Q (maybe_tokens y ++ mark l P.CloseParenthesis ∷ ws) N
before_parenthesis {line = line} l none_expr will r = passed (at_mark (λ t. refl)) (r line Missing made_missing)
before_parenthesis l (some_expr e) will r =
    opening (λ us next f h. value_before P.CloseParenthesis (first us next) refl h)
    (expressed e will (λ x like. any_level e) (λ b. at_mark (λ t. ends_parenthesis (Level any) (standing e) b t)) (λ b x like. r b (AnExpr (standing e) x) (made_present e x like)))

-- ---- what stands after the first part

-- its pieces make a `for` of any first part
pub record MadeRest (y z : MaybeExpr) (s : Stmt) (ps : List Piece) : Type 0 where
  pub test : MaybeExpr
  pub step : MaybeExpr
  pub body : Stmt
  pub made : (m : Loc) (x : ForInit) → for_of m x ps ≡ Some (AStmt (tree.For (Some m) x test step body))
  pub same_test : unplaced_expr_if test ≡ unplaced_expr_if y
  pub same_step : unplaced_expr_if step ≡ unplaced_expr_if z
  pub same_body : unplaced_stmt body ≡ unplaced_stmt s
  pub no_declarator : (due : Bool) → declarators_of due ps ≡ Some (no_declarator, ps)
  pub no_target : (m : Loc) (j : ℕ) (x : Expr) → for_parts m (AnExpr j x ∷ ps) ≡ for_of m (InitExpression x) ps

made_rest : (y z : MaybeExpr) (s t : Stmt) (p q : Piece) → MadeMaybe y p → MadeMaybe z q → unplaced_stmt t ≡ unplaced_stmt s → MadeRest y z s (p ∷ q ∷ AStmt t ∷ [])
made_rest y z s t p q a b same = record {
  test = a.tree;
  step = b.tree;
  body = t;
  made = λ m x. ap (λ o. for_with m x t o (maybe q)) a.made ∙ ap (λ o. for_with m x t (Some a.tree) o) b.made;
  same_test = a.same;
  same_step = b.same;
  same_body = same;
  no_declarator = λ due. a.no_declarator due (q ∷ AStmt t ∷ []);
  no_target = λ m j x. a.no_target m j x (q ∷ AStmt t ∷ []);
}

-- the tokens after the first `;`
abbrev pub rest_tokens : Option Loc → MaybeExpr → MaybeExpr → Stmt → List Written
rest_tokens l y z s = maybe_tokens y ++ mark l P.Semicolon ∷ (maybe_tokens z ++ mark l P.CloseParenthesis ∷ stmt_tokens s)

-- what the body of a loop needs of the token after it
abbrev pub AfterBody : Stmt → Token → Type 0
AfterBody s t = AfterStmt s t

pub rest_read : {line : Bool} (l : Option Loc) (y z : MaybeExpr) (s : Stmt) → WillMaybe y → WillMaybe z → WillStmt s → is_declaration s ≡ false → Will line for_rest (MadeRest y z s) (rest_tokens l y z s) (AfterBody s)
rest_read l y z s test step will none =
    before_semicolon l y test (λ b p a. signed refl (before_parenthesis l z step (λ c q d. signed refl (last_stated s will none (λ t n. n) (λ e t same. ended (made_rest y z s t p q a d same))))))

-- what is made of the first part and the rest
pub made_for : (l : Option Loc) (x w : ForInit) (y z : MaybeExpr) (s : Stmt) (ps qs : List Piece) → ((m : Loc) → for_parts m qs ≡ for_of m w ps) → unplaced_for_init w ≡ unplaced_for_init x → MadeRest y z s ps →
    MadeStmt form.For (tree.For l x y z s) qs
made_for l x w y z s ps qs parts same r = record {
  tree = λ m. tree.For (Some m) w r.test r.step r.body;
  made = λ m. parts m ∙ r.made m w;
  same = λ m. ap (λ e. tree.For None e (unplaced_expr_if r.test) (unplaced_expr_if r.step) (unplaced_stmt r.body)) same ∙ ap (λ e. tree.For None (unplaced_for_init x) e (unplaced_expr_if r.step) (unplaced_stmt r.body)) r.same_test ∙
      ap (λ e. tree.For None (unplaced_for_init x) (unplaced_expr_if y) e (unplaced_stmt r.body)) r.same_step ∙ ap (λ e. tree.For None (unplaced_for_init x) (unplaced_expr_if y) (unplaced_expr_if z) e) r.same_body;
  declares = λ m. refl;
  string = λ m. refl;
}

pub after_for : (l : Option Loc) (x : ForInit) (y z : MaybeExpr) (s : Stmt) (t : Token) → AfterStmt (tree.For l x y z s) t → AfterBody s t
after_for l x y z s t n = record { no_else = n.no_else; no_finally = n.no_finally }

pub will_for : (l : Option Loc) (y z : MaybeExpr) (s : Stmt) → WillMaybe y → WillMaybe z → WillStmt s → is_declaration s ≡ false → WillStmt (tree.For l NoInit y z s)
will_for l y z s test step will none =
    headed form.For (tree.For l NoInit y z s) l
    (λ line. signed refl (signed refl (chosen (at_mark (λ t. refl)) (signed refl (before (after_for l NoInit y z s) (mapped (λ ps r. made_for l NoInit NoInit y z s ps (Missing ∷ ps) (λ m. refl) refl r) (rest_read l y z s test step will none)))))))
    (λ t. refl) refl

-- ---- a first part that is an expression

-- no other first part begins with the first token of an expression
head_value : (t : Token) → opens t ≡ true → no_let t.kind ≡ true → branch choice.Head t ≡ Go [] (Expr_ (WithoutIn any)) (By choice.AfterTarget ∷ [])
unfolding is_keyword reserved_word
head_value t h k =
    other _ _ _ (not_kind opens t (T.Punctuator P.Semicolon) refl h) ∙ other _ _ _ (not_kind opens t (Word (codes "var")) refl h) ∙ other _ _ _ (let_kind t.kind (negated (is_let t.kind) k)) ∙
    other _ _ _ (not_kind opens t (Word (codes "const")) refl h)
  where
    other : (b : Bool) (x y : Branch) → b ≡ false → either b x y ≡ y
    other b x y e = ap (λ c. either c x y) e

    negated : (b : Bool) → not b ≡ true → b ≡ false
    negated false e = refl
    negated true e = absurd (true≢false (sym e))

fits_without : (e x : Expr) → bare_in e ≡ false → Like e x → fits (WithoutIn any) (standing e) x ≡ true
fits_without e x none like = ap (λ b. b && not (bare_in x)) (any_level e) ∙ ap not (ap (λ (r : Traits). r.bare_in) like.traits ∙ none)

-- an expression in a head, before a token that ends it
pub head_expression : {line : Bool} {Q : List Piece → Type 0} {ws : List Written} {N : Token → Type 0} (e : Expr) → WillExpr e → bare_in e ≡ false → first_is no_let (expr_tokens e) ≡ true →
    ((b : Bool) → At b ws N (Ends (WithoutIn any) (standing e))) → ((b : Bool) (x : Expr) → Like e x → Will b (By choice.AfterTarget ∷ []) (λ ps. Q (AnExpr (standing e) x ∷ ps)) ws N) →
    Will line (By choice.Head ∷ []) Q (expr_tokens e ++ ws) N
head_expression {line = line} {ws = ws} e will none begins ends r =
    opening (λ us next f h. head_value (first us next) h (first_kind no_let line (expr_tokens e ++ ws) us next (first_append no_let (expr_tokens e) ws begins) f))
    (expressed e will (λ x like. fits_without e x none like) ends r)

pub will_for_expression : (l : Option Loc) (e : Expr) (y z : MaybeExpr) (s : Stmt) → WillExpr e → bare_in e ≡ false → first_is no_let (expr_tokens e) ≡ true → WillMaybe y → WillMaybe z → WillStmt s → is_declaration s ≡ false →
    WillStmt (tree.For l (InitExpression e) y z s)
will_for_expression l e y z s value no_in begins test step will none =
    headed form.For (tree.For l (InitExpression e) y z s) l
    (λ line. signed refl (signed refl (head_expression e value no_in begins (λ b. at_mark (λ t. ends_semicolon (WithoutIn any) (standing e) b t)) (λ b x like. chosen (at_mark (λ t. refl)) (signed refl
    (before (after_for l (InitExpression e) y z s) (mapped (λ ps r. made_for l (InitExpression e) (InitExpression x) y z s ps (AnExpr (standing e) x ∷ ps) (λ m. r.no_target m (standing e) x) (ap InitExpression like.same) r)
    (rest_read l y z s test step will none))))))))
    (λ t. refl) refl
