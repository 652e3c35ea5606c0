-- `for` whose first part declares, and `for` with `in` or `of`.
use Rattle.std.proofs.Common.{◌≡◌, ℕ, ◌<◌, Bool, true, false, not, ◌&&◌, List, [], ◌∷◌, ◌++◌, Option, Some, None, codes, if◌then◌else◌, refl, sym, ap, ◌∙◌, arith, append_assoc}
use Rattle.std.specs.Prelude.{nat_le, ◌==◌}
use Rattle.std.specs.Str.{bytes_eq}
use Rattle.std.proofs.lemmas.Bool.{true≢false}
use Rattle.js_terms.specs.declared.place.Loc.{Loc}
use Rattle.js_terms.specs.declared.operators.VariableKind.{VariableKind}
use Rattle.js_terms.specs.declared.operators.VariableKind.TheVariants as variable
use Rattle.js_tree.specs.Plain as tree
use Rattle.js_tree.specs.Plain.{Expr, Stmt, MaybeExpr, none_expr, some_expr, InitDeclaration, TargetDeclaration, TargetExpression, Declarator, Declarators, MakeDeclarator, no_declarator, more_declarator, BindingIdentifier}
use Rattle.js_text.specs.Token.{Token, Word}
use Rattle.js_text.specs.declared.punctuator.Punctuator.TheVariants as P
use Rattle.js_reading.specs.Level.{any, assignment}
use Rattle.js_reading.specs.declared.class.Class.TheVariants.{BoundName}
use Rattle.js_reading.specs.declared.choice.Choice.TheVariants as choice
use Rattle.js_reading.specs.declared.form.Form.TheVariants as form
use Rattle.js_reading.specs.Slots.{Level, WithoutIn, Sign, Text, By, Piece, AnExpr, AStmt, AWord, AKind, Missing, Go}
use Rattle.js_reading.specs.Productions.{variable_word}
use Rattle.js_reading.specs.Choices.{branch, each_rest}
use Rattle.js_reading.specs.Makes.{bound, is_target, is_async, bare_in, is_declaration, is_const, declarators_of, for_declared, for_parts}
use Rattle.js_layout.specs.Tokens.{expr_tokens, stmt_tokens, declarator_tokens, more_declarators_tokens, mark, word, origin_of}
use Rattle.js_layout.specs.Neat.{first_is, level}
use Rattle.js_layout.specs.Printable.{Binds}
use Rattle.js_layout.specs.Unplaced.{unplaced_expr, unplaced_stmt}
use Rattle.js_layout.proofs.Spelt.{Traits, standing, name_in, edge, AfterStmt, WillExpr, WillStmt}
use Rattle.js_layout.proofs.StatementSteps.{made_of, At, at_mark, Will, same_tokens, mapped, before, ended, signed, named, placed, chosen, expressed, Like, Ends, ends_parenthesis, ends_of}
use Rattle.js_layout.proofs.StatementWords.{no_let}
use Rattle.js_layout.proofs.StatementHeads.{any_level, MadeStmt, headed, last_stated}
use Rattle.js_layout.proofs.StatementDeclarators.{WillInit, WillInits, WillInitial, initial_fits, comes_more, from_begun, MadeDeclarator, made_value, MadeDeclarators, NoMore, one_before, declared, more_declared}
use Rattle.js_layout.proofs.StatementFors.{WillMaybe, MadeRest, rest_tokens, AfterBody, rest_read, made_for, after_for, head_expression}

-- ---- a first part that declares

-- what stands for the first part and the rest, after the word of the declaration
record MadeHead (k : VariableKind) (d : Declarator) (ds : Declarators) (y z : MaybeExpr) (s : Stmt) (ps : List Piece) : Type 0 where
  pub declared : MadeDeclarators (is_const k) (more_declarator d ds) (MadeRest y z s) ps
  pub parts : (m : Loc) → for_parts m (AKind k ∷ ps) ≡ for_declared m k (declarators_of (is_const k) ps)

head_variable : (k : VariableKind) (b : Bool) (t : Token) → branch choice.Head (made_of (Word (variable_word k)) b t) ≡ Go (AKind k ∷ []) (Sign (Word (variable_word k))) (Text BoundName ∷ By choice.AfterBound ∷ [])
head_variable variable.Var b t = refl
head_variable variable.Let b t = refl
head_variable variable.Const b t = refl

no_more : {due : Bool} {y z : MaybeExpr} {s : Stmt} {ps : List Piece} → MadeRest y z s ps → NoMore due (MadeRest y z s) ps
no_more {due = due} r = record { none = r.no_declarator due; left = r }

none_declared : {due : Bool} {y z : MaybeExpr} {s : Stmt} {ps : List Piece} → MadeRest y z s ps → MadeDeclarators due no_declarator (MadeRest y z s) ps
none_declared {due = due} {ps = ps} r = record { tree = no_declarator; rest = ps; made = r.no_declarator due; same = refl; left = r }

bare_made : (due : Bool) (k m : Option Loc) (w : List ℕ) (a : Loc) → due ≡ false → MadeDeclarator due (MakeDeclarator k (BindingIdentifier m w) none_expr) (AWord w a ∷ Missing ∷ [])
bare_made false k m w a h = record { tree = MakeDeclarator (Some a) (bound w a) none_expr; made = λ ps. refl; same = refl }
bare_made true k m w a h = absurd (true≢false h)

-- a first declarator without an initializer
head_bare : {line : Bool} (l : Option Loc) (k : VariableKind) (j m : Option Loc) (w : List ℕ) (ds : Declarators) (y z : MaybeExpr) (s : Stmt) → Binds (BindingIdentifier m w) → is_const k ≡ false → WillInits true (is_const k) ds →
    WillMaybe y → WillMaybe z → WillStmt s → is_declaration s ≡ false → Will line (Text BoundName ∷ By choice.AfterBound ∷ []) (MadeHead k (MakeDeclarator j (BindingIdentifier m w) none_expr) ds y z s)
    (declarator_tokens (MakeDeclarator j (BindingIdentifier m w) none_expr) ++ (more_declarators_tokens l ds ++ mark l P.Semicolon ∷ rest_tokens l y z s)) (AfterBody s)
head_bare l k j m w no_declarator y z s is none wills test step will undeclared =
    from_begun j (word j w ∷ []) (mark l P.Semicolon ∷ rest_tokens l y z s) (named w is refl (λ a. chosen (at_mark (λ t. refl)) (signed refl (mapped (λ ps r. record {
      declared = one_before (bare_made (is_const k) j m w a none) (none_declared r);
      parts = λ n. refl;
    }) (rest_read l y z s test step will undeclared)))))
head_bare l k j m w (more_declarator d ds) y z s is none wills test step will undeclared =
    from_begun j (word j w ∷ []) (more_declarators_tokens l (more_declarator d ds) ++ mark l P.Semicolon ∷ rest_tokens l y z s) (named w is refl (λ a. chosen (at_mark (λ t. refl)) (signed refl
    (same_tokens (sym (append_assoc (declarator_tokens d) (more_declarators_tokens l ds) (mark l P.Semicolon ∷ rest_tokens l y z s)))
    (declared true (is_const k) d wills.0 (λ b. comes_more (rest_tokens l y z s) true l ds (origin_of l) false b) (λ b qs x. mapped (λ ps xs. record {
      declared = one_before (bare_made (is_const k) j m w a none) (one_before x xs);
      parts = λ n. refl;
    }) (more_declared true (is_const k) l ds (origin_of l) false wills.1 (λ c. signed refl (mapped (λ ps r. no_more r) (rest_read l y z s test step will undeclared))))))))))

-- and one with an initializer
head_value : {line : Bool} (l : Option Loc) (k : VariableKind) (j m : Option Loc) (w : List ℕ) (e : Expr) (ds : Declarators) (y z : MaybeExpr) (s : Stmt) → Binds (BindingIdentifier m w) → WillInitial true e → WillInits true (is_const k) ds →
    WillMaybe y → WillMaybe z → WillStmt s → is_declaration s ≡ false → Will line (Text BoundName ∷ By choice.AfterBound ∷ []) (MadeHead k (MakeDeclarator j (BindingIdentifier m w) (some_expr e)) ds y z s)
    (declarator_tokens (MakeDeclarator j (BindingIdentifier m w) (some_expr e)) ++ (more_declarators_tokens l ds ++ mark l P.Semicolon ∷ rest_tokens l y z s)) (AfterBody s)
head_value l k j m w e ds y z s is value wills test step will undeclared =
    from_begun j (word j w ∷ mark j P.Assign ∷ expr_tokens e) (more_declarators_tokens l ds ++ mark l P.Semicolon ∷ rest_tokens l y z s) (named w is refl (λ a. chosen (at_mark (λ t. refl)) (signed refl
    (expressed e value.will (λ x like. initial_fits true e x value like) ending (λ b x like. placed (λ c. mapped (λ ps xs. record {
      declared = one_before (made_value (is_const k) j m w e x a c like) xs;
      parts = λ n. refl;
    }) (more_declared true (is_const k) l ds (origin_of l) false wills (λ f. signed refl (mapped (λ ps r. no_more r) (rest_read l y z s test step will undeclared))))))))))
  where
    ending : (b : Bool) → At b (more_declarators_tokens l ds ++ mark l P.Semicolon ∷ rest_tokens l y z s) (AfterBody s) (Ends (WithoutIn assignment) (standing e))
    ending b = record { holds = λ us next f n. ((comes_more {N = AfterBody s} (rest_tokens l y z s) true l ds (origin_of l) false b).holds us next f n).ends (standing e) }

head_declared : {line : Bool} (l : Option Loc) (k : VariableKind) (d : Declarator) (ds : Declarators) (y z : MaybeExpr) (s : Stmt) (due : Bool) → is_const k ≡ due → WillInit true due d → WillInits true (is_const k) ds →
    WillMaybe y → WillMaybe z → WillStmt s → is_declaration s ≡ false → Will line (Text BoundName ∷ By choice.AfterBound ∷ []) (MadeHead k d ds y z s)
    (declarator_tokens d ++ (more_declarators_tokens l ds ++ mark l P.Semicolon ∷ rest_tokens l y z s)) (AfterBody s)
head_declared l k (MakeDeclarator j (BindingIdentifier m w) none_expr) ds y z s true e is wills test step will undeclared = absurd is
head_declared l k (MakeDeclarator j (BindingIdentifier m w) none_expr) ds y z s false e is wills test step will undeclared = head_bare l k j m w ds y z s is e wills test step will undeclared
head_declared l k (MakeDeclarator j (BindingIdentifier m w) (some_expr x)) ds y z s true e is wills test step will undeclared = head_value l k j m w x ds y z s is.0 is.1 wills test step will undeclared
head_declared l k (MakeDeclarator j (BindingIdentifier m w) (some_expr x)) ds y z s false e is wills test step will undeclared = head_value l k j m w x ds y z s is.0 is.1 wills test step will undeclared

pub will_for_declaration : (l : Option Loc) (k : VariableKind) (d : Declarator) (ds : Declarators) (y z : MaybeExpr) (s : Stmt) → WillInits true (is_const k) (more_declarator d ds) → WillMaybe y → WillMaybe z → WillStmt s → is_declaration s ≡ false →
    WillStmt (tree.For l (InitDeclaration k (more_declarator d ds)) y z s)
will_for_declaration l k d ds y z s inits test step will none =
    headed form.For (tree.For l (InitDeclaration k (more_declarator d ds)) y z s) l
    (λ line. signed refl (signed refl (chosen (at_mark (λ t. head_variable k false t)) (signed refl (before (after_for l (InitDeclaration k (more_declarator d ds)) y z s) (mapped (λ ps h. made h)
    (same_tokens (sym (append_assoc (declarator_tokens d) (more_declarators_tokens l ds) (mark l P.Semicolon ∷ rest_tokens l y z s))) (head_declared l k d ds y z s (is_const k) refl inits.0 inits.1 test step will none))))))))
    (λ t. refl) refl
  where
    made : {ps : List Piece} → MadeHead k d ds y z s ps → MadeStmt form.For (tree.For l (InitDeclaration k (more_declarator d ds)) y z s) (AKind k ∷ ps)
    made {ps = ps} h =
        made_for l (InitDeclaration k (more_declarator d ds)) (InitDeclaration k h.declared.tree) y z s h.declared.rest (AKind k ∷ ps) (λ m. h.parts m ∙ ap (for_declared m k) h.declared.made) (ap (InitDeclaration k) h.declared.same) h.declared.left

-- ---- what stands after `in` or `of`, and the body

each_read : {line : Bool} {Q : List Piece → Type 0} (n : ℕ) (l : Option Loc) (e : Expr) (s : Stmt) → WillExpr e → nat_le n (standing e) ≡ true → WillStmt s → is_declaration s ≡ false →
    ((x : Expr) (t : Stmt) → Like e x → unplaced_stmt t ≡ unplaced_stmt s → Q (AnExpr (standing e) x ∷ AStmt t ∷ [])) → Will line (each_rest n) Q (expr_tokens e ++ mark l P.CloseParenthesis ∷ stmt_tokens s) (AfterStmt s)
each_read n l e s value high will none q =
    expressed e value (λ x like. high) (λ b. at_mark (λ t. ends_parenthesis (Level n) (standing e) b t)) (λ b x like. signed refl (last_stated s will none (λ t a. a) (λ c t same. ended (q x t like same))))

-- ---- targets

member_edge : (b : Bool) → 11 < edge (if b then 20 else 21)
member_edge true = omega arith
member_edge false = omega arith

target_edge : (e : Expr) → is_target e ≡ true → 11 < edge (standing e)
target_edge (tree.IdentifierReference l w) h = omega arith
target_edge (tree.NamedMember l o w) h = member_edge (level o == 20)
target_edge (tree.ComputedMember l o k) h = member_edge (level o == 20)
target_edge e h = absurd (true≢false (sym h))

target_in : (e : Expr) → is_target e ≡ true → bare_in e ≡ false
target_in (tree.IdentifierReference l w) h = refl
target_in (tree.NamedMember l o w) h = refl
target_in (tree.ComputedMember l o k) h = refl
target_in e h = absurd (true≢false (sym h))

ends_in : (e : Expr) (b : Bool) (t : Token) → is_target e ≡ true → Ends (WithoutIn any) (standing e) (made_of (Word (codes "in")) b t)
ends_in e b t h = record { quiet = record { no_literal = refl; no_arrow = refl; weak = target_edge e h }; stops = λ x. refl }

abbrev async_of : Option (List ℕ) → Bool
async_of (Some w) = bytes_eq w (codes "async")
async_of None = false

async_name : (e : Expr) → is_async e ≡ async_of (name_in e)
async_name (tree.IdentifierReference l w) = refl
async_name (tree.This l) = refl
async_name e = refl

same_async : (e x : Expr) → Like e x → is_async x ≡ is_async e
same_async e x like = async_name x ∙ ap (λ (r : Traits). async_of r.name) like.traits ∙ sym (async_name e)

same_target : (e x : Expr) → Like e x → is_target x ≡ is_target e
same_target e x like = ap (λ (r : Traits). r.target) like.traits

-- ---- `in`

pub will_for_in_declaration : (l : Option Loc) (k : VariableKind) (j : Option Loc) (w : List ℕ) (e : Expr) (s : Stmt) → Binds (BindingIdentifier j w) → WillExpr e → WillStmt s → is_declaration s ≡ false →
    WillStmt (tree.ForIn l (TargetDeclaration k (BindingIdentifier j w)) e s)
will_for_in_declaration l k j w e s is value will none =
    headed form.For (tree.ForIn l (TargetDeclaration k (BindingIdentifier j w)) e s) l
    (λ line. signed refl (signed refl (chosen (at_mark (λ t. head_variable k false t)) (signed refl (named w is refl (λ a. chosen (at_mark (λ t. refl)) (signed refl
    (before (λ t n. record { no_else = n.no_else; no_finally = n.no_finally }) (each_read any l e s value (any_level e) will none (λ x t like same. record {
      tree = λ m. tree.ForIn (Some m) (TargetDeclaration k (bound w a)) x t;
      made = λ m. refl;
      same = λ m. ap (λ y. tree.ForIn None (TargetDeclaration k (BindingIdentifier None w)) y (unplaced_stmt t)) like.same ∙ ap (λ y. tree.ForIn None (TargetDeclaration k (BindingIdentifier None w)) (unplaced_expr e) y) same;
      declares = λ m. refl;
      string = λ m. refl;
    })))))))))) (λ t. refl) refl

pub will_for_in_target : (l : Option Loc) (o e : Expr) (s : Stmt) → WillExpr o → is_target o ≡ true → first_is no_let (expr_tokens o) ≡ true → WillExpr e → WillStmt s → is_declaration s ≡ false → WillStmt (tree.ForIn l (TargetExpression o) e s)
will_for_in_target l o e s place target begins value will none =
    headed form.For (tree.ForIn l (TargetExpression o) e s) l
    (λ line. signed refl (signed refl (head_expression o place (target_in o target) begins (λ b. at_mark (λ t. ends_in o b t target)) (λ b y alike. chosen (at_mark (λ t. refl)) (signed refl
    (before (λ t n. record { no_else = n.no_else; no_finally = n.no_finally }) (each_read any l e s value (any_level e) will none (λ x t like same. record {
      tree = λ m. tree.ForIn (Some m) (TargetExpression y) x t;
      made = λ m. ap (λ c. if c then Some (AStmt (tree.ForIn (Some m) (TargetExpression y) x t)) else None) (same_target o y alike ∙ target);
      same = λ m. ap (λ z. tree.ForIn None (TargetExpression z) (unplaced_expr x) (unplaced_stmt t)) alike.same ∙ ap (λ z. tree.ForIn None (TargetExpression (unplaced_expr o)) z (unplaced_stmt t)) like.same ∙
          ap (λ z. tree.ForIn None (TargetExpression (unplaced_expr o)) (unplaced_expr e) z) same;
      declares = λ m. refl;
      string = λ m. refl;
    })))))))) (λ t. refl) refl

-- ---- `of`

pub will_for_of_declaration : (l : Option Loc) (k : VariableKind) (j : Option Loc) (w : List ℕ) (e : Expr) (s : Stmt) → Binds (BindingIdentifier j w) → WillExpr e → nat_le assignment (standing e) ≡ true → WillStmt s → is_declaration s ≡ false →
    WillStmt (tree.ForOf l (TargetDeclaration k (BindingIdentifier j w)) e s)
will_for_of_declaration l k j w e s is value high will none =
    headed form.For (tree.ForOf l (TargetDeclaration k (BindingIdentifier j w)) e s) l
    (λ line. signed refl (signed refl (chosen (at_mark (λ t. head_variable k false t)) (signed refl (named w is refl (λ a. chosen (at_mark (λ t. refl)) (signed refl
    (before (λ t n. record { no_else = n.no_else; no_finally = n.no_finally }) (each_read assignment l e s value high will none (λ x t like same. record {
      tree = λ m. tree.ForOf (Some m) (TargetDeclaration k (bound w a)) x t;
      made = λ m. refl;
      same = λ m. ap (λ y. tree.ForOf None (TargetDeclaration k (BindingIdentifier None w)) y (unplaced_stmt t)) like.same ∙ ap (λ y. tree.ForOf None (TargetDeclaration k (BindingIdentifier None w)) (unplaced_expr e) y) same;
      declares = λ m. refl;
      string = λ m. refl;
    })))))))))) (λ t. refl) refl

is_plain_target : (a b : Bool) → a ≡ true → b ≡ false → (a && not b) ≡ true
is_plain_target a b h k = ap (λ x. x && not b) h ∙ ap not k

pub will_for_of_target : (l : Option Loc) (o e : Expr) (s : Stmt) → WillExpr o → is_target o ≡ true → is_async o ≡ false → first_is no_let (expr_tokens o) ≡ true → WillExpr e → nat_le assignment (standing e) ≡ true → WillStmt s →
    is_declaration s ≡ false → WillStmt (tree.ForOf l (TargetExpression o) e s)
will_for_of_target l o e s place target no_async begins value high will none =
    headed form.For (tree.ForOf l (TargetExpression o) e s) l
    (λ line. signed refl (signed refl (head_expression o place (target_in o target) begins (λ b. at_mark (λ t. ends_of (WithoutIn any) (standing o) b t)) (λ b y alike. chosen (at_mark (λ t. refl)) (signed refl
    (before (λ t n. record { no_else = n.no_else; no_finally = n.no_finally }) (each_read assignment l e s value high will none (λ x t like same. record {
      tree = λ m. tree.ForOf (Some m) (TargetExpression y) x t;
      made = λ m. ap (λ c. if c then Some (AStmt (tree.ForOf (Some m) (TargetExpression y) x t)) else None) (is_plain_target (is_target y) (is_async y) (same_target o y alike ∙ target) (same_async o y alike ∙ no_async));
      same = λ m. ap (λ z. tree.ForOf None (TargetExpression z) (unplaced_expr x) (unplaced_stmt t)) alike.same ∙ ap (λ z. tree.ForOf None (TargetExpression (unplaced_expr o)) z (unplaced_stmt t)) like.same ∙
          ap (λ z. tree.ForOf None (TargetExpression (unplaced_expr o)) (unplaced_expr e) z) same;
      declares = λ m. refl;
      string = λ m. refl;
    })))))))) (λ t. refl) refl
