-- Statements that hold others, and functions.
use Rattle.std.proofs.Common.{◌≡◌, Bool, true, false, List, [], ◌∷◌, ◌++◌, Option, Some, None, codes, refl, sym, ap, subst, ◌∙◌, append-nil}
use Rattle.std.proofs.lemmas.Bool.{true≢false}
use Rattle.js_terms.specs.declared.place.Loc.{Loc}
use Rattle.js_terms.specs.declared.words.Identifier.{Identifier}
use Rattle.js_tree.specs.Plain as tree
use Rattle.js_tree.specs.Plain.{Expr, Stmt, Stmts, MaybePattern, none_pattern, some_pattern, none_stmt, some_stmt, Function}
use Rattle.js_tree.specs.Same.{bare_identifier}
use Rattle.js_text.specs.Token.{Token, Word}
use Rattle.js_text.specs.Token as T
use Rattle.js_text.specs.declared.punctuator.Punctuator.TheVariants as P
use Rattle.js_reading.specs.declared.choice.Choice.TheVariants as choice
use Rattle.js_reading.specs.declared.form.Form.TheVariants as form
use Rattle.js_reading.specs.Slots.{Sign, Stmt_, Stmts_, By, Piece, AStmt, TheStmts, AWord, Missing, Pass, Go}
use Rattle.js_reading.specs.Productions.{is_word, callable}
use Rattle.js_reading.specs.Choices.{branch, either}
use Rattle.js_reading.specs.Makes.{build, bound, is_declaration, function_of, declaration_of}
use Rattle.js_spelling.specs.Written.{Written}
use Rattle.js_layout.specs.Tokens.{catch_tokens, function_tokens}
use Rattle.js_layout.specs.Printable.{ends_open, IsName, BindsIf}
use Rattle.js_layout.specs.Unplaced.{unplaced_expr, unplaced_stmt, unplaced_stmts, unplaced_pattern_if, unplaced_function}
use Rattle.js_layout.proofs.Spelt.{WillExpr, WillStmt, WillBlock, WillFunction}
use Rattle.js_layout.proofs.StatementSteps.{at_mark, at_next, Will, ended, mapped, signed, named, passed, chosen, stated}
use Rattle.js_layout.proofs.StatementHeads.{headed, tested, blocked, last_block, last_stated}

-- ---- braces

pub will_block : (l : Option Loc) (xs : Stmts) → WillBlock xs → WillStmt (tree.Block l xs)
will_block l xs will =
    headed form.Block (tree.Block l xs) l
    (λ line. last_block l xs will (λ x same. ended (record { tree = λ m. tree.Block (Some m) x; made = λ m. refl; same = λ m. ap (λ y. tree.Block None y) same; declares = λ m. refl; string = λ m. refl }))) (λ t. refl) refl

-- ---- conditions and loops

no_else : (t : Token) → is_word (codes "else") t ≡ false → branch choice.Else t ≡ Pass (Missing ∷ [])
no_else t h = ap (λ b. either b (Go [] (Sign (Word (codes "else"))) (Stmt_ ∷ [])) (Pass (Missing ∷ []))) h

pub will_if : (l : Option Loc) (c : Expr) (s : Stmt) → WillExpr c → WillStmt s → is_declaration s ≡ false → WillStmt (tree.If l c s none_stmt)
will_if l c s test will none =
    headed form.If (tree.If l c s none_stmt) l
    (λ line. signed refl (tested l c test (λ x like. stated s will none (λ b. at_next (λ t n. record { no_else = λ h. n.no_else refl; no_finally = n.no_finally }))
    (λ b y same. passed (at_next (λ t n. no_else t (n.no_else refl))) (ended (record {
      tree = λ m. tree.If (Some m) x y none_stmt;
      made = λ m. refl;
      same = λ m. ap (λ z. tree.If None z (unplaced_stmt y) none_stmt) like.same ∙ ap (λ z. tree.If None (unplaced_expr c) z none_stmt) same;
      declares = λ m. refl;
      string = λ m. refl;
    })))))) (λ t. refl) refl

pub will_if_else : (l : Option Loc) (c : Expr) (s r : Stmt) → WillExpr c → WillStmt s → is_declaration s ≡ false → ends_open s ≡ false → WillStmt r → is_declaration r ≡ false → WillStmt (tree.If l c s (some_stmt r))
will_if_else l c s r test will none closed more none_more =
    headed form.If (tree.If l c s (some_stmt r)) l
    (λ line. signed refl (tested l c test (λ x like. stated s will none (λ b. at_mark (λ t. record { no_else = λ h. absurd (true≢false (sym h ∙ closed)); no_finally = refl }))
    (λ b y same. chosen (at_mark (λ t. refl)) (signed refl (last_stated r more none_more (λ t n. record { no_else = n.no_else; no_finally = n.no_finally }) (λ d z also. ended (record {
      tree = λ m. tree.If (Some m) x y (some_stmt z);
      made = λ m. refl;
      same = λ m. ap (λ e. tree.If None e (unplaced_stmt y) (some_stmt (unplaced_stmt z))) like.same ∙ ap (λ e. tree.If None (unplaced_expr c) e (some_stmt (unplaced_stmt z))) same ∙ ap (λ e. tree.If None (unplaced_expr c) (unplaced_stmt s) (some_stmt e)) also;
      declares = λ m. refl;
      string = λ m. refl;
    })))))))) (λ t. refl) refl

pub will_while : (l : Option Loc) (c : Expr) (s : Stmt) → WillExpr c → WillStmt s → is_declaration s ≡ false → WillStmt (tree.While l c s)
will_while l c s test will none =
    headed form.While (tree.While l c s) l
    (λ line. signed refl (tested l c test (λ x like. last_stated s will none (λ t n. record { no_else = n.no_else; no_finally = n.no_finally }) (λ b y same. ended (record {
      tree = λ m. tree.While (Some m) x y;
      made = λ m. refl;
      same = λ m. ap (λ z. tree.While None z (unplaced_stmt y)) like.same ∙ ap (λ z. tree.While None (unplaced_expr c) z) same;
      declares = λ m. refl;
      string = λ m. refl;
    }))))) (λ t. refl) refl

pub will_do : (l : Option Loc) (s : Stmt) (c : Expr) → WillStmt s → is_declaration s ≡ false → WillExpr c → WillStmt (tree.DoWhile l s c)
will_do l s c will none test =
    headed form.DoWhile (tree.DoWhile l s c) l
    (λ line. signed refl (stated s will none (λ b. at_mark (λ t. record { no_else = λ h. refl; no_finally = refl })) (λ b y same. signed refl (tested l c test (λ x like. chosen (at_mark (λ t. refl)) (signed refl (ended (record {
      tree = λ m. tree.DoWhile (Some m) y x;
      made = λ m. refl;
      same = λ m. ap (λ z. tree.DoWhile None z (unplaced_expr x)) same ∙ ap (λ z. tree.DoWhile None (unplaced_stmt s) z) like.same;
      declares = λ m. refl;
      string = λ m. refl;
    })))))))) (λ t. refl) refl

-- ---- try

-- what a `catch` binds, as a piece
record CatchName (x : MaybePattern) (p : Piece) (y : MaybePattern) : Type 0 where
  pub alone : (m : Loc) (b c : Stmts) → build form.Try m (TheStmts b ∷ p ∷ TheStmts c ∷ Missing ∷ []) ≡ Some (AStmt (tree.TryCatch (Some m) b (tree.MakeCatch y c)))
  pub both : (m : Loc) (b c f : Stmts) → build form.Try m (TheStmts b ∷ p ∷ TheStmts c ∷ TheStmts f ∷ []) ≡ Some (AStmt (tree.TryCatchFinally (Some m) b (tree.MakeCatch y c) f))
  pub same : unplaced_pattern_if y ≡ unplaced_pattern_if x

-- a `catch` clause, up to what may be its `finally`
caught : {Q : List Piece → Type 0} {ws : List Written} {N : Token → Type 0} (l : Option Loc) (x : MaybePattern) (xs : Stmts) → BindsIf x → WillBlock xs →
    ((p : Piece) (y : MaybePattern) → CatchName x p y → (z : Stmts) → unplaced_stmts z ≡ unplaced_stmts xs → Will true (By choice.Finally ∷ []) (λ ps. Q (p ∷ TheStmts z ∷ ps)) ws N) →
    Will true (By choice.Handler ∷ []) Q (catch_tokens l (tree.MakeCatch x xs) ++ ws) N
caught l none_pattern xs is will r =
    chosen (at_mark (λ t. refl)) (signed refl (passed (at_mark (λ t. refl)) (blocked l xs will (r Missing none_pattern (record { alone = λ m b c. refl; both = λ m b c f. refl; same = refl })))))
caught l (some_pattern (tree.BindingIdentifier k w)) xs is will r =
    chosen (at_mark (λ t. refl)) (signed refl (chosen (at_mark (λ t. refl)) (signed refl (named w is refl (λ a. signed refl
    (blocked l xs will (r (AWord w a) (some_pattern (bound w a)) (record { alone = λ m b c. refl; both = λ m b c f. refl; same = refl }))))))))

no_finally : (t : Token) → is_word (codes "finally") t ≡ false → branch choice.Finally t ≡ Pass (Missing ∷ [])
no_finally t h = ap (λ b. either b (Go [] (Sign (Word (codes "finally"))) (Sign (T.Punctuator P.OpenBrace) ∷ Stmts_ ∷ Sign (T.Punctuator P.CloseBrace) ∷ [])) (Pass (Missing ∷ []))) h

pub will_try_catch : (l : Option Loc) (b : Stmts) (x : MaybePattern) (c : Stmts) → WillBlock b → BindsIf x → WillBlock c → WillStmt (tree.TryCatch l b (tree.MakeCatch x c))
will_try_catch l b x c block is will =
    headed form.Try (tree.TryCatch l b (tree.MakeCatch x c)) l
    (λ line. signed refl (blocked l b block (λ d same. with_end (caught l x c is will (λ p y name e also. passed (at_next (λ t n. no_finally t n.no_finally)) (ended (record {
      tree = λ m. tree.TryCatch (Some m) d (tree.MakeCatch y e);
      made = λ m. name.alone m d e;
      same = λ m. ap (λ z. tree.TryCatch None z (tree.MakeCatch (unplaced_pattern_if y) (unplaced_stmts e))) same ∙ ap (λ z. tree.TryCatch None (unplaced_stmts b) (tree.MakeCatch z (unplaced_stmts e))) name.same ∙
          ap (λ z. tree.TryCatch None (unplaced_stmts b) (tree.MakeCatch (unplaced_pattern_if x) z)) also;
      declares = λ m. refl;
      string = λ m. refl;
    }))))))) (λ t. refl) refl
  where
    with_end : {Q : List Piece → Type 0} {N : Token → Type 0} → Will true (By choice.Handler ∷ []) Q (catch_tokens l (tree.MakeCatch x c) ++ []) N → Will true (By choice.Handler ∷ []) Q (catch_tokens l (tree.MakeCatch x c)) N
    with_end {Q = Q} {N = N} h = subst (λ ws. Will true (By choice.Handler ∷ []) Q ws N) (append-nil (catch_tokens l (tree.MakeCatch x c))) h

pub will_try_finally : (l : Option Loc) (b f : Stmts) → WillBlock b → WillBlock f → WillStmt (tree.TryFinally l b f)
will_try_finally l b f block will =
    headed form.Try (tree.TryFinally l b f) l
    (λ line. signed refl (blocked l b block (λ d same. chosen (at_mark (λ t. refl)) (signed refl (last_block l f will (λ e also. ended (record {
      tree = λ m. tree.TryFinally (Some m) d e;
      made = λ m. refl;
      same = λ m. ap (λ z. tree.TryFinally None z (unplaced_stmts e)) same ∙ ap (λ z. tree.TryFinally None (unplaced_stmts b) z) also;
      declares = λ m. refl;
      string = λ m. refl;
    }))))))) (λ t. refl) refl

pub will_try_catch_finally : (l : Option Loc) (b : Stmts) (x : MaybePattern) (c f : Stmts) → WillBlock b → BindsIf x → WillBlock c → WillBlock f → WillStmt (tree.TryCatchFinally l b (tree.MakeCatch x c) f)
will_try_catch_finally l b x c f block is will last =
    headed form.Try (tree.TryCatchFinally l b (tree.MakeCatch x c) f) l
    (λ line. signed refl (blocked l b block (λ d same. caught l x c is will (λ p y name e also. chosen (at_mark (λ t. refl)) (signed refl (last_block l f last (λ g as_well. ended (record {
      tree = λ m. tree.TryCatchFinally (Some m) d (tree.MakeCatch y e) g;
      made = λ m. name.both m d e g;
      same = λ m. ap (λ z. tree.TryCatchFinally None z (tree.MakeCatch (unplaced_pattern_if y) (unplaced_stmts e)) (unplaced_stmts g)) same ∙
          ap (λ z. tree.TryCatchFinally None (unplaced_stmts b) (tree.MakeCatch z (unplaced_stmts e)) (unplaced_stmts g)) name.same ∙
          ap (λ z. tree.TryCatchFinally None (unplaced_stmts b) (tree.MakeCatch (unplaced_pattern_if x) z) (unplaced_stmts g)) also ∙ ap (λ z. tree.TryCatchFinally None (unplaced_stmts b) (tree.MakeCatch (unplaced_pattern_if x) (unplaced_stmts c)) z) as_well;
      declares = λ m. refl;
      string = λ m. refl;
    })))))))) (λ t. refl) refl

-- ---- functions

-- what the parameters and the body of a function are read as
record MadeFunction (f : Function) (ps : List Piece) : Type 0 where
  pub tree : Function
  pub made : function_of ps ≡ Some tree
  pub same : unplaced_function tree ≡ unplaced_function f

called : {line : Bool} {N : Token → Type 0} (l : Option Loc) (f : Function) → WillFunction l f → Will line callable (MadeFunction f) (function_tokens l f) N
called {line = line} l f will = record {
  read = λ ts next m h n. let x = will line ts next h in record { pieces = x.pieces; end = x.end m; spells = x.spells m; made = record { tree = x.tree; made = x.made; same = x.same } };
}

pub will_function_declaration : (l : Option Loc) (x : Identifier) (f : Function) → IsName x.name → WillFunction l f → WillStmt (tree.FunctionDeclaration l x f)
will_function_declaration l x f is will =
    headed form.FunctionDeclaration (tree.FunctionDeclaration l x f) l (λ line. signed refl (named x.name is refl (λ k. mapped (λ ps g. record {
      tree = λ m. tree.FunctionDeclaration (Some m) (record { name = x.name; loc = Some k }) g.tree;
      made = λ m. ap (declaration_of (λ h. tree.FunctionDeclaration (Some m) (record { name = x.name; loc = Some k }) h)) g.made;
      same = λ m. ap (λ z. tree.FunctionDeclaration None (bare_identifier x) z) g.same;
      declares = λ m. refl;
      string = λ m. refl;
    }) (called l f will)))) (λ t. refl) refl
