-- Statements that their first token tells, and the parts that several of them have.
use Rattle.std.proofs.Common.{◌≡◌, Bool, true, false, List, [], ◌∷◌, ◌++◌, Option, Some, if◌then◌else◌, refl, sym, ap, subst, ◌∙◌, append_assoc, append-nil}
use Rattle.std.specs.Prelude.{nat_le, ◌||◌}
use Rattle.js_terms.specs.declared.place.Loc.{Loc}
use Rattle.js_terms.specs.declared.operators.BinaryOperator.{BinaryOperator}
use Rattle.js_terms.specs.declared.operators.BinaryOperator.TheVariants as b
use Rattle.js_terms.specs.declared.operators.LogicalOperator.{LogicalOperator}
use Rattle.js_terms.specs.declared.operators.LogicalOperator.TheVariants as logic
use Rattle.js_tree.specs.Plain as tree
use Rattle.js_tree.specs.Plain.{Expr, Stmt, Stmts}
use Rattle.js_text.specs.Token.{Token, End}
use Rattle.js_text.specs.Token as T
use Rattle.js_text.specs.declared.punctuator.Punctuator.{Punctuator}
use Rattle.js_text.specs.declared.punctuator.Punctuator.TheVariants as P
use Rattle.js_reading.specs.Level.{any, binary_level, logical_level}
use Rattle.js_reading.specs.Spans.{through, first}
use Rattle.js_reading.specs.declared.choice.Choice.{Choice}
use Rattle.js_reading.specs.declared.choice.Choice.TheVariants as choice
use Rattle.js_reading.specs.declared.form.Form.{Form}
use Rattle.js_reading.specs.Slots.{Wanted, Level, Slot, Sign, Expr_, Stmt_, Stmts_, By, Piece, AnExpr, AStmt, TheStmts, Missing, Pass, Go}
use Rattle.js_reading.specs.Productions.{slots, statement}
use Rattle.js_reading.specs.Choices.{branch, either}
use Rattle.js_reading.specs.Makes.{build, is_declaration}
use Rattle.js_reading.specs.Sentences
use Rattle.js_reading.proofs.sentences.Firsts.{opens, not_kind, first_slots}
use Rattle.js_spelling.specs.Written.{Written}
use Rattle.js_layout.specs.Tokens.{expr_tokens, stmt_tokens, stmts_tokens, begun, mark, last_mark, braced, in_parentheses}
use Rattle.js_layout.specs.Neat.{level}
use Rattle.js_layout.specs.Unplaced.{unplaced_stmt, unplaced_stmts}
use Rattle.js_layout.proofs.Follows.{Follows, unbegun}
use Rattle.js_layout.proofs.Spelt.{standing, is_string_stmt, SpeltStmt, AfterStmt, WillExpr, WillStmt, WillBlock}
use Rattle.js_layout.proofs.StatementSteps.{made_of, of_kind, at_mark, at_next, Will, same_tokens, ended, signed, chosen, expressed, stated, listed, Like, ends_semicolon, ends_parenthesis}
use Rattle.js_layout.proofs.StatementWords.{first_line}

-- ---- every expression is one of any level

some_binary : (o : BinaryOperator) → nat_le 1 (binary_level o) ≡ true
some_binary b.Exponentiate = refl
some_binary o = refl

some_logical : (o : LogicalOperator) → nat_le 1 (logical_level o) ≡ true
some_logical logic.And = refl
some_logical o = refl

some_member : (t : Bool) → nat_le 1 (if t then 20 else 21) ≡ true
some_member true = refl
some_member false = refl

some_level : (e : Expr) → nat_le 1 (level e) ≡ true
some_level (tree.Parenthesized l e) = some_level e
some_level (tree.NamedMember l o w) = some_member _
some_level (tree.ComputedMember l o k) = some_member _
some_level (tree.Binary l o x y) = some_binary o
some_level (tree.Logical l o x y) = some_logical o
some_level (tree.Entered m e) = some_level e
some_level e = refl

pub any_level : (e : Expr) → nat_le any (standing e) ≡ true
any_level (tree.Parenthesized l e) = refl
any_level (tree.This l) = refl
any_level e = some_level e

-- ---- a statement that its first token tells

-- what a production makes of its pieces is a statement that is the same but for places
pub record MadeStmt (f : Form) (s : Stmt) (ps : List Piece) : Type 0 where
  pub tree : Loc → Stmt
  pub made : (m : Loc) → build f m ps ≡ Some (AStmt (tree m))
  pub same : (m : Loc) → unplaced_stmt (tree m) ≡ unplaced_stmt s
  pub declares : (m : Loc) → is_declaration (tree m) ≡ is_declaration s
  pub string : (m : Loc) → is_string_stmt (tree m) ≡ is_string_stmt s

pub headed : {w : Written} {ws : List Written} (f : Form) (s : Stmt) (l : Option Loc) → ((line : Bool) → Will line (slots f) (MadeStmt f s) (w ∷ ws) (AfterStmt s)) →
    ((t : Token) → statement (made_of w.kind t.line_terminator_before t) ≡ Some f) → stmt_tokens s ≡ begun l (w ∷ ws) → WillStmt s
headed {w = w} {ws = ws} f s l r begins tokens = λ line ts next h n. go line ts next (unbegun l line (w ∷ ws) ts (subst (λ x. Follows line x ts) tokens h)) n
  where
    go : (line : Bool) (ts : List Token) (next : Token) → Follows line (w ∷ ws) ts → AfterStmt s next → SpeltStmt s ts next
    go line [] next h n = absurd h
    go line (t ∷ ts) next h n =
        let x = (r line).read (t ∷ ts) next t.loc h n in
        let m = x.made in
        let at = through t.loc x.end in
        record {
          tree = m.tree at;
          loc = at;
          spells = Sentences.headed f t (of_kind (λ u. statement u ≡ Some f) t w.kind h.0 (begins t)) x.spells (m.made at);
          same = m.same at;
          declares = m.declares at;
          string = m.string at;
        }

-- ---- parts

-- the `;` of a statement
pub semicolon : {line : Bool} {Q : List Piece → Type 0} {N : Token → Type 0} (l : Option Loc) → Q [] → Will line (By choice.Semicolon ∷ []) Q (last_mark l P.Semicolon ∷ []) N
semicolon l p = chosen (at_mark (λ t. refl)) (signed refl (ended p))

-- an expression in parentheses
pub tested : {line : Bool} {ss : List Slot} {Q : List Piece → Type 0} {ws : List Written} {N : Token → Type 0} (l : Option Loc) (e : Expr) → WillExpr e →
    ((x : Expr) → Like e x → Will false ss (λ ps. Q (AnExpr (standing e) x ∷ ps)) ws N) →
    Will line (Sign (T.Punctuator P.OpenParenthesis) ∷ Expr_ (Level any) ∷ Sign (T.Punctuator P.CloseParenthesis) ∷ ss) Q (in_parentheses l (expr_tokens e) ++ ws) N
tested {ws = ws} l e will r =
    signed refl (same_tokens (sym (append_assoc (expr_tokens e) (mark l P.CloseParenthesis ∷ []) ws))
    (expressed e will (λ x like. any_level e) (λ b. at_mark (λ t. ends_parenthesis (Level any) (standing e) b t)) (λ b x like. signed refl (r x like))))

-- statements in braces
pub blocked : {line : Bool} {ss : List Slot} {Q : List Piece → Type 0} {ws : List Written} {N : Token → Type 0} (l : Option Loc) (xs : Stmts) → WillBlock xs →
    ((x : Stmts) → unplaced_stmts x ≡ unplaced_stmts xs → Will true ss (λ ps. Q (TheStmts x ∷ ps)) ws N) →
    Will line (Sign (T.Punctuator P.OpenBrace) ∷ Stmts_ ∷ Sign (T.Punctuator P.CloseBrace) ∷ ss) Q (braced l (stmts_tokens xs) ++ ws) N
blocked {ws = ws} l xs will r =
    signed refl (same_tokens (sym (append_assoc (stmts_tokens xs) (last_mark l P.CloseBrace ∷ []) ws))
    (listed xs will (λ b. at_mark (λ t. refl)) (λ b x same. signed refl (r x same))))

pub last_block : {line : Bool} {ss : List Slot} {Q : List Piece → Type 0} {N : Token → Type 0} (l : Option Loc) (xs : Stmts) → WillBlock xs →
    ((x : Stmts) → unplaced_stmts x ≡ unplaced_stmts xs → Will true ss (λ ps. Q (TheStmts x ∷ ps)) [] N) →
    Will line (Sign (T.Punctuator P.OpenBrace) ∷ Stmts_ ∷ Sign (T.Punctuator P.CloseBrace) ∷ ss) Q (braced l (stmts_tokens xs)) N
last_block l xs will r = same_tokens (append-nil (braced l (stmts_tokens xs))) (blocked l xs will r)

-- the statement with which another ends
pub last_stated : {line : Bool} {ss : List Slot} {Q : List Piece → Type 0} {N : Token → Type 0} (s : Stmt) → WillStmt s → is_declaration s ≡ false → ((t : Token) → N t → AfterStmt s t) →
    ((b : Bool) (x : Stmt) → unplaced_stmt x ≡ unplaced_stmt s → Will b ss (λ ps. Q (AStmt x ∷ ps)) [] N) → Will line (Stmt_ ∷ ss) Q (stmt_tokens s) N
last_stated s will none after r = same_tokens (append-nil (stmt_tokens s)) (stated s will none (λ b. at_next after) r)

-- ---- an expression that the next token begins

-- a choice that is made by the first token of an expression
pub opening : {line : Bool} {c : Choice} {qs : List Piece} {w : Wanted} {rs ss : List Slot} {Q : List Piece → Type 0} {ws : List Written} {N : Token → Type 0} →
    ((us : List Token) (next : Token) → Follows line ws us → opens (first us next) ≡ true → branch c (first us next) ≡ Go qs (Expr_ w) rs) → Will line (Expr_ w ∷ (rs ++ ss)) (λ ps. Q (qs ++ ps)) ws N →
    Will line (By c ∷ ss) Q ws N
opening {qs = qs} f r = record {
  read = λ ts next l h n. let x = r.read ts next l h n in record { pieces = qs ++ x.pieces; end = x.end; spells = Sentences.chosen (f ts next h (first_slots x.spells)) x.spells; made = x.made };
}

or_none : (a b c d : Bool) → a ≡ false → b ≡ false → c ≡ false → d ≡ false → ((a || b || c) || d) ≡ false
or_none a b c d ha hb hc hd = ap (λ x. (x || b || c) || d) ha ∙ ap (λ x. (false || x || c) || d) hb ∙ ap (λ x. (false || false || x) || d) hc ∙ hd

value_on_line : (t : Token) → t.line_terminator_before ≡ false → opens t ≡ true → branch choice.ValueOnLine t ≡ Go [] (Expr_ (Level any)) []
value_on_line t line h =
    ap (λ b. either b (Pass (Missing ∷ [])) (Go [] (Expr_ (Level any)) []))
    (or_none _ _ _ _ line (not_kind opens t (T.Punctuator P.CloseBrace) refl h) (not_kind opens t End refl h) (not_kind opens t (T.Punctuator P.Semicolon) refl h))

-- the expression that stands on the line of a word, before its `;`
pub valued : {ss : List Slot} {Q : List Piece → Type 0} {ws : List Written} {N : Token → Type 0} (l : Option Loc) (e : Expr) → WillExpr e →
    ((b : Bool) (x : Expr) → Like e x → Will b ss (λ ps. Q (AnExpr (standing e) x ∷ ps)) (last_mark l P.Semicolon ∷ ws) N) →
    Will false (By choice.ValueOnLine ∷ ss) Q (expr_tokens e ++ last_mark l P.Semicolon ∷ ws) N
valued {ws = ws} l e will r =
    opening (λ us next f h. value_on_line (first us next) (first_line false (expr_tokens e) (last_mark l P.Semicolon) ws us next f) h)
    (expressed e will (λ x like. any_level e) (λ b. at_mark (λ t. ends_semicolon (Level any) (standing e) b t)) r)

pub value_before : (p : Punctuator) (t : Token) → opens (made_of (T.Punctuator p) t.line_terminator_before t) ≡ false → opens t ≡ true → branch (choice.ValueBefore p) t ≡ Go [] (Expr_ (Level any)) []
value_before p t none h = ap (λ b. either b (Pass (Missing ∷ [])) (Go [] (Expr_ (Level any)) [])) (not_kind opens t (T.Punctuator p) none h)
