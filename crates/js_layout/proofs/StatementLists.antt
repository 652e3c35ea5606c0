-- Lists of statements: of a block, and of a body with its directives.
use Rattle.std.proofs.Common.{◌≡◌, Bool, true, false, List, [], ◌∷◌, ◌++◌, Option, Some, None, codes, refl, sym, ap, subst, ◌∙◌}
use Rattle.std.specs.Prelude.{◌||◌}
use Rattle.std.proofs.lemmas.Bool.{true≢false}
use Rattle.js_terms.specs.declared.place.Loc.{Loc}
use Rattle.js_terms.specs.declared.words.Spelled.{Spelled}
use Rattle.js_tree.specs.Plain as tree
use Rattle.js_tree.specs.Plain.{Expr, Stmt, Stmts, no_stmt, more_stmt}
use Rattle.js_text.specs.Token.{Token, Word}
use Rattle.js_text.specs.Token as T
use Rattle.js_text.specs.Word.{reserved_word}
use Rattle.js_text.specs.declared.punctuator.Punctuator.TheVariants as P
use Rattle.js_reading.specs.Level.{any}
use Rattle.js_reading.specs.Spans.{through, first}
use Rattle.js_reading.specs.Kinds.{is_keyword}
use Rattle.js_reading.specs.declared.choice.Choice.TheVariants as choice
use Rattle.js_reading.specs.Slots.{Level, Sign, AnExpr, AStmt, Go}
use Rattle.js_reading.specs.Choices.{branch}
use Rattle.js_reading.specs.Productions.{primary, string_of, prefix, statement}
use Rattle.js_reading.specs.Makes.{with_directives}
use Rattle.js_reading.specs.Sentences
use Rattle.js_reading.specs.Sentences.{closes, leaf_of, Spells, SpellsStmts}
use Rattle.js_reading.proofs.sentences.Firsts.{starts, not_kind, first_stmt}
use Rattle.js_reading.proofs.sentences.Shapes.{first_append}
use Rattle.js_layout.specs.Tokens.{stmt_tokens, stmts_tokens, token, last_mark, begun}
use Rattle.js_layout.specs.Neat.{is_string}
use Rattle.js_layout.specs.Printable.{IsString}
use Rattle.js_layout.specs.Unplaced.{unplaced_stmt, unplaced_stmts}
use Rattle.js_layout.proofs.Follows.{Follows, last_line, split}
use Rattle.js_layout.proofs.Spelt.{is_string_stmt, AfterStmt, WillStmt, SpeltStmts, WillBody, SpeltBlock, WillBlock}
use Rattle.js_layout.proofs.StatementSteps.{of_kind, Ends, ends_semicolon}

-- ---- the token after a statement of a list

abbrev pub follows : Token → Bool
follows t = starts t || closes t

starting : (t : Token) → starts t ≡ true → follows t ≡ true
starting t h = ap (λ b. b || closes t) h

closing : (t : Token) → closes t ≡ true → follows t ≡ true
closing t h = by_bool (starts t)
  where
    by_bool : (b : Bool) → (b || closes t) ≡ true
    by_bool true = refl
    by_bool false = h

first_list : {ss : Stmts} {l m : Loc} {ts : List Token} {next : Token} → SpellsStmts ss l m ts next → closes next ≡ true → follows (first ts next) ≡ true
first_list {next = next} Sentences.no_statement h = closing next h
first_list (Sentences.more_statements {ts = ts} {us = us} {next = next} d ds) h = ap follows (first_append ts us next) ∙ starting (first ts (first us next)) (first_stmt d (first us next))

after_stmt : (s : Stmt) (t : Token) → follows t ≡ true → AfterStmt s t
unfolding is_keyword reserved_word
after_stmt s t h = record { no_else = λ o. not_kind follows t (Word (codes "else")) refl h; no_finally = not_kind follows t (Word (codes "finally")) refl h }

-- ---- blocks

pub block_none : WillBlock no_stmt
block_none line ts next h close = go ts h
  where
    go : (ts : List Token) → Follows line [] ts → SpeltBlock no_stmt ts next
    go [] h = record { tree = no_stmt; end = λ l. l; spells = λ l. Sentences.no_statement; same = refl }
    go (t ∷ ts) h = absurd h

-- a statement before others that are read
record MoreStmts (s : Stmt) (ss : Stmts) (ts : List Token) (next : Token) : Type 0 where
  pub head : Stmt
  pub rest : Stmts
  pub end : Loc → Loc
  pub spells : (l : Loc) → SpellsStmts (more_stmt head rest) l (end l) ts next
  pub same_head : unplaced_stmt head ≡ unplaced_stmt s
  pub same_rest : unplaced_stmts rest ≡ unplaced_stmts ss
  pub string : is_string_stmt head ≡ is_string_stmt s

more_stmts : (s : Stmt) (ss : Stmts) → WillStmt s → WillBlock ss → (line : Bool) (ts : List Token) (next : Token) → Follows line (stmt_tokens s ++ stmts_tokens ss) ts → closes next ≡ true → MoreStmts s ss ts next
more_stmts s ss will wills line ts next h close =
    let p = split line (stmt_tokens s) (stmts_tokens ss) ts h in
    let y = wills (last_line line (stmt_tokens s)) p.rest next p.then close in
    let x = will line p.front (first p.rest next) p.first (after_stmt s (first p.rest next) (first_list (y.spells p_loc) close)) in
    record {
      head = x.tree;
      rest = y.tree;
      end = λ l. y.end x.loc;
      spells = λ l. subst (λ us. SpellsStmts (more_stmt x.tree y.tree) l (y.end x.loc) us next) (sym p.are) (Sentences.more_statements x.spells (y.spells x.loc));
      same_head = x.same;
      same_rest = y.same;
      string = x.string;
    }
  where
    p_loc : Loc
    p_loc = next.loc

pub block_more : (s : Stmt) (ss : Stmts) → WillStmt s → WillBlock ss → WillBlock (more_stmt s ss)
block_more s ss will wills line ts next h close =
    let x = more_stmts s ss will wills line ts next h close in
    record { tree = more_stmt x.head x.rest; end = x.end; spells = x.spells; same = ap (λ z. more_stmt z (unplaced_stmts x.rest)) x.same_head ∙ ap (λ z. more_stmt (unplaced_stmt s) z) x.same_rest }

-- ---- bodies

pub body_none : WillBody no_stmt
body_none line ts next h close = let x = block_none line ts next h close in go ts h
  where
    go : (ts : List Token) → Follows line [] ts → SpeltStmts no_stmt ts next
    go [] h = record { tree = no_stmt; end = λ l. l; spells = λ l. Sentences.no_statement; same = refl }
    go (t ∷ ts) h = absurd h

-- statements with which no directive begins
undirected_expression : (l : Option Loc) (e : Expr) (ss : Stmts) → is_string e ≡ false → with_directives (more_stmt (tree.Expression l e) ss) ≡ more_stmt (tree.Expression l e) ss
undirected_expression l (tree.StringLiteral m s) ss h = absurd (true≢false h)
undirected_expression l e ss h = refl

undirected : (s : Stmt) (ss : Stmts) → is_string_stmt s ≡ false → with_directives (more_stmt s ss) ≡ more_stmt s ss
undirected (tree.Expression l e) ss h = undirected_expression l e ss h
undirected s ss h = refl

pub body_more : (s : Stmt) (ss : Stmts) → WillStmt s → is_string_stmt s ≡ false → WillBlock ss → WillBody (more_stmt s ss)
body_more s ss will none wills line ts next h close =
    let x = more_stmts s ss will wills line ts next h close in
    record {
      tree = more_stmt x.head x.rest;
      end = x.end;
      spells = x.spells;
      same = ap unplaced_stmts (undirected x.head x.rest (x.string ∙ none)) ∙ ap (λ z. more_stmt z (unplaced_stmts x.rest)) x.same_head ∙ ap (λ z. more_stmt (unplaced_stmt s) z) x.same_rest;
    }

-- a directive, before what is read after it
directed : (l : Option Loc) (s : Spelled) (ss : Stmts) → IsString s → WillBody ss → (line : Bool) (ts : List Token) (next : Token) →
    Follows line (token l (T.StringLiteral s.spelling) ∷ last_mark l P.Semicolon ∷ stmts_tokens ss) ts → closes next ≡ true → SpeltStmts (more_stmt (tree.Directive l s) ss) ts next
directed l s ss is will line [] next h close = absurd h
directed l s ss is will line (t ∷ []) next h close = absurd h.2
directed l s ss is will line (t ∷ u ∷ ts) next h close =
    let y = will true ts next h.2.2 close in
    let semicolon : u.kind ≡ T.Punctuator P.Semicolon = h.2.0 in
    let ends = of_kind (λ v. Ends (Level any) primary v) u (T.Punctuator P.Semicolon) semicolon (ends_semicolon (Level any) primary u.line_terminator_before u) in
    let text = string_of s.spelling in
    let string : Spells (AnExpr primary (tree.StringLiteral (Some t.loc) text)) t.loc (t ∷ []) u =
    Sentences.leaf t (of_kind (λ v. prefix v ≡ None) t (T.StringLiteral s.spelling) h.0 refl) (ap (λ k. leaf_of k t.loc) h.0) in
    let stmt : Spells (AStmt (tree.Expression (Some (through t.loc u.loc)) (tree.StringLiteral (Some t.loc) text))) (through t.loc u.loc) (t ∷ u ∷ []) (first ts next) =
    Sentences.expression t (of_kind (λ v. statement v ≡ None) t (T.StringLiteral s.spelling) h.0 refl)
    (Sentences.expr refl string (ends.stops (tree.StringLiteral (Some t.loc) text)) (Sentences.chosen (of_kind (λ v. branch choice.Semicolon v ≡ Go [] (Sign (T.Punctuator P.Semicolon)) []) u (T.Punctuator P.Semicolon) semicolon refl) (Sentences.sign u semicolon Sentences.done))) refl in
    record {
      tree = more_stmt (tree.Expression (Some (through t.loc u.loc)) (tree.StringLiteral (Some t.loc) text)) y.tree;
      end = λ m. y.end (through t.loc u.loc);
      spells = λ m. Sentences.more_statements stmt (y.spells (through t.loc u.loc));
      same = ap (λ z. more_stmt (tree.Directive None z) (unplaced_stmts (with_directives y.tree))) (sym is.units) ∙ ap (λ z. more_stmt (tree.Directive None s) z) y.same;
    }

pub body_directive : (l : Option Loc) (s : Spelled) (ss : Stmts) → IsString s → WillBody ss → WillBody (more_stmt (tree.Directive l s) ss)
body_directive l s ss is will line ts next h close = directed l s ss is will line ts next (without l line ts h) close
  where
    without : (l : Option Loc) (line : Bool) (ts : List Token) → Follows line (begun l (token l (T.StringLiteral s.spelling) ∷ last_mark l P.Semicolon ∷ []) ++ stmts_tokens ss) ts →
        Follows line (token l (T.StringLiteral s.spelling) ∷ last_mark l P.Semicolon ∷ stmts_tokens ss) ts
    without None line ts h = h
    without (Some m) line [] h = h
    without (Some m) line (t ∷ ts) h = h
