-- Statements without parts, and those with an expression or a label.
use Rattle.std.proofs.Common.{◌≡◌, ℕ, Bool, true, false, List, [], ◌∷◌, ◌++◌, Option, Some, None, refl, ap, ◌∙◌}
use Rattle.js_terms.specs.declared.place.Loc.{Loc}
use Rattle.js_terms.specs.declared.words.Identifier.{Identifier}
use Rattle.js_tree.specs.Plain as tree
use Rattle.js_tree.specs.Plain.{Expr, Stmt, none_expr, some_expr}
use Rattle.js_text.specs.Token.{Token, Word}
use Rattle.js_text.specs.declared.punctuator.Punctuator.TheVariants as P
use Rattle.js_reading.specs.Level.{any}
use Rattle.js_reading.specs.Spans.{through}
use Rattle.js_reading.specs.Kinds.{is_keyword}
use Rattle.js_reading.specs.declared.form.Form.TheVariants as form
use Rattle.js_reading.specs.Slots.{Level, Slot, Expr_, Piece, AnExpr, Refuse, Pass}
use Rattle.js_reading.specs.Productions.{primary, prefix, statement, slots}
use Rattle.js_reading.specs.Choices.{either}
use Rattle.js_reading.specs.Makes.{is_declaration}
use Rattle.js_reading.specs.Sentences
use Rattle.js_reading.specs.Sentences.{leaf_of}
use Rattle.js_reading.proofs.sentences.Firsts.{first_slots}
use Rattle.js_spelling.specs.Written.{Written}
use Rattle.js_layout.specs.Tokens.{expr_tokens, stmt_tokens, last_mark, word, mark}
use Rattle.js_layout.specs.Neat.{first_is}
use Rattle.js_layout.specs.Printable.{IsNameIf, Refers}
use Rattle.js_layout.proofs.Follows.{Follows, unbegun}
use Rattle.js_layout.proofs.Spelt.{Traits, standing, SpeltStmt, AfterStmt, WillExpr, WillStmt}
use Rattle.js_layout.proofs.StatementSteps.{of_kind, At, at_mark, Slotted, Will, ended, signed, named, passed, chosen, expressed, Ends, ends_semicolon, ends_colon}
use Rattle.js_layout.proofs.StatementWords.{name_prefix, name_leaf, name_statement, plain, no_statement, first_kind, first_append, first_line, some_token}
use Rattle.js_layout.proofs.StatementHeads.{any_level, MadeStmt, headed, semicolon, valued, last_stated}

-- ---- one word or mark

pub will_empty : (l : Option Loc) → WillStmt (tree.Empty l)
will_empty l = headed form.Empty (tree.Empty l) l (λ line. signed refl (ended (record { tree = λ m. tree.Empty (Some m); made = λ m. refl; same = λ m. refl; declares = λ m. refl; string = λ m. refl }))) (λ t. refl) refl

pub will_debugger : (l : Option Loc) → WillStmt (tree.Debugger l)
will_debugger l =
    headed form.Debugger (tree.Debugger l) l (λ line. signed refl (semicolon l (record { tree = λ m. tree.Debugger (Some m); made = λ m. refl; same = λ m. refl; declares = λ m. refl; string = λ m. refl }))) (λ t. refl) refl

-- ---- a value

pub will_return : (l : Option Loc) → WillStmt (tree.Return l none_expr)
will_return l =
    headed form.Return (tree.Return l none_expr) l
    (λ line. signed refl (passed (at_mark (λ t. refl)) (semicolon l (record { tree = λ m. tree.Return (Some m) none_expr; made = λ m. refl; same = λ m. refl; declares = λ m. refl; string = λ m. refl })))) (λ t. refl) refl

pub will_return_value : (l : Option Loc) (e : Expr) → WillExpr e → WillStmt (tree.Return l (some_expr e))
will_return_value l e will =
    headed form.Return (tree.Return l (some_expr e)) l
    (λ line. signed refl (valued l e will (λ b x like. semicolon l (record {
      tree = λ m. tree.Return (Some m) (some_expr x);
      made = λ m. refl;
      same = λ m. ap (λ y. tree.Return None (some_expr y)) like.same;
      declares = λ m. refl;
      string = λ m. refl;
    })))) (λ t. refl) refl

-- no line ends before the value
same_line : (e : Expr) (l : Option Loc) (N : Token → Type 0) → At false (expr_tokens e ++ last_mark l P.Semicolon ∷ []) N (λ t. either t.line_terminator_before Refuse (Pass []) ≡ Pass [])
same_line e l N = record { holds = λ us next f n. ap (λ b. either b Refuse (Pass [])) (first_line false (expr_tokens e) (last_mark l P.Semicolon) [] us next f) }

pub will_throw : (l : Option Loc) (e : Expr) → WillExpr e → WillStmt (tree.Throw l e)
will_throw l e will =
    headed form.Throw (tree.Throw l e) l
    (λ line. signed refl (passed (same_line e l _) (expressed e will (λ x like. any_level e) (λ b. at_mark (λ t. ends_semicolon (Level any) (standing e) b t)) (λ b x like. semicolon l (record {
      tree = λ m. tree.Throw (Some m) x;
      made = λ m. refl;
      same = λ m. ap (λ y. tree.Throw None y) like.same;
      declares = λ m. refl;
      string = λ m. refl;
    }))))) (λ t. refl) refl

-- ---- a label

pub will_continue : (l : Option Loc) (x : Option Identifier) → IsNameIf x → WillStmt (tree.Continue l x)
will_continue l None is =
    headed form.Continue (tree.Continue l None) l
    (λ line. signed refl (passed (at_mark (λ t. refl)) (semicolon l (record { tree = λ m. tree.Continue (Some m) None; made = λ m. refl; same = λ m. refl; declares = λ m. refl; string = λ m. refl })))) (λ t. refl) refl
will_continue l (Some x) is =
    headed form.Continue (tree.Continue l (Some x)) l
    (λ line. signed refl (chosen (at_mark (λ t. refl)) (named x.name is refl (λ k. semicolon l (record {
      tree = λ m. tree.Continue (Some m) (Some (record { name = x.name; loc = Some k }));
      made = λ m. refl;
      same = λ m. refl;
      declares = λ m. refl;
      string = λ m. refl;
    }))))) (λ t. refl) refl

pub will_break : (l : Option Loc) (x : Option Identifier) → IsNameIf x → WillStmt (tree.Break l x)
will_break l None is =
    headed form.Break (tree.Break l None) l
    (λ line. signed refl (passed (at_mark (λ t. refl)) (semicolon l (record { tree = λ m. tree.Break (Some m) None; made = λ m. refl; same = λ m. refl; declares = λ m. refl; string = λ m. refl })))) (λ t. refl) refl
will_break l (Some x) is =
    headed form.Break (tree.Break l (Some x)) l
    (λ line. signed refl (chosen (at_mark (λ t. refl)) (named x.name is refl (λ k. semicolon l (record {
      tree = λ m. tree.Break (Some m) (Some (record { name = x.name; loc = Some k }));
      made = λ m. refl;
      same = λ m. refl;
      declares = λ m. refl;
      string = λ m. refl;
    }))))) (λ t. refl) refl

-- ---- an expression statement

pub will_expression : (l : Option Loc) (e : Expr) → WillExpr e → first_is plain (expr_tokens e) ≡ true → WillStmt (tree.Expression l e)
will_expression l e will begins = λ line ts next h n. go line ts next (unbegun l line (expr_tokens e ++ last_mark l P.Semicolon ∷ []) ts h)
  where
    parts : (line : Bool) → Will line (slots form.Expression) (MadeStmt form.Expression (tree.Expression l e)) (expr_tokens e ++ last_mark l P.Semicolon ∷ []) (λ t. Unit {0})
    parts line =
        expressed e will (λ x like. any_level e) (λ b. at_mark (λ t. ends_semicolon (Level any) (standing e) b t)) (λ b x like. semicolon l (record {
          tree = λ m. tree.Expression (Some m) x;
          made = λ m. refl;
          same = λ m. ap (λ y. tree.Expression None y) like.same;
          declares = λ m. refl;
          string = λ m. ap (λ (r : Traits). r.string) like.traits;
        }))

    go : (line : Bool) (ts : List Token) (next : Token) → Follows line (expr_tokens e ++ last_mark l P.Semicolon ∷ []) ts → SpeltStmt (tree.Expression l e) ts next
    go line [] next h = absurd (some_token line (expr_tokens e) (last_mark l P.Semicolon) [] h)
    go line (t ∷ ts) next h =
        let x = (parts line).read (t ∷ ts) next t.loc h tt in
        let m = x.made in
        let at = through t.loc x.end in
        let kind = first_kind plain line (expr_tokens e ++ last_mark l P.Semicolon ∷ []) (t ∷ ts) next (first_append plain (expr_tokens e) (last_mark l P.Semicolon ∷ []) begins) h in
        record {
          tree = m.tree at;
          loc = at;
          spells = Sentences.expression t (no_statement t (first_slots x.spells) kind) x.spells (m.made at);
          same = m.same at;
          declares = m.declares at;
          string = m.string at;
        }

-- ---- a statement with a label

-- a name as an expression, before a token that goes on with none
referred : {line : Bool} {ss : List Slot} {Q : List Piece → Type 0} {w : Written} {ws : List Written} {N : Token → Type 0} (x : List ℕ) → is_keyword x ≡ false → w.kind ≡ Word x →
    At w.ends_line ws N (Ends (Level primary) primary) → ((m : Loc) → Will w.ends_line ss (λ ps. Q (AnExpr primary (tree.IdentifierReference (Some m) x) ∷ ps)) ws N) → Will line (Expr_ (Level primary) ∷ ss) Q (w ∷ ws) N
referred {line = line} {ss = ss} {Q = Q} {w = w} {ws = ws} {N = N} x free is ends r = record { read = λ ts next l h n. go ts next l h n }
  where
    go : (ts : List Token) (next : Token) (l : Loc) → Follows line (w ∷ ws) ts → N next → Slotted (Expr_ (Level primary) ∷ ss) Q l ts next
    go [] next l h n = absurd h
    go (t ∷ ts) next l h n =
        let y = (r t.loc).read ts next t.loc h.2 n in
        let kind : t.kind ≡ Word x = h.0 ∙ is in
        let e = ends.holds ts next h.2 n in
        record {
          pieces = AnExpr primary (tree.IdentifierReference (Some t.loc) x) ∷ y.pieces;
          end = y.end;
          spells = Sentences.expr refl (Sentences.leaf t (of_kind (λ u. prefix u ≡ None) t (Word x) kind (name_prefix x t.line_terminator_before t free)) (ap (λ k. leaf_of k t.loc) kind ∙ name_leaf x t.loc free)) (e.stops (tree.IdentifierReference (Some t.loc) x)) y.spells;
          made = y.made;
        }

pub will_labelled : (l : Option Loc) (x : Identifier) (s : Stmt) → Refers x.name → WillStmt s → is_declaration s ≡ false → WillStmt (tree.Labelled l x s)
will_labelled l x s is will none = λ line ts next h n. go line ts next (unbegun l line (word l x.name ∷ mark l P.Colon ∷ stmt_tokens s) ts h) n
  where
    parts : (line : Bool) → Will line (slots form.Labelled) (MadeStmt form.Labelled (tree.Labelled l x s)) (word l x.name ∷ mark l P.Colon ∷ stmt_tokens s) (AfterStmt (tree.Labelled l x s))
    parts line =
        referred x.name is.name.free refl (at_mark (λ t. ends_colon (Level primary) primary false t))
        (λ k. signed refl (last_stated s will none (λ t n. record { no_else = n.no_else; no_finally = n.no_finally }) (λ b y same. ended (record {
          tree = λ m. tree.Labelled (Some m) (record { name = x.name; loc = Some k }) y;
          made = λ m. refl;
          same = λ m. ap (λ z. tree.Labelled None (record { loc = None; name = x.name }) z) same;
          declares = λ m. refl;
          string = λ m. refl;
        }))))

    go : (line : Bool) (ts : List Token) (next : Token) → Follows line (word l x.name ∷ mark l P.Colon ∷ stmt_tokens s) ts → AfterStmt (tree.Labelled l x s) next → SpeltStmt (tree.Labelled l x s) ts next
    go line [] next h n = absurd h
    go line (t ∷ ts) next h n =
        let y = (parts line).read (t ∷ ts) next t.loc h n in
        let m = y.made in
        let at = through t.loc y.end in
        record {
          tree = m.tree at;
          loc = at;
          spells = Sentences.labelled t (of_kind (λ u. statement u ≡ None) t (Word x.name) h.0 (name_statement x.name t.line_terminator_before t is.name.free is.free)) y.spells (m.made at);
          same = m.same at;
          declares = m.declares at;
          string = m.string at;
        }
