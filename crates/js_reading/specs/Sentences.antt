-- Which tokens spell which tree, for the whole language. What is particular to a production stands in its row.
use Rattle.std.specs.Prelude.{◌≡◌, ℕ, ◌≤◌, Bool, true, false, not, ◌&&◌, ◌||◌, List, [], ◌∷◌, ◌++◌, Option, Some, None, codes, if◌then◌else◌, nat_le, ◌==◌}
use Rattle.std.specs.Str.{bytes_eq}
use Rattle.js_terms.specs.declared.place.Loc.{Loc}
use Rattle.js_tree.specs.Plain.{Expr, Exprs, no_expr, more_expr, Stmt, Stmts, no_stmt, more_stmt, File, MakeFile}
use Rattle.js_tree.specs.Plain as tree
use Rattle.js_text.specs.Token.{Token, Kind, Word, EscapedWord, Numeral, StringLiteral, NoSubstitutionTemplate, RegularExpression, End}
use Rattle.js_text.specs.Token as T
use Rattle.js_text.specs.declared.punctuator.Punctuator.{Punctuator}
use Rattle.js_text.specs.declared.punctuator.Punctuator.TheVariants as P
use Rattle.js_reading.specs.Level.{assignment}
use Rattle.js_reading.specs.Spans.{through, first}
use Rattle.js_reading.specs.Kinds.{is_kind}
use Rattle.js_reading.specs.Outside.{this_stmts}
use Rattle.js_reading.specs.Slots.{Wanted, Level, WithoutIn, Callee, Slot, Sign, Text, Expr_, Stmt_, Stmts_, Items_, Place_, By, Piece, AnExpr, AStmt, TheStmts, TheExprs, APlace, Pass, Go, Form, Class, Choice}
use Rattle.js_reading.specs.Slots as slot
use Rattle.js_reading.specs.Productions.{primary, member, call, bare, is_mark, is_word, bound_name, string_of, text_of, piece_of, slots, prefix, statement, join, strength, wants}
use Rattle.js_reading.specs.Choices.{branch}
use Rattle.js_reading.specs.Makes.{build, is_declaration, bare_in, last_level, with_directives}

-- ---- an expression that is one token (13.1, 13.2)

-- what stands before the last `/`, and after it
abbrev pub around_last_slash : List ℕ → Option (List ℕ × List ℕ)
around_last_slash [] = None
around_last_slash (c ∷ cs) = elim (around_last_slash cs) [ Some found ↦ Some (c ∷ found.0, found.1) | None ↦ if c == 0x2F then Some ([], cs) else None ]

-- the body of a regular expression and its flags stand before and after the last `/` of what follows its first
abbrev pub body_and_flags : List ℕ → Option (List ℕ × List ℕ)
body_and_flags [] = None
body_and_flags (c ∷ cs) = if c == 0x2F then around_last_slash cs else None

abbrev pub regular_expression : Loc → Option (List ℕ × List ℕ) → Option Expr
regular_expression l None = None
regular_expression l (Some found) = Some (tree.RegularExpressionLiteral (Some l) found.0 found.1)

abbrev pub named : Loc → Option (List ℕ) → Option Expr
named l None = None
named l (Some w) = Some (tree.IdentifierReference (Some l) w)

abbrev pub of_word : List ℕ → Kind → Loc → Option Expr
of_word w k l =
    if bytes_eq w (codes "this") then Some (tree.This (Some l))
    else (if bytes_eq w (codes "null") then Some (tree.NullLiteral (Some l))
    else (if bytes_eq w (codes "true") then Some (tree.BooleanLiteral (Some l) true)
    else (if bytes_eq w (codes "false") then Some (tree.BooleanLiteral (Some l) false)
    else named l (bound_name k))))

abbrev pub leaf_of : Kind → Loc → Option Expr
leaf_of (Word w) l = of_word w (Word w) l
leaf_of (EscapedWord w) l = named l (bound_name (EscapedWord w))
leaf_of (Numeral w) l = Some (tree.NumericLiteral (Some l) w)
leaf_of (StringLiteral w) l = Some (tree.StringLiteral (Some l) (string_of w))
leaf_of (NoSubstitutionTemplate w) l = Some (tree.TemplateLiteral (Some l) (text_of w) tree.no_template_part)
leaf_of (RegularExpression w) l = regular_expression l (body_and_flags w)
leaf_of k l = None

-- ---- where an expression ends

-- the least level that a place asks of an expression, and of what a token makes of it there: a call is no callee of `new`
abbrev pub least : Wanted → ℕ
least (Level n) = n
least (WithoutIn n) = n
least Callee = bare

abbrev pub grip : Wanted → ℕ
grip Callee = member
grip w = least w

abbrev pub fits : Wanted → ℕ → Expr → Bool
fits (Level n) i e = nat_le n i
fits (WithoutIn n) i e = nat_le n i && not (bare_in e)
fits Callee i e = nat_le member i || (i == bare)

-- `in` goes on with no expression in the first part of a `for`
abbrev pub bans : Wanted → Token → Bool
bans (WithoutIn n) t = is_word (codes "in") t
bans w t = false

-- a regular expression and a template go on with none, but stand for what does: the first begins with `/`, and no `;` is missing
-- before either where an expression ends that a `/` or an argument list would go on with (12.10)
abbrev pub stands_for : Kind → ℕ
stands_for (RegularExpression w) = 14
stands_for (NoSubstitutionTemplate w) = call
stands_for (T.TemplateHead w) = call
stands_for k = 0

-- a token goes on with an expression in a place
abbrev pub goes_on : Wanted → Expr → Token → Bool
goes_on w e t =
    (nat_le 1 (stands_for t.kind) && nat_le (stands_for t.kind) (last_level e)) || (nat_le 1 (strength (join t)) && (nat_le (grip w) (strength (join t)) && nat_le (wants (join t)) (last_level e)))

-- the same where a bare `in` may be banned: there it ends the expression
abbrev pub continues : Wanted → Expr → Token → Bool
continues w e t = not (bans w t) && goes_on w e t

-- a token ends a list of statements: `}`, the end, and the next clause of a `switch`
abbrev pub closes : Token → Bool
closes t = is_mark P.CloseBrace t || is_kind End t.kind || is_word (codes "case") t || is_word (codes "default") t

-- an expression statement begins with no token that begins another statement (14.5)
abbrev pub is_none_form : Option Form → Bool
is_none_form None = true
is_none_form (Some f) = false

-- nothing stands after the last comma of items, where there is one; nor where there is no item
abbrev pub trailing : Exprs → Bool → Bool
trailing no_expr b = true
trailing xs b = b

-- ---- the relation: pieces, their location, their tokens, and the token that follows them

mutual
  -- an expression with its level, or a statement
  pub data Spells : Piece → Loc → List Token → Token → Type 0 where
    leaf : {e : Expr} {next : Token} (t : Token) → prefix t ≡ None → leaf_of t.kind t.loc ≡ Some e → Spells (AnExpr primary e) t.loc (t ∷ []) next
    -- a production that its first token tells
    prefixed : (f : Form) {ps : List Piece} {i : ℕ} {e : Expr} {l : Loc} {ts : List Token} {next : Token} (t : Token) → prefix t ≡ Some f →
        SpellsSlots (slots f) ps t.loc l (t ∷ ts) next → build f (through t.loc l) ps ≡ Some (AnExpr i e) → Spells (AnExpr i e) (through t.loc l) (t ∷ ts) next
    headed : (f : Form) {ps : List Piece} {s : Stmt} {l : Loc} {ts : List Token} {next : Token} (t : Token) → statement t ≡ Some f →
        SpellsSlots (slots f) ps t.loc l (t ∷ ts) next → build f (through t.loc l) ps ≡ Some (AStmt s) → Spells (AStmt s) (through t.loc l) (t ∷ ts) next
    -- a production that begins with an expression, told by the token after it
    joined : (f : Form) {n : ℕ} {ss : List Slot} {ps : List Piece} {i j : ℕ} {a e : Expr} {la l : Loc} {ta ts : List Token} {next : Token} (t : Token) → join t ≡ Some f →
        slots f ≡ Expr_ (Level n) ∷ ss → n ≤ i → Spells (AnExpr i a) la ta t → SpellsSlots ss ps la l (t ∷ ts) next →
        build f (through la l) (AnExpr i a ∷ ps) ≡ Some (AnExpr j e) → Spells (AnExpr j e) (through la l) (ta ++ t ∷ ts) next
    -- an expression statement, and a label with its statement: no statement's first token begins either
    expression : {ps : List Piece} {s : Stmt} {l : Loc} {next : Token} (t : Token) {ts : List Token} → statement t ≡ None →
        SpellsSlots (slots slot.Expression) ps t.loc l (t ∷ ts) next → build slot.Expression (through t.loc l) ps ≡ Some (AStmt s) → Spells (AStmt s) (through t.loc l) (t ∷ ts) next
    labelled : {ps : List Piece} {s : Stmt} {l : Loc} {next : Token} (t : Token) {ts : List Token} → statement t ≡ None →
        SpellsSlots (slots slot.Labelled) ps t.loc l (t ∷ ts) next → build slot.Labelled (through t.loc l) ps ≡ Some (AStmt s) → Spells (AStmt s) (through t.loc l) (t ∷ ts) next

  -- the parts of a production after a location, up to another
  pub data SpellsSlots : List Slot → List Piece → Loc → Loc → List Token → Token → Type 0 where
    done : {l : Loc} {next : Token} → SpellsSlots [] [] l l [] next
    sign : {k : Kind} {ss : List Slot} {ps : List Piece} {l m : Loc} {us : List Token} {next : Token} (t : Token) → t.kind ≡ k →
        SpellsSlots ss ps t.loc m us next → SpellsSlots (Sign k ∷ ss) ps l m (t ∷ us) next
    text : {c : Class} {p : Piece} {ss : List Slot} {ps : List Piece} {l m : Loc} {us : List Token} {next : Token} (t : Token) → piece_of c t.kind t.loc ≡ Some p →
        SpellsSlots ss ps t.loc m us next → SpellsSlots (Text c ∷ ss) (p ∷ ps) l m (t ∷ us) next
    -- an expression with which the next token does not go on there
    expr : {w : Wanted} {i : ℕ} {e : Expr} {ss : List Slot} {ps : List Piece} {l le m : Loc} {te us : List Token} {next : Token} → fits w i e ≡ true → Spells (AnExpr i e) le te (first us next) →
        continues w e (first us next) ≡ false → SpellsSlots ss ps le m us next → SpellsSlots (Expr_ w ∷ ss) (AnExpr i e ∷ ps) l m (te ++ us) next
    stmt : {s : Stmt} {ss : List Slot} {ps : List Piece} {l ls m : Loc} {ts us : List Token} {next : Token} → is_declaration s ≡ false → Spells (AStmt s) ls ts (first us next) →
        SpellsSlots ss ps ls m us next → SpellsSlots (Stmt_ ∷ ss) (AStmt s ∷ ps) l m (ts ++ us) next
    stmts : {xs : Stmts} {ss : List Slot} {ps : List Piece} {l ls m : Loc} {ts us : List Token} {next : Token} → SpellsStmts xs l ls ts (first us next) → closes (first us next) ≡ true →
        SpellsSlots ss ps ls m us next → SpellsSlots (Stmts_ ∷ ss) (TheStmts xs ∷ ps) l m (ts ++ us) next
    items : {p : Punctuator} {b : Bool} {xs : Exprs} {ss : List Slot} {ps : List Piece} {l m : Loc} {ts us : List Token} {next : Token} (t : Token) → SpellsItems b xs ts t → t.kind ≡ T.Punctuator p →
        SpellsSlots ss ps t.loc m us next → SpellsSlots (Items_ p ∷ ss) (TheExprs b xs ∷ ps) l m (ts ++ t ∷ us) next
    place : {ss : List Slot} {ps : List Piece} {l m : Loc} {us : List Token} {next : Token} → SpellsSlots ss ps l m us next → SpellsSlots (Place_ ∷ ss) (APlace l ∷ ps) l m us next
    -- what the next token chooses
    passed : {c : Choice} {qs : List Piece} {ss : List Slot} {ps : List Piece} {l m : Loc} {us : List Token} {next : Token} → branch c (first us next) ≡ Pass qs →
        SpellsSlots ss ps l m us next → SpellsSlots (By c ∷ ss) (qs ++ ps) l m us next
    chosen : {c : Choice} {qs : List Piece} {s : Slot} {rs ss : List Slot} {ps : List Piece} {l m : Loc} {us : List Token} {next : Token} → branch c (first us next) ≡ Go qs s rs →
        SpellsSlots (s ∷ (rs ++ ss)) ps l m us next → SpellsSlots (By c ∷ ss) (qs ++ ps) l m us next

  -- items with commas; nothing may stand after the last comma
  pub data SpellsItems : Bool → Exprs → List Token → Token → Type 0 where
    no_item : {next : Token} → SpellsItems true no_expr [] next
    last_item : {i : ℕ} {e : Expr} {l : Loc} {ts : List Token} {next : Token} → assignment ≤ i → Spells (AnExpr i e) l ts next → goes_on (Level assignment) e next ≡ false →
        SpellsItems false (more_expr e no_expr) ts next
    more_items : {i : ℕ} {e : Expr} {b : Bool} {xs : Exprs} {l : Loc} {ts us : List Token} {next : Token} (comma : Token) → assignment ≤ i → Spells (AnExpr i e) l ts comma → comma.kind ≡ T.Punctuator P.Comma →
        SpellsItems b xs us next → SpellsItems b (more_expr e xs) (ts ++ comma ∷ us) next

  -- a list of statements, from a location to another
  pub data SpellsStmts : Stmts → Loc → Loc → List Token → Token → Type 0 where
    no_statement : {l : Loc} {next : Token} → SpellsStmts no_stmt l l [] next
    more_statements : {s : Stmt} {ss : Stmts} {l ls m : Loc} {ts us : List Token} {next : Token} →
        Spells (AStmt s) ls ts (first us next) → SpellsStmts ss ls m us next → SpellsStmts (more_stmt s ss) l m (ts ++ us) next

-- a file (16.1): its directives and its statements, without `this` outside every function but arrows, and the end
pub data Sentence : File → List Token → Type 0 where
  file : {ss : Stmts} {l m : Loc} {ts : List Token} (end : Token) → end.kind ≡ End → SpellsStmts ss l m ts end → this_stmts ss ≡ false → Sentence (MakeFile (with_directives ss) []) (ts ++ end ∷ [])

-- no sentence begins with these tokens
abbrev pub Dead : List Token → Type 0
Dead ts = (tree : File) (others : List Token) → Sentence tree (ts ++ others) → ⊥
