-- Which tokens begin so many levels, each inside the one before, and how many a place of the reader counts, for the whole language.
use Rattle.std.specs.Prelude.{◌≡◌, ℕ, ◌+◌, ◌≤◌, ◌<◌, max, Bool, true, false, not, ◌&&◌, List, [], ◌∷◌, ◌++◌, Some, None}
use Rattle.js_terms.specs.declared.place.Loc.{Loc}
use Rattle.js_tree.specs.Plain.{Expr, Stmt, Stmts}
use Rattle.js_tree.specs.Height.{height_expr, height_exprs, height_stmt, height_stmts}
use Rattle.js_text.specs.Token.{Token, Kind}
use Rattle.js_text.specs.Token as T
use Rattle.js_text.specs.declared.punctuator.Punctuator.{Punctuator}
use Rattle.js_text.specs.declared.punctuator.Punctuator.TheVariants as P
use Rattle.js_reading.specs.Level.{any, assignment}
use Rattle.js_reading.specs.Spans.{first}
use Rattle.js_reading.specs.Slots.{Wanted, Level, Slot, Expr_, Stmt_, Stmts_, Items_, By, Piece, AnExpr, AStmt, TheStmts, TheExprs, Pass, Go, Form, Choice}
use Rattle.js_reading.specs.Slots as slot
use Rattle.js_reading.specs.Productions.{slots, prefix, statement, join, form_level}
use Rattle.js_reading.specs.Choices.{branch}
use Rattle.js_reading.specs.Makes.{is_declaration}
use Rattle.js_reading.specs.Sentences.{leaf_of, least, grip, fits, bans, Spells, SpellsSlots, SpellsStmts}
use Rattle.js_reading.specs.Turns.{inner, begun_level, leads, declares, Frame, InForm, InExpression, InStmts, InFile, InItems, Config, Due, Have, Item, Start, Finished}

-- the height of a part that stands there
abbrev pub height : Piece → ℕ
height (AnExpr i e) = height_expr e
height (AStmt s) = height_stmt s
height (TheStmts ss) = height_stmts ss
height (TheExprs b xs) = height_exprs xs
height p = 0

abbrev pub heights : List Piece → ℕ
heights [] = 0
heights (p ∷ ps) = max (height p) (heights ps)

abbrev pub is_choice : Slot → Bool
is_choice (By c) = true
is_choice s = false

-- The levels of 13 and the ban on `in` (14.7.4) hold of what is open as of what is whole. What `build` asks of the parts, as that a
-- target is one (13.15.1), is asked of what is whole alone.
mutual
  -- at a place an expression is begun, with so many levels
  pub data OpensExpr : Wanted → ℕ → List Token → Type 0 where
    no_token : {v : Wanted} → OpensExpr v 0 []
    whole : {v : Wanted} {i : ℕ} {e : Expr} {l : Loc} {ts : List Token} (next : Token) → fits v i e ≡ true → Spells (AnExpr i e) l ts next → OpensExpr v (height_expr e) ts
    -- one token, which fits everywhere
    one_token : {v : Wanted} {e : Expr} (t : Token) → prefix t ≡ None → leaf_of t.kind t.loc ≡ Some e → OpensExpr v (height_expr e) (t ∷ [])
    -- a production that its first token tells, where one of its level may stand
    in_prefixed : (f : Form) {v : Wanted} {n : ℕ} (t : Token) {ts : List Token} → prefix t ≡ Some f → least v ≤ begun_level f → OpensSlots v (slots f) n (t ∷ ts) → OpensExpr v (n + 1) (t ∷ ts)
    -- one that begins with an expression, where that and one of its level may stand
    in_joined : (f : Form) {v : Wanted} {n m i : ℕ} {ss : List Slot} {a : Expr} {la : Loc} {ta : List Token} (t : Token) (ts : List Token) → join t ≡ Some f → slots f ≡ Expr_ (Level m) ∷ ss → bans v t ≡ false → grip v ≤ form_level f →
        m ≤ i → fits v i a ≡ true → Spells (AnExpr i a) la ta t → OpensSlots v ss n (t ∷ ts) → OpensExpr v (max (height_expr a) n + 1) (ta ++ t ∷ ts)

  -- a statement is begun, where a declaration may stand too or not (14)
  pub data OpensStmt : Bool → ℕ → List Token → Type 0 where
    no_stmt_token : {b : Bool} → OpensStmt b 0 []
    whole_stmt : {b : Bool} {s : Stmt} {l : Loc} {ts : List Token} (next : Token) → (is_declaration s && not b) ≡ false → Spells (AStmt s) l ts next → OpensStmt b (height_stmt s) ts
    in_headed : (f : Form) {b : Bool} {n : ℕ} (t : Token) {ts : List Token} → statement t ≡ Some f → (declares f && not b) ≡ false → OpensSlots (Level any) (slots f) n (t ∷ ts) → OpensStmt b (n + 1) (t ∷ ts)
    in_expression : {b : Bool} {n : ℕ} (t : Token) {ts : List Token} → statement t ≡ None → OpensSlots (Level any) (slots slot.Expression) n (t ∷ ts) → OpensStmt b (n + 1) (t ∷ ts)
    in_labelled : {b : Bool} {n : ℕ} (t : Token) {ts : List Token} → statement t ≡ None → OpensSlots (Level any) (slots slot.Labelled) n (t ∷ ts) → OpensStmt b (n + 1) (t ∷ ts)

  -- the parts of a production that stands at a place: those before, whole, and one that is open
  pub data OpensSlots : Wanted → List Slot → ℕ → List Token → Type 0 where
    none_open : {v : Wanted} {ss : List Slot} → OpensSlots v ss 0 []
    past : {v : Wanted} {s : Slot} {ss : List Slot} {ps : List Piece} {l m : Loc} {ts us : List Token} {n : ℕ} (next : Token) → is_choice s ≡ false → SpellsSlots (s ∷ []) ps l m ts (first us next) → OpensSlots v ss n us →
        OpensSlots v (s ∷ ss) (max (heights ps) n) (ts ++ us)
    open_expr : {v w : Wanted} {ss : List Slot} {n : ℕ} {ts : List Token} → OpensExpr (inner w ss v) n ts → OpensSlots v (Expr_ w ∷ ss) n ts
    open_stmt : {v : Wanted} {ss : List Slot} {n : ℕ} {ts : List Token} → OpensStmt false n ts → OpensSlots v (Stmt_ ∷ ss) n ts
    open_stmts : {v : Wanted} {ss : List Slot} {n : ℕ} {ts : List Token} → OpensStmts n ts → OpensSlots v (Stmts_ ∷ ss) n ts
    open_items : {v : Wanted} {p : Punctuator} {ss : List Slot} {n : ℕ} {ts : List Token} → OpensItems n ts → OpensSlots v (Items_ p ∷ ss) n ts
    -- what the next token chooses; an arrow's body only where an arrow may stand
    open_passed : {v : Wanted} {c : Choice} {qs : List Piece} {ss : List Slot} {n : ℕ} {ts : List Token} (next : Token) → branch c (first ts next) ≡ Pass qs → OpensSlots v ss n ts → OpensSlots v (By c ∷ ss) (max (heights qs) n) ts
    open_chosen : {v : Wanted} {c : Choice} {qs : List Piece} {s : Slot} {rs ss : List Slot} {n : ℕ} {ts : List Token} (next : Token) → branch c (first ts next) ≡ Go qs s rs → leads v c ≡ true → OpensSlots v (s ∷ (rs ++ ss)) n ts →
        OpensSlots v (By c ∷ ss) (max (heights qs) n) ts

  pub data OpensItems : ℕ → List Token → Type 0 where
    no_items_token : OpensItems 0 []
    open_item : {n : ℕ} {ts : List Token} → OpensExpr (Level assignment) n ts → OpensItems n ts
    after_item : {i n : ℕ} {e : Expr} {l : Loc} {ts us : List Token} (comma : Token) → assignment ≤ i → Spells (AnExpr i e) l ts comma → comma.kind ≡ T.Punctuator P.Comma → OpensItems n us →
        OpensItems (max (height_expr e) n) (ts ++ comma ∷ us)

  pub data OpensStmts : ℕ → List Token → Type 0 where
    no_stmts_token : OpensStmts 0 []
    open_last : {ss : Stmts} {l m : Loc} {ts us : List Token} {n : ℕ} (next : Token) → SpellsStmts ss l m ts next → OpensStmt true n (next ∷ us) → OpensStmts (max (height_stmts ss) n) (ts ++ next ∷ us)

-- these tokens begin more levels than the limit, each inside the one before
abbrev pub OpensMore : ℕ → List Token → Type 0
OpensMore limit ts = (n : ℕ) × (limit < n) × OpensStmts n ts

-- ---- how high a tree is at least that a place leads to

abbrev pub lift : Frame → ℕ → ℕ
lift (InForm f w s ss ps) h = max (heights ps) h + 1
lift (InExpression w) h = h + 1
lift (InStmts f w ss ps xs) h = max (heights ps) (max (height_stmts xs) h) + 1
lift (InFile xs) h = h
lift (InItems f w p ss ps xs) h = max (heights ps) (max (height_exprs xs) h) + 1

-- nothing stands below a file
abbrev pub up : List Frame → ℕ → ℕ
up [] h = h
up (InFile xs ∷ fs) h = max (height_stmts xs) h
up (f ∷ fs) h = up fs (lift f h)

abbrev pub floor : Config → ℕ
floor (Due f w ss ps l fs) = up fs (heights ps + 1)
floor (Have p l fs) = up fs (height p)
floor (Item fs) = up fs 0
floor Start = 0
floor (Finished ss) = 0
