-- The reader of the whole language as a machine: one turn for each token, one frame for all productions.
use Rattle.std.specs.Prelude.{ℕ, Bool, true, false, not, ◌&&◌, ◌||◌, List, [], ◌∷◌, ◌++◌, Option, Some, None, if◌then◌else◌, nat_le}
use Rattle.js_terms.specs.declared.place.Loc.{Loc}
use Rattle.js_terms.specs.declared.operators.VariableKind.{VariableKind}
use Rattle.js_terms.specs.declared.operators.VariableKind.TheVariants as variable
use Rattle.js_tree.specs.Plain.{Expr, Exprs, no_expr, push_exprs, Stmt, Stmts, no_stmt, push_stmts, File, MakeFile}
use Rattle.js_text.specs.Token.{Token, Kind, End}
use Rattle.js_text.specs.Token as T
use Rattle.js_text.specs.declared.punctuator.Punctuator.{Punctuator}
use Rattle.js_text.specs.declared.punctuator.Punctuator.TheVariants as P
use Rattle.js_reading.specs.Level.{any, assignment}
use Rattle.js_reading.specs.Spans.{through}
use Rattle.js_text.specs.declared.goal.Goal.{Goal}
use Rattle.js_text.specs.declared.goal.Goal.TheVariants as goal
use Rattle.js_reading.specs.Kinds.{is_kind}
use Rattle.js_reading.specs.Outside.{this_stmts}
use Rattle.js_reading.specs.Slots.{Wanted, Level, WithoutIn, Callee, Slot, Sign, Text, Expr_, Stmt_, Stmts_, Items_, Place_, By, Piece, AnExpr, AStmt, TheStmts, TheExprs, APlace, Branch, Refuse, Pass, Go, Form, Class, Choice, LaterText}
use Rattle.js_reading.specs.Slots as slot
use Rattle.js_reading.specs.Productions.{primary, member, is_mark, piece_of, slots, prefix, statement, join, strength, wants, after_first}
use Rattle.js_reading.specs.Choices.{branch}
use Rattle.js_reading.specs.Makes.{build, is_declaration, with_directives}
use Rattle.js_reading.specs.Sentences.{leaf_of, least, fits, bans, continues, closes}

-- a node with a part missing, innermost first on the stack
pub data Frame : Type 0 where
  -- a production, where it starts, the slot of the missing part, those after it, and the parts before
  InForm : Form → Loc → Slot → List Slot → List Piece → Frame
  -- the expression of a statement that starts here; it may be a label
  InExpression : Loc → Frame
  -- the next statement of a list, in a production, or in the file
  InStmts : Form → Loc → List Slot → List Piece → Stmts → Frame
  InFile : Stmts → Frame
  -- the next item of a list, up to this punctuator
  InItems : Form → Loc → Punctuator → List Slot → List Piece → Exprs → Frame

pub data Config : Type 0 where
  -- slots that are left, after a location
  Due : Form → Loc → List Slot → List Piece → Loc → List Frame → Config
  -- an expression with its level, or a statement
  Have : Piece → Loc → List Frame → Config
  -- an item, or the end of the list
  Item : List Frame → Config
  Start : Config
  Finished : Stmts → Config

-- ---- where an expression stands

-- the place of a part, before those after it, in a production that stands in a place: in its last part `in` is banned as there
abbrev pub inner : Wanted → List Slot → Wanted → Wanted
inner (Level m) [] (WithoutIn n) = WithoutIn m
inner w ss v = w

-- the place of an expression on top of the stack
abbrev pub place : List Frame → Wanted
place (InForm f w (Expr_ n) ss ps ∷ fs) = inner n ss (place fs)
place (InItems f w p ss ps xs ∷ fs) = Level assignment
place fs = Level any

-- the highest level that a production makes that a token begins: parentheses may turn out to be an arrow's parameters
abbrev pub begun_level : Form → ℕ
begun_level slot.Parentheses = member
begun_level slot.New = member
begun_level (slot.PrefixUpdate o) = 17
begun_level (slot.Unary o) = 16
begun_level f = primary

-- an arrow's body stands only where an arrow may
abbrev pub leads : Wanted → Choice → Bool
leads v slot.Arrow = nat_le (least v) assignment
leads v c = true

-- a declaration stands in a list of statements only (14)
abbrev pub declares : Form → Bool
declares slot.FunctionDeclaration = true
declares (slot.Variables k) = is_lexical k
  where
    is_lexical : VariableKind → Bool
    is_lexical variable.Var = false
    is_lexical k = true
declares f = false

abbrev pub listing : List Frame → Bool
listing (InForm f w s ss ps ∷ fs) = false
listing fs = true

-- ---- a part begins

abbrev pub enter : Form → Loc → List Slot → List Piece → Loc → List Frame → Option Config
enter f w ss ps l fs = Some (Due f w ss ps l fs)

-- what a token of a class leaves
abbrev pub texted : Option Piece → (Piece → Option Config) → Option Config
texted None go = None
texted (Some p) go = go p

-- the first token of a production: it is told by it
abbrev pub begin_form : Form → Token → List Slot → List Frame → Option Config
begin_form f t (Sign k ∷ ss) fs = enter f t.loc ss [] t.loc fs
begin_form f t (Text c ∷ ss) fs = texted (piece_of c t.kind t.loc) (λ p. enter f t.loc ss (p ∷ []) t.loc fs)
begin_form f t ss fs = None

abbrev pub begin_leaf : Token → List Frame → Option Expr → Option Config
begin_leaf t fs None = None
begin_leaf t fs (Some e) = Some (Have (AnExpr primary e) t.loc fs)

abbrev pub want_by : Option Form → Token → List Frame → Option Config
want_by None t fs = begin_leaf t fs (leaf_of t.kind t.loc)
want_by (Some f) t fs = if nat_le (least (place fs)) (begun_level f) then begin_form f t (slots f) fs else None

abbrev pub want : Token → List Frame → Option Config
want t fs = want_by (prefix t) t fs

abbrev pub begin_by : Option Form → Token → List Frame → Option Config
begin_by None t fs = want t (InExpression t.loc ∷ fs)
begin_by (Some f) t fs = if declares f && not (listing fs) then None else begin_form f t (slots f) fs

abbrev pub begin : Token → List Frame → Option Config
begin t fs = begin_by (statement t) t fs

-- ---- a token where a slot is next

-- a slot that this token begins
abbrev pub take : Form → Loc → Slot → List Slot → List Piece → List Frame → Token → Option Config
take f w (Sign k) ss ps fs t = if is_kind k t.kind then enter f w ss ps t.loc fs else None
take f w (Text c) ss ps fs t = texted (piece_of c t.kind t.loc) (λ p. enter f w ss (ps ++ p ∷ []) t.loc fs)
take f w (Expr_ n) ss ps fs t = want t (InForm f w (Expr_ n) ss ps ∷ fs)
take f w Stmt_ ss ps fs t = begin t (InForm f w Stmt_ ss ps ∷ fs)
take f w (Items_ p) ss ps fs t = if is_mark p t then enter f w ss (ps ++ TheExprs true no_expr ∷ []) t.loc fs else want t (InItems f w p ss ps no_expr ∷ fs)
take f w s ss ps fs t = None

-- what the next token chooses
abbrev pub choose : Branch → (List Piece → Option Config) → (List Piece → Slot → List Slot → Option Config) → Option Config
choose Refuse on go = None
choose (Pass qs) on go = on qs
choose (Go qs s rs) on go = go qs s rs

abbrev pub pass : Form → Loc → List Slot → List Piece → Loc → List Frame → Token → (Option Piece → Loc → Option Config) → Option Config
pass f w [] ps l fs t go = go (build f (through w l) ps) (through w l)
pass f w (Place_ ∷ ss) ps l fs t go = pass f w ss (ps ++ APlace l ∷ []) l fs t go
pass f w (Stmts_ ∷ ss) ps l fs t go = if closes t then pass f w ss (ps ++ TheStmts no_stmt ∷ []) l fs t go else begin t (InStmts f w ss ps no_stmt ∷ fs)
pass f w (By c ∷ ss) ps l fs t go = choose (branch c t) (λ qs. pass f w ss (ps ++ qs) l fs t go) (λ qs s rs. if leads (place fs) c then take f w s (rs ++ ss) (ps ++ qs) fs t else None)
pass f w (s ∷ ss) ps l fs t go = take f w s ss ps fs t

-- ---- a part stands there

-- what the top of the stack asks of its expression
abbrev pub wanted : Frame → Wanted
wanted (InForm f w (Expr_ n) ss ps) = n
wanted (InItems f w p ss ps xs) = Level assignment
wanted f = Level any

-- `in` is banned where the innermost open end is a first part of `for`
abbrev pub banned : Token → List Frame → Bool
banned t fs = bans (place fs) t

-- the token after the expression that a production begins with: it is told by it
abbrev pub take_second : Form → ℕ → Expr → Loc → List Frame → Token → List Slot → Option Config
take_second f i e l fs t (Sign k ∷ ss) = enter f l ss (AnExpr i e ∷ []) t.loc fs
take_second f i e l fs t ss = None

-- a production that begins with this expression, which stands in the place of that production
abbrev pub shift : Option Form → ℕ → Expr → Loc → List Frame → Token → Option Config
shift None i e l fs t = None
shift (Some f) i e l fs t = if nat_le (wants (Some f)) i && fits (place fs) i e then take_second f i e l fs t (after_first (slots f)) else None

abbrev pub is_name : Expr → Bool
is_name (Rattle.js_tree.specs.Plain.IdentifierReference l w) = true
is_name e = false

abbrev pub listed : Form → Loc → Punctuator → List Slot → List Piece → Exprs → List Frame → Token → Option Config
listed f w p ss ps xs fs t =
    if is_mark P.Comma t then Some (Item (InItems f w p ss ps xs ∷ fs)) else (if is_mark p t then enter f w ss (ps ++ TheExprs false xs ∷ []) t.loc fs else None)

-- an expression in a frame with which the token does not go on
abbrev pub leave : Frame → ℕ → Expr → Loc → List Frame → Token → (Option Piece → Loc → Option Config) → Option Config
leave (InForm f w (Expr_ n) ss ps) i e l fs t go = if fits n i e then pass f w ss (ps ++ AnExpr i e ∷ []) l fs t go else None
leave (InExpression w) i e l fs t go =
    if is_mark P.Colon t && (is_name e && nat_le primary i) then enter slot.Labelled w (Stmt_ ∷ []) (AnExpr i e ∷ []) t.loc fs
    else pass slot.Expression w (By slot.Semicolon ∷ []) (AnExpr i e ∷ []) l fs t go
leave (InItems f w p ss ps xs) i e l fs t go = if nat_le assignment i then listed f w p ss ps (push_exprs xs e) fs t else None
leave f i e l fs t go = None

-- the end of a file
abbrev pub finished : Stmts → Option Config
finished ss = if this_stmts ss then None else Some (Finished ss)

-- a statement in a frame
abbrev pub left : Frame → Stmt → Loc → List Frame → Token → (Option Piece → Loc → Option Config) → Option Config
left (InForm f w Stmt_ ss ps) s l fs t go = if is_declaration s then None else pass f w ss (ps ++ AStmt s ∷ []) l fs t go
left (InStmts f w ss ps xs) s l fs t go = if closes t then pass f w ss (ps ++ TheStmts (push_stmts xs s) ∷ []) l fs t go else begin t (InStmts f w ss ps (push_stmts xs s) ∷ fs)
left (InFile xs) s l fs t go = if is_kind End t.kind then finished (push_stmts xs s) else begin t (InFile (push_stmts xs s) ∷ fs)
left f s l fs t go = None

-- a production that is there, in frames
abbrev pub have : List Frame → Option Piece → Loc → Token → Option Config
have (f ∷ fs) (Some (AnExpr i e)) l t =
    if continues (wanted f) e t then (if banned t (f ∷ fs) then None else shift (join t) i e l (f ∷ fs) t) else leave f i e l fs t (λ p m. have fs p m t)
have (f ∷ fs) (Some (AStmt s)) l t = left f s l fs t (λ p m. have fs p m t)
have fs p l t = None

-- an item, or the end of its list
abbrev pub item : List Frame → Token → Option Config
item (InItems f w p ss ps xs ∷ fs) t = if is_mark p t then enter f w ss (ps ++ TheExprs true xs ∷ []) t.loc fs else want t (InItems f w p ss ps xs ∷ fs)
item fs t = None

abbrev pub begin_file : Token → Option Config
begin_file t = if is_kind End t.kind then finished no_stmt else begin t (InFile no_stmt ∷ [])

-- ---- the turn, and a run

abbrev pub turn : Config → Token → Option Config
turn (Due f w ss ps l fs) t = pass f w ss ps l fs t (λ p m. have fs p m t)
turn (Have p l fs) t = have fs (Some p) l t
turn (Item fs) t = item fs t
turn Start t = begin_file t
turn (Finished ss) t = None

abbrev pub then_run : Option Config → (Config → Option Config) → Option Config
then_run None go = None
then_run (Some c) go = go c

abbrev pub run : Config → List Token → Option Config
run c [] = Some c
run c (t ∷ ts) = then_run (turn c t) (λ d. run d ts)

-- the tree that tokens lead to
abbrev pub tree_of : Option Config → Option File
tree_of (Some (Finished ss)) = Some (MakeFile (with_directives ss) [])
tree_of c = None

-- ---- the goal of the next token (12): by the place, and where an expression of a template ends by whether the token begins with `}`

-- what the goals differ in: `/` and `/=` (DivPunctuator), a regular expression, and what continues a template (TemplateSubstitutionTail)
abbrev pub divides : Kind → Bool
divides (T.Punctuator P.Slash) = true
divides (T.Punctuator P.DivideAssign) = true
divides k = false

abbrev pub is_regular : Kind → Bool
is_regular (T.RegularExpression w) = true
is_regular k = false

abbrev pub is_later : Kind → Bool
is_later (T.TemplateMiddle w) = true
is_later (T.TemplateTail w) = true
is_later k = false

-- a token of this kind is one for this goal
abbrev pub is_for : Goal → Kind → Bool
is_for goal.Div k = not (is_regular k || is_later k)
is_for goal.RegExp k = not (divides k || is_later k)
is_for goal.Template k = is_later k

-- it begins with `}`
abbrev pub braced : Kind → Bool
braced (T.Punctuator P.CloseBrace) = true
braced k = is_later k

-- where an expression of a template ends (InputElementTemplateTail) a `}` continues the template, and all else is as for Div
abbrev pub asked : Goal → Bool → Goal
asked goal.Template false = goal.Div
asked g b = g

abbrev pub in_template : List Slot → Bool
in_template (By slot.TemplateRest ∷ ss) = true
in_template ss = false

-- the innermost open part is the expression of a template
abbrev pub template_due : List Frame → Bool
template_due [] = false
template_due (InForm f w (Expr_ n) [] ps ∷ fs) = template_due fs
template_due (InForm f w (Expr_ n) (By slot.Arguments ∷ []) ps ∷ fs) = template_due fs
template_due (InForm f w (Expr_ n) ss ps ∷ fs) = in_template ss
template_due (f ∷ fs) = false

-- the last token that was read ends an expression
abbrev pub makes_expression : Form → Bool
makes_expression f = nat_le 1 (strength (Some f)) || is_prefix f
  where
    is_prefix : Form → Bool
    is_prefix slot.Parentheses = true
    is_prefix slot.ArrayLiteral = true
    is_prefix slot.ObjectLiteral = true
    is_prefix slot.Template = true
    is_prefix slot.FunctionExpression = true
    is_prefix slot.New = true
    is_prefix f = false

abbrev pub is_over : List Slot → Bool
is_over [] = true
is_over (Place_ ∷ []) = true
is_over (By slot.Arrow ∷ []) = true
is_over ss = false

-- the body of an arrow ends with its braces, and no `/` goes on with it
abbrev pub is_braced_arrow : Form → List Slot → Bool
is_braced_arrow slot.Parentheses (Place_ ∷ []) = true
is_braced_arrow slot.ArrowOfName (Place_ ∷ []) = true
is_braced_arrow f ss = false

abbrev pub after_expression : List Frame → Goal
after_expression fs = if template_due fs then goal.Template else goal.Div

abbrev pub after_arrow : List Frame → Goal
after_arrow fs = if template_due fs then goal.Template else goal.RegExp

-- Div after an expression, and RegExp elsewhere; after an arrow's body in braces a statement may start on the next line
abbrev pub goal_of_place : Config → Goal
goal_of_place (Due f w ss ps l fs) = if is_braced_arrow f ss then after_arrow fs else (if makes_expression f && is_over ss then after_expression fs else goal.RegExp)
goal_of_place (Have (AnExpr i e) l fs) = after_expression fs
goal_of_place c = goal.RegExp
