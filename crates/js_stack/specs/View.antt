-- The machine's frames and places that those of the code are, and what a token's turn answers.
use Rattle.std.specs.Prelude.{◌≡◌, ◌<◌, ◌+◌, ℕ, List, [], ◌∷◌, Option, Some, None, Result, Ok, Err, length}
use Rattle.js_terms.specs.declared.place.Loc.{Loc}
use Rattle.js_tree.specs.Tree.{plain_expr, plain_exprs, plain_stmt, plain_stmts}
use Rattle.js_text.specs.Token.{Token}
use Rattle.js_reading.specs.declared.form.Form.{Form}
use Rattle.js_reading.specs.Slots as slots
use Rattle.js_reading.specs.Slots.{Expr_, Stmt_, AnExpr, AStmt}
use Rattle.js_reading.specs.Turns as turns
use Rattle.js_reading.specs.Turns.{Config, pass, have}
use Rattle.js_grammar.specs.View.{plain_wanted, plain_slots}
use Rattle.js_build.specs.View.{plain_pieces}
use Rattle.js_stack.specs.declared.production.Frame as code_frame
use Rattle.js_stack.specs.declared.production.Frame.TheVariants as f
use Rattle.js_stack.specs.declared.production.Place.{Place}
use Rattle.js_stack.specs.declared.production.Place.TheVariants as place
use Rattle.js_stack.specs.declared.production.Turn.{Turn}
use Rattle.js_stack.specs.declared.production.Turn.TheVariants as turn
use Rattle.js_stack.specs.declared.refused.Refusal.{Refusal}
use Rattle.js_stack.specs.declared.refused.Refusal.TheVariants as why

abbrev pub plain_frame : code_frame.Frame → turns.Frame
plain_frame (f.InExpression p w) = turns.InForm p.form p.start (Expr_ (plain_wanted w)) (plain_slots p.left) (plain_pieces p.parts)
plain_frame (f.InStatement p) = turns.InForm p.form p.start Stmt_ (plain_slots p.left) (plain_pieces p.parts)
plain_frame (f.InLine l) = turns.InExpression l
plain_frame (f.InStatements p ss) = turns.InStmts p.form p.start (plain_slots p.left) (plain_pieces p.parts) (plain_stmts ss.items)
plain_frame (f.InFile ss) = turns.InFile (plain_stmts ss.items)
plain_frame (f.InItems p mark xs) = turns.InItems p.form p.start mark (plain_slots p.left) (plain_pieces p.parts) (plain_exprs xs.items)

-- the same for a stack of frames, the innermost first
abbrev pub frames : List code_frame.Frame → List turns.Frame
frames [] = []
frames (x ∷ xs) = plain_frame x ∷ frames xs

-- a place in frames
abbrev pub config : Place → List turns.Frame → Config
config (place.Due p l) fs = turns.Due p.form p.start (plain_slots p.left) (plain_pieces p.parts) l fs
config (place.Expression x l) fs = turns.Have (AnExpr x.level (plain_expr x.tree)) l fs
config (place.Statement s l) fs = turns.Have (AStmt (plain_stmt s.tree)) l fs
config place.Item fs = turns.Item fs
config place.Start fs = turns.Start
config (place.Finished ss) fs = turns.Finished (plain_stmts ss.items)

-- where the machine goes from what a turn has made
abbrev pub turned : Turn → List turns.Frame → Token → Option Config
turned (turn.To p) fs t = Some (config p fs)
turned (turn.Expression x l) fs t = have fs (Some (AnExpr x.level (plain_expr x.tree))) l t
turned (turn.Statement s l) fs t = have fs (Some (AStmt (plain_stmt s.tree))) l t

-- each turn of a token takes a frame off, or is the last
abbrev pub rank : Turn → ℕ → ℕ
rank (turn.To p) n = 0
rank (turn.Expression x l) n = n + 1
rank (turn.Statement s l) n = n + 1

-- due is where the machine goes from the place before
abbrev pub Gives : Result Place Refusal → List turns.Frame → Option Config → Type 0
Gives (Ok p) fs due = due ≡ Some (config p fs)
Gives (Err why.Memory) fs due = Unit {0}
Gives (Err why.Syntax) fs due = due ≡ None

-- the same of a turn; n is a rank that a further turn is below
abbrev pub Turns : Result Turn Refusal → List turns.Frame → Option Config → Token → ℕ → Type 0
Turns (Ok x) fs due t n = (due ≡ turned x fs t) × (rank x (length fs) < n)
Turns (Err why.Memory) fs due t n = Unit {0}
Turns (Err why.Syntax) fs due t n = due ≡ None

-- the turn of a production's slots, and of what has been made, in frames
abbrev pub passed : Form → Loc → List slots.Slot → List slots.Piece → Loc → List turns.Frame → Token → Option Config
passed f w ss ps l fs t = pass f w ss ps l fs t (λ p m. have fs p m t)

abbrev pub made : Option slots.Piece → Loc → List turns.Frame → Token → Option Config
made p l fs t = have fs p l t
