-- The tokens of a tree that has its parentheses spell that tree but for places: what is shown of each kind of part.
use Rattle.std.proofs.Common.{◌≡◌, ℕ, ◌+◌, Bool, true, false, List, Option, Some, None, codes, if◌then◌else◌}
use Rattle.std.specs.Prelude.{nat_le, ◌==◌}
use Rattle.js_terms.specs.declared.place.Loc.{Loc}
use Rattle.js_tree.specs.Plain as tree
use Rattle.js_tree.specs.Plain.{Expr, Stmt, Stmts, Function}
use Rattle.js_text.specs.Token.{Token}
use Rattle.js_reading.specs.Productions.{member, callable, is_word}
use Rattle.js_reading.specs.Makes.{is_target, is_and_or, bare_in, is_declaration, function_of, with_directives}
use Rattle.js_reading.specs.Slots.{Piece, AnExpr, AStmt}
use Rattle.js_reading.specs.Sentences.{Spells, SpellsSlots, SpellsStmts, closes}
use Rattle.js_layout.specs.Tokens.{expr_tokens, stmt_tokens, stmts_tokens, function_tokens}
use Rattle.js_layout.specs.Neat.{level, is_string}
use Rattle.js_layout.specs.Printable.{ends_open}
use Rattle.js_layout.specs.Unplaced.{unplaced_expr, unplaced_stmt, unplaced_stmts, unplaced_function}
use Rattle.js_layout.proofs.Follows.{Follows, Quiet}

-- ---- what a place asks of an expression, beside its level

abbrev pub name_in : Expr → Option (List ℕ)
name_in (tree.IdentifierReference l w) = Some w
name_in e = None

pub record Traits : Type 0 where
  pub target : Bool
  pub mixed : Bool
  pub bare_in : Bool
  pub string : Bool
  pub name : Option (List ℕ)

abbrev pub traits : Expr → Traits
traits e = record { target = is_target e; mixed = is_and_or e; bare_in = bare_in e; string = is_string e; name = name_in e }

-- how tightly a tree binds that has its parentheses
abbrev pub standing : Expr → ℕ
standing (tree.Parenthesized l e) = member
standing e = level e

-- the level that the place of its last operand asks for, for an expression of a level: what is weaker ends it
abbrev pub edge : ℕ → ℕ
edge n =
    if nat_le n 3 then 2
    else (if n == 4 then 7
    else (if nat_le n 14 then n + 1 else (if n == 15 then 15 else (if nat_le n 17 then 16 else 100))))

-- ---- what is shown

-- these tokens, before that one, spell an expression that has its parentheses, but for places
pub record SpeltExpr (e : Expr) (ts : List Token) (next : Token) : Type 0 where
  pub tree : Expr
  pub loc : Loc
  pub spells : Spells (AnExpr (standing e) tree) loc ts next
  pub same : unplaced_expr tree ≡ unplaced_expr e
  pub traits : traits tree ≡ traits e

abbrev pub WillExpr : Expr → Type 0
WillExpr e = (line : Bool) (ts : List Token) (next : Token) → Follows line (expr_tokens e) ts → Quiet (edge (standing e)) next → SpeltExpr e ts next

-- a statement that is a string: where directives may stand it is one
abbrev pub is_string_stmt : Stmt → Bool
is_string_stmt (tree.Expression l e) = is_string e
is_string_stmt s = false

pub record SpeltStmt (s : Stmt) (ts : List Token) (next : Token) : Type 0 where
  pub tree : Stmt
  pub loc : Loc
  pub spells : Spells (AStmt tree) loc ts next
  pub same : unplaced_stmt tree ≡ unplaced_stmt s
  pub declares : is_declaration tree ≡ is_declaration s
  pub string : is_string_stmt tree ≡ is_string_stmt s

-- what a statement needs of the token after it: an `if` without `else` that none follows, and a `try` that no `finally` does
pub record AfterStmt (s : Stmt) (next : Token) : Type 0 where
  pub no_else : ends_open s ≡ true → is_word (codes "else") next ≡ false
  pub no_finally : is_word (codes "finally") next ≡ false

abbrev pub WillStmt : Stmt → Type 0
WillStmt s = (line : Bool) (ts : List Token) (next : Token) → Follows line (stmt_tokens s) ts → AfterStmt s next → SpeltStmt s ts next

-- statements, from any location to another, before what closes their list
pub record SpeltStmts (ss : Stmts) (ts : List Token) (next : Token) : Type 0 where
  pub tree : Stmts
  pub end : Loc → Loc
  pub spells : (l : Loc) → SpellsStmts tree l (end l) ts next
  pub same : unplaced_stmts (with_directives tree) ≡ unplaced_stmts ss

abbrev pub WillBody : Stmts → Type 0
WillBody ss = (line : Bool) (ts : List Token) (next : Token) → Follows line (stmts_tokens ss) ts → closes next ≡ true → SpeltStmts ss ts next

-- the same where no directives stand
pub record SpeltBlock (ss : Stmts) (ts : List Token) (next : Token) : Type 0 where
  pub tree : Stmts
  pub end : Loc → Loc
  pub spells : (l : Loc) → SpellsStmts tree l (end l) ts next
  pub same : unplaced_stmts tree ≡ unplaced_stmts ss

abbrev pub WillBlock : Stmts → Type 0
WillBlock ss = (line : Bool) (ts : List Token) (next : Token) → Follows line (stmts_tokens ss) ts → closes next ≡ true → SpeltBlock ss ts next

-- the parameters and the body of a function, from any location
pub record SpeltFunction (f : Function) (ts : List Token) (next : Token) : Type 0 where
  pub tree : Function
  pub pieces : List Piece
  pub end : Loc → Loc
  pub spells : (l : Loc) → SpellsSlots callable pieces l (end l) ts next
  pub made : function_of pieces ≡ Some tree
  pub same : unplaced_function tree ≡ unplaced_function f

abbrev pub WillFunction : Option Loc → Function → Type 0
WillFunction l f = (line : Bool) (ts : List Token) (next : Token) → Follows line (function_tokens l f) ts → SpeltFunction f ts next
