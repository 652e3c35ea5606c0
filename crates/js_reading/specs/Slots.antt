-- What stands in a production, for the whole language: slots, and what each leaves behind it. A choice among them is made
-- by the next token alone.
use Rattle.std.specs.Prelude.{ℕ, Bool, List}
use Rattle.js_terms.specs.declared.place.Loc.{Loc}
use Rattle.js_terms.specs.declared.operators.VariableKind.{VariableKind}
use Rattle.js_terms.specs.declared.words.Spelled.{Spelled}
use Rattle.js_tree.specs.Plain.{Expr, Exprs, Stmt, Stmts, PropertyKey}
use Rattle.js_text.specs.Token.{Kind}
use Rattle.js_text.specs.declared.punctuator.Punctuator.{Punctuator}
-- classes of tokens whose spelling is kept, what the next token chooses, and the productions: those of the code
pub use Rattle.js_reading.specs.declared.class.Class.{Class}
pub use Rattle.js_reading.specs.declared.class.Class.TheVariants.{BoundName, AnyName, Key, FirstText, LaterText}
pub use Rattle.js_reading.specs.declared.choice.Choice.{Choice}
pub use Rattle.js_reading.specs.declared.choice.Choice.TheVariants.{Semicolon, SemicolonOfDo, ValueOnLine, LabelOnLine, OnLine, ValueBefore, Arguments, Arrow, ConciseBody, Else, Initializer, InitializerInHead, Declarators, DeclaratorsInHead, FunctionName, Parameters, AfterParameter, Properties, AfterKey, AfterProperty, TemplateRest, Clauses, Handler, CatchName, Finally, Head, AfterBound, AfterTarget}
pub use Rattle.js_reading.specs.declared.form.Form.{Form}
pub use Rattle.js_reading.specs.declared.form.Form.TheVariants.{Parentheses, ArrayLiteral, ObjectLiteral, Template, FunctionExpression, New, Call, Dot, Member, Postfix, PrefixUpdate, Unary, Binary, Logical, Conditional, Assignment, ArrowOfName, Comma, Expression, Labelled, Block, Variables, FunctionDeclaration, Empty, If, For, While, DoWhile, Continue, Break, Return, Switch, Throw, Try, Debugger}

-- which expression a place takes: one of this level at least; the same without a bare `in` (14.7.4); a callee of `new` (13.3.5)
pub data Wanted : Type 0 where
  Level : ℕ → Wanted
  WithoutIn : ℕ → Wanted
  Callee : Wanted

pub data Slot : Type 0 where
  -- this token
  Sign : Kind → Slot
  -- a token of this class
  Text : Class → Slot
  -- an expression
  Expr_ : Wanted → Slot
  -- a statement that is no declaration
  Stmt_ : Slot
  -- statements, up to a token that ends their list
  Stmts_ : Slot
  -- arguments or items, each followed by a comma but maybe the last, and this token
  Items_ : Punctuator → Slot
  -- the place of what was read last
  Place_ : Slot
  -- what the next token chooses
  By : Choice → Slot

-- what has been read
pub data Piece : Type 0 where
  AnExpr : ℕ → Expr → Piece
  AStmt : Stmt → Piece
  TheStmts : Stmts → Piece
  -- items, and whether nothing stands after their last comma
  TheExprs : Bool → Exprs → Piece
  AWord : List ℕ → Loc → Piece
  AKey : PropertyKey → Loc → Piece
  AText : Spelled → Piece
  APlace : Loc → Piece
  AKind : VariableKind → Piece
  Missing : Piece
  -- a computed key, a method, a shorthand; the heads of `for`
  IsComputed : Piece
  IsMethod : Piece
  IsIn : Piece
  IsOf : Piece

-- what the next token chooses: no slot, and these pieces; or these pieces, a slot that it begins, and those after it
pub data Branch : Type 0 where
  Refuse : Branch
  Pass : List Piece → Branch
  Go : List Piece → Slot → List Slot → Branch
