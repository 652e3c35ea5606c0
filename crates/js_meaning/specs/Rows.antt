-- Worked examples: what the marks of small programs are, and which constructs are entered in which order, with how many steps. What a
-- program prints and how it ends is shown by the rows of `suite_rows`.
use Rattle.std.specs.Prelude.{◌≡◌, ℕ, true, List, [], ◌∷◌, Option, Some, None, codes}
use Rattle.js_terms.specs.declared.place.Loc.{Loc}
use Rattle.js_terms.specs.declared.operators.BinaryOperator.{BinaryOperator}
use Rattle.js_terms.specs.declared.operators.BinaryOperator.TheVariants as binary
use Rattle.js_terms.specs.declared.operators.LogicalOperator.TheVariants as logical
use Rattle.js_terms.specs.declared.operators.AssignmentOperator.TheVariants as assignment
use Rattle.js_terms.specs.declared.operators.VariableKind.TheVariants as variable
use Rattle.js_terms.specs.declared.construct.ConstructKind.TheVariants as construct_kind
use Rattle.js_terms.specs.Mark.{Mark}
use Rattle.js_tree.specs.Plain.{Expr, IdentifierReference, NumericLiteral, ArrowFunction, NamedMember, Binary, Logical, Assignment, Call, Exprs, no_expr, more_expr, none_expr, some_expr}
use Rattle.js_tree.specs.Plain.{Stmt, Block, VariableDeclaration, Expression, If, Labelled, While, Switch, Break, Return, Throw, FunctionDeclaration, EnteredStmt, Stmts, no_stmt, more_stmt, none_stmt, File, MakeFile}
use Rattle.js_tree.specs.Plain.{MakeDeclarator, no_declarator, more_declarator, BindingIdentifier, MakeCase, no_case, more_case}
use Rattle.js_tree.specs.Plain.{FunctionExpression, ObjectLiteral, Parenthesized, Method, ComputedKey, no_property, more_property, Function, MakeFunction, FunctionBody, MakeFunctionBody, EnteredBody, ExpressionBody, MakeParam, no_param, more_param}
use Rattle.js_tree.specs.Linked.{Marked, link_file, link_stmt}
use Rattle.js_tree.specs.Entered.{entered_file, placed}
use Rattle.js_meaning.specs.declared.outcome.End.{End}
use Rattle.js_meaning.specs.declared.outcome.End.TheVariants.{Done, Threw, Going}
use Rattle.js_meaning.specs.Program.{Sources, from}
use Rattle.js_meaning.specs.World.{world}

-- Trees

-- from one column of the first line to another
abbrev pub at : ℕ → ℕ → Option Loc
at start end = Some (record { start = record { line = 1; column = start }; end = record { line = 1; column = end } })

abbrev pub name : List ℕ → Expr
name word = IdentifierReference None word

abbrev pub number : List ℕ → Expr
number digits = NumericLiteral None digits

abbrev pub operation : BinaryOperator → Expr → Expr → Expr
operation operator left right = Binary None operator left right

abbrev pub assign : List ℕ → Expr → Expr
assign word e = Assignment None assignment.Assign (name word) e

abbrev pub call : Expr → List Expr → Expr
call callee arguments = Call None callee (listed arguments)
  where
    listed : List Expr → Exprs
    listed [] = no_expr
    listed (x ∷ xs) = more_expr x (listed xs)

abbrev pub prints : List Expr → Expr
prints arguments = call (name (codes "print")) arguments

abbrev pub statements : List Stmt → Stmts
statements [] = no_stmt
statements (x ∷ xs) = more_stmt x (statements xs)

-- Programs and what they do

abbrev pub file_of : List Stmt → File
file_of xs = MakeFile (statements xs) []

-- the file a.js, counted
abbrev pub program : List Stmt → Sources
program xs = record {
  files = record { path = codes "a.js"; tree = file_of xs; counted = true } ∷ [];
  prelude = file_of [];
}

-- the log of a counted program, whose file is started once
abbrev pub Counts : List Stmt → ℕ → End → List ℕ → List Mark → Type 0
Counts xs n end output log = world (program xs) (codes "a.js") n
    ≡ Some (record { end = end; output = output; log = log; started = 0 ∷ []; starts = 0 ∷ [] })

-- a statement, and a path of a branch, of the first file
abbrev pub statement : ℕ → Mark
statement number = record { file = 0; kind = construct_kind.Statement; number = number; path = 0 }

abbrev pub arm : ℕ → ℕ → Mark
arm number path = record { file = 0; kind = construct_kind.Branch; number = number; path = path }

-- the body of a function
abbrev pub body : ℕ → Mark
body number = record { file = 0; kind = construct_kind.Function; number = number; path = 0 }

-- `print(1);`: a start, a statement and a call
abbrev pub one_line : List Stmt
one_line = Expression (at 0 9) (prints (number (codes "1") ∷ [])) ∷ []

pub record OneLine : Type 0 where
  pub counted : Counts one_line 3 Done (codes "1\n") (statement 0 ∷ [])
  pub cut : Counts one_line 2 Going [] (statement 0 ∷ [])

-- `var x = 0; if (x) print(1);`: the arm that is missing is a path of the branch
abbrev pub one_branch : List Stmt
one_branch =
    VariableDeclaration (at 0 10) variable.Var
    (more_declarator (MakeDeclarator (at 4 9) (BindingIdentifier (at 4 5) (codes "x")) (some_expr (NumericLiteral (at 8 9) (codes "0")))) no_declarator) ∷
    If (at 11 27) (name (codes "x")) (Expression (at 18 27) (prints (number (codes "1") ∷ []))) none_stmt ∷ []

pub record OneBranch : Type 0 where
  pub counted : Counts one_branch 4 Done [] (statement 0 ∷ statement 1 ∷ arm 0 1 ∷ [])
  pub cut : Counts one_branch 3 Going [] (statement 0 ∷ statement 1 ∷ [])

-- `var i = 0; if (i < 1) { while (i < 2) i = i + 1; }`: each turn is a step, and enters the statement of the body
abbrev pub nested_loop : List Stmt
nested_loop =
    VariableDeclaration (at 0 10) variable.Var
    (more_declarator (MakeDeclarator (at 4 9) (BindingIdentifier (at 4 5) (codes "i")) (some_expr (NumericLiteral (at 8 9) (codes "0")))) no_declarator) ∷
    If (at 11 51) (operation binary.LessThan (name (codes "i")) (number (codes "1")))
    (Block (at 22 51) (statements (
    While (at 24 49) (operation binary.LessThan (name (codes "i")) (number (codes "2")))
    (Expression (at 38 49) (assign (codes "i") (operation binary.Add (name (codes "i")) (number (codes "1"))))) ∷ []))) none_stmt ∷ []

pub record NestedLoop : Type 0 where
  pub counted : Counts nested_loop 9 Done [] (statement 0 ∷ statement 1 ∷ arm 0 0 ∷ statement 2 ∷ statement 3 ∷ statement 3 ∷ [])
  pub cut : Counts nested_loop 8 Going [] (statement 0 ∷ statement 1 ∷ arm 0 0 ∷ statement 2 ∷ statement 3 ∷ [])

-- the second of two counted files: its constructs have its number, and numbers of their own
abbrev pub two_files : Sources
two_files = record {
  files =
      record { path = codes "a.js"; tree = file_of one_line; counted = true } ∷
      record { path = codes "b.js"; tree = file_of one_line; counted = true } ∷ [];
  prelude = file_of [];
}

pub record SecondFile : Type 0 where
  pub counted : world two_files (codes "b.js") 3
      ≡ Some (record {
        end = Done;
        output = codes "1\n";
        log = record { file = 1; kind = construct_kind.Statement; number = 0; path = 0 } ∷ [];
        started = 1 ∷ [];
        starts = 1 ∷ [];
      })

-- `({ [function () {}]() {} });`, by the functions of the key and of the method
abbrev pub computed_method : (key method : Function) → Stmt
computed_method key method = Expression (at 0 28)
    (Parenthesized (at 0 27) (ObjectLiteral (at 1 26) (more_property (Method (at 3 24) (ComputedKey (FunctionExpression (at 4 18) None key)) method) no_property)))

-- a function's number in the program, and its body
abbrev pub function_of : ℕ → FunctionBody → Function
function_of number body = MakeFunction number no_param body

abbrev pub key_body : FunctionBody
key_body = MakeFunctionBody (at 16 18) no_stmt

abbrev pub method_body : FunctionBody
method_body = MakeFunctionBody (at 22 24) no_stmt

-- a body of the first file that is entered
abbrev pub called : ℕ → FunctionBody → FunctionBody
called number x = EnteredBody (body number) x

-- a method has its numbers before the function in its key
pub record ComputedMethod : Type 0 where
  pub counted : (link_stmt (Marked 0) (computed_method (function_of 0 key_body) (function_of 0 method_body)) (from 0)).tree
      ≡ EnteredStmt (statement 0) (computed_method (function_of 1 (called 1 key_body)) (function_of 0 (called 0 method_body)))

-- `if (x) a: while (y) z;`: of the marks before the label the arm's comes first, then the labelled statement's, then the loop's
abbrev pub labelled_loop : Stmt
labelled_loop = If (at 0 22) (name (codes "x"))
    (Labelled (at 7 22) (record { name = codes "a"; loc = at 7 8 }) (While (at 10 22) (name (codes "y")) (Expression (at 20 22) (name (codes "z"))))) none_stmt

pub record LabelledLoop : Type 0 where
  pub marked : entered_file (link_file (Marked 0) (file_of (labelled_loop ∷ [])) (from 0)).tree
      ≡ placed (statement 0) (at 0 22) ∷ placed (arm 0 0) (at 0 22) ∷ placed (statement 1) (at 7 22) ∷ placed (statement 2) (at 10 22)
      ∷ placed (statement 3) (at 20 22) ∷ placed (arm 0 1) None ∷ []

-- `function boom() { throw 1; } let a = boom(), f = () => 1;`: the second initializer isn't reached
abbrev pub not_hoisted : List Stmt
not_hoisted =
    FunctionDeclaration (at 0 28) (record { loc = at 9 13; name = codes "boom" })
    (MakeFunction 0 no_param (MakeFunctionBody (at 16 28) (statements (Throw (at 18 26) (number (codes "1")) ∷ [])))) ∷
    VariableDeclaration (at 29 57) variable.Let
    (more_declarator (MakeDeclarator (at 33 43) (BindingIdentifier (at 33 34) (codes "a")) (some_expr (Call (at 37 43) (name (codes "boom")) no_expr)))
    (more_declarator (MakeDeclarator (at 45 56) (BindingIdentifier (at 45 46) (codes "f")) (some_expr (ArrowFunction (at 49 56) 0 no_param (ExpressionBody (NumericLiteral (at 55 56) (codes "1"))))))
    no_declarator)) ∷ []

pub record NotHoisted : Type 0 where
  pub counted : Counts not_hoisted 5 (Threw (codes "1")) [] (statement 1 ∷ body 0 ∷ statement 0 ∷ [])
  pub cut : Counts not_hoisted 4 Going [] (statement 1 ∷ body 0 ∷ [])

-- `function h(g = () => 1) { return g.name; } print(h()); print(h(0).length);`: a default is entered where no argument is given, and
-- before the body
abbrev pub default_once : List Stmt
default_once =
    FunctionDeclaration (at 0 42) (record { loc = at 9 10; name = codes "h" })
    (MakeFunction 0 (more_param (MakeParam (at 11 22) (BindingIdentifier (at 11 12) (codes "g"))
    (some_expr (ArrowFunction (at 15 22) 0 no_param (ExpressionBody (NumericLiteral (at 21 22) (codes "1")))))) no_param)
    (MakeFunctionBody (at 24 42) (statements (Return (at 26 40) (some_expr (NamedMember (at 33 39) (name (codes "g")) (codes "name"))) ∷ [])))) ∷
    Expression (at 43 54) (prints (call (name (codes "h")) [] ∷ [])) ∷
    Expression (at 55 74) (prints (NamedMember (at 61 72) (call (name (codes "h")) (number (codes "0") ∷ [])) (codes "length") ∷ [])) ∷ []

pub record DefaultOnce : Type 0 where
  pub counted : Counts default_once 11 (Threw (codes "TypeError: no properties")) (codes "g\n")
      (statement 2 ∷ arm 0 0 ∷ body 0 ∷ statement 1 ∷ statement 3 ∷ body 0 ∷ statement 1 ∷ [])

-- `switch (1) { case 1: case 2: print(2); break; default: }`: a clause is entered also by falling through
abbrev pub falls_through : List Stmt
falls_through = Switch (at 0 56) (number (codes "1"))
    (more_case (MakeCase (at 13 20) (some_expr (number (codes "1"))) no_stmt)
    (more_case (MakeCase (at 21 45) (some_expr (number (codes "2"))) (statements (
    Expression (at 29 38) (prints (number (codes "2") ∷ [])) ∷
    Break (at 39 45) None ∷ [])))
    (more_case (MakeCase (at 46 54) none_expr no_stmt) no_case))) ∷ []

pub record FallsThrough : Type 0 where
  pub counted : Counts falls_through 7 Done (codes "2\n") (statement 0 ∷ arm 0 0 ∷ arm 0 1 ∷ statement 1 ∷ statement 2 ∷ [])

-- `undefined ?? (0 && (1 || 2));`: of a chain, the leaves up to the one that decides are entered
abbrev pub chain : List Stmt
chain = Expression (at 0 29) (Logical (at 0 28) logical.Coalesce (name (codes "undefined"))
    (Parenthesized (at 13 28) (Logical (at 14 27) logical.And (NumericLiteral (at 14 15) (codes "0"))
    (Parenthesized (at 19 27) (Logical (at 20 26) logical.Or (NumericLiteral (at 20 21) (codes "1")) (NumericLiteral (at 25 26) (codes "2"))))))) ∷ []

pub record Chain : Type 0 where
  pub counted : Counts chain 4 Done [] (statement 0 ∷ arm 0 0 ∷ arm 0 1 ∷ [])
