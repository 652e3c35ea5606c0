-- What stands before a counted file's statements: the function N, which at its first call puts the file's data under the global object,
-- unless data with this hash is there, and then becomes one that only answers them; and a call of it.
use Rattle.std.specs.Prelude.{ℕ, List, drop, None, codes}
use Rattle.std.specs.Fmt.{signed_decimal}
use Rattle.serde_json.specs.Data.{Data, null, boolean, number, string, array, object, Num, unsigned, negative, float, Items, no_items, item, Members, no_members, member}
use Rattle.serde_json.specs.Written.{compact_text}
use Rattle.js_terms.specs.declared.operators.AssignmentOperator.TheVariants as assign
use Rattle.js_terms.specs.declared.operators.BinaryOperator.TheVariants as binary
use Rattle.js_terms.specs.declared.operators.LogicalOperator.TheVariants as logic
use Rattle.js_terms.specs.declared.operators.UnaryOperator.TheVariants as unary
use Rattle.js_terms.specs.declared.operators.VariableKind.TheVariants as variable
use Rattle.js_terms.specs.declared.words.Spelled.{Spelled}
use Rattle.js_tree.specs.Plain.{Expr, NullLiteral, BooleanLiteral, NumericLiteral, StringLiteral, ArrayLiteral, ObjectLiteral, FunctionExpression, Parenthesized, NamedMember, ComputedMember, Call, Unary, Binary, Logical, Assignment}
use Rattle.js_tree.specs.Plain.{Stmt, Block, VariableDeclaration, Expression, If, Return, FunctionDeclaration, MakeFunction, MakeFunctionBody, MakeDeclarator, BindingIdentifier, KeyValue, StringKey}
use Rattle.js_tree.specs.Plain.{some_expr, none_stmt, Exprs, no_expr, more_expr, Properties, no_property, more_property, no_param, Stmts, no_stmt, more_stmt, no_declarator, more_declarator}
use Rattle.js_reading.specs.Productions.{string_of}
use Rattle.cov_rewritten.specs.Counters.{name, numeral, text}

-- ---- a value of JSON as an expression, spelt as JSON spells it

abbrev pub json_string : List ℕ → Spelled
json_string s = string_of (compact_text (string s))

abbrev pub number_literal : Num → Expr
number_literal (unsigned n) = numeral n
number_literal (negative z) = Unary None unary.Minus (NumericLiteral None (drop 1 (signed_decimal z)))
number_literal (float x) = NullLiteral None

abbrev mutual
  pub literal : Data → Expr
  literal null = NullLiteral None
  literal (boolean b) = BooleanLiteral None b
  literal (number n) = number_literal n
  literal (string s) = StringLiteral None (json_string s)
  literal (array ds) = ArrayLiteral None (literals ds)
  literal (object ms) = ObjectLiteral None (literal_members ms)

  pub literals : Items → Exprs
  literals no_items = no_expr
  literals (item d ds) = more_expr (literal d) (literals ds)

  pub literal_members : Members → Properties
  literal_members no_members = no_property
  literal_members (member k d ms) = more_property (KeyValue None (StringKey (json_string k)) (literal d)) (literal_members ms)

-- ---- pieces of code, with no place

abbrev pub var_ : List ℕ → Expr → Stmt
var_ w e = VariableDeclaration None variable.Var (more_declarator (MakeDeclarator None (BindingIdentifier None w) (some_expr e)) no_declarator)

abbrev pub does : Expr → Stmt
does e = Expression None e

abbrev pub assigned : Expr → Expr → Expr
assigned target e = Assignment None assign.Assign target e

abbrev pub at : Expr → Expr → Expr
at e key = ComputedMember None e key

abbrev pub returns : Expr → Stmt
returns e = Return None (some_expr e)

abbrev pub data_of : Expr
data_of = at (name (codes "coverage")) (name (codes "path"))

abbrev pub held_of : Expr
held_of = at (name (codes "global")) (name (codes "gcv"))

-- ---- the function, and its call

abbrev pub first_body : List ℕ → (path hash : Spelled) → Expr → Stmts
first_body n path hash zero =
    more_stmt (var_ (codes "path") (StringLiteral None path))
    (more_stmt (var_ (codes "hash") (StringLiteral None hash))
    (more_stmt (var_ (codes "gcv") (text (codes "__coverage__")))
    (more_stmt (var_ (codes "data") zero)
    (more_stmt (var_ (codes "global") (name (codes "globalThis")))
    (more_stmt (var_ (codes "coverage") (Logical None logic.Or held_of (Parenthesized None (assigned held_of (ObjectLiteral None no_property)))))
    (more_stmt (If None
    (Logical None logic.Or (Unary None unary.LogicalNot data_of) (Binary None binary.StrictNotEqual (NamedMember None data_of (codes "hash")) (name (codes "hash"))))
    (Block None (more_stmt (does (assigned data_of (name (codes "data")))) no_stmt))
    none_stmt)
    (more_stmt (var_ (codes "actual") data_of)
    (more_stmt (does (assigned (name n) (FunctionExpression None None (MakeFunction 0 no_param (MakeFunctionBody None (more_stmt (returns (name (codes "actual"))) no_stmt))))))
    (more_stmt (returns (name (codes "actual"))) no_stmt)))))))))

-- the path and the hash as they are spelt, and the expression of the data
abbrev pub preamble_of : List ℕ → (path hash : Spelled) → Expr → Stmts
preamble_of n path hash zero =
    more_stmt (FunctionDeclaration None (record { loc = None; name = n }) (MakeFunction 0 no_param (MakeFunctionBody None (first_body n path hash zero))))
    (more_stmt (does (Call None (name n) no_expr)) no_stmt)

abbrev pub preamble : List ℕ → (path hash : List ℕ) → Data → Stmts
preamble n path hash zero = preamble_of n (json_string path) (json_string hash) (literal zero)
