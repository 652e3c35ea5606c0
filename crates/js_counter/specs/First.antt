-- The first call of a file's function.
use Rattle.std.specs.Prelude.{◌≡◌, ℕ, ◌<◌, false, List, [], ◌∷◌, ◌++◌, length, codes, Option, Some, None}
use Rattle.std.specs.Str.{bytes_eq}
use Rattle.js_terms.specs.declared.operators.AssignmentOperator.TheVariants as assign
use Rattle.js_terms.specs.declared.operators.BinaryOperator.TheVariants as binary
use Rattle.js_terms.specs.declared.operators.LogicalOperator.TheVariants as logic
use Rattle.js_terms.specs.declared.operators.UnaryOperator.TheVariants as unary
use Rattle.js_terms.specs.declared.operators.VariableKind.TheVariants as variable
use Rattle.js_terms.specs.declared.words.Spelled.{Spelled}
use Rattle.js_tree.specs.Codes.{Code, Ordinary}
use Rattle.js_tree.specs.Plain.{Expr, IdentifierReference, StringLiteral, ObjectLiteral, FunctionExpression, Parenthesized, NamedMember, ComputedMember, Unary, Binary, Logical, Assignment}
use Rattle.js_tree.specs.Plain.{Stmt, Block, VariableDeclaration, Expression, If, Return, MakeFunction, MakeFunctionBody, MakeDeclarator, BindingIdentifier}
use Rattle.js_tree.specs.Plain.{some_expr, none_stmt, no_property, no_param, Stmts, no_stmt, more_stmt, no_declarator, more_declarator}
use Rattle.js_value.specs.declared.value.Value.{Value}
use Rattle.js_value.specs.State.{Plain, Property, ObjectRecord, Binding, Heap}
use Rattle.js_value.specs.Objects.{own, object_at}
use Rattle.js_value.specs.Realm.{undefined}
use Rattle.js_meaning.specs.Scopes.{variable_of}
use Rattle.js_meaning.specs.Files.{this_bound}

abbrev pub name_ : List ℕ → Expr
name_ text = IdentifierReference None text

abbrev pub var_ : List ℕ → Expr → Stmt
var_ w e = VariableDeclaration None variable.Var (more_declarator (MakeDeclarator None (BindingIdentifier None w) (some_expr e)) no_declarator)

abbrev pub does : Expr → Stmt
does e = Expression None e

abbrev pub assigned_ : Expr → Expr → Expr
assigned_ target e = Assignment None assign.Assign target e

abbrev pub at_ : Expr → Expr → Expr
at_ e key = ComputedMember None e key

abbrev pub path_ : List ℕ
path_ = codes "path"

abbrev pub hash_ : List ℕ
hash_ = codes "hash"

abbrev pub gcv_ : List ℕ
gcv_ = codes "gcv"

abbrev pub data_ : List ℕ
data_ = codes "data"

abbrev pub global_ : List ℕ
global_ = codes "global"

abbrev pub coverage_ : List ℕ
coverage_ = codes "coverage"

abbrev pub actual_ : List ℕ
actual_ = codes "actual"

abbrev pub data_of_ : Expr
data_of_ = at_ (name_ coverage_) (name_ path_)

abbrev pub held_of_ : Expr
held_of_ = at_ (name_ global_) (name_ gcv_)

-- `global[gcv]||(global[gcv]={})`
abbrev pub covering : Expr
covering = Logical None logic.Or held_of_ (Parenthesized None (assigned_ held_of_ (ObjectLiteral None no_property)))

-- `if(!coverage[path]||coverage[path].hash!==hash){coverage[path]=data;}`
abbrev pub replacing : Stmt
replacing = If None
    (Logical None logic.Or (Unary None unary.LogicalNot data_of_) (Binary None binary.StrictNotEqual (NamedMember None data_of_ hash_) (name_ hash_)))
    (Block None (more_stmt (does (assigned_ data_of_ (name_ data_))) no_stmt))
    none_stmt

abbrev pub replaced : ℕ → Expr
replaced k = FunctionExpression None None (MakeFunction k no_param (MakeFunctionBody None (more_stmt (Return None (some_expr (name_ actual_))) no_stmt)))

abbrev pub first_body : (name : List ℕ) → (path hash gcv : Spelled) → Expr → ℕ → Stmts
first_body name path hash gcv made k =
    more_stmt (var_ path_ (StringLiteral None path))
    (more_stmt (var_ hash_ (StringLiteral None hash))
    (more_stmt (var_ gcv_ (StringLiteral None gcv))
    (more_stmt (var_ data_ made)
    (more_stmt (var_ global_ (name_ (codes "globalThis")))
    (more_stmt (var_ coverage_ covering)
    (more_stmt replacing
    (more_stmt (var_ actual_ data_of_)
    (more_stmt (does (assigned_ (name_ name) (replaced k)))
    (more_stmt (Return None (some_expr (name_ actual_))) no_stmt)))))))))

abbrev pub first_code : ℕ → (name : List ℕ) → (path hash gcv : Spelled) → Expr → ℕ → Code
first_code n name path hash gcv made k = Ordinary (MakeFunction n no_param (MakeFunctionBody None (first_body name path hash gcv made k)))

-- the names of its call
abbrev pub locals : (path hash gcv made global coverage actual : Value) → List Binding
locals path hash gcv made global coverage actual = this_bound undefined ++ (variable_of path path_ ∷ variable_of hash hash_ ∷ variable_of gcv gcv_ ∷ variable_of made data_ ∷ variable_of global global_ ∷ variable_of coverage coverage_ ∷ variable_of actual actual_ ∷ [])

abbrev pub NoName : List ℕ → List Binding → Type 0
NoName name [] = Unit {0}
NoName name (b ∷ bs) = (bytes_eq b.name name ≡ false) × NoName name bs

-- an object that may be written to
abbrev pub free : Option ℕ → List Value → List Property → ObjectRecord
free prototype elements properties = record { kind = Plain; prototype = prototype; frozen = false; elements = elements; properties = properties }

-- a chain of at most one object that has no property of a key
abbrev pub Bare : Heap → Option ℕ → List ℕ → Type 0
Bare h None key = Unit {0}
Bare h (Some q) key = (q < length h.objects) × (own h q key ≡ None) × ((object_at h q).prototype ≡ None)
