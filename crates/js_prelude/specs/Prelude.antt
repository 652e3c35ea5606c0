-- The tree of the host's prelude: an object whose methods are the functions of arrays that are written in the language (ECMA-262,
-- 23.1.3). Above a definition stands the text that it is the tree of; no node has a place, and no function a number.
use Rattle.std.specs.Prelude.{ℕ, Bool, true, false, List, [], ◌∷◌, ◌++◌, None, codes}
use Rattle.js_tree.specs.Plain.{Expr, IdentifierReference, This, BooleanLiteral, NumericLiteral, StringLiteral, ArrayLiteral, ObjectLiteral, Parenthesized, NamedMember, ComputedMember, New, Call, PostfixUpdate, Unary, Binary, Logical, Assignment, Exprs, no_expr, some_expr, none_expr}
use Rattle.js_tree.specs.Plain.{Stmt, Block, VariableDeclaration, Expression, If, For, Return, Throw, Stmts, none_stmt, ForInit, InitDeclaration, Declarators, no_declarator, more_declarator, MakeDeclarator, BindingIdentifier}
use Rattle.js_tree.specs.Plain.{Property, Method, NameKey, Properties, Function, MakeFunction, MakeFunctionBody, Param, MakeParam, no_param, more_param, File, MakeFile}
use Rattle.js_tree.specs.Tree.{exprs_of, stmts_of, properties_of}
use Rattle.js_terms.specs.declared.operators.AssignmentOperator.TheVariants as assignment
use Rattle.js_terms.specs.declared.operators.BinaryOperator.{BinaryOperator}
use Rattle.js_terms.specs.declared.operators.BinaryOperator.TheVariants as binary
use Rattle.js_terms.specs.declared.operators.LogicalOperator.TheVariants as logical
use Rattle.js_terms.specs.declared.operators.UnaryOperator.{UnaryOperator}
use Rattle.js_terms.specs.declared.operators.UnaryOperator.TheVariants as unary
use Rattle.js_terms.specs.declared.operators.UpdateOperator.TheVariants as update
use Rattle.js_terms.specs.declared.operators.VariableKind.TheVariants as variable
use Rattle.js_terms.specs.declared.words.Spelled.{Spelled}

-- ---- expressions (13)

abbrev pub name : List ℕ → Expr
name word = IdentifierReference None word

abbrev pub this : Expr
this = This None

abbrev pub truth : Bool → Expr
truth value = BooleanLiteral None value

abbrev pub number : List ℕ → Expr
number digits = NumericLiteral None digits

-- "text", of ASCII characters none of which is escaped
abbrev pub quoted : List ℕ → Spelled
quoted text = record { spelling = 0x22 ∷ (text ++ 0x22 ∷ []); units = text }

abbrev pub string : List ℕ → Expr
string text = StringLiteral None (quoted text)

-- object.word
abbrev pub member : Expr → List ℕ → Expr
member object word = NamedMember None object word

-- object[key]
abbrev pub at : Expr → Expr → Expr
at object key = ComputedMember None object key

-- operand++
abbrev pub incremented : Expr → Expr
incremented operand = PostfixUpdate None update.Increment operand

abbrev pub prefixed : UnaryOperator → Expr → Expr
prefixed operator operand = Unary None operator operand

abbrev pub operation : BinaryOperator → Expr → Expr → Expr
operation operator left right = Binary None operator left right

-- left&&right
abbrev pub both : Expr → Expr → Expr
both left right = Logical None logical.And left right

-- target=value
abbrev pub assigned : Expr → Expr → Expr
assigned target value = Assignment None assignment.Assign target value

-- ---- statements (14)

-- expression;
abbrev pub does : Expr → Stmt
does expression = Expression None expression

-- return value;
abbrev pub returns : Expr → Stmt
returns value = Return None (some_expr value)

-- throw value;
abbrev pub throws : Expr → Stmt
throws value = Throw None value

-- if(test)holds
abbrev pub when : Expr → Stmt → Stmt
when test holds = If None test holds none_stmt

-- word=value
abbrev pub initialized : List ℕ → Expr → Declarators
initialized word value = more_declarator (MakeDeclarator None (BindingIdentifier None word) (some_expr value)) no_declarator

-- const word=value;
abbrev pub constant : List ℕ → Expr → Stmt
constant word value = VariableDeclaration None variable.Const (initialized word value)

-- let word=value, in the head of a `for`
abbrev pub starts : List ℕ → Expr → ForInit
starts word value = InitDeclaration variable.Let (initialized word value)

-- ---- what the methods share: `f` is the callback, `n` the length, `i` an index, `v` the element there, and `r` the result

abbrev pub f : Expr
f = name (codes "f")

abbrev pub n : Expr
n = name (codes "n")

abbrev pub i : Expr
i = name (codes "i")

abbrev pub v : Expr
v = name (codes "v")

abbrev pub r : Expr
r = name (codes "r")

-- typeof f!=="function"
abbrev pub no_function : Expr
no_function = operation binary.StrictNotEqual (prefixed unary.TypeOf f) (string (codes "function"))

-- new TypeError("not a function")
abbrev pub type_error : Expr
type_error = New None (name (codes "TypeError")) (exprs_of (string (codes "not a function") ∷ []))

-- if(typeof f!=="function")throw new TypeError("not a function");
abbrev pub guard : Stmt
guard = when no_function (throws type_error)

-- const n=this.length;
abbrev pub takes_length : Stmt
takes_length = constant (codes "n") (member this (codes "length"))

-- const r=[];
abbrev pub takes_array : Stmt
takes_array = constant (codes "r") (ArrayLiteral None no_expr)

-- this[i]
abbrev pub element : Expr
element = at this i

-- const v=this[i];
abbrev pub takes_element : Stmt
takes_element = constant (codes "v") element

-- i in this
abbrev pub is_present : Expr
is_present = operation binary.In i this

-- {const v=this[i];last}
abbrev pub with_element : Stmt → Stmt
with_element last = Block None (stmts_of (takes_element ∷ last ∷ []))

-- value,i,this
abbrev pub arguments : Expr → Exprs
arguments value = exprs_of (value ∷ i ∷ this ∷ [])

-- f(value,i,this)
abbrev pub called : Expr → Expr
called value = Call None f (arguments value)

-- value<n
abbrev pub below : Expr → Expr
below value = operation binary.LessThan value n

-- for(let i=0;i<n;i++)body
abbrev pub each_index : Stmt → Stmt
each_index body = For None (starts (codes "i") (number (codes "0"))) (some_expr (below i)) (some_expr (incremented i)) body

-- f
abbrev pub parameter : Param
parameter = MakeParam None (BindingIdentifier None (codes "f")) none_expr

-- (f){statements}
abbrev pub function_of : Stmts → Function
function_of statements = MakeFunction 0 (more_param parameter no_param) (MakeFunctionBody None statements)

-- word(f){statements}
abbrev pub method_of : List ℕ → Stmts → Property
method_of word statements = Method None (NameKey word) (function_of statements)

-- word(f){if(typeof f!=="function")throw new TypeError("not a function");const n=this.length;statements}
abbrev pub method : List ℕ → List Stmt → Property
method word statements = method_of word (stmts_of (guard ∷ takes_length ∷ statements))

-- ---- the methods

-- forEach(f){..for(let i=0;i<n;i++) if(i in this)f(this[i],i,this);}
abbrev pub for_each : Property
for_each = method (codes "forEach") (each_index (when is_present (does (called element))) ∷ [])

-- r.length
abbrev pub result_length : Expr
result_length = member r (codes "length")

-- if(r.length<n)r.length=n;
abbrev pub lengthens : Stmt
lengthens = when (below result_length) (does (assigned result_length n))

-- r[i]=f(this[i],i,this);
abbrev pub maps : Stmt
maps = does (assigned (at r i) (called element))

-- map(f){..const r=[];for(let i=0;i<n;i++) if(i in this)r[i]=f(this[i],i,this);if(r.length<n)r.length=n;return r;}
abbrev pub map : Property
map = method (codes "map") (takes_array ∷ each_index (when is_present maps) ∷ lengthens ∷ returns r ∷ [])

-- r[r.length]=v;
abbrev pub appends : Stmt
appends = does (assigned (at r result_length) v)

-- if(f(v,i,this))r[r.length]=v;
abbrev pub keeps : Stmt
keeps = when (called v) appends

-- filter(f){..const r=[];for(let i=0;i<n;i++) if(i in this){const v=this[i];if(f(v,i,this))r[r.length]=v;}return r;}
abbrev pub filter : Property
filter = method (codes "filter") (takes_array ∷ each_index (when is_present (with_element keeps)) ∷ returns r ∷ [])

-- some(f){..for(let i=0;i<n;i++) if(i in this&&f(this[i],i,this))return true;return false;}
abbrev pub some : Property
some = method (codes "some") (each_index (when (both is_present (called element)) (returns (truth true))) ∷ returns (truth false) ∷ [])

-- !f(this[i],i,this)
abbrev pub fails : Expr
fails = prefixed unary.LogicalNot (called element)

-- every(f){..for(let i=0;i<n;i++) if(i in this&&!f(this[i],i,this))return false;return true;}
abbrev pub every : Property
every = method (codes "every") (each_index (when (both is_present fails) (returns (truth false))) ∷ returns (truth true) ∷ [])

-- if(f(v,i,this))return v;
abbrev pub returns_found : Stmt
returns_found = when (called v) (returns v)

-- find(f){..for(let i=0;i<n;i++){const v=this[i];if(f(v,i,this))return v;}}
abbrev pub find : Property
find = method (codes "find") (each_index (with_element returns_found) ∷ [])

-- return -1;
abbrev pub returns_none : Stmt
returns_none = returns (prefixed unary.Minus (number (codes "1")))

-- if(f(this[i],i,this))return i;
abbrev pub returns_index : Stmt
returns_index = when (called element) (returns i)

-- findIndex(f){..for(let i=0;i<n;i++) if(f(this[i],i,this))return i;return -1;}
abbrev pub find_index : Property
find_index = method (codes "findIndex") (each_index returns_index ∷ returns_none ∷ [])

-- forEach(f){..},map(f){..},filter(f){..},some(f){..},every(f){..},find(f){..},findIndex(f){..}
abbrev pub methods : Properties
methods = properties_of (for_each ∷ map ∷ filter ∷ some ∷ every ∷ find ∷ find_index ∷ [])

-- {methods}
abbrev pub object : Expr
object = ObjectLiteral None methods

-- ({methods});
unfoldable pub prelude_tree : File
prelude_tree = MakeFile (stmts_of (does (Parenthesized None object) ∷ [])) []
