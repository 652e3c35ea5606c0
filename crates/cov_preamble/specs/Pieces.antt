-- Parts of the preamble, by themselves.
use Rattle.std.specs.Prelude.{ℕ, List, [], Option, Some, None, codes}
use Rattle.js_terms.specs.declared.operators.BinaryOperator.TheVariants as binary
use Rattle.js_terms.specs.declared.operators.LogicalOperator.TheVariants as logic
use Rattle.js_terms.specs.declared.operators.UnaryOperator.TheVariants as unary
use Rattle.js_tree.specs.Plain.{Expr, ObjectLiteral, FunctionExpression, Parenthesized, NamedMember, Call, Unary, Binary, Logical, Stmt, Block, FunctionDeclaration, MakeFunction, MakeFunctionBody, KeyValue, StringKey, Property, Properties, push_properties, no_expr, no_property, no_param, Stmts, no_stmt, more_stmt}
use Rattle.serde_json.specs.Data.{Data, string}
use Rattle.cov_object.specs.Json as json
use Rattle.cov_object.specs.SourceMapText as kept
use Rattle.cov_object.specs.declared.file.FileCoverage.{FileCoverage}
use Rattle.cov_object.specs.declared.file.StatementCoverage.{StatementCoverage}
use Rattle.cov_object.specs.declared.file.FunctionCoverage.{FunctionCoverage}
use Rattle.cov_rewritten.specs.Counters.{name}
use Rattle.cov_rewritten.specs.Preamble.{json_string, literal, var_, does, assigned, data_of, held_of, returns}

abbrev pub takes_coverage : Stmt
takes_coverage = var_ (codes "coverage") (Logical None logic.Or held_of (Parenthesized None (assigned held_of (ObjectLiteral None no_property))))

abbrev pub has_other : Expr
has_other = Logical None logic.Or (Unary None unary.LogicalNot data_of) (Binary None binary.StrictNotEqual (NamedMember None data_of (codes "hash")) (name (codes "hash")))

abbrev pub puts : Stmt
puts = Block None (more_stmt (does (assigned data_of (name (codes "data")))) no_stmt)

abbrev pub successor : Expr
successor = FunctionExpression None None (MakeFunction 0 no_param (MakeFunctionBody None (more_stmt (returns (name (codes "actual"))) no_stmt)))

abbrev pub with_call : List ℕ → Stmts → Stmts
with_call n body =
    more_stmt (FunctionDeclaration None (record { loc = None; name = n }) (MakeFunction 0 no_param (MakeFunctionBody None body)))
    (more_stmt (does (Call None (name n) no_expr)) no_stmt)

-- an empty text where a file has no hash
abbrev pub text_of : Option (List ℕ) → List ℕ
text_of None = []
text_of (Some hash) = hash

abbrev pub hash_of : FileCoverage → List ℕ
hash_of file = text_of file.hash

-- ---- a member of an object, and members and more

abbrev pub entry : List ℕ → Data → Property
entry key value = KeyValue None (StringKey (json_string key)) (literal value)

abbrev pub with_text : (key text : List ℕ) → Properties → Properties
with_text key text members = push_properties members (entry key (string text))

-- what is told of things, under two keys
abbrev pub with_things : {T : Type 0} → (counts description : T → Data) → (key other : List ℕ) → List (ℕ × T) → Properties → Properties
with_things counts description key other things members =
    push_properties (push_properties members (entry key (json.numbered counts things))) (entry other (json.numbered description things))

-- where a file has one, its hash
abbrev pub with_hash : Option (List ℕ) → Properties → Properties
with_hash None members = members
with_hash (Some hash) members = with_text (codes "hash") hash members

-- where it has one, its source map
abbrev pub with_source_map : Option (List ℕ) → Properties → Properties
with_source_map None members = members
with_source_map (Some text) members = push_properties members (entry (codes "inputSourceMap") (kept.data_of text))

-- what is told of a file, in the order of the keys
abbrev pub with_file : FileCoverage → Properties → Properties
with_file file members =
    with_things (λ (statement : StatementCoverage). json.count_data statement.count) (λ (statement : StatementCoverage). json.location_data statement.location) (codes "s") (codes "statementMap") file.statements
    (with_text (codes "path") file.path
    (with_source_map file.input_source_map
    (with_hash file.hash
    (with_things (λ (function : FunctionCoverage). json.count_data function.count) json.function_data (codes "f") (codes "fnMap") file.functions
    (with_things json.path_counts_data json.branch_data (codes "b") (codes "branchMap") file.branches members)))))
