-- The names that a file writes and the files that it asks for, a node's own before those in it, and from left to right.
use Rattle.std.specs.Prelude.{ℕ, Bool, false, List, [], ◌∷◌, Option, Some, None, if◌then◌else◌, codes}
use Rattle.std.specs.Str.{bytes_eq}
use Rattle.js_terms.specs.declared.place.Loc.{Loc}
use Rattle.js_terms.specs.declared.place.Pos.{Pos}
use Rattle.js_terms.specs.declared.words.Identifier.{Identifier}
use Rattle.js_scopes.specs.declared.mention.Mention.{Mention}
use Rattle.js_scopes.specs.declared.mention.Mention.TheVariants as mention
use Rattle.js_tree.specs.Plain.{Expr, IdentifierReference, StringLiteral, FunctionExpression, NamedMember, Call}
use Rattle.js_tree.specs.Plain.{Exprs, no_expr, more_expr}
use Rattle.js_tree.specs.Plain.{Stmt, Continue, Break, Labelled, FunctionDeclaration}
use Rattle.js_tree.specs.Plain.{Shorthand, NameKey, BindingIdentifier, File}
use Rattle.js_walk.specs.Part.{Part, AnExpr, AStmt, AProperty, APropertyKey, APattern}
use Rattle.js_walk.specs.Walk.{walk_file}

-- where a node starts: line 1, column 0 where it has no place
abbrev pub start : Option Loc → Pos
start None = record { line = 1; column = 0 }
start (Some loc) = loc.start

-- a name that is bound or referred to
abbrev pub variable : Option Loc → List ℕ → List Mention
variable loc name = mention.Variable (start loc) name ∷ []

-- a function's own name
abbrev pub own_name : Identifier → List Mention
own_name identifier = variable identifier.loc identifier.name

abbrev pub own_name_if : Option Identifier → List Mention
own_name_if None = []
own_name_if (Some identifier) = own_name identifier

-- a label, where it stands and where it is named
abbrev pub label : Identifier → List Mention
label identifier = mention.Label (start identifier.loc) identifier.name ∷ []

abbrev pub label_if : Option Identifier → List Mention
label_if None = []
label_if (Some identifier) = label identifier

-- the name of a member or of a property
abbrev pub member : List ℕ → List Mention
member name = mention.Member name ∷ []

-- an expression is the name `require`, without parentheses
abbrev pub is_require : Expr → Bool
is_require (IdentifierReference _ name) = bytes_eq name (codes "require")
is_require _ = false

-- the string that an expression is, asked for
abbrev pub asked_expr : Expr → List Mention
asked_expr (StringLiteral _ string) = mention.Required string.units ∷ []
asked_expr _ = []

-- the string that begins the arguments, asked for
abbrev pub asked_first : Exprs → List Mention
asked_first no_expr = []
asked_first (more_expr argument _) = asked_expr argument

-- what a call asks for
abbrev pub asked : Expr → Exprs → List Mention
asked callee arguments = if is_require callee then asked_first arguments else []

-- what an expression mentions itself
abbrev pub own_of_expr : Expr → List Mention
own_of_expr (IdentifierReference loc name) = variable loc name
own_of_expr (FunctionExpression _ name _) = own_name_if name
own_of_expr (NamedMember _ _ name) = member name
own_of_expr (Call _ callee arguments) = asked callee arguments
own_of_expr _ = []

-- what a statement mentions itself
abbrev pub own_of_stmt : Stmt → List Mention
own_of_stmt (Continue _ target) = label_if target
own_of_stmt (Break _ target) = label_if target
own_of_stmt (Labelled _ name _) = label name
own_of_stmt (FunctionDeclaration _ name _) = own_name name
own_of_stmt _ = []

-- what a part mentions itself; a shorthand refers to its name
abbrev pub own_mention : Unit {0} → Part → List Mention
own_mention _ (AnExpr expr) = own_of_expr expr
own_mention _ (AStmt stmt) = own_of_stmt stmt
own_mention _ (AProperty (Shorthand loc name)) = variable loc name
own_mention _ (APropertyKey (NameKey name)) = member name
own_mention _ (APattern (BindingIdentifier loc name)) = variable loc name
own_mention _ _ = []

-- nothing is told, and nothing is passed over
abbrev pub nothing_told : Unit {0} → Part → Option (Unit {0})
nothing_told _ _ = Some tt

-- of a file: those of its statements
abbrev pub mentions_file : File → List Mention
mentions_file file = walk_file own_mention nothing_told file tt
