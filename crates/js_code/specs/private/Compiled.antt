-- What compiling a part of a tree does.
use Rattle.std.specs.Prelude.{◌≡◌, ℕ, Bool, ◌<◌, List, [], ◌∷◌, ◌++◌, length, map, set, false, Option}
use Rattle.js_terms.specs.declared.place.Loc.{Loc}
use Rattle.js_terms.specs.declared.words.Identifier.{Identifier}
use Rattle.js_tree.specs.Plain as P
use Rattle.js_tree.specs.Codes as codes
use Rattle.js_tree.specs.Codes.{Code}
use Rattle.js_tree.specs.Linked.{Numbers, Linked, Unmarked}
use Rattle.js_tree.specs.Linked as linked
use Rattle.js_code.specs.declared.node.Node.{Node}
use Rattle.js_code.specs.Part.{Part, NoPart, AnExpr, AStmt, AProperty, APropertyKey, ATemplatePart, ACode, AParam, ADeclarator, ACase, ACatch, AForInit, AForTarget, AScope, ACaseScope, AnEntry, SomeExprs, SomeStmts, SomeProperties, SomeTemplateParts, SomeParams, SomeDeclarators, SomeCases, as_expr, as_params, as_stmts, end_of, before}
use Rattle.js_code.specs.declared.node.ListKind.{ListKind}
use Rattle.js_code.specs.Node.{Reader, build, of_method, PartsBelow, ScopeHolds}
use Rattle.js_code.specs.Code.{reader}
use Rattle.js_meaning.specs.declared.program.ProgramFile.{ProgramFile}
use Rattle.js_meaning.specs.Program.{Source, from, functions_of, link_sources, source_of, uncounted_source}
use Rattle.js_code.specs.declared.code.FileCode.{FileCode}
use Rattle.js_code.specs.Program.{ReadsFile}
use Rattle.js_code.specs.private.Push.{Compiling, Grows}

-- what holds where memory wasn't wanting
abbrev pub IfWhole : Compiling → Type 0 → Type 0
IfWhole code P = code.wanting ≡ false → P

-- what a step does unless memory is wanting, which the code tells from then on
pub record Kept (old new : Compiling) (P : Type 0) : Type 0 where
  pub whole : new.wanting ≡ false → old.wanting ≡ false
  pub kept : new.wanting ≡ false → P

-- a function's number is taken
pub record Reserved (old new : Compiling) (number : ℕ) : Type 0 where
  pub nodes : new.nodes ≡ old.nodes
  pub numbered : number ≡ length old.functions
  pub functions : new.functions ≡ old.functions ++ 0 ∷ []

-- the place of its code is told
pub record Noted (old new : Compiling) (number place : ℕ) : Type 0 where
  pub nodes : new.nodes ≡ old.nodes
  pub functions : new.functions ≡ set old.functions number place

-- a node stands at the end, which is read as a part by its own parts
pub record Pushed (old new : Compiling) (place : ℕ) (part : Reader → Part) : Type 0 where
  pub grows : Grows old.nodes new.nodes
  pub placed : place < length new.nodes
  pub read : reader new.nodes place ≡ part (reader old.nodes)
  pub functions : new.functions ≡ old.functions

-- a node at its place
pub record Stands (nodes : List Node) (place : ℕ) (node : Node) : Type 0 where
  pub read : reader nodes place ≡ build (reader nodes) node
  pub below : PartsBelow place node
  pub scope : ScopeHolds (reader nodes) node

abbrev pub built : Node → Reader → Part
built node t = build t node

-- at these places these codes are read
pub data AreCodes (nodes : List Node) : List ℕ → List Code → Type 0 where
  no_codes : AreCodes nodes [] []
  more_codes : (place : ℕ) (code : Code) (places : List ℕ) (codes : List Code) → place < length nodes → reader nodes place ≡ ACode code →
      AreCodes nodes places codes → AreCodes nodes (place ∷ places) (code ∷ codes)

-- the functions that came to the code
pub record Adds (old new : Compiling) (codes : List Code) : Type 0 where
  pub places : List ℕ
  pub is : new.functions ≡ old.functions ++ places
  pub are : AreCodes new.nodes places codes

-- a place reads as a tree with the numbers of its functions, and these come to the code
pub record Done {T : Type 0} (put : T → Part) (codes : T → List Code) (old new : Compiling) (place : ℕ) (x : Linked T) : Type 0 where
  pub read : reader new.nodes place ≡ put x.tree
  pub next : x.next.code ≡ length new.functions
  pub adds : Adds old new (codes x.tree)

-- functions are numbered from the next number on
pub record Compiled {T : Type 0} (put : T → Part) (codes : T → List Code) (old new : Compiling) (place : ℕ) (link : Numbers → Linked T) : Type 0 where
  pub grows : Grows old.nodes new.nodes
  pub placed : place < length new.nodes
  pub done : (k : Numbers) → k.code ≡ length old.functions → Done put codes old new place (link k)

-- a part that may be missing
abbrev pub expr_or : P.MaybeExpr → Part
expr_or P.none_expr = NoPart
expr_or (P.some_expr e) = AnExpr e

abbrev pub stmt_or : P.MaybeStmt → Part
stmt_or P.none_stmt = NoPart
stmt_or (P.some_stmt x) = AStmt x
stmt_or (P.entered_none mark) = AnEntry mark

pub record CompilesExpr (old new : Compiling) (place : ℕ) (e : P.Expr) : Type 0 where
  pub compiled : (chain : linked.Chain) → Compiled AnExpr codes.functions_expr old new place (linked.link_expr Unmarked chain e)

pub record CompilesExprs (old new : Compiling) (place : ℕ) (x : P.Exprs) : Type 0 where
  pub compiled : Compiled SomeExprs codes.functions_exprs old new place (linked.link_exprs Unmarked x)

pub record CompilesExprIf (old new : Compiling) (place : ℕ) (x : P.MaybeExpr) : Type 0 where
  pub compiled : Compiled expr_or codes.functions_expr_if old new place (linked.link_expr_if Unmarked x)

pub record CompilesTemplatePart (old new : Compiling) (place : ℕ) (x : P.TemplatePart) : Type 0 where
  pub compiled : Compiled ATemplatePart codes.functions_template_part old new place (linked.link_template_part Unmarked x)

pub record CompilesTemplateParts (old new : Compiling) (place : ℕ) (x : P.TemplateParts) : Type 0 where
  pub compiled : Compiled SomeTemplateParts codes.functions_template_parts old new place (linked.link_template_parts Unmarked x)

pub record CompilesProperty (old new : Compiling) (place : ℕ) (x : P.Property) : Type 0 where
  pub compiled : Compiled AProperty codes.functions_property old new place (linked.link_property Unmarked x)

pub record CompilesProperties (old new : Compiling) (place : ℕ) (x : P.Properties) : Type 0 where
  pub compiled : Compiled SomeProperties codes.functions_properties old new place (linked.link_properties Unmarked x)

pub record CompilesPropertyKey (old new : Compiling) (place : ℕ) (x : P.PropertyKey) : Type 0 where
  pub compiled : Compiled APropertyKey codes.functions_property_key old new place (linked.link_property_key Unmarked x)

pub record CompilesParam (old new : Compiling) (place : ℕ) (x : P.Param) : Type 0 where
  pub compiled : Compiled AParam codes.functions_param old new place (linked.link_param Unmarked x)

pub record CompilesParams (old new : Compiling) (place : ℕ) (x : P.Params) : Type 0 where
  pub compiled : Compiled SomeParams codes.functions_params old new place (linked.link_params Unmarked x)

pub record CompilesStmt (old new : Compiling) (place : ℕ) (x : P.Stmt) : Type 0 where
  pub compiled : Compiled AStmt codes.functions_stmt old new place (linked.link_stmt Unmarked x)

pub record CompilesStmts (old new : Compiling) (place : ℕ) (x : P.Stmts) : Type 0 where
  pub compiled : Compiled SomeStmts codes.functions_stmts old new place (linked.link_stmts Unmarked x)

pub record CompilesStmtIf (old new : Compiling) (place : ℕ) (x : P.MaybeStmt) : Type 0 where
  pub compiled : Compiled stmt_or codes.functions_stmt_if old new place (linked.link_stmt_if Unmarked x)

pub record CompilesDeclarator (old new : Compiling) (place : ℕ) (x : P.Declarator) : Type 0 where
  pub compiled : Compiled ADeclarator codes.functions_declarator old new place (linked.link_declarator Unmarked x)

pub record CompilesDeclarators (old new : Compiling) (place : ℕ) (x : P.Declarators) : Type 0 where
  pub compiled : Compiled SomeDeclarators codes.functions_declarators old new place (linked.link_declarators Unmarked x)

pub record CompilesCase (old new : Compiling) (place : ℕ) (x : P.Case) : Type 0 where
  pub compiled : Compiled ACase codes.functions_case old new place (linked.link_case Unmarked x)

pub record CompilesCases (old new : Compiling) (place : ℕ) (x : P.Cases) : Type 0 where
  pub compiled : Compiled SomeCases codes.functions_cases old new place (linked.link_cases Unmarked linked.Uncounted 0 x)

-- the same as scopes of their own
pub record CompilesScope (old new : Compiling) (place : ℕ) (x : P.Stmts) : Type 0 where
  pub compiled : Compiled AScope codes.functions_stmts old new place (linked.link_stmts Unmarked x)

pub record CompilesCaseScope (old new : Compiling) (place : ℕ) (x : P.Cases) : Type 0 where
  pub compiled : Compiled ACaseScope codes.functions_cases old new place (linked.link_cases Unmarked linked.Uncounted 0 x)

pub record CompilesCatch (old new : Compiling) (place : ℕ) (x : P.Catch) : Type 0 where
  pub compiled : Compiled ACatch codes.functions_catch old new place (linked.link_catch Unmarked x)

pub record CompilesForInit (old new : Compiling) (place : ℕ) (x : P.ForInit) : Type 0 where
  pub compiled : Compiled AForInit codes.functions_for_init old new place (linked.link_for_init Unmarked x)

pub record CompilesForTarget (old new : Compiling) (place : ℕ) (x : P.ForTarget) : Type 0 where
  pub compiled : Compiled AForTarget codes.functions_for_target old new place (linked.link_for_target Unmarked x)

abbrev pub an_ordinary : P.Function → Part
an_ordinary function = ACode (codes.Ordinary function)

-- wherever it stands, and whatever its name
pub record CompilesFunction (old new : Compiling) (place : ℕ) (f : P.Function) : Type 0 where
  pub compiled : (loc : Option Loc) (name : Option Identifier) → Compiled an_ordinary codes.functions_function old new place (linked.link_function Unmarked loc name f)

-- what the code of a function or a method reads as
abbrev pub code_part : Bool → ℕ → ℕ → Option Loc → ℕ → Reader → Part
code_part is_method number params loc body t = ACode (of_method is_method (P.MakeFunction number (as_params (t params)) (P.MakeFunctionBody loc (as_stmts (t body)))))

-- and those of arrow functions
abbrev pub arrow_expression_part : ℕ → ℕ → ℕ → Reader → Part
arrow_expression_part number params body t = ACode (codes.Arrow number (as_params (t params)) (P.ExpressionBody (as_expr (t body))))

abbrev pub arrow_block_part : ℕ → ℕ → Option Loc → ℕ → Reader → Part
arrow_block_part number params loc body t = ACode (codes.Arrow number (as_params (t params)) (P.BlockBody (P.MakeFunctionBody loc (as_stmts (t body)))))

-- Lists

-- a list of the parts at some places
abbrev pub chained : Reader → ListKind → List ℕ → Part
chained t kind [] = end_of kind
chained t kind (place ∷ places) = before kind (t place) (chained t kind places)

abbrev pub AllBelow : ℕ → List ℕ → Type 0
AllBelow n [] = Unit {0}
AllBelow n (place ∷ places) = (place < n) × AllBelow n places

-- it stands at the end
pub record Chained (old new : Compiling) (kind : ListKind) (places : List ℕ) (place : ℕ) : Type 0 where
  pub grows : Grows old.nodes new.nodes
  pub placed : place < length new.nodes
  pub read : reader new.nodes place ≡ chained (reader old.nodes) kind places
  pub functions : new.functions ≡ old.functions

-- what the list functions are about: a kind of part, the list of such parts, and how one is put in front of others
pub record Kind (T L : Type 0) : Type 0 where
  pub put : T → Part
  pub puts : L → Part
  pub codes : T → List Code
  pub all_codes : L → List Code
  pub more : T → L → L
  pub none : L
  pub kind : ListKind

abbrev pub all_before : {T L : Type 0} → Kind T L → List T → L → L
all_before k [] xs = xs
all_before k (x ∷ xs) ys = k.more x (all_before k xs ys)

abbrev pub codes_of : {T L : Type 0} → Kind T L → List T → List Code
codes_of k [] = []
codes_of k (x ∷ xs) = k.codes x ++ codes_of k xs

-- at these places there are these parts
pub data AreParts {T : Type 0} (put : T → Part) (nodes : List Node) : List ℕ → List T → Type 0 where
  no_parts : AreParts put nodes [] []
  more_parts : (place : ℕ) (x : T) (places : List ℕ) (xs : List T) → place < length nodes → reader nodes place ≡ put x →
      AreParts put nodes places xs → AreParts put nodes (place ∷ places) (x ∷ xs)

-- the first parts of a list are compiled: what is left gives the whole
pub record Progress {T L : Type 0} (kind : Kind T L) (old new : Compiling) (places : List ℕ) (whole : Linked L) (left : Numbers → Linked L) : Type 0 where
  pub parts : List T
  pub are : AreParts kind.put new.nodes places parts
  pub next : Numbers
  pub counted : next.code ≡ length new.functions
  pub adds : Adds old new (codes_of kind parts)
  pub tree : whole.tree ≡ all_before kind parts (left next).tree
  pub after : whole.next ≡ (left next).next

pub record Lists {T L : Type 0} (kind : Kind T L) (old new : Compiling) (places : List ℕ) (whole left : Numbers → Linked L) : Type 0 where
  pub grows : Grows old.nodes new.nodes
  pub progress : (k : Numbers) → k.code ≡ length old.functions → Progress kind old new places (whole k) left

-- Places that are read as lists with some numbers of their functions

pub record Reads (nodes : List Node) (place : ℕ) (link : Numbers → Part) : Type 0 where
  pub placed : place < length nodes
  pub numbers : Numbers
  pub read : reader nodes place ≡ link numbers

abbrev pub ReadsStmts : List Node → ℕ → P.Stmts → Type 0
ReadsStmts nodes place xs = Reads nodes place (λ k. SomeStmts (linked.link_stmts Unmarked xs k).tree)

abbrev pub ReadsCases : List Node → ℕ → P.Cases → Type 0
ReadsCases nodes place xs = Reads nodes place (λ k. SomeCases (linked.link_cases Unmarked linked.Uncounted 0 xs k).tree)

abbrev pub ReadsDeclarators : List Node → ℕ → P.Declarators → Type 0
ReadsDeclarators nodes place xs = Reads nodes place (λ k. SomeDeclarators (linked.link_declarators Unmarked xs k).tree)

abbrev pub ReadsParams : List Node → ℕ → P.Params → Type 0
ReadsParams nodes place xs = Reads nodes place (λ k. SomeParams (linked.link_params Unmarked xs k).tree)

-- Files

-- these files are read
pub data AreFiles (nodes : List Node) : List FileCode → List Source → Type 0 where
  no_files : AreFiles nodes [] []
  more_files : (file : FileCode) (source : Source) (files : List FileCode) (sources : List Source) → ReadsFile nodes file source →
      AreFiles nodes files sources → AreFiles nodes (file ∷ files) (source ∷ sources)

-- a file with the numbers of its functions
abbrev pub linked_source : Source → ℕ → Source
linked_source source code = record source { tree = (linked.link_file Unmarked source.tree (from code)).tree }

pub record CompiledFile (old new : Compiling) (file : FileCode) (source : Source) : Type 0 where
  pub grows : Grows old.nodes new.nodes
  pub reads : ReadsFile new.nodes file (linked_source source (length old.functions))
  pub next : (linked.link_file Unmarked source.tree (from (length old.functions))).next.code ≡ length new.functions
  pub adds : Adds old new (codes.functions_file (linked_source source (length old.functions)).tree)

-- some files
pub record CompiledFiles (old new : Compiling) (files : List FileCode) (sources : List Source) : Type 0 where
  pub grows : Grows old.nodes new.nodes
  pub are : AreFiles new.nodes files sources
  pub adds : Adds old new (functions_of sources)

abbrev pub sources_from : List ProgramFile → ℕ → ℕ → List Source
sources_from files index n = link_sources (map uncounted_source (map source_of files)) index n

-- the first files are compiled: with what is left they give the whole
pub record FilesSoFar (old now : Compiling) (files : List FileCode) (whole : List Source) (left : ℕ → List Source) : Type 0 where
  pub done : List Source
  pub compiled : CompiledFiles old now files done
  pub is : whole ≡ done ++ left (length now.functions)
