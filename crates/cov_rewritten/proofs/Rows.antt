-- Worked rows: the texts of rewritten trees, without the preamble, and that of a preamble.
use Rattle.std.specs.Prelude.{◌≡◌, ℕ, List, [], ◌∷◌, ◌++◌, Option, Some, None, codes, refl}
use Rattle.std.specs.Fmt.{digits}
use Rattle.std.specs.Str.{chars}
use Rattle.unicode_ident.proofs.Computing.{unicode_ident}
use Rattle.js_terms.specs.declared.place.Loc.{Loc}
use Rattle.js_terms.specs.declared.construct.ConstructKind.TheVariants as construct_kind
use Rattle.js_terms.specs.declared.words.Identifier.{Identifier}
use Rattle.js_terms.specs.declared.operators.VariableKind.TheVariants as variable
use Rattle.js_terms.specs.declared.operators.LogicalOperator.TheVariants as logic
use Rattle.js_tree.specs.Plain.{Expr, IdentifierReference, NumericLiteral, FunctionExpression, ArrowFunction, ObjectLiteral, Parenthesized, NamedMember, Call, Logical, Conditional}
use Rattle.js_tree.specs.Plain.{Stmt, Block, VariableDeclaration, Expression, If, While, For, Continue, Return, Switch, Labelled, Throw, FunctionDeclaration, Empty, InitDeclaration}
use Rattle.js_tree.specs.Plain.{ExpressionBody, MakeFunction, MakeFunctionBody, MakeParam, MakeDeclarator, MakeCase, BindingIdentifier, no_property, none_expr, some_expr, none_stmt, entered_none, no_expr, more_expr, no_param, more_param, Stmts, no_stmt, more_stmt, Declarator, Declarators, no_declarator, more_declarator, no_case, more_case, MakeFile}
use Rattle.js_tree.specs.Linked.{Numbers, Marked, link_file}
use Rattle.js_text.specs.Character.{continues_identifier}
use Rattle.js_layout.specs.Layout.{layout}
use Rattle.cov_rewritten.specs.Counters.{counter, quoted}
use Rattle.cov_rewritten.specs.Rewritten.{rewritten_file}
use Rattle.cov_rewritten.specs.Preamble.{preamble_of}

abbrev l : Option Loc
l = Some (record { start = record { line = 1; column = 0 }; end = record { line = 1; column = 1 } })

abbrev start : Numbers
start = record { code = 0; counts = record { statements = 0; functions = 0; branches = 0 } }

abbrev text : Stmts → List ℕ
text xs = layout (rewritten_file (counter (codes "N")) (λ n. 0) no_stmt (link_file (Marked 0) (MakeFile xs []) start).tree)

abbrev lines : List (List ℕ) → List ℕ
lines [] = []
lines (x ∷ xs) = x ++ 0x0A ∷ lines xs

abbrev quote : List ℕ → List ℕ
quote w = 0x22 ∷ (w ++ 0x22 ∷ [])

abbrev name : List ℕ → Expr
name w = IdentifierReference l w

abbrev number : List ℕ → Expr
number w = NumericLiteral l w

abbrev called : Expr → Stmts → Stmts
called e xs = more_stmt (Expression l (Call l e no_expr)) xs

abbrev does : Expr → Stmts → Stmts
does e xs = more_stmt (Expression l e) xs

abbrev is : List ℕ → Expr → Declarator
is w e = MakeDeclarator l (BindingIdentifier l w) (some_expr e)

abbrev only : Declarator → Declarators
only d = more_declarator d no_declarator

abbrev arrow : Expr → Expr
arrow e = ArrowFunction l 0 no_param (ExpressionBody e)

abbrev id : List ℕ → Identifier
id w = record { loc = l; name = w }

abbrev function : Stmts → Expr
function xs = FunctionExpression l None (MakeFunction 0 no_param (MakeFunctionBody l xs))

-- var x = 0; if (x) print(1);
row_4 : text (more_stmt (VariableDeclaration l variable.Var (only (is (codes "x") (number (codes "0")))))
    (more_stmt (If l (name (codes "x")) (Expression l (Call l (name (codes "print")) (more_expr (number (codes "1")) no_expr))) none_stmt) no_stmt))
    ≡ lines (codes "var x=(N().s[0]++,0);" ∷ codes "N().s[1]++;" ∷ codes "if(x){" ∷ codes "N().b[0][0]++;" ∷ codes "N().s[2]++;" ∷ codes "print(1);" ∷ codes "}" ∷ codes "else{" ∷ codes "N().b[0][1]++;" ∷ codes "}" ∷ [])
unfolding chars continues_identifier unicode_ident digits
row_4 = refl

-- let f = () => 1;
row_5 : text (more_stmt (VariableDeclaration l variable.Let (only (is (codes "f") (arrow (number (codes "1")))))) no_stmt)
    ≡ lines (codes "N().s[0]++;" ∷ codes "let f=()=>{" ∷ codes "N().f[0]++;" ∷ codes "N().s[1]++;" ∷ codes "return 1;" ∷ codes "}" ∷ codes ";" ∷ [])
unfolding chars continues_identifier unicode_ident digits
row_5 = refl

-- let f = function () {}; print(f.name);
row_5a : text (more_stmt (VariableDeclaration l variable.Let (only (is (codes "f") (function no_stmt)))) (does (Call l (name (codes "print")) (more_expr (NamedMember l (name (codes "f")) (codes "name")) no_expr)) no_stmt))
    ≡ lines (codes "N().s[0]++;" ∷ codes "let f=function(){" ∷ codes "N().f[0]++;" ∷ codes "}" ∷ codes ";" ∷ codes "N().s[1]++;" ∷ codes "print(f.name);" ∷ [])
unfolding chars continues_identifier unicode_ident digits
row_5a = refl

-- function boom() { throw 1; } let a = boom(), f = () => 1;
row_6 : text (more_stmt (FunctionDeclaration l (id (codes "boom")) (MakeFunction 0 no_param (MakeFunctionBody l (more_stmt (Throw l (number (codes "1"))) no_stmt))))
    (more_stmt (VariableDeclaration l variable.Let (more_declarator (is (codes "a") (Call l (name (codes "boom")) no_expr)) (only (is (codes "f") (arrow (number (codes "1"))))))) no_stmt))
    ≡ lines (codes "function boom(){" ∷ codes "N().f[0]++;" ∷ codes "N().s[0]++;" ∷ codes "throw 1;" ∷ codes "}"
    ∷ (codes "let a=(N().s[1]++,boom()),f=(N().s[2]++,{[" ++ quote (codes "f") ++ codes "]:()=>{") ∷ codes "N().f[1]++;" ∷ codes "N().s[3]++;" ∷ codes "return 1;" ∷ codes "}" ∷ (codes "}[" ++ quote (codes "f") ++ codes "]);") ∷ [])
unfolding chars continues_identifier unicode_ident digits
row_6 = refl

-- l: while (x) { continue l; }
row_24 : text (more_stmt (Labelled l (id (codes "l")) (While l (name (codes "x")) (Block l (more_stmt (Continue l (Some (id (codes "l")))) no_stmt)))) no_stmt)
    ≡ lines (codes "N().s[0]++;" ∷ codes "N().s[1]++;" ∷ codes "l:while(x){" ∷ codes "N().s[2]++;" ∷ codes "continue l;" ∷ codes "}" ∷ [])
unfolding chars continues_identifier unicode_ident digits
row_24 = refl

-- function h(g = () => 1) { return g.name; }
row_9_1 : text (more_stmt (FunctionDeclaration l (id (codes "h")) (MakeFunction 0 (more_param (MakeParam l (BindingIdentifier l (codes "g")) (some_expr (arrow (number (codes "1"))))) no_param)
    (MakeFunctionBody l (more_stmt (Return l (some_expr (NamedMember l (name (codes "g")) (codes "name")))) no_stmt)))) no_stmt)
    ≡ lines ((codes "function h(g=(N().b[0][0]++,{[" ++ quote (codes "g") ++ codes "]:()=>{") ∷ codes "N().f[1]++;" ∷ codes "N().s[0]++;" ∷ codes "return 1;" ∷ codes "}" ∷ (codes "}[" ++ quote (codes "g") ++ codes "])){")
    ∷ codes "N().f[0]++;" ∷ codes "N().s[1]++;" ∷ codes "return g.name;" ∷ codes "}" ∷ [])
unfolding chars continues_identifier unicode_ident digits
row_9_1 = refl

-- switch (1) { case 1: default: f(); }
row_9_2 : text (more_stmt (Switch l (number (codes "1")) (more_case (MakeCase l (some_expr (number (codes "1"))) no_stmt) (more_case (MakeCase l none_expr (called (name (codes "f")) no_stmt)) no_case))) no_stmt)
    ≡ lines (codes "N().s[0]++;" ∷ codes "switch(1){" ∷ codes "case 1:N().b[0][0]++;" ∷ codes "default:N().b[0][1]++;" ∷ codes "N().s[1]++;" ∷ codes "f();" ∷ codes "}" ∷ [])
unfolding chars continues_identifier unicode_ident digits
row_9_2 = refl

-- x ? a : b;
row_9_3 : text (does (Conditional l (name (codes "x")) (name (codes "a")) (name (codes "b"))) no_stmt)
    ≡ lines (codes "N().s[0]++;" ∷ codes "x?(N().b[0][0]++,a):(N().b[0][1]++,b);" ∷ [])
unfolding chars continues_identifier unicode_ident digits
row_9_3 = refl

-- a && (b || c);
row_chain : text (does (Logical l logic.And (name (codes "a")) (Parenthesized l (Logical l logic.Or (name (codes "b")) (name (codes "c"))))) no_stmt)
    ≡ lines (codes "N().s[0]++;" ∷ codes "(N().b[0][0]++,a)&&((N().b[0][1]++,b)||(N().b[0][2]++,c));" ∷ [])
unfolding chars continues_identifier unicode_ident digits
row_chain = refl

-- while (x) l: a();
row_body : text (more_stmt (While l (name (codes "x")) (Labelled l (id (codes "l")) (Expression l (Call l (name (codes "a")) no_expr)))) no_stmt)
    ≡ lines (codes "N().s[0]++;" ∷ codes "while(x){" ∷ codes "N().s[1]++;" ∷ codes "N().s[2]++;" ∷ codes "l:a();" ∷ codes "}" ∷ [])
unfolding chars continues_identifier unicode_ident digits
row_body = refl

-- for (let i = 0, f = () => 1; ; ) ;
row_for : text (more_stmt (For l (InitDeclaration variable.Let (more_declarator (is (codes "f") (function no_stmt)) (only (is (codes "i") (number (codes "0")))))) none_expr none_expr (Empty l)) no_stmt)
    ≡ lines (codes "N().s[0]++;" ∷ (codes "for(let f=(N().s[1]++,{[" ++ quote (codes "f") ++ codes "]:function(){") ∷ codes "N().f[0]++;" ∷ codes "}" ∷ (codes "}[" ++ quote (codes "f") ++ codes "]),i=(N().s[2]++,0);;);") ∷ [])
unfolding chars continues_identifier unicode_ident digits
row_for = refl

-- the preamble, for the path p and the hash h
row_preamble : layout (MakeFile (preamble_of (codes "N") (quoted (codes "p")) (quoted (codes "h")) (ObjectLiteral None no_property)) [])
    ≡ lines (codes "function N(){" ∷ (codes "var path=" ++ quote (codes "p") ++ codes ";") ∷ (codes "var hash=" ++ quote (codes "h") ++ codes ";") ∷ (codes "var gcv=" ++ quote (codes "__coverage__") ++ codes ";")
    ∷ codes "var data={};" ∷ codes "var global=globalThis;" ∷ codes "var coverage=global[gcv]||(global[gcv]={});" ∷ codes "if(!coverage[path]||coverage[path].hash!==hash){" ∷ codes "coverage[path]=data;" ∷ codes "}"
    ∷ codes "var actual=coverage[path];" ∷ codes "N=function(){" ∷ codes "return actual;" ∷ codes "}" ∷ codes ";" ∷ codes "return actual;" ∷ codes "}" ∷ codes "N();" ∷ [])
unfolding chars continues_identifier unicode_ident digits
row_preamble = refl

-- ---- where initializers are held and not hoisted

abbrev declares : List ℕ → Expr → Stmt
declares w e = VariableDeclaration l variable.Var (only (is w e))

-- l: var f = function () {};
row_label : text (more_stmt (Labelled l (id (codes "l")) (declares (codes "f") (function no_stmt))) no_stmt)
    ≡ lines (codes "N().s[0]++;" ∷ (codes "l:var f=(N().s[1]++,{[" ++ quote (codes "f") ++ codes "]:function(){") ∷ codes "N().f[0]++;" ∷ codes "}" ∷ (codes "}[" ++ quote (codes "f") ++ codes "]);") ∷ [])
unfolding chars continues_identifier unicode_ident digits
row_label = refl

-- if (x) var f = function () {};
row_arm : text (more_stmt (If l (name (codes "x")) (declares (codes "f") (function no_stmt)) none_stmt) no_stmt)
    ≡ lines (codes "N().s[0]++;" ∷ codes "if(x){" ∷ codes "N().b[0][0]++;" ∷ (codes "var f=(N().s[1]++,{[" ++ quote (codes "f") ++ codes "]:function(){") ∷ codes "N().f[0]++;" ∷ codes "}" ∷ (codes "}[" ++ quote (codes "f") ++ codes "]);") ∷ codes "}"
    ∷ codes "else{" ∷ codes "N().b[0][1]++;" ∷ codes "}" ∷ [])
unfolding chars continues_identifier unicode_ident digits
row_arm = refl

-- switch (x) { default: var f = function () {}; }
row_clause : text (more_stmt (Switch l (name (codes "x")) (more_case (MakeCase l none_expr (more_stmt (declares (codes "f") (function no_stmt)) no_stmt)) no_case)) no_stmt)
    ≡ lines (codes "N().s[0]++;" ∷ codes "switch(x){" ∷ codes "default:N().b[0][0]++;" ∷ (codes "var f=(N().s[1]++,{[" ++ quote (codes "f") ++ codes "]:function(){") ∷ codes "N().f[0]++;" ∷ codes "}" ∷ (codes "}[" ++ quote (codes "f") ++ codes "]);") ∷ codes "}" ∷ [])
unfolding chars continues_identifier unicode_ident digits
row_clause = refl

-- { var f = (function () {}); }
row_block : text (more_stmt (Block l (more_stmt (declares (codes "f") (Parenthesized l (function no_stmt))) no_stmt)) no_stmt)
    ≡ lines (codes "{" ∷ codes "N().s[0]++;" ∷ codes "var f=function(){" ∷ codes "N().f[0]++;" ∷ codes "}" ∷ codes ";" ∷ codes "}" ∷ [])
unfolding chars continues_identifier unicode_ident digits
row_block = refl

-- one arm has no path, as where a hint takes it out: if (x) if (y) a(); and the missing `else` of the outer one counts
row_dangling : layout (rewritten_file (counter (codes "N")) (λ n. 0) no_stmt (MakeFile (more_stmt
    (If l (name (codes "x")) (If l (name (codes "y")) (Expression l (Call l (name (codes "a")) no_expr)) none_stmt) (entered_none (record { file = 0; kind = construct_kind.Branch; number = 0; path = 0 }))) no_stmt) []))
    ≡ lines (codes "if(x){" ∷ codes "if(y)a();" ∷ codes "}" ∷ codes "else{" ∷ codes "N().b[0][0]++;" ∷ codes "}" ∷ [])
unfolding chars continues_identifier unicode_ident digits
row_dangling = refl
