-- Two readers that read the parts of a node alike make the same of it.
use Rattle.std.proofs.Common.{◌≡◌, ℕ, ◌<◌, refl, ap, ◌∙◌}
use Rattle.js_tree.specs.Plain as P
use Rattle.js_meaning.specs.Scopes.{expected_arguments, lexical_names, bound_names, is_fresh, cases_stmts}
use Rattle.js_code.specs.declared.node.Node.{Node}
use Rattle.js_code.specs.declared.node.Node.TheVariants as node
use Rattle.js_code.specs.Part.{as_stmts, as_cases, as_declarators, as_params}
use Rattle.js_code.specs.Scopes.{block_names, code_names}
use Rattle.js_code.specs.Node.{Reader, build, PartsBelow, ScopeHolds}

-- two readers read alike below a place
abbrev pub Same : Reader → Reader → ℕ → Type 0
Same t u i = (a : ℕ) → a < i → t a ≡ u a

pub build_same : (t u : Reader) (i : ℕ) (node : Node) → Same t u i → PartsBelow i node → build t node ≡ build u node
build_same t u i (node.ArrayLiteral loc items) h p = let e0 = h items p in cc
build_same t u i (node.ObjectLiteral loc properties) h p = let e0 = h properties p in cc
build_same t u i (node.FunctionExpression loc name function) h p = let e0 = h function p in cc
build_same t u i (node.ArrowFunction loc function) h p = let e0 = h function p in cc
build_same t u i (node.TemplateLiteral loc text parts) h p = let e0 = h parts p in cc
build_same t u i (node.Parenthesized loc inner) h p = let e0 = h inner p in cc
build_same t u i (node.NamedMember loc object name) h p = let e0 = h object p in cc
build_same t u i (node.ComputedMember loc object key) h p = let e0 = h object (p.0) in let e1 = h key (p.1) in cc
build_same t u i (node.New loc constructor arguments) h p = let e0 = h constructor (p.0) in let e1 = h arguments (p.1) in cc
build_same t u i (node.Call loc callee arguments) h p = let e0 = h callee (p.0) in let e1 = h arguments (p.1) in cc
build_same t u i (node.PostfixUpdate loc operator target) h p = let e0 = h target p in cc
build_same t u i (node.PrefixUpdate loc operator target) h p = let e0 = h target p in cc
build_same t u i (node.Unary loc operator operand) h p = let e0 = h operand p in cc
build_same t u i (node.Binary loc operator left right) h p = let e0 = h left (p.0) in let e1 = h right (p.1) in cc
build_same t u i (node.Logical loc operator left right) h p = let e0 = h left (p.0) in let e1 = h right (p.1) in cc
build_same t u i (node.Conditional loc test holds fails) h p = let e0 = h test (p.0) in let e1 = h holds (p.1) in let e2 = h fails (p.2) in cc
build_same t u i (node.Assignment loc operator target value) h p = let e0 = h target (p.0) in let e1 = h value (p.1) in cc
build_same t u i (node.Comma loc left right) h p = let e0 = h left (p.0) in let e1 = h right (p.1) in cc
build_same t u i (node.TemplatePart value text) h p = let e0 = h value p in cc
build_same t u i (node.KeyValue loc key value) h p = let e0 = h key (p.0) in let e1 = h value (p.1) in cc
build_same t u i (node.Method loc key function) h p = let e0 = h key (p.0) in let e1 = h function (p.1) in cc
build_same t u i (node.ComputedKey value) h p = let e0 = h value p in cc
build_same t u i (node.Function is_method number length scope params body_loc body) h p = let e0 = h params (p.0) in let e1 = h body (p.1) in cc
build_same t u i (node.ArrowExpression number length scope params value) h p = let e0 = h params (p.0) in let e1 = h value (p.1) in cc
build_same t u i (node.ArrowBlock number length scope params body_loc body) h p = let e0 = h params (p.0) in let e1 = h body (p.1) in cc
build_same t u i (node.Param loc name_loc name default) h p = let e0 = h default p in cc
build_same t u i (node.Block loc statements) h p = let e0 = h statements p in cc
build_same t u i (node.VariableDeclaration loc kind declarators) h p = let e0 = h declarators p in cc
build_same t u i (node.Expression loc expression) h p = let e0 = h expression p in cc
build_same t u i (node.If loc test holds fails) h p = let e0 = h test (p.0) in let e1 = h holds (p.1) in let e2 = h fails (p.2) in cc
build_same t u i (node.DoWhile loc body test) h p = let e0 = h body (p.0) in let e1 = h test (p.1) in cc
build_same t u i (node.While loc test body) h p = let e0 = h test (p.0) in let e1 = h body (p.1) in cc
build_same t u i (node.For loc init test update body) h p = let e0 = h init (p.0) in let e1 = h test (p.1) in let e2 = h update (p.2) in let e3 = h body (p.3) in cc
build_same t u i (node.ForIn loc target object body) h p = let e0 = h target (p.0) in let e1 = h object (p.1) in let e2 = h body (p.2) in cc
build_same t u i (node.ForOf loc target iterable body) h p = let e0 = h target (p.0) in let e1 = h iterable (p.1) in let e2 = h body (p.2) in cc
build_same t u i (node.Return loc value) h p = let e0 = h value p in cc
build_same t u i (node.Switch loc value cases) h p = let e0 = h value (p.0) in let e1 = h cases (p.1) in cc
build_same t u i (node.Labelled loc label body) h p = let e0 = h body p in cc
build_same t u i (node.Throw loc value) h p = let e0 = h value p in cc
build_same t u i (node.TryCatch loc block catch) h p = let e0 = h block (p.0) in let e1 = h catch (p.1) in cc
build_same t u i (node.TryFinally loc block last) h p = let e0 = h block (p.0) in let e1 = h last (p.1) in cc
build_same t u i (node.TryCatchFinally loc block catch last) h p = let e0 = h block (p.0) in let e1 = h catch (p.1) in let e2 = h last (p.2) in cc
build_same t u i (node.FunctionDeclaration loc name function) h p = let e0 = h function p in cc
build_same t u i (node.Declarator loc name_loc name initializer) h p = let e0 = h initializer p in cc
build_same t u i (node.InitDeclaration kind names fresh declarators) h p = let e0 = h declarators p in cc
build_same t u i (node.InitExpression expression) h p = let e0 = h expression p in cc
build_same t u i (node.TargetExpression expression) h p = let e0 = h expression p in cc
build_same t u i (node.Case loc test statements) h p = let e0 = h test (p.0) in let e1 = h statements (p.1) in cc
build_same t u i (node.Catch statements) h p = let e0 = h statements p in cc
build_same t u i (node.CatchName name_loc name statements) h p = let e0 = h statements p in cc
build_same t u i (node.Scope scope statements) h p = let e0 = h statements p in cc
build_same t u i (node.CaseScope scope cases) h p = let e0 = h cases p in cc
build_same t u i (node.More kind first rest) h p = let e0 = h first (p.0) in let e1 = h rest (p.1) in cc
build_same t u i _ h p = refl

pub scope_same : (t u : Reader) (i : ℕ) (node : Node) → Same t u i → PartsBelow i node → ScopeHolds t node → ScopeHolds u node
scope_same t u i (node.Scope scope statements) h p s = s ∙ ap (λ x. block_names (as_stmts x)) (h statements p)
scope_same t u i (node.CaseScope scope cases) h p s = s ∙ ap (λ x. block_names (cases_stmts (as_cases x))) (h cases p)
scope_same t u i (node.InitDeclaration kind names fresh declarators) h p s =
    (s.0 ∙ ap (λ x. lexical_names kind (bound_names (as_declarators x))) (h declarators p), s.1 ∙ ap (λ x. is_fresh (P.InitDeclaration kind (as_declarators x))) (h declarators p))
scope_same t u i (node.Function is_method number length scope params body_loc body) h p s = (
  s.0 ∙ ap (λ x. expected_arguments (as_params x)) (h params p.0),
  s.1 ∙ ap (λ x. code_names (as_params x) (as_stmts (t body))) (h params p.0) ∙ ap (λ x. code_names (as_params (u params)) (as_stmts x)) (h body p.1),
)
scope_same t u i (node.ArrowExpression number length scope params value) h p s =
    (s.0 ∙ ap (λ x. expected_arguments (as_params x)) (h params p.0), s.1 ∙ ap (λ x. code_names (as_params x) P.no_stmt) (h params p.0))
scope_same t u i (node.ArrowBlock number length scope params body_loc body) h p s = (
  s.0 ∙ ap (λ x. expected_arguments (as_params x)) (h params p.0),
  s.1 ∙ ap (λ x. code_names (as_params x) (as_stmts (t body))) (h params p.0) ∙ ap (λ x. code_names (as_params (u params)) (as_stmts x)) (h body p.1),
)
scope_same t u i _ h p s = s
