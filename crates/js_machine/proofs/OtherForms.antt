-- What the other nodes do where some are told apart.
use Rattle.std.proofs.Common.{◌≡◌, ℕ, List, refl}
use Rattle.js_value.specs.Iterations.{Iteration}
use Rattle.js_code.specs.declared.node.Node.{Node}
use Rattle.js_code.specs.declared.node.Node.TheVariants as node
use Rattle.js_code.specs.declared.node.ListKind.{ListKind}
use Rattle.js_code.specs.declared.node.ListKind.TheVariants as list
use Rattle.js_code.specs.Node.{Reader, build}
use Rattle.js_code.specs.Part.{Part, as_expr, as_stmt, before, end_of}
use Rattle.js_meaning.specs.Effects.{Comp}
use Rattle.js_meaning.specs.Program.{Sources}
use Rattle.js_meaning.specs.Meaning as M
use Rattle.js_machine.specs.private.Config.{View, again}
use Rattle.js_machine.proofs.NotThese.{NotBlock, NotVariableDeclaration, NotExpression, NotIf, NotDoWhile, NotWhile, NotFor, NotForIn, NotForOf, NotContinue, NotBreak, NotReturn, NotSwitch, NotLabelled, NotThrow, NotTryCatch, NotTryFinally, NotTryCatchFinally, NotIdentifierReference, NotNamedMember, NotComputedMember, NotParenthesized, NotFunctionExpression, NotArrowFunction}

-- statements that do nothing
else_stmt_end : (p : Sources) (labels : List (List ℕ)) (env : ℕ) (kind : ListKind) → M.comp_stmt p (as_stmt (end_of kind)) labels env ≡ M.done
else_stmt_end p labels env list.Exprs = refl
else_stmt_end p labels env list.Stmts = refl
else_stmt_end p labels env list.Properties = refl
else_stmt_end p labels env list.TemplateParts = refl
else_stmt_end p labels env list.Params = refl
else_stmt_end p labels env list.Declarators = refl
else_stmt_end p labels env list.Cases = refl

else_stmt_more : (p : Sources) (labels : List (List ℕ)) (env : ℕ) (kind : ListKind) (x xs : Part) → M.comp_stmt p (as_stmt (before kind x xs)) labels env ≡ M.done
else_stmt_more p labels env list.Exprs x xs = refl
else_stmt_more p labels env list.Stmts x xs = refl
else_stmt_more p labels env list.Properties x xs = refl
else_stmt_more p labels env list.TemplateParts x xs = refl
else_stmt_more p labels env list.Params x xs = refl
else_stmt_more p labels env list.Declarators x xs = refl
else_stmt_more p labels env list.Cases x xs = refl

pub else_stmt : (p : Sources) (labels : List (List ℕ)) (env : ℕ) (t : Reader) (n : Node) → NotBlock n → NotVariableDeclaration n → NotExpression n → NotIf n → NotDoWhile n → NotWhile n → NotFor n → NotForIn n → NotForOf n → NotContinue n → NotBreak n → NotReturn n → NotSwitch n → NotLabelled n → NotThrow n → NotTryCatch n → NotTryFinally n → NotTryCatchFinally n → M.comp_stmt p (as_stmt (build t n)) labels env ≡ M.done
else_stmt p labels env t (node.Block loc statements) h _ _ _ _ _ _ _ _ _ _ _ _ _ _ _ _ _ = absurd (h loc statements refl)
else_stmt p labels env t (node.VariableDeclaration loc kind declarators) _ h _ _ _ _ _ _ _ _ _ _ _ _ _ _ _ _ = absurd (h loc kind declarators refl)
else_stmt p labels env t (node.Expression loc expression) _ _ h _ _ _ _ _ _ _ _ _ _ _ _ _ _ _ = absurd (h loc expression refl)
else_stmt p labels env t (node.If loc test holds fails) _ _ _ h _ _ _ _ _ _ _ _ _ _ _ _ _ _ = absurd (h loc test holds fails refl)
else_stmt p labels env t (node.DoWhile loc body test) _ _ _ _ h _ _ _ _ _ _ _ _ _ _ _ _ _ = absurd (h loc body test refl)
else_stmt p labels env t (node.While loc test body) _ _ _ _ _ h _ _ _ _ _ _ _ _ _ _ _ _ = absurd (h loc test body refl)
else_stmt p labels env t (node.For loc init test update body) _ _ _ _ _ _ h _ _ _ _ _ _ _ _ _ _ _ = absurd (h loc init test update body refl)
else_stmt p labels env t (node.ForIn loc target object body) _ _ _ _ _ _ _ h _ _ _ _ _ _ _ _ _ _ = absurd (h loc target object body refl)
else_stmt p labels env t (node.ForOf loc target iterable body) _ _ _ _ _ _ _ _ h _ _ _ _ _ _ _ _ _ = absurd (h loc target iterable body refl)
else_stmt p labels env t (node.Continue loc label) _ _ _ _ _ _ _ _ _ h _ _ _ _ _ _ _ _ = absurd (h loc label refl)
else_stmt p labels env t (node.Break loc label) _ _ _ _ _ _ _ _ _ _ h _ _ _ _ _ _ _ = absurd (h loc label refl)
else_stmt p labels env t (node.Return loc value) _ _ _ _ _ _ _ _ _ _ _ h _ _ _ _ _ _ = absurd (h loc value refl)
else_stmt p labels env t (node.Switch loc value cases) _ _ _ _ _ _ _ _ _ _ _ _ h _ _ _ _ _ = absurd (h loc value cases refl)
else_stmt p labels env t (node.Labelled loc label body) _ _ _ _ _ _ _ _ _ _ _ _ _ h _ _ _ _ = absurd (h loc label body refl)
else_stmt p labels env t (node.Throw loc value) _ _ _ _ _ _ _ _ _ _ _ _ _ _ h _ _ _ = absurd (h loc value refl)
else_stmt p labels env t (node.TryCatch loc block catch) _ _ _ _ _ _ _ _ _ _ _ _ _ _ _ h _ _ = absurd (h loc block catch refl)
else_stmt p labels env t (node.TryFinally loc block last) _ _ _ _ _ _ _ _ _ _ _ _ _ _ _ _ h _ = absurd (h loc block last refl)
else_stmt p labels env t (node.TryCatchFinally loc block catch last) _ _ _ _ _ _ _ _ _ _ _ _ _ _ _ _ _ h = absurd (h loc block catch last refl)
else_stmt p labels env t (node.End kind) _ _ _ _ _ _ _ _ _ _ _ _ _ _ _ _ _ _ = else_stmt_end p labels env kind
else_stmt p labels env t (node.More kind first rest) _ _ _ _ _ _ _ _ _ _ _ _ _ _ _ _ _ _ = else_stmt_more p labels env kind (t first) (t rest)
else_stmt p labels env t _ _ _ _ _ _ _ _ _ _ _ _ _ _ _ _ _ _ _ = refl

-- expressions that are no references
else_reference_end : (p : Sources) (env : ℕ) (otherwise : Comp) (next : M.Reference → Comp) (kind : ListKind) → M.comp_reference p (as_expr (end_of kind)) env otherwise next ≡ otherwise
else_reference_end p env otherwise next list.Exprs = refl
else_reference_end p env otherwise next list.Stmts = refl
else_reference_end p env otherwise next list.Properties = refl
else_reference_end p env otherwise next list.TemplateParts = refl
else_reference_end p env otherwise next list.Params = refl
else_reference_end p env otherwise next list.Declarators = refl
else_reference_end p env otherwise next list.Cases = refl

else_reference_more : (p : Sources) (env : ℕ) (otherwise : Comp) (next : M.Reference → Comp) (kind : ListKind) (x xs : Part) → M.comp_reference p (as_expr (before kind x xs)) env otherwise next ≡ otherwise
else_reference_more p env otherwise next list.Exprs x xs = refl
else_reference_more p env otherwise next list.Stmts x xs = refl
else_reference_more p env otherwise next list.Properties x xs = refl
else_reference_more p env otherwise next list.TemplateParts x xs = refl
else_reference_more p env otherwise next list.Params x xs = refl
else_reference_more p env otherwise next list.Declarators x xs = refl
else_reference_more p env otherwise next list.Cases x xs = refl

pub else_reference : (p : Sources) (env : ℕ) (otherwise : Comp) (next : M.Reference → Comp) (t : Reader) (n : Node) → NotIdentifierReference n → NotNamedMember n → NotComputedMember n → NotParenthesized n → M.comp_reference p (as_expr (build t n)) env otherwise next ≡ otherwise
else_reference p env otherwise next t (node.IdentifierReference loc name) h _ _ _ = absurd (h loc name refl)
else_reference p env otherwise next t (node.NamedMember loc object name) _ h _ _ = absurd (h loc object name refl)
else_reference p env otherwise next t (node.ComputedMember loc object key) _ _ h _ = absurd (h loc object key refl)
else_reference p env otherwise next t (node.Parenthesized loc inner) _ _ _ h = absurd (h loc inner refl)
else_reference p env otherwise next t (node.End kind) _ _ _ _ = else_reference_end p env otherwise next kind
else_reference p env otherwise next t (node.More kind first rest) _ _ _ _ = else_reference_more p env otherwise next kind (t first) (t rest)
else_reference p env otherwise next t _ _ _ _ _ = refl

-- expressions to which no name is given
else_named_end : (told : List ℕ) (env : ℕ) (c : Comp) (kind : ListKind) → M.named told (as_expr (end_of kind)) env c ≡ c
else_named_end told env c list.Exprs = refl
else_named_end told env c list.Stmts = refl
else_named_end told env c list.Properties = refl
else_named_end told env c list.TemplateParts = refl
else_named_end told env c list.Params = refl
else_named_end told env c list.Declarators = refl
else_named_end told env c list.Cases = refl

else_named_more : (told : List ℕ) (env : ℕ) (c : Comp) (kind : ListKind) (x xs : Part) → M.named told (as_expr (before kind x xs)) env c ≡ c
else_named_more told env c list.Exprs x xs = refl
else_named_more told env c list.Stmts x xs = refl
else_named_more told env c list.Properties x xs = refl
else_named_more told env c list.TemplateParts x xs = refl
else_named_more told env c list.Params x xs = refl
else_named_more told env c list.Declarators x xs = refl
else_named_more told env c list.Cases x xs = refl

pub else_named : (told : List ℕ) (env : ℕ) (c : Comp) (t : Reader) (n : Node) → NotFunctionExpression n → NotArrowFunction n → NotParenthesized n → M.named told (as_expr (build t n)) env c ≡ c
else_named told env c t (node.FunctionExpression loc name function) h _ _ = absurd (h loc name function refl)
else_named told env c t (node.ArrowFunction loc function) _ h _ = absurd (h loc function refl)
else_named told env c t (node.Parenthesized loc inner) _ _ h = absurd (h loc inner refl)
else_named told env c t (node.End kind) _ _ _ = else_named_end told env c kind
else_named told env c t (node.More kind first rest) _ _ _ = else_named_more told env c kind (t first) (t rest)
else_named told env c t _ _ _ _ = refl

-- expressions that are no names
else_type_end : (env : ℕ) (c : Comp) (kind : ListKind) → M.if_there (M.name_of (as_expr (end_of kind))) env c ≡ c
else_type_end env c list.Exprs = refl
else_type_end env c list.Stmts = refl
else_type_end env c list.Properties = refl
else_type_end env c list.TemplateParts = refl
else_type_end env c list.Params = refl
else_type_end env c list.Declarators = refl
else_type_end env c list.Cases = refl

else_type_more : (env : ℕ) (c : Comp) (kind : ListKind) (x xs : Part) → M.if_there (M.name_of (as_expr (before kind x xs))) env c ≡ c
else_type_more env c list.Exprs x xs = refl
else_type_more env c list.Stmts x xs = refl
else_type_more env c list.Properties x xs = refl
else_type_more env c list.TemplateParts x xs = refl
else_type_more env c list.Params x xs = refl
else_type_more env c list.Declarators x xs = refl
else_type_more env c list.Cases x xs = refl

pub else_type : (env : ℕ) (c : Comp) (t : Reader) (n : Node) → NotIdentifierReference n → NotParenthesized n → M.if_there (M.name_of (as_expr (build t n))) env c ≡ c
else_type env c t (node.IdentifierReference loc name) h _ = absurd (h loc name refl)
else_type env c t (node.Parenthesized loc inner) _ h = absurd (h loc inner refl)
else_type env c t (node.End kind) _ _ = else_type_end env c kind
else_type env c t (node.More kind first rest) _ _ = else_type_more env c kind (t first) (t rest)
else_type env c t _ _ _ = refl

-- loops that begin again from their test
else_again_end : (v : View) (labels : List (List ℕ)) (env : ℕ) (kind : ListKind) → again v (as_stmt (end_of kind)) labels env ≡ M.comp_stmt v.program (as_stmt (end_of kind)) labels env
else_again_end v labels env list.Exprs = refl
else_again_end v labels env list.Stmts = refl
else_again_end v labels env list.Properties = refl
else_again_end v labels env list.TemplateParts = refl
else_again_end v labels env list.Params = refl
else_again_end v labels env list.Declarators = refl
else_again_end v labels env list.Cases = refl

else_again_more : (v : View) (labels : List (List ℕ)) (env : ℕ) (kind : ListKind) (x xs : Part) → again v (as_stmt (before kind x xs)) labels env ≡ M.comp_stmt v.program (as_stmt (before kind x xs)) labels env
else_again_more v labels env list.Exprs x xs = refl
else_again_more v labels env list.Stmts x xs = refl
else_again_more v labels env list.Properties x xs = refl
else_again_more v labels env list.TemplateParts x xs = refl
else_again_more v labels env list.Params x xs = refl
else_again_more v labels env list.Declarators x xs = refl
else_again_more v labels env list.Cases x xs = refl

pub else_again : (v : View) (labels : List (List ℕ)) (env : ℕ) (t : Reader) (n : Node) → NotDoWhile n → NotFor n → again v (as_stmt (build t n)) labels env ≡ M.comp_stmt v.program (as_stmt (build t n)) labels env
else_again v labels env t (node.DoWhile loc body test) h _ = absurd (h loc body test refl)
else_again v labels env t (node.For loc init test update body) _ h = absurd (h loc init test update body refl)
else_again v labels env t (node.End kind) _ _ = else_again_end v labels env kind
else_again v labels env t (node.More kind first rest) _ _ = else_again_more v labels env kind (t first) (t rest)
else_again v labels env t _ _ _ = refl

-- statements that have no turns
else_turn_end : (p : Sources) (labels : List (List ℕ)) (env : ℕ) (kind : ListKind) → M.comp_turn p (as_stmt (end_of kind)) labels env ≡ M.done
else_turn_end p labels env list.Exprs = refl
else_turn_end p labels env list.Stmts = refl
else_turn_end p labels env list.Properties = refl
else_turn_end p labels env list.TemplateParts = refl
else_turn_end p labels env list.Params = refl
else_turn_end p labels env list.Declarators = refl
else_turn_end p labels env list.Cases = refl

else_turn_more : (p : Sources) (labels : List (List ℕ)) (env : ℕ) (kind : ListKind) (x xs : Part) → M.comp_turn p (as_stmt (before kind x xs)) labels env ≡ M.done
else_turn_more p labels env list.Exprs x xs = refl
else_turn_more p labels env list.Stmts x xs = refl
else_turn_more p labels env list.Properties x xs = refl
else_turn_more p labels env list.TemplateParts x xs = refl
else_turn_more p labels env list.Params x xs = refl
else_turn_more p labels env list.Declarators x xs = refl
else_turn_more p labels env list.Cases x xs = refl

pub else_turn : (p : Sources) (labels : List (List ℕ)) (env : ℕ) (t : Reader) (n : Node) → NotDoWhile n → NotWhile n → NotFor n → M.comp_turn p (as_stmt (build t n)) labels env ≡ M.done
else_turn p labels env t (node.DoWhile loc body test) h _ _ = absurd (h loc body test refl)
else_turn p labels env t (node.While loc test body) _ h _ = absurd (h loc test body refl)
else_turn p labels env t (node.For loc init test update body) _ _ h = absurd (h loc init test update body refl)
else_turn p labels env t (node.End kind) _ _ _ = else_turn_end p labels env kind
else_turn p labels env t (node.More kind first rest) _ _ _ = else_turn_more p labels env kind (t first) (t rest)
else_turn p labels env t _ _ _ _ = refl

else_pass_end : (p : Sources) (labels : List (List ℕ)) (env inner : ℕ) (left : Iteration) (kind : ListKind) → M.comp_pass p (as_stmt (end_of kind)) labels env inner left ≡ M.done
else_pass_end p labels env inner left list.Exprs = refl
else_pass_end p labels env inner left list.Stmts = refl
else_pass_end p labels env inner left list.Properties = refl
else_pass_end p labels env inner left list.TemplateParts = refl
else_pass_end p labels env inner left list.Params = refl
else_pass_end p labels env inner left list.Declarators = refl
else_pass_end p labels env inner left list.Cases = refl

else_pass_more : (p : Sources) (labels : List (List ℕ)) (env inner : ℕ) (left : Iteration) (kind : ListKind) (x xs : Part) → M.comp_pass p (as_stmt (before kind x xs)) labels env inner left ≡ M.done
else_pass_more p labels env inner left list.Exprs x xs = refl
else_pass_more p labels env inner left list.Stmts x xs = refl
else_pass_more p labels env inner left list.Properties x xs = refl
else_pass_more p labels env inner left list.TemplateParts x xs = refl
else_pass_more p labels env inner left list.Params x xs = refl
else_pass_more p labels env inner left list.Declarators x xs = refl
else_pass_more p labels env inner left list.Cases x xs = refl

pub else_pass : (p : Sources) (labels : List (List ℕ)) (env inner : ℕ) (left : Iteration) (t : Reader) (n : Node) → NotForIn n → NotForOf n → M.comp_pass p (as_stmt (build t n)) labels env inner left ≡ M.done
else_pass p labels env inner left t (node.ForIn loc target object body) h _ = absurd (h loc target object body refl)
else_pass p labels env inner left t (node.ForOf loc target iterable body) _ h = absurd (h loc target iterable body refl)
else_pass p labels env inner left t (node.End kind) _ _ = else_pass_end p labels env inner left kind
else_pass p labels env inner left t (node.More kind first rest) _ _ = else_pass_more p labels env inner left kind (t first) (t rest)
else_pass p labels env inner left t _ _ _ = refl
