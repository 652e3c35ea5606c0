-- What other nodes declare: nothing.
use Rattle.std.proofs.Common.{◌≡◌, false, [], refl}
use Rattle.js_code.specs.declared.node.Node.{Node}
use Rattle.js_code.specs.declared.node.Node.TheVariants as node
use Rattle.js_code.specs.declared.node.ListKind.{ListKind}
use Rattle.js_code.specs.declared.node.ListKind.TheVariants as list
use Rattle.js_code.specs.Node.{Reader, build}
use Rattle.js_code.specs.Part.{Part, as_for_init, as_for_target, before, end_of}
use Rattle.js_meaning.specs.Scopes.{init_scope, is_fresh, target_scope}
use Rattle.js_machine.proofs.NotThese.{NotInitDeclaration, NotTargetDeclaration}

init_else_end : (kind : ListKind) → (init_scope (as_for_init (end_of kind))).lexical ≡ []
init_else_end list.Exprs = refl
init_else_end list.Stmts = refl
init_else_end list.Properties = refl
init_else_end list.TemplateParts = refl
init_else_end list.Params = refl
init_else_end list.Declarators = refl
init_else_end list.Cases = refl

init_else_more : (kind : ListKind) (x xs : Part) → (init_scope (as_for_init (before kind x xs))).lexical ≡ []
init_else_more list.Exprs x xs = refl
init_else_more list.Stmts x xs = refl
init_else_more list.Properties x xs = refl
init_else_more list.TemplateParts x xs = refl
init_else_more list.Params x xs = refl
init_else_more list.Declarators x xs = refl
init_else_more list.Cases x xs = refl

pub init_else : (t : Reader) (n : Node) → NotInitDeclaration n → (init_scope (as_for_init (build t n))).lexical ≡ []
init_else t (node.InitDeclaration kind names fresh declarators) h = absurd (h kind names fresh declarators refl)
init_else t (node.End kind) _ = init_else_end kind
init_else t (node.More kind first rest) _ = init_else_more kind (t first) (t rest)
init_else t _ _ = refl

target_else_end : (kind : ListKind) → (target_scope (as_for_target (end_of kind))).lexical ≡ []
target_else_end list.Exprs = refl
target_else_end list.Stmts = refl
target_else_end list.Properties = refl
target_else_end list.TemplateParts = refl
target_else_end list.Params = refl
target_else_end list.Declarators = refl
target_else_end list.Cases = refl

target_else_more : (kind : ListKind) (x xs : Part) → (target_scope (as_for_target (before kind x xs))).lexical ≡ []
target_else_more list.Exprs x xs = refl
target_else_more list.Stmts x xs = refl
target_else_more list.Properties x xs = refl
target_else_more list.TemplateParts x xs = refl
target_else_more list.Params x xs = refl
target_else_more list.Declarators x xs = refl
target_else_more list.Cases x xs = refl

pub target_else : (t : Reader) (n : Node) → NotTargetDeclaration n → (target_scope (as_for_target (build t n))).lexical ≡ []
target_else t (node.TargetDeclaration kind name_loc name) h = absurd (h kind name_loc name refl)
target_else t (node.End kind) _ = target_else_end kind
target_else t (node.More kind first rest) _ = target_else_more kind (t first) (t rest)
target_else t _ _ = refl

fresh_else_end : (kind : ListKind) → is_fresh (as_for_init (end_of kind)) ≡ false
fresh_else_end list.Exprs = refl
fresh_else_end list.Stmts = refl
fresh_else_end list.Properties = refl
fresh_else_end list.TemplateParts = refl
fresh_else_end list.Params = refl
fresh_else_end list.Declarators = refl
fresh_else_end list.Cases = refl

fresh_else_more : (kind : ListKind) (x xs : Part) → is_fresh (as_for_init (before kind x xs)) ≡ false
fresh_else_more list.Exprs x xs = refl
fresh_else_more list.Stmts x xs = refl
fresh_else_more list.Properties x xs = refl
fresh_else_more list.TemplateParts x xs = refl
fresh_else_more list.Params x xs = refl
fresh_else_more list.Declarators x xs = refl
fresh_else_more list.Cases x xs = refl

pub fresh_else : (t : Reader) (n : Node) → NotInitDeclaration n → is_fresh (as_for_init (build t n)) ≡ false
fresh_else t (node.InitDeclaration kind names fresh declarators) h = absurd (h kind names fresh declarators refl)
fresh_else t (node.End kind) _ = fresh_else_end kind
fresh_else t (node.More kind first rest) _ = fresh_else_more kind (t first) (t rest)
fresh_else t _ _ = refl
