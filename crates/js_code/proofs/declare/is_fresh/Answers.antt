use Rattle.std.proofs.Common.{◌≡◌, not, ap, sym, subst, ◌∙◌}
use Rattle.js_tree.specs.Plain as P
use Rattle.js_tree.specs.Tree.{plain_declarators}
use Rattle.js_meaning.specs.Scopes.{is_fresh}
use Rattle.js_code.proofs.Told.{fresh_let}
use Rattle.js_code.proofs.declare.is_fresh.Goals as goal

pub returns-in-Let : goal.returns-in-Let
returns-in-Let c =
    subst (λ kind. not c.is_empty.result ≡ is_fresh (P.InitDeclaration kind (plain_declarators c.args.declarators.now))) (sym c.in-Let.is) (ap not c.is_empty.ensures ∙ fresh_let c.args.declarators.now)
