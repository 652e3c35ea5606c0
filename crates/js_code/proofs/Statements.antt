-- The plain tree of a statement, by its node.
use Rattle.std.proofs.Common.{◌≡◌, ◌∙◌, ap}
use Rattle.js_tree.specs.declared.tree.Stmt.{Stmt}
use Rattle.js_tree.specs.declared.tree.StmtNode.{StmtNode}
use Rattle.js_tree.specs.declared.tree.ConciseBody.TheViews.{out-Stmt}
use Rattle.js_tree.specs.Tree.{plain_stmt, plain_stmt_node}
use Rattle.js_tree.specs.Plain as P
use Rattle.js_tree.proofs.Equations.{stmt_made}

pub of_node : {n : StmtNode} {form : P.Stmt} (s : Stmt) → (out-Stmt s).node ≡ n → plain_stmt_node n (out-Stmt s).loc ≡ form → plain_stmt s ≡ form
of_node {n} {form} s is made = stmt_made s ∙ ap (λ n. plain_stmt_node n (out-Stmt s).loc) is ∙ made
