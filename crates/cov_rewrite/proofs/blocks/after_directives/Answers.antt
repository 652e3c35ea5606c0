use Rattle.std.proofs.Common.{◌≡◌, ap, map-id, rules, sym, subst, ◌∙◌}
use Rattle.std.proofs.lemmas.Iterator.Adapters.{YieldsList-from_vec}
use Rattle.std.proofs.lemmas.Iterator.Consumers.{YieldsList-end}
use Rattle.js_tree.specs.Tree.{plain_stmt, plain_stmts}
use Rattle.js_tree.proofs.Equations.{stmts_push}
use Rattle.cov_rewritten.specs.Rewritten.{after_directives}
use Rattle.cov_rewrite.proofs.Directives.{Waits, waits_step, waits_end}
use Rattle.cov_rewrite.proofs.blocks.after_directives.Goals as goal

pub loop-statement-preserved : goal.loop-statement-preserved
loop-statement-preserved c =
    let x = c.in-Some.statement in
    subst (λ ys. Waits (plain_stmts c.args.inserted) ys (plain_stmts c.put.new.out) c.in_ok-waiting.waiting) (sym (stmts_push c.loop-statement.yielded x))
    (waits_step (plain_stmts c.args.inserted) (plain_stmts c.loop-statement.yielded) (plain_stmts c.loop-statement.out) (plain_stmts c.put.new.out) c.loop-statement.waiting c.in_ok-waiting.waiting (plain_stmt x)
    c.loop-statement.invariant c.in_ok-waiting.ensures.out c.in_ok-waiting.ensures.waits)

pub returns : goal.returns
returns c =
    let end = YieldsList-end (YieldsList-from_vec {s = c.into_iter-statement-iterator.result} c.args.body (search rules) (search rules))
    c.loop-statement.yielded c.loop-statement.statement-iterator c.loop-statement.yielded_by c.next.result c.next.new.self c.in-None.is c.next.ensures.steps in
    let all : c.loop-statement.yielded ≡ c.args.body = sym (map-id c.loop-statement.yielded) ∙ end.0 in
    c.in_ok-append_if.ensures
    ∙ waits_end (plain_stmts c.args.inserted) (plain_stmts c.loop-statement.yielded) (plain_stmts c.loop-statement.out) c.loop-statement.waiting c.loop-statement.invariant
    ∙ ap (λ xs. after_directives (plain_stmts c.args.inserted) (plain_stmts xs)) all
