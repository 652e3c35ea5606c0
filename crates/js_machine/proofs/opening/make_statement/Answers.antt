use Rattle.std.proofs.Common.{sym, ap, ◌∙◌}
use Rattle.std.proofs.lemmas.Result.{IfOk-weaker}
use Rattle.js_heap.specs.Heap.{heap_of}
use Rattle.js_code.specs.Code.{reader}
use Rattle.js_code.specs.Node.{build}
use Rattle.js_code.specs.Part.{as_stmt}
use Rattle.js_meaning.specs.Prelude.{prelude_stmt}
use Rattle.js_machine.proofs.Openings.{stmt_else}
use Rattle.js_machine.proofs.opening.make_statement.Goals as goal

pub returns-in-Expression : goal.returns-in-Expression
returns-in-Expression c = IfOk-weaker c.make_literal.result _ _ (λ u e. e ∙ ap (λ x. prelude_stmt (as_stmt x) (heap_of c.args.heap.now)) (sym (c.node.ensures.read ∙ ap (build (reader c.args.code.now.nodes)) c.in-Expression.is))) c.make_literal.ensures

pub returns-in_default : goal.returns-in_default
returns-in_default c = sym (ap (λ x. prelude_stmt (as_stmt x) (heap_of c.args.heap.now)) c.node.ensures.read ∙ stmt_else (heap_of c.args.heap.now) (reader c.args.code.now.nodes) c.node.result.now c.in_default.not-Expression)
