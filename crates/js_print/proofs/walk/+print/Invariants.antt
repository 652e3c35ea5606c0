use Rattle.std.proofs.Common.{drop}
use Rattle.js_tree.specs.Tree.{plain_exprs, plain_properties, plain_params, plain_declarators, plain_template_parts, plain_stmts, plain_cases}
use Rattle.js_layout.specs.Neat.{neat_exprs, neat_properties, neat_params, neat_declarators, neat_parts, neat_stmts, neat_cases}
use Rattle.js_layout.specs.Tokens.{exprs_tokens, more_exprs_tokens, properties_tokens, more_properties_tokens, params_tokens, more_params_tokens, declarators_tokens, more_declarators_tokens, parts_tokens, stmts_tokens, cases_tokens}
use Rattle.js_sheet.specs.Stands.{at}
use Rattle.js_print.proofs.Steps.{Leaves}
use Rattle.js_print.proofs.walk.+print.Given as goal

abbrev pub invariant-expressions-loop-item : goal.invariant-expressions-loop-item
invariant-expressions-loop-item g l = Leaves (at l.fn.to (g.S.Sink.taken l.fn.sink) (g.S.Sink.faults l.fn.sink)) (at l.to (g.S.Sink.taken l.sink) (g.S.Sink.faults l.sink)) (more_exprs_tokens l.loc (neat_exprs (plain_exprs (drop l.item-index l.others)))) (exprs_tokens l.loc (neat_exprs (plain_exprs l.fn.expressions)))

abbrev pub invariant-properties-loop-item : goal.invariant-properties-loop-item
invariant-properties-loop-item g l = Leaves (at l.fn.to (g.S.Sink.taken l.fn.sink) (g.S.Sink.faults l.fn.sink)) (at l.to (g.S.Sink.taken l.sink) (g.S.Sink.faults l.sink)) (more_properties_tokens l.loc (neat_properties (plain_properties (drop l.item-index l.others)))) (properties_tokens l.loc (neat_properties (plain_properties l.fn.properties)))

abbrev pub invariant-params-loop-item : goal.invariant-params-loop-item
invariant-params-loop-item g l = Leaves (at l.fn.to (g.S.Sink.taken l.fn.sink) (g.S.Sink.faults l.fn.sink)) (at l.to (g.S.Sink.taken l.sink) (g.S.Sink.faults l.sink)) (more_params_tokens l.loc (neat_params (plain_params (drop l.item-index l.others)))) (params_tokens l.loc (neat_params (plain_params l.fn.params)))

abbrev pub invariant-declarators-loop-item : goal.invariant-declarators-loop-item
invariant-declarators-loop-item g l = Leaves (at l.fn.to (g.S.Sink.taken l.fn.sink) (g.S.Sink.faults l.fn.sink)) (at l.to (g.S.Sink.taken l.sink) (g.S.Sink.faults l.sink)) (more_declarators_tokens l.loc (neat_declarators l.head (plain_declarators (drop l.item-index l.others)))) (declarators_tokens l.loc (neat_declarators l.head (plain_declarators l.fn.declarators)))

abbrev pub invariant-template_parts-loop-part : goal.invariant-template_parts-loop-part
invariant-template_parts-loop-part g l = Leaves (at l.fn.to (g.S.Sink.taken l.fn.sink) (g.S.Sink.faults l.fn.sink)) (at l.to (g.S.Sink.taken l.sink) (g.S.Sink.faults l.sink)) (parts_tokens l.loc (neat_parts (plain_template_parts (drop l.part-index l.parts)))) (parts_tokens l.loc (neat_parts (plain_template_parts l.parts)))

abbrev pub invariant-statements-loop-stmt : goal.invariant-statements-loop-stmt
invariant-statements-loop-stmt g l = Leaves (at l.fn.to (g.S.Sink.taken l.fn.sink) (g.S.Sink.faults l.fn.sink)) (at l.to (g.S.Sink.taken l.sink) (g.S.Sink.faults l.sink)) (stmts_tokens (neat_stmts (plain_stmts (drop l.stmt-index l.statements)))) (stmts_tokens (neat_stmts (plain_stmts l.statements)))

abbrev pub invariant-cases-loop-clause : goal.invariant-cases-loop-clause
invariant-cases-loop-clause g l = Leaves (at l.fn.to (g.S.Sink.taken l.fn.sink) (g.S.Sink.faults l.fn.sink)) (at l.to (g.S.Sink.taken l.sink) (g.S.Sink.faults l.sink)) (cases_tokens (neat_cases (plain_cases (drop l.clause-index l.cases)))) (cases_tokens (neat_cases (plain_cases l.cases)))
