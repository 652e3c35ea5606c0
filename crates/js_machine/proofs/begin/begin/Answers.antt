use Rattle.std.proofs.Common.{sym, ap, ◌∙◌, drop, arith}
use Rattle.std.proofs.lemmas.Result.{IfOk-weaker}
use Rattle.js_tree.specs.Plain as P
use Rattle.js_terms.specs.declared.operators.UnaryOperator.TheVariants as unary_operator
use Rattle.js_host.specs.Iteration.{plain_iteration}
use Rattle.js_code.specs.Node.{arrow_body}
use Rattle.js_code.specs.Code.{reader}
use Rattle.js_code.specs.Part.{as_expr, as_stmt, as_exprs, as_properties, as_property, as_property_key, as_template_parts, as_template_part, as_params, as_declarators, as_cases, as_case, as_catch, as_for_init, as_for_target, as_code}
use Rattle.js_meaning.specs.Effects.{handle}
use Rattle.js_meaning.specs.Scopes.{params_of}
use Rattle.js_meaning.specs.Meaning as M
use Rattle.js_machine.specs.declared.parts.Loop.{Loop}
use Rattle.js_machine.specs.private.Config.{view_of, name_of, units_of, labels_of, stmt_at, again, body_comp, gathered, keyed, otherwise, pass, referred, plug}
use Rattle.js_machine.specs.private.Weight.{place_weight}
use Rattle.js_machine.proofs.Forms.{no_name, tested_less}
use Rattle.js_machine.proofs.Weights.{lighter}
use Rattle.js_machine.proofs.begin.begin.Goals as goal

pub returns-in-Evaluate-clause-means : goal.returns-in-Evaluate-clause-means
returns-in-Evaluate-clause-means c = IfOk-weaker c.begin_expression.result _ _ (λ next means p. rw c.in-Evaluate.is (means (view_of p c.args.code.now.nodes) (ap name_of (sym c.node.ensures.is)) ∙ ap (plug (view_of p c.args.code.now.nodes) c.args.frames.now.items) (ap (λ x. M.comp_expr p (as_expr x) c.in-Evaluate.env.index) (sym c.node.ensures.read)))) c.begin_expression.ensures.means

pub returns-in-Evaluate-clause-less : goal.returns-in-Evaluate-clause-less
returns-in-Evaluate-clause-less c = IfOk-weaker c.begin_expression.result _ _ (λ step less. rw c.in-Evaluate.is (omega (arith, less place_weight, lighter c.in-Evaluate.place c.node.result.now c.node.ensures.below))) c.begin_expression.ensures.less

pub returns-in-EvaluateNamed-clause-means : goal.returns-in-EvaluateNamed-clause-means
returns-in-EvaluateNamed-clause-means c = λ p. rw c.in-EvaluateNamed.is (ap (plug (view_of p c.args.code.now.nodes) c.args.frames.now.items) (c.begin_named.ensures.means (view_of p c.args.code.now.nodes) c.node-in-EvaluateNamed.ensures.read
    ∙ ap (λ x. M.named (units_of (view_of p c.args.code.now.nodes) c.in-EvaluateNamed.title) (as_expr x) c.in-EvaluateNamed.env.index (M.comp_expr p (as_expr x) c.in-EvaluateNamed.env.index)) (sym c.node-in-EvaluateNamed.ensures.read)))

pub returns-in-EvaluateNamed-clause-less : goal.returns-in-EvaluateNamed-clause-less
returns-in-EvaluateNamed-clause-less c = rw c.in-EvaluateNamed.is (omega (arith, c.begin_named.ensures.less place_weight, lighter c.in-EvaluateNamed.place c.node-in-EvaluateNamed.result.now c.node-in-EvaluateNamed.ensures.below))

pub returns-in-TypeOf-clause-means : goal.returns-in-TypeOf-clause-means
returns-in-TypeOf-clause-means c = IfOk-weaker c.begin_type_of.result _ _ (λ next means p. rw c.in-TypeOf.is (means (view_of p c.args.code.now.nodes) (ap name_of (sym c.node-in-TypeOf.ensures.is)) c.node-in-TypeOf.ensures.read ∙ ap (plug (view_of p c.args.code.now.nodes) c.args.frames.now.items) (ap (λ x. M.if_there (M.name_of (as_expr x)) c.in-TypeOf.env.index (handle (M.comp_expr p (as_expr x) c.in-TypeOf.env.index) (M.with_value (M.operated_unary unary_operator.TypeOf)))) (sym c.node-in-TypeOf.ensures.read)))) c.begin_type_of.ensures.means

pub returns-in-TypeOf-clause-less : goal.returns-in-TypeOf-clause-less
returns-in-TypeOf-clause-less c = IfOk-weaker c.begin_type_of.result _ _ (λ next less. rw c.in-TypeOf.is (omega (arith, less place_weight, lighter c.in-TypeOf.place c.node-in-TypeOf.result.now c.node-in-TypeOf.ensures.below))) c.begin_type_of.ensures.less

pub returns-in-Refer-clause-means : goal.returns-in-Refer-clause-means
returns-in-Refer-clause-means c = IfOk-weaker c.begin_reference.result _ _ (λ next means p. rw c.in-Refer.is (means (view_of p c.args.code.now.nodes) (ap name_of (sym c.node-in-Refer.ensures.is)) c.node-in-Refer.ensures.read ∙ ap (plug (view_of p c.args.code.now.nodes) c.args.frames.now.items) (ap (λ x. M.comp_reference p (as_expr x) c.in-Refer.env.index (otherwise (view_of p c.args.code.now.nodes) c.in-Refer.next (as_expr x) c.in-Refer.env.index) (referred (view_of p c.args.code.now.nodes) c.in-Refer.next c.in-Refer.env.index)) (sym c.node-in-Refer.ensures.read)))) c.begin_reference.ensures.means

pub returns-in-Refer-clause-less : goal.returns-in-Refer-clause-less
returns-in-Refer-clause-less c = IfOk-weaker c.begin_reference.result _ _ (λ next less. rw c.in-Refer.is (omega (arith, less place_weight, lighter c.in-Refer.place c.node-in-Refer.result.now c.node-in-Refer.ensures.below))) c.begin_reference.ensures.less

pub returns-in-Gather-clause-means : goal.returns-in-Gather-clause-means
returns-in-Gather-clause-means c = IfOk-weaker c.begin_list.result _ _ (λ next means p. rw c.in-Gather.is (means (view_of p c.args.code.now.nodes) ∙ ap (plug (view_of p c.args.code.now.nodes) c.args.frames.now.items) (ap (λ x. M.comp_values p (as_exprs x) c.in-Gather.env.index c.in-Gather.values (gathered (view_of p c.args.code.now.nodes) c.in-Gather.gathering)) (sym c.node-in-Gather.ensures.read)))) c.begin_list.ensures.means

pub returns-in-Gather-clause-less : goal.returns-in-Gather-clause-less
returns-in-Gather-clause-less c = IfOk-weaker c.begin_list.result _ _ (λ next less. rw c.in-Gather.is (omega (arith, less place_weight, lighter c.in-Gather.place c.node-in-Gather.result.now c.node-in-Gather.ensures.below))) c.begin_list.ensures.less

pub returns-in-Template-clause-means : goal.returns-in-Template-clause-means
returns-in-Template-clause-means c = λ p. rw c.in-Template.is (ap (plug (view_of p c.args.code.now.nodes) c.args.frames.now.items) (c.begin_template.ensures.means (view_of p c.args.code.now.nodes)
    ∙ ap (λ x. M.comp_template_parts p (as_template_parts x) c.in-Template.env.index c.in-Template.units) (sym c.node-in-Template.ensures.read)))

pub returns-in-Template-clause-less : goal.returns-in-Template-clause-less
returns-in-Template-clause-less c = rw c.in-Template.is (omega (arith, c.begin_template.ensures.less place_weight, lighter c.in-Template.parts c.node-in-Template.result.now c.node-in-Template.ensures.below))

pub returns-in-TemplatePart-clause-means : goal.returns-in-TemplatePart-clause-means
returns-in-TemplatePart-clause-means c = IfOk-weaker c.begin_template_part.result _ _ (λ next means p. rw c.in-TemplatePart.is (means (view_of p c.args.code.now.nodes) c.node-in-TemplatePart.ensures.read ∙ ap (plug (view_of p c.args.code.now.nodes) c.args.frames.now.items) (ap (λ x. M.comp_template_parts p (P.more_template_part (as_template_part x) (as_template_parts (reader c.args.code.now.nodes c.in-TemplatePart.rest))) c.in-TemplatePart.env.index c.in-TemplatePart.units) (sym c.node-in-TemplatePart.ensures.read)))) c.begin_template_part.ensures.means

pub returns-in-TemplatePart-clause-less : goal.returns-in-TemplatePart-clause-less
returns-in-TemplatePart-clause-less c = IfOk-weaker c.begin_template_part.result _ _ (λ next less. rw c.in-TemplatePart.is (omega (arith, less place_weight, lighter c.in-TemplatePart.part c.node-in-TemplatePart.result.now c.node-in-TemplatePart.ensures.below))) c.begin_template_part.ensures.less

pub returns-in-DefineAll-clause-means : goal.returns-in-DefineAll-clause-means
returns-in-DefineAll-clause-means c = IfOk-weaker c.begin_properties.result _ _ (λ next means p. rw c.in-DefineAll.is (means (view_of p c.args.code.now.nodes) ∙ ap (plug (view_of p c.args.code.now.nodes) c.args.frames.now.items) (ap (λ x. M.comp_properties p (as_properties x) c.in-DefineAll.env.index c.in-DefineAll.object.index) (sym c.node-in-DefineAll.ensures.read)))) c.begin_properties.ensures.means

pub returns-in-DefineAll-clause-less : goal.returns-in-DefineAll-clause-less
returns-in-DefineAll-clause-less c = IfOk-weaker c.begin_properties.result _ _ (λ next less. rw c.in-DefineAll.is (omega (arith, less place_weight, lighter c.in-DefineAll.properties c.node-in-DefineAll.result.now c.node-in-DefineAll.ensures.below))) c.begin_properties.ensures.less

pub returns-in-DefineOne-clause-means : goal.returns-in-DefineOne-clause-means
returns-in-DefineOne-clause-means c = IfOk-weaker c.begin_property.result _ _ (λ next means p. rw c.in-DefineOne.is (means (view_of p c.args.code.now.nodes) (ap name_of (sym c.node-in-DefineOne.ensures.is)) (no_name c.args.code.now.nodes c.node-in-DefineOne.ensures.few) ∙ ap (plug (view_of p c.args.code.now.nodes) c.args.frames.now.items) (ap (λ x. M.comp_property p (as_property x) c.in-DefineOne.env.index c.in-DefineOne.object.index) (sym c.node-in-DefineOne.ensures.read)))) c.begin_property.ensures.means

pub returns-in-DefineOne-clause-less : goal.returns-in-DefineOne-clause-less
returns-in-DefineOne-clause-less c = IfOk-weaker c.begin_property.result _ _ (λ next less. rw c.in-DefineOne.is (omega (arith, less place_weight, lighter c.in-DefineOne.property c.node-in-DefineOne.result.now c.node-in-DefineOne.ensures.below))) c.begin_property.ensures.less

pub returns-in-Key-clause-means : goal.returns-in-Key-clause-means
returns-in-Key-clause-means c = IfOk-weaker c.begin_key.result _ _ (λ next means p. rw c.in-Key.is (means (view_of p c.args.code.now.nodes) (ap name_of (sym c.node-in-Key.ensures.is)) (no_name c.args.code.now.nodes c.node-in-Key.ensures.few) ∙ ap (plug (view_of p c.args.code.now.nodes) c.args.frames.now.items) (ap (λ x. M.comp_key p (as_property_key x) c.in-Key.env.index (keyed (view_of p c.args.code.now.nodes) c.in-Key.next c.in-Key.env.index)) (sym c.node-in-Key.ensures.read)))) c.begin_key.ensures.means

pub returns-in-Key-clause-less : goal.returns-in-Key-clause-less
returns-in-Key-clause-less c = IfOk-weaker c.begin_key.result _ _ (λ step less. rw c.in-Key.is (omega (arith, less place_weight, lighter c.in-Key.key c.node-in-Key.result.now c.node-in-Key.ensures.below))) c.begin_key.ensures.less

pub returns-in-Declare-clause-means : goal.returns-in-Declare-clause-means
returns-in-Declare-clause-means c = IfOk-weaker c.begin_declarators.result _ _ (λ next means p. rw c.in-Declare.is (means (view_of p c.args.code.now.nodes) ∙ ap (plug (view_of p c.args.code.now.nodes) c.args.frames.now.items) (ap (λ x. M.comp_declarators p c.in-Declare.kind (as_declarators x) c.in-Declare.env.index) (sym c.node-in-Declare.ensures.read)))) c.begin_declarators.ensures.means

pub returns-in-Declare-clause-less : goal.returns-in-Declare-clause-less
returns-in-Declare-clause-less c = IfOk-weaker c.begin_declarators.result _ _ (λ next less. rw c.in-Declare.is (omega (arith, less place_weight, lighter c.in-Declare.declarators c.node-in-Declare.result.now c.node-in-Declare.ensures.below))) c.begin_declarators.ensures.less

pub returns-in-Execute-clause-means : goal.returns-in-Execute-clause-means
returns-in-Execute-clause-means c = IfOk-weaker c.begin_statement.result _ _ (λ next means p. rw c.in-Execute.is (means (view_of p c.args.code.now.nodes) (ap name_of (sym c.node-in-Execute.ensures.is)) c.node-in-Execute.ensures.read ∙ ap (plug (view_of p c.args.code.now.nodes) c.args.frames.now.items) (ap (λ x. M.comp_stmt p (as_stmt x) (labels_of (view_of p c.args.code.now.nodes) c.in-Execute.labels) c.in-Execute.env.index) (sym c.node-in-Execute.ensures.read)))) c.begin_statement.ensures.means

pub returns-in-Execute-clause-less : goal.returns-in-Execute-clause-less
returns-in-Execute-clause-less c = IfOk-weaker c.begin_statement.result _ _ (λ step less. rw c.in-Execute.is (omega (arith, less place_weight, lighter c.in-Execute.place c.node-in-Execute.result.now c.node-in-Execute.ensures.below))) c.begin_statement.ensures.less

pub returns-in-Select-clause-means : goal.returns-in-Select-clause-means
returns-in-Select-clause-means c = λ p. rw c.in-Select.is (ap (plug (view_of p c.args.code.now.nodes) c.args.frames.now.items) (c.begin_select.ensures.means (view_of p c.args.code.now.nodes)
    ∙ ap (λ x. M.comp_select p (as_cases x) c.in-Select.env.index c.in-Select.value (M.comp_default p (as_cases (reader c.args.code.now.nodes c.in-Select.all)) c.in-Select.env.index)) (sym c.node-in-Select.ensures.read)))

pub returns-in-Select-clause-less : goal.returns-in-Select-clause-less
returns-in-Select-clause-less c = rw c.in-Select.is (omega (arith, c.begin_select.ensures.less place_weight, lighter c.in-Select.cases c.node-in-Select.result.now c.node-in-Select.ensures.below))

pub returns-in-Default-clause-means : goal.returns-in-Default-clause-means
returns-in-Default-clause-means c = λ p. rw c.in-Default.is (ap (plug (view_of p c.args.code.now.nodes) c.args.frames.now.items) (c.begin_default.ensures.means (view_of p c.args.code.now.nodes)
    ∙ ap (λ x. M.comp_default p (as_cases x) c.in-Default.env.index) (sym c.node-in-Default.ensures.read)))

pub returns-in-Default-clause-less : goal.returns-in-Default-clause-less
returns-in-Default-clause-less c = rw c.in-Default.is (omega (arith, c.begin_default.ensures.less place_weight, lighter c.in-Default.cases c.node-in-Default.result.now c.node-in-Default.ensures.below))

pub returns-in-Fall-clause-means : goal.returns-in-Fall-clause-means
returns-in-Fall-clause-means c = IfOk-weaker c.begin_clauses.result _ _ (λ next means p. rw c.in-Fall.is (means (view_of p c.args.code.now.nodes) ∙ ap (plug (view_of p c.args.code.now.nodes) c.args.frames.now.items) (ap (λ x. M.comp_cases p (as_cases x) c.in-Fall.env.index) (sym c.node-in-Fall.ensures.read)))) c.begin_clauses.ensures.means

pub returns-in-Fall-clause-less : goal.returns-in-Fall-clause-less
returns-in-Fall-clause-less c = IfOk-weaker c.begin_clauses.result _ _ (λ next less. rw c.in-Fall.is (omega (arith, less place_weight, lighter c.in-Fall.cases c.node-in-Fall.result.now c.node-in-Fall.ensures.below))) c.begin_clauses.ensures.less

pub returns-in-ExecuteCase-clause-means : goal.returns-in-ExecuteCase-clause-means
returns-in-ExecuteCase-clause-means c = λ p. rw c.in-ExecuteCase.is (ap (plug (view_of p c.args.code.now.nodes) c.args.frames.now.items) (c.begin_clause.ensures.means (view_of p c.args.code.now.nodes)
    ∙ ap (λ x. M.comp_case p (as_case x) c.in-ExecuteCase.env.index) (sym c.node-in-ExecuteCase.ensures.read)))

pub returns-in-ExecuteCase-clause-less : goal.returns-in-ExecuteCase-clause-less
returns-in-ExecuteCase-clause-less c = rw c.in-ExecuteCase.is (omega (arith, c.begin_clause.ensures.less place_weight, lighter c.in-ExecuteCase.case c.node-in-ExecuteCase.result.now c.node-in-ExecuteCase.ensures.below))

pub returns-in-Catch-clause-means : goal.returns-in-Catch-clause-means
returns-in-Catch-clause-means c = λ p. rw c.in-Catch.is (ap (plug (view_of p c.args.code.now.nodes) c.args.frames.now.items) (c.begin_catch.ensures.means (view_of p c.args.code.now.nodes) (ap name_of (sym c.node-in-Catch.ensures.is))
    ∙ ap (λ x. M.comp_catch p (as_catch x) c.in-Catch.env.index c.in-Catch.value) (sym c.node-in-Catch.ensures.read)))

pub returns-in-Catch-clause-less : goal.returns-in-Catch-clause-less
returns-in-Catch-clause-less c = rw c.in-Catch.is (omega (arith, c.begin_catch.ensures.less place_weight, lighter c.in-Catch.catch c.node-in-Catch.result.now c.node-in-Catch.ensures.below))

pub returns-in-Start-clause-means : goal.returns-in-Start-clause-means
returns-in-Start-clause-means c = λ p. rw c.in-Start.is (ap (plug (view_of p c.args.code.now.nodes) c.args.frames.now.items) (c.begin_init.ensures.means (view_of p c.args.code.now.nodes)
    ∙ ap (λ x. M.comp_for_init p (as_for_init x) c.in-Start.env.index) (sym c.node-in-Start.ensures.read)))

pub returns-in-Start-clause-less : goal.returns-in-Start-clause-less
returns-in-Start-clause-less c = rw c.in-Start.is (omega (arith, c.begin_init.ensures.less place_weight, lighter c.in-Start.init c.node-in-Start.result.now c.node-in-Start.ensures.below))

pub returns-in-Again-clause-means : goal.returns-in-Again-clause-means
returns-in-Again-clause-means c = IfOk-weaker c.begin_again.result _ _ (λ next means p. rw c.in-Again.is (means (view_of p c.args.code.now.nodes) c.node-in-Again.ensures.read ∙ ap (plug (view_of p c.args.code.now.nodes) c.args.frames.now.items) (ap (λ x. again (view_of p c.args.code.now.nodes) (as_stmt x) (labels_of (view_of p c.args.code.now.nodes) c.in-Again.labels) c.in-Again.env.index) (sym c.node-in-Again.ensures.read)))) c.begin_again.ensures.means

pub returns-in-Again-clause-less : goal.returns-in-Again-clause-less
returns-in-Again-clause-less c = IfOk-weaker c.begin_again.result _ _ (λ next less. rw c.in-Again.is (omega (arith, less place_weight, lighter c.in-Again.statement c.node-in-Again.result.now c.node-in-Again.ensures.below))) c.begin_again.ensures.less

pub returns-in-Take-clause-means : goal.returns-in-Take-clause-means
returns-in-Take-clause-means c = IfOk-weaker c.begin_take.result _ _ (λ control means p. rw c.in-Take.is (ap (plug (view_of p c.args.code.now.nodes) c.args.frames.now.items) (means (view_of p c.args.code.now.nodes) (ap (λ (r : Loop). (view_of p c.args.code.now.nodes).name r.target) (sym c.get.ensures) ∙ ap name_of (sym c.node-in-Take.ensures.is))
    ∙ ap (λ x. M.takes p (as_for_target x) c.in-Take.round.env.index c.in-Take.value (λ inner. pass (view_of p c.args.code.now.nodes) c.in-Take.round inner (plain_iteration c.in-Take.rest))) (sym c.node-in-Take.ensures.read ∙ ap (λ (r : Loop). (view_of p c.args.code.now.nodes).tree r.target) c.get.ensures)))) c.begin_take.ensures.means

pub returns-in-Take-clause-less : goal.returns-in-Take-clause-less
returns-in-Take-clause-less c = IfOk-weaker c.begin_take.result _ _ (λ control less. rw c.in-Take.is (omega (arith, less place_weight, lighter c.get.result.now.target c.node-in-Take.result.now c.node-in-Take.ensures.below, ap (λ (r : Loop). place_weight r.target) c.get.ensures))) c.begin_take.ensures.less

pub returns-in-BindAll-clause-means : goal.returns-in-BindAll-clause-means
returns-in-BindAll-clause-means c = IfOk-weaker c.begin_parameters.result _ _ (λ next means p. rw c.in-BindAll.is (means (view_of p c.args.code.now.nodes) ∙ ap (plug (view_of p c.args.code.now.nodes) c.args.frames.now.items) (ap (λ x. handle (M.comp_params p (params_of (as_code x)) c.in-BindAll.env.index c.in-BindAll.arguments) (M.with_value (λ v. body_comp (view_of p c.args.code.now.nodes) c.in-BindAll.function c.in-BindAll.env.index))) (sym c.node-in-BindAll.ensures.read)))) c.begin_parameters.ensures.means

pub returns-in-BindAll-clause-less : goal.returns-in-BindAll-clause-less
returns-in-BindAll-clause-less c = IfOk-weaker c.begin_parameters.result _ _ (λ next less. rw c.in-BindAll.is (omega (arith, less place_weight, lighter c.in-BindAll.function c.node-in-BindAll.result.now c.node-in-BindAll.ensures.below))) c.begin_parameters.ensures.less

pub returns-in-Bind-clause-means : goal.returns-in-Bind-clause-means
returns-in-Bind-clause-means c = λ p. rw c.in-Bind.is (ap (plug (view_of p c.args.code.now.nodes) c.args.frames.now.items) (c.begin_params.ensures.means (view_of p c.args.code.now.nodes)
    ∙ ap (λ x. M.comp_params p (as_params x) c.in-Bind.env.index (drop c.in-Bind.next c.in-Bind.arguments)) (sym c.node-in-Bind.ensures.read)))

pub returns-in-Bind-clause-less : goal.returns-in-Bind-clause-less
returns-in-Bind-clause-less c = rw c.in-Bind.is (omega (arith, c.begin_params.ensures.less place_weight, lighter c.in-Bind.params c.node-in-Bind.result.now c.node-in-Bind.ensures.below))

pub returns-in-Run-clause-means : goal.returns-in-Run-clause-means
returns-in-Run-clause-means c = IfOk-weaker c.begin_body.result _ _ (λ next means p. rw c.in-Run.is (means (view_of p c.args.code.now.nodes) ∙ ap (plug (view_of p c.args.code.now.nodes) c.args.frames.now.items) (ap (λ x. M.comp_concise p (arrow_body (as_code x)) c.in-Run.env.index) (sym c.node-in-Run.ensures.read)))) c.begin_body.ensures.means

pub returns-in-Run-clause-less : goal.returns-in-Run-clause-less
returns-in-Run-clause-less c = IfOk-weaker c.begin_body.result _ _ (λ next less. rw c.in-Run.is (omega (arith, less place_weight, lighter c.in-Run.function c.node-in-Run.result.now c.node-in-Run.ensures.below))) c.begin_body.ensures.less

pub returns-in-EvaluateIf-clause-means : goal.returns-in-EvaluateIf-clause-means
returns-in-EvaluateIf-clause-means c = λ p. rw c.in-EvaluateIf.is (ap (plug (view_of p c.args.code.now.nodes) c.args.frames.now.items) (c.evaluate_if.ensures.means (view_of p c.args.code.now.nodes) ∙ ap (λ e. M.comp_expr_if p e c.in-EvaluateIf.env.index) (sym (c.there.ensures.expr p))))

pub returns-in-EvaluateIf-clause-less : goal.returns-in-EvaluateIf-clause-less
returns-in-EvaluateIf-clause-less c = rw c.in-EvaluateIf.is (omega (arith, c.evaluate_if.ensures.less place_weight, c.there.ensures.weight))

pub returns-in-ExecuteIf-clause-means : goal.returns-in-ExecuteIf-clause-means
returns-in-ExecuteIf-clause-means c = λ p. rw c.in-ExecuteIf.is (ap (plug (view_of p c.args.code.now.nodes) c.args.frames.now.items) (c.execute_if.ensures.means (view_of p c.args.code.now.nodes) ∙ ap (λ e. M.comp_stmt_if p e c.in-ExecuteIf.env.index) (sym (c.there-in-ExecuteIf.ensures.stmt p))))

pub returns-in-ExecuteIf-clause-less : goal.returns-in-ExecuteIf-clause-less
returns-in-ExecuteIf-clause-less c = rw c.in-ExecuteIf.is (omega (arith, c.execute_if.ensures.less place_weight, c.there-in-ExecuteIf.ensures.weight))

pub returns-in-Test-clause-means : goal.returns-in-Test-clause-means
returns-in-Test-clause-means c = IfOk-weaker c.begin_test.result _ _ (λ next means p. rw c.in-Test.is (means (view_of p c.args.code.now.nodes) ∙ ap (plug (view_of p c.args.code.now.nodes) c.args.frames.now.items) (ap (λ e. M.turn_if p e (stmt_at (view_of p c.args.code.now.nodes) c.in-Test.statement) (labels_of (view_of p c.args.code.now.nodes) c.in-Test.labels) c.in-Test.env.index) (sym (c.there-in-Test.ensures.expr p))))) c.begin_test.ensures.means

pub returns-in-Test-clause-less : goal.returns-in-Test-clause-less
returns-in-Test-clause-less c = IfOk-weaker c.begin_test.result _ _ (λ next less. rw c.in-Test.is (omega (arith, less place_weight, tested_less place_weight c.there-in-Test.result, c.there-in-Test.ensures.weight))) c.begin_test.ensures.less

pub returns-in-Referred-clause-means : goal.returns-in-Referred-clause-means
returns-in-Referred-clause-means c = IfOk-weaker c.begin_referred.result _ _ (λ next means p. rw c.in-Referred.is (means (view_of p c.args.code.now.nodes))) c.begin_referred.ensures.means

pub returns-in-Referred-clause-less : goal.returns-in-Referred-clause-less
returns-in-Referred-clause-less c = IfOk-weaker c.begin_referred.result _ _ (λ step less. rw c.in-Referred.is (less place_weight)) c.begin_referred.ensures.less

pub returns-in-Keyed-clause-means : goal.returns-in-Keyed-clause-means
returns-in-Keyed-clause-means c = IfOk-weaker c.begin_keyed.result _ _ (λ next means p. rw c.in-Keyed.is (means (view_of p c.args.code.now.nodes))) c.begin_keyed.ensures.means

pub returns-in-Keyed-clause-less : goal.returns-in-Keyed-clause-less
returns-in-Keyed-clause-less c = IfOk-weaker c.begin_keyed.result _ _ (λ step less. rw c.in-Keyed.is (less place_weight)) c.begin_keyed.ensures.less

pub returns-in-TemplateText-clause-means : goal.returns-in-TemplateText-clause-means
returns-in-TemplateText-clause-means c = IfOk-weaker c.template_text.result _ _ (λ next means p. rw c.in-TemplateText.is (ap (plug (view_of p c.args.code.now.nodes) c.args.frames.now.items) (means p))) c.template_text.ensures.means

pub returns-in-TemplateText-clause-less : goal.returns-in-TemplateText-clause-less
returns-in-TemplateText-clause-less c = IfOk-weaker c.template_text.result _ _ (λ step less. rw c.in-TemplateText.is (omega (arith, less place_weight))) c.template_text.ensures.less

pub returns-in-DeclareOne-clause-means : goal.returns-in-DeclareOne-clause-means
returns-in-DeclareOne-clause-means c = rw c.in-DeclareOne.is c.declare.ensures.means

pub returns-in-DeclareOne-clause-less : goal.returns-in-DeclareOne-clause-less
returns-in-DeclareOne-clause-less c = rw c.in-DeclareOne.is c.declare.ensures.less

pub returns-in-ExecuteAll-clause-means : goal.returns-in-ExecuteAll-clause-means
returns-in-ExecuteAll-clause-means c = rw c.in-ExecuteAll.is c.execute_all.ensures.means

pub returns-in-ExecuteAll-clause-less : goal.returns-in-ExecuteAll-clause-less
returns-in-ExecuteAll-clause-less c = rw c.in-ExecuteAll.is c.execute_all.ensures.less

pub returns-in-SelectCase-clause-means : goal.returns-in-SelectCase-clause-means
returns-in-SelectCase-clause-means c = rw c.in-SelectCase.is c.select_case.ensures.means

pub returns-in-SelectCase-clause-less : goal.returns-in-SelectCase-clause-less
returns-in-SelectCase-clause-less c = rw c.in-SelectCase.is c.select_case.ensures.less

pub returns-in-DefaultCase-clause-means : goal.returns-in-DefaultCase-clause-means
returns-in-DefaultCase-clause-means c = rw c.in-DefaultCase.is c.default_case.ensures.means

pub returns-in-DefaultCase-clause-less : goal.returns-in-DefaultCase-clause-less
returns-in-DefaultCase-clause-less c = rw c.in-DefaultCase.is c.default_case.ensures.less

pub returns-in-Continued-clause-means : goal.returns-in-Continued-clause-means
returns-in-Continued-clause-means c = λ p. rw c.in-Continued.is (ap (plug (view_of p c.args.code.now.nodes) c.args.frames.now.items) (c.continued.ensures.means p))

pub returns-in-Continued-clause-less : goal.returns-in-Continued-clause-less
returns-in-Continued-clause-less c = rw c.in-Continued.is (omega (arith, c.continued.ensures.less place_weight))

pub returns-in-ContinuedPass-clause-means : goal.returns-in-ContinuedPass-clause-means
returns-in-ContinuedPass-clause-means c = λ p. rw c.in-ContinuedPass.is (ap (plug (view_of p c.args.code.now.nodes) c.args.frames.now.items) (c.continued_pass.ensures.means p))

pub returns-in-ContinuedPass-clause-less : goal.returns-in-ContinuedPass-clause-less
returns-in-ContinuedPass-clause-less c = rw c.in-ContinuedPass.is (omega (arith, c.continued_pass.ensures.less place_weight))

pub returns-in-Broken-clause-means : goal.returns-in-Broken-clause-means
returns-in-Broken-clause-means c = λ p. rw c.in-Broken.is (ap (plug (view_of p c.args.code.now.nodes) c.args.frames.now.items) (c.broken_at.ensures.means p))

pub returns-in-Broken-clause-less : goal.returns-in-Broken-clause-less
returns-in-Broken-clause-less c = rw c.in-Broken.is (omega (arith, c.broken_at.ensures.less place_weight))

pub returns-in-BindParam-clause-means : goal.returns-in-BindParam-clause-means
returns-in-BindParam-clause-means c = rw c.in-BindParam.is c.bind_param.ensures.means

pub returns-in-BindParam-clause-less : goal.returns-in-BindParam-clause-less
returns-in-BindParam-clause-less c = rw c.in-BindParam.is c.bind_param.ensures.less

pub returns-in-Try-clause-means : goal.returns-in-Try-clause-means
returns-in-Try-clause-means c = IfOk-weaker c.begin_try.result _ _ (λ next means p. rw c.in-Try.is (means (view_of p c.args.code.now.nodes))) c.begin_try.ensures.means

pub returns-in-Try-clause-less : goal.returns-in-Try-clause-less
returns-in-Try-clause-less c = IfOk-weaker c.begin_try.result _ _ (λ next weight. rw c.in-Try.is (omega (arith, weight place_weight))) c.begin_try.ensures.weight

pub returns-in-RunFile-clause-means : goal.returns-in-RunFile-clause-means
returns-in-RunFile-clause-means c = IfOk-weaker c.with_frame.result _ _ (λ control means p. rw c.in-RunFile.is (means (view_of p c.args.code.now.nodes))) c.with_frame.ensures.means

pub returns-in-RunFile-clause-less : goal.returns-in-RunFile-clause-less
returns-in-RunFile-clause-less c = IfOk-weaker c.with_frame.result _ _ (λ control weight. rw c.in-RunFile.is (omega (arith, weight place_weight))) c.with_frame.ensures.weight

pub returns-in-Within-clause-means : goal.returns-in-Within-clause-means
returns-in-Within-clause-means c = IfOk-weaker c.begin_within.result _ _ (λ next means p. rw c.in-Within.is (means (view_of p c.args.code.now.nodes))) c.begin_within.ensures.means

pub returns-in-Within-clause-less : goal.returns-in-Within-clause-less
returns-in-Within-clause-less c = IfOk-weaker c.begin_within.result _ _ (λ next less. rw c.in-Within.is (less place_weight)) c.begin_within.ensures.less
