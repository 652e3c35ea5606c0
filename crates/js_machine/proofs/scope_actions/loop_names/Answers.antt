use Rattle.std.proofs.Common.{refl, ap, ◌∙◌}
use Rattle.std.proofs.lemmas.Result.{IfOk-weaker}
use Rattle.std.proofs.Common.{[], ◌∷◌}
use Rattle.js_code.specs.Code.{reader}
use Rattle.js_code.specs.Part.{as_for_target}
use Rattle.js_meaning.specs.Scopes.{lexical_names, target_scope}
use Rattle.js_machine.specs.declared.parts.Loop.{Loop}
use Rattle.js_machine.proofs.scope_actions.loop_names.Goals as goal

pub returns-in-For : goal.returns-in-For
returns-in-For c = rw c.in-For.is (IfOk-weaker c.init_names.result _ _ (λ names e p. e) c.init_names.ensures)

pub returns-in-Subject : goal.returns-in-Subject
returns-in-Subject c = rw c.in-Subject.is (IfOk-weaker c.target_names.result _ _ (λ names e p. e ∙ ap (λ (r : Loop). (target_scope (as_for_target (reader c.args.code.now.nodes r.target))).lexical) c.get.ensures) c.target_names.ensures)

pub returns-in-Target : goal.returns-in-Target
returns-in-Target c = rw c.in-Target.is (IfOk-weaker c.kind_names.result _ _ (λ names e p. e ∙ ap (λ n. lexical_names c.in-Target.kind (n ∷ [])) c.name_at.ensures) c.kind_names.ensures)

pub returns-in-Turn : goal.returns-in-Turn
returns-in-Turn c = λ p. rw (c.in-Turn.is, c.new.ensures) refl

pub returns-in-Update : goal.returns-in-Update
returns-in-Update c = λ p. rw (c.in-Update.is, c.new-in-Update.ensures) refl

pub returns-in-Switch : goal.returns-in-Switch
returns-in-Switch c = λ p. rw (c.in-Switch.is, c.new-in-Switch.ensures) refl

pub returns-in-Block : goal.returns-in-Block
returns-in-Block c = λ p. rw (c.in-Block.is, c.new-in-Block.ensures) refl

pub returns-in-OwnName : goal.returns-in-OwnName
returns-in-OwnName c = λ p. rw (c.in-OwnName.is, c.new-in-OwnName.ensures) refl
