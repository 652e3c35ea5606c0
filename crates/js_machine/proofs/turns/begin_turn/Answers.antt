use Rattle.std.proofs.Common.{refl, sym, ap, ◌∙◌}
use Rattle.js_code.specs.Node.{build}
use Rattle.js_machine.proofs.OtherForms as forms
use Rattle.js_code.specs.Part.{as_stmt}
use Rattle.js_machine.proofs.turns.begin_turn.Goals as goal

pub returns-in-DoWhile : goal.returns-in-DoWhile
returns-in-DoWhile c = λ t at. rw (c.in-DoWhile.is, c.round_body.ensures, ap as_stmt (at ∙ ap (build t.tree) c.in-DoWhile.is)) refl

pub returns-in-While : goal.returns-in-While
returns-in-While c = λ t at. rw (c.in-While.is, c.round_body-in-While.ensures, ap as_stmt (at ∙ ap (build t.tree) c.in-While.is)) refl

pub returns-in-For : goal.returns-in-For
returns-in-For c = λ t at. rw (c.in-For.is, c.round_body-in-For.ensures, ap as_stmt (at ∙ ap (build t.tree) c.in-For.is)) refl

pub returns-in_default : goal.returns-in_default
returns-in_default c = λ t at. rw c.undefined.ensures (sym (forms.else_turn t.program _ c.args.env.index t.tree c.args.node.now c.in_default.not-DoWhile c.in_default.not-While c.in_default.not-For))
