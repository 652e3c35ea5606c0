use Rattle.std.proofs.Common.{refl, sym, ap, ◌∙◌}
use Rattle.js_meaning.specs.Scopes.{stands_in}
use Rattle.js_machine.specs.declared.parts.Loop.{Loop}
use Rattle.js_machine.specs.private.Config.{labels_in}
use Rattle.js_machine.proofs.begin.continued_pass.Goals as goal

pub returns-then-stands_in-clause-means : goal.returns-then-stands_in-clause-means
returns-then-stands_in-clause-means c = λ p. rw (ap (λ ls. stands_in c.args.label (labels_in c.args.code.now.nodes ls)) (sym (c.as_slice.ensures ∙ ap (λ (r : Loop). r.labels) c.get.ensures)) ∙ sym c.stands_in.ensures ∙ c.if-stands_in.true) refl

pub returns-else-stands_in-clause-means : goal.returns-else-stands_in-clause-means
returns-else-stands_in-clause-means c = λ p. rw (ap (λ ls. stands_in c.args.label (labels_in c.args.code.now.nodes ls)) (sym (c.as_slice.ensures ∙ ap (λ (r : Loop). r.labels) c.get.ensures)) ∙ sym c.stands_in.ensures ∙ c.if-stands_in.false) refl
