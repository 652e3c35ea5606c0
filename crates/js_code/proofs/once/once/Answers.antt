-- A name that was seen is left out, and another goes to the end.
use Rattle.std.proofs.Common.{◌++◌, ◌∷◌, [], ap, ◌∙◌}
use Rattle.js_code.proofs.SeenNames.{once_known, once_fresh, once_same, one_more}
use Rattle.js_code.proofs.once.once.Goals as goal
use Rattle.js_code.proofs.once.once.Goals.{then-branch+in_ok-copy+in_ok-push, else-branch}

pub loop-name-init : goal.loop-name-init
loop-name-init c = rw c.new-kept.ensures (once_same _ _ _ c.in_ok-seen.ensures)

pub loop-name-preserved : goal.loop-name-preserved
loop-name-preserved c = elim c.if-branch.branch [
  | then-branch+in_ok-copy+in_ok-push w ↦
      let left = once_fresh _ _ c.as_str.result _ _ _ _ c.loop-name-test.true c.name-item.is c.as_str.ensures c.in_ok-insert.ensures.added w.if-branch.true c.in_ok-insert.ensures.updates in
      one_more _ _ _ _ _ _ (w.kept-is ∙ w.in_ok-push.ensures.ok ∙ ap (λ copy. c.loop-name.kept ++ copy ∷ []) w.in_ok-copy.ensures) left c.loop-name.invariant
  | else-branch w ↦
      let left = once_known _ _ c.as_str.result _ _ _ _ c.loop-name-test.true c.name-item.is c.as_str.ensures c.in_ok-insert.ensures.added w.if-branch.false c.in_ok-insert.ensures.unchanged in
      rw w.kept-is (ap (λ rest. c.loop-name.kept ++ rest) left ∙ c.loop-name.invariant)
]
