-- What is taken off stood before those that are left.
use Rattle.std.proofs.Common.{◌≡◌, ◌∷◌, IfSome, subst}
use Rattle.std.specs.Prelude.{reverse}
use Rattle.js_stack.proofs.LeftLemmas.{left_next}
use Rattle.js_stack.proofs.left.Left.next.Goals as goal

pub returns-clause-some : goal.returns-clause-some
returns-clause-some c =
    subst (λ left. IfSome c.pop.result (λ slot. left ≡ slot ∷ reverse c.pop.new.self.items)) c.self.view_is (left_next c.self.inside.reversed.items c.pop.new.self.items c.pop.result c.pop.ensures.items)
