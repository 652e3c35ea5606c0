use Rattle.std.proofs.Common.{arith, Result, Ok, Err, IfOk}
use Rattle.std.specs.Result.{result_and}
use Rattle.js_machine.proofs.frames.with_frame.Goals as goal

-- what holds of what is next, where something that came before went well
follows : {A B E : Type 0} (r : Result A E) (next : B) (P : A → Type 0) (Q : B → Type 0) → ((a : A) → P a → Q next) → IfOk r P → IfOk (result_and r (Ok next)) Q
follows (Ok a) next P Q so p = so a p
follows (Err e) next P Q so p = tt

pub returns-clause-means : goal.returns-clause-means
returns-clause-means c = rw c.and.ensures (follows c.push.result c.args.next _ _ (λ done means t. means t _) c.push.ensures.means)

pub returns-clause-weight : goal.returns-clause-weight
returns-clause-weight c = rw c.and.ensures (follows c.push.result c.args.next _ _ (λ done weight w. omega (arith, weight w)) c.push.ensures.weight)
