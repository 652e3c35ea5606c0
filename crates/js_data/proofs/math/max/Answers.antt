use Rattle.std.proofs.Common.{List, map, subst, sym, rules, arith, w64}
use Rattle.std.proofs.lemmas.Int.{to_z-of_z}
use Rattle.js_value.specs.declared.value.Value.{Value}
use Rattle.js_value.specs.Arguments.{seen}
use Rattle.js_value.specs.OnData.{max_of}
use Rattle.js_data.specs.Does.{Does}
use Rattle.js_data.proofs.Steps.{uncons}
use Rattle.js_data.proofs.math.max.Goals as goal

pub returns-in_ok-number-in-len1-up : goal.returns-in_ok-number-in-len1-up
returns-in_ok-number-in-len1-up c =
    let is = uncons c.args.arguments.now c.first-item.result (omega arith) c.first-item.is in
    subst (λ (xs : List Value). Does (max_of (map seen xs)) c.greatest_of.result) (sym is) (rw c.in_ok-number-in-len1-up.ensures (rw (to_z-of_z w64 c.in_ok-number-in-len1-up.field-0 (search rules)) at c.greatest_of.ensures))
