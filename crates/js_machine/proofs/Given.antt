-- What the answer of an operator is as a computation.
use Rattle.std.proofs.Common.{◌≡◌, Option, Some, None, sym, ap}
use Rattle.js_value.specs.declared.value.Value.{Value}
use Rattle.js_value.specs.Conversions.{Answer, Gives, Refuses, given}
use Rattle.js_value.specs.Realm.{undefined}
use Rattle.js_meaning.specs.Meaning as M

abbrev or_undefined : Option Value → Value
or_undefined None = undefined
or_undefined (Some v) = v

pub given_value : (a : Answer) (v : Value) → given a ≡ Some v → M.give v ≡ M.answered a
given_value (Gives p) v h = ap (λ o. M.give (or_undefined o)) (sym h)
given_value (Refuses k) v h = cc
