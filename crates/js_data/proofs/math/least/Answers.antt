use Rattle.std.proofs.Common.{◌≡◌, ℕ, suc, ◌<◌, List, ◌∷◌, length, map, drop, get_or, drop-cons, ℤ, Err, sym, subst, ap, ◌∙◌, rules, w64, to_z, of_z}
use Rattle.std.proofs.lemmas.Int.{to_z-of_z}
use Rattle.js_value.specs.declared.value.Value.{Value}
use Rattle.js_value.specs.declared.deed.Halt.{Halt}
use Rattle.js_value.specs.Arguments.{Or, seen, to_number}
use Rattle.js_value.specs.OnData.{least, lesser}
use Rattle.js_data.specs.Does.{Does}
use Rattle.js_data.proofs.Halts.{halted_as}
use Rattle.js_data.proofs.math.least.Goals as goal

-- a value that is no number ends the walk
stops : (m : ℤ) (vs : List Value) (i : ℕ) (v : Value) (t : Or ℤ) (h : Halt) → i < length vs → v ≡ get_or vs i v → least m (map seen (drop i vs)) ≡ t → Does (to_number (seen v)) (Err h) → Does t (Err h)
stops m vs i v t h lt is so_far e =
    halted_as (to_number (seen v)) (λ n. least (lesser m n) (map seen (drop (suc i) vs))) t h
    (ap (λ x. least m (map seen (x ∷ drop (suc i) vs))) is ∙ sym (ap (λ xs. least m (map seen xs)) (drop-cons vs i v lt)) ∙ so_far) e

pub returns-in_err-number : goal.returns-in_err-number
returns-in_err-number c =
    let so_far : least (to_z w64 c.loop-value.least-bits) (map seen (drop c.loop-value.value-index c.args.values.now)) ≡ least (to_z w64 (of_z w64 c.args.first)) (map seen c.args.values.now) = c.loop-value.invariant in
    let stopped : Does (least (to_z w64 (of_z w64 c.args.first)) (map seen c.args.values.now)) (Err c.in_err-number.field-0.0) =
    stops (to_z w64 c.loop-value.least-bits) c.args.values.now c.loop-value.value-index c.value-item.result (least (to_z w64 (of_z w64 c.args.first)) (map seen c.args.values.now)) c.in_err-number.field-0.0 c.loop-value-test.true c.value-item.is so_far c.in_err-number.ensures in
    let first_is : to_z w64 (of_z w64 c.args.first) ≡ c.args.first = to_z-of_z w64 c.args.first (search rules) in
    let halts : Does (least c.args.first (map seen c.args.values.now)) (Err c.in_err-number.field-0.0) =
    subst (λ (n : ℤ). Does (least n (map seen c.args.values.now)) (Err c.in_err-number.field-0.0)) first_is stopped in
    search (rules, halts)
