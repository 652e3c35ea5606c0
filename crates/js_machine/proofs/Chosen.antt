-- What is chosen by a value, and what is done in place of one.
use Rattle.std.proofs.Common.{◌≡◌, Bool, true, false, not, Result, Ok, Err, IfOk, IsErr, refl, sym, ap, if◌then◌else◌}
use Rattle.std.proofs.lemmas.Bool.{false≢true}
use Rattle.js_terms.specs.declared.operators.LogicalOperator.{LogicalOperator}
use Rattle.js_terms.specs.declared.operators.LogicalOperator.TheVariants as logical
use Rattle.js_value.specs.declared.value.Value.{Value}
use Rattle.js_value.specs.declared.deed.Halt.{Halt}
use Rattle.js_value.specs.declared.deed.Halt.TheVariants as halt
use Rattle.js_value.specs.Arguments.{Or}
use Rattle.js_value.specs.Conversions.{to_boolean}
use Rattle.js_value.specs.Copying.{Copied}
use Rattle.js_value.specs.State.{Heap}
use Rattle.js_data.specs.Does.{Does}
use Rattle.js_host.specs.Halts.{HaltsAs}
use Rattle.js_meaning.specs.Effects.{Comp}
use Rattle.js_meaning.specs.Meaning as M
use Rattle.js_machine.specs.private.Config.{decides_right}

if_true : {A : Type 0} (b : Bool) (x y : A) → b ≡ true → x ≡ if b then x else y
if_true true x y h = refl
if_true false x y h = cc

if_false : {A : Type 0} (b : Bool) (x y : A) → b ≡ false → y ≡ if b then x else y
if_false true x y h = cc
if_false false x y h = refl

if_not : {A : Type 0} (b : Bool) (x y : A) → not b ≡ true → y ≡ if b then x else y
if_not true x y h = cc
if_not false x y h = refl

if_not_not : {A : Type 0} (b : Bool) (x y : A) → not b ≡ false → x ≡ if b then x else y
if_not_not true x y h = refl
if_not_not false x y h = cc

-- the right operand decides, or the left one is the value (13.13)
pub goes_right : (operator : LogicalOperator) (right : Comp) (v : Value) → decides_right operator v ≡ true → right ≡ M.chosen operator right v
goes_right logical.And right v h = if_true (to_boolean v) right (M.give v) h
goes_right logical.Or right v h = if_not (to_boolean v) (M.give v) right h
goes_right logical.Coalesce right v h = if_true (M.is_nullish v) right (M.give v) h

pub stays_left : (operator : LogicalOperator) (right : Comp) (v : Value) → decides_right operator v ≡ false → M.give v ≡ M.chosen operator right v
stays_left logical.And right v h = if_false (to_boolean v) right (M.give v) h
stays_left logical.Or right v h = if_not_not (to_boolean v) (M.give v) right h
stays_left logical.Coalesce right v h = if_false (M.is_nullish v) right (M.give v) h

-- a halt stands for itself, but for want of memory, which definitions never have
pub halts : {A : Type 0} (o : Or A) (next : A → Comp) (h : Halt) → Does o (Err h) → (h ≡ halt.Memory → ⊥) → M.halted h ≡ M.or_halt o next
halts o next (halt.Throw c) does n = ap (λ x. M.or_halt x next) (sym does)
halts o next (halt.Refuse k) does n = ap (λ x. M.or_halt x next) (sym does)
halts o next halt.Memory does n = absurd (n refl)

-- what is done in its place, where that is there
pub halted_if : {S E : Type 0} (r : Result S E) (h : Halt) (P Q : S → Type 0) → (h ≡ halt.Memory → IsErr r) → IfOk r P →
    ((s : S) → (h ≡ halt.Memory → ⊥) → P s → Q s) → IfOk r Q
halted_if (Ok s) h P Q memory p weaker = weaker s (λ is. false≢true (memory is)) p
halted_if (Err e) h P Q memory p weaker = tt

-- a change that stopped left this heap
pub stopped_heap : (c : Copied) (h : Heap) (stop : Halt) → HaltsAs c h (Err stop) → (stop ≡ halt.Memory → ⊥) → h ≡ c.heap
stopped_heap c h (halt.Throw x) does n = ap (λ (d : Copied). d.heap) (sym does)
stopped_heap c h (halt.Refuse k) does n = ap (λ (d : Copied). d.heap) (sym does)
stopped_heap c h halt.Memory does n = absurd (n refl)

pub stopped_halt : (c : Copied) (h : Heap) (stop : Halt) (next : Comp) → HaltsAs c h (Err stop) → (stop ≡ halt.Memory → ⊥) → M.halted stop ≡ M.unless_halted c.halt next
stopped_halt c h (halt.Throw x) next does n = ap (λ (d : Copied). M.unless_halted d.halt next) (sym does)
stopped_halt c h (halt.Refuse k) next does n = ap (λ (d : Copied). M.unless_halted d.halt next) (sym does)
stopped_halt c h halt.Memory next does n = absurd (n refl)
