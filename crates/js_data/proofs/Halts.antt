-- What stops a part of an answer stops the answer.
use Rattle.std.proofs.Common.{◌≡◌, Err, subst, ap}
use Rattle.js_value.specs.declared.deed.Halt.{Halt}
use Rattle.js_value.specs.declared.deed.Halt.TheVariants.{Throw, Refuse, Memory}
use Rattle.js_value.specs.Arguments.{Or, ◌>>=◌}
use Rattle.js_data.specs.Does.{Does}

pub halted : {A B : Type 0} (m : Or A) (f : A → Or B) (h : Halt) → Does m (Err h) → Does (m >>= f) (Err h)
halted m f (Throw c) is = ap (λ x. x >>= f) is
halted m f (Refuse k) is = ap (λ x. x >>= f) is
halted m f Memory is = tt

-- and where the answer is known by another name
pub halted_as : {A B : Type 0} (m : Or A) (f : A → Or B) (d : Or B) (h : Halt) → (m >>= f) ≡ d → Does m (Err h) → Does d (Err h)
halted_as {A} {B} m f d h same is = subst (λ (x : Or B). Does x (Err h)) same (halted m f h is)
