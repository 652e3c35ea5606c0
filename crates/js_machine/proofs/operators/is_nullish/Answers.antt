use Rattle.std.proofs.Common.{refl}
use Rattle.js_machine.proofs.operators.is_nullish.Goals as goal

pub returns-in-Primitive : goal.returns-in-Primitive
returns-in-Primitive c = rw c.in-Primitive.is c.is_nullish_primitive.ensures

pub returns-in-Object : goal.returns-in-Object
returns-in-Object c = rw c.in-Object.is refl
