use Rattle.std.proofs.Common.{refl}
use Rattle.js_machine.proofs.functions.is_undefined.Goals as goal

pub returns-in-Primitive : goal.returns-in-Primitive
returns-in-Primitive c = rw c.in-Primitive.is c.is_undefined_primitive.ensures

pub returns-in-Object : goal.returns-in-Object
returns-in-Object c = rw c.in-Object.is refl
