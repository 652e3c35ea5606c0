use Rattle.std.proofs.Common.{refl}
use Rattle.js_machine.proofs.member_actions.key_value.Goals as goal

pub returns-in_ok-units_at-in-Name : goal.returns-in_ok-units_at-in-Name
returns-in_ok-units_at-in-Name c = rw (c.in-Name.is, c.in_ok-units_at-in-Name.ensures) refl

pub returns-in-Value : goal.returns-in-Value
returns-in-Value c = rw c.in-Value.is refl
