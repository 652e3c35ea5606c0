use Rattle.std.proofs.Common.{◌≡◌, IfOk, subst}
use Rattle.js_value.specs.Functions.{name_units}
use Rattle.js_machine.proofs.names.no_units.Goals as goal

pub returns : goal.returns
returns c = subst (λ n. IfOk c.units_of.result (λ units. units ≡ name_units n)) c.args.words.now.nameless.is c.units_of.ensures
