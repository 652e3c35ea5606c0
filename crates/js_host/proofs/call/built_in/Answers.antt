use Rattle.js_value.specs.Realm as realm
use Rattle.js_host.proofs.call.built_in.Goals as goal

pub returns : goal.returns
unfolding realm.rows
returns c = c.function_of.ensures
