use Rattle.js_value.proofs.RealmWorked.{places, inheritance, functions, errors, global_names}
use Rattle.js_value.proofs.realm_rows.worked_realm.Goals as goal

pub returns-clause-places : goal.returns-clause-places
returns-clause-places c = places

pub returns-clause-inheritance : goal.returns-clause-inheritance
returns-clause-inheritance c = inheritance

pub returns-clause-functions : goal.returns-clause-functions
returns-clause-functions c = functions

pub returns-clause-errors : goal.returns-clause-errors
returns-clause-errors c = errors

pub returns-clause-names : goal.returns-clause-names
returns-clause-names c = global_names
