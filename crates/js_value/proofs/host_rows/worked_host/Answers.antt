use Rattle.js_value.proofs.HostWorked.{array_calls, object_calls, constructor_calls, calling, requires_files}
use Rattle.js_value.proofs.host_rows.worked_host.Goals as goal

pub returns-clause-array_calls : goal.returns-clause-array_calls
returns-clause-array_calls c = array_calls

pub returns-clause-object_calls : goal.returns-clause-object_calls
returns-clause-object_calls c = object_calls

pub returns-clause-constructor_calls : goal.returns-clause-constructor_calls
returns-clause-constructor_calls c = constructor_calls

pub returns-clause-calling : goal.returns-clause-calling
returns-clause-calling c = calling

pub returns-clause-requires_files : goal.returns-clause-requires_files
returns-clause-requires_files c = requires_files
