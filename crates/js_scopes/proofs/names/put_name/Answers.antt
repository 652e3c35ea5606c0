-- The name goes where its bytes go.
use Rattle.std.proofs.Common.{arith}
use Rattle.js_scopes.proofs.Keys.{insert_key-bytes}
use Rattle.js_scopes.proofs.names.put_name.Goals as goal

pub returns : goal.returns
returns c = grind (arith, insert_key-bytes c.args.names.now.keys c.into_string.result)
