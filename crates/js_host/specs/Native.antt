-- What the definitions of the host see in the answer of a built-in function.
use Rattle.js_value.specs.Host as host
use Rattle.js_host.specs.declared.native.Native.{Native}
use Rattle.js_host.specs.declared.native.Native.TheVariants.{Value, Throw, Refuse, Write, Enter, Require}

abbrev pub plain_native : Native → host.Native
plain_native (Value v) = host.Answers v
plain_native (Throw kind message) = host.Throws kind message
plain_native (Refuse kind) = host.Refuses kind
plain_native (Write bytes) = host.Writes bytes
plain_native (Enter function this arguments) = host.Calls function this arguments
plain_native (Require text) = host.Requires text
