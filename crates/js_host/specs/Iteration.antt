-- What the definition sees in what is left to go through.
use Rattle.std.specs.Prelude.{Result, Ok, Err, drop}
use Rattle.js_value.specs.declared.deed.Halt.{Halt}
use Rattle.js_value.specs.Iterations as spec
use Rattle.js_host.specs.declared.iterations.Iteration.{Iteration}
use Rattle.js_host.specs.declared.iterations.Iteration.TheVariants as iteration

abbrev pub plain_iteration : Iteration → spec.Iteration
plain_iteration (iteration.Keys of keys next) = spec.Keys of (drop next keys)
plain_iteration (iteration.Elements array next) = spec.Elements array.index next
plain_iteration (iteration.Characters units next) = spec.Characters (drop next units)

abbrev pub plain_items : Result Iteration Halt → Result spec.Iteration Halt
plain_items (Ok all) = Ok (plain_iteration all)
plain_items (Err halt) = Err halt
