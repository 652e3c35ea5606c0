-- How code that changes the heap stops, by its definition.
use Rattle.std.specs.Prelude.{◌≡◌, Result, Ok, Err}
use Rattle.js_value.specs.declared.deed.Halt.{Halt}
use Rattle.js_value.specs.declared.deed.Halt.TheVariants.{Throw, Refuse, Memory}
use Rattle.js_value.specs.State.{Heap}
use Rattle.js_value.specs.Copying.{Copied, goes_on, stops}

-- the code stops as the writes do, with their heap; for memory it may want
abbrev pub HaltsAs : Copied → Heap → Result (Unit {0}) Halt → Type 0
HaltsAs c h (Ok u) = c ≡ goes_on h
HaltsAs c h (Err (Throw complaint)) = c ≡ stops (Throw complaint) h
HaltsAs c h (Err (Refuse k)) = c ≡ stops (Refuse k) h
HaltsAs c h (Err Memory) = Unit {0}
