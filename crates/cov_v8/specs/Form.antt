-- What holds of all coverage that is read.
use Rattle.std.specs.Prelude.{◌≤◌, ◌<◌, ◌^◌, List, length}
use Rattle.std.specs.List.{All}
use Rattle.cov_v8.specs.declared.v8.V8Range.{V8Range}
use Rattle.cov_v8.specs.declared.v8.V8Function.{V8Function}
use Rattle.cov_v8.specs.declared.v8.V8Script.{V8Script}

-- the start isn't after the end, and the count is below 2^53
abbrev pub IsRange : V8Range → Type 0
IsRange range = (range.start ≤ range.end) × (range.count < 2 ^ 53)

-- a function has a range
abbrev pub IsFunction : V8Function → Type 0
IsFunction function = (0 < length function.ranges) × All IsRange function.ranges

abbrev pub AreFunctions : List V8Function → Type 0
AreFunctions functions = All IsFunction functions

abbrev pub IsScript : V8Script → Type 0
IsScript script = AreFunctions script.functions
