-- How long texts may be, and how high their trees.
use Rattle.std.specs.Prelude.{◌^◌}
use Rattle.js_text.specs.declared.limits.Limits.{Limits}

-- the limits of a source text
abbrev pub source_limits : Limits
source_limits = record { bytes = 1_048_576; height = 128 }

-- the limits of a text that is read again
abbrev pub again_limits : Limits
again_limits = record { bytes = 2 ^ 40; height = 2_048 }
