-- Which file a text names that is required (CommonJS, of relative specifiers alone).
use Rattle.std.specs.Prelude.{ℕ, List, Option, None, option_and_then, encode_utf8_all, if◌then◌else◌}
use Rattle.std.specs.Char.Utf16.{has_unpaired_surrogate, utf16_lossy_chars}
use Rattle.path_globs.specs.Specifier.{resolve}
use Rattle.js_value.specs.State.{Store}
use Rattle.js_value.specs.Running.{requiring_path}

-- from the file at a path: a path is a text in UTF-8, so one with a lone surrogate (ECMA-262, 7.2.9) names none
abbrev pub required_from : List ℕ → List ℕ → Option (List ℕ)
required_from path units = if has_unpaired_surrogate units then None else resolve path (encode_utf8_all (utf16_lossy_chars units))

-- by an object `require`: from the file that it was made for, wherever it is called
abbrev pub required_path : Store → ℕ → List ℕ → Option (List ℕ)
required_path s function units = option_and_then (λ path. required_from path units) (requiring_path s function)
