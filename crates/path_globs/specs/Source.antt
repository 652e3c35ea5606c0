-- Source paths.
use Rattle.std.specs.Prelude.{ℕ, List, Option, Some, None, option_and_then, if◌then◌else◌, nat_eq, codes}
use Rattle.std.specs.List.{ends_with}
use Rattle.path_globs.specs.NormalForm.{normal}

-- where a path ends with `.js`
abbrev pub if_source : List ℕ → Option (List ℕ)
if_source path = if ends_with nat_eq path (codes ".js") then Some path else None

-- the source path that a text names: its normal form, where that ends with `.js`
abbrev pub source_path : List ℕ → Option (List ℕ)
source_path text = option_and_then if_source (normal text)
