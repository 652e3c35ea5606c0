-- The source that an entry names.
use Rattle.std.specs.Prelude.{ℕ, List, drop, Option, if◌then◌else◌, nat_eq, codes}
use Rattle.std.specs.List.{starts_with}
use Rattle.path_globs.specs.Source.{source_path}

-- without `file://` in front; nothing in it is decoded
abbrev pub without_scheme : List ℕ → List ℕ
without_scheme url = if starts_with nat_eq url (codes "file://") then drop 7 url else url

abbrev pub source_of : List ℕ → Option (List ℕ)
source_of url = source_path (without_scheme url)
