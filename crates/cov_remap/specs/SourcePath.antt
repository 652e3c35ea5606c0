-- The path of a source that the map of a file names.
use Rattle.std.specs.Prelude.{ℕ, Bool, false, ◌||◌, List, [], ◌∷◌, if◌then◌else◌, nat_eq, codes}
use Rattle.std.specs.List.{starts_with}
use Rattle.path_globs.specs.NormalForm.{is_from_root}
use Rattle.path_globs.specs.Beside.{beside}

abbrev pub has_scheme : List ℕ → Bool
has_scheme [] = false
has_scheme (byte ∷ bytes) = starts_with nat_eq (byte ∷ bytes) (codes "://") || has_scheme bytes

-- a text with `://`, or one from the root, is a path as it is; any other goes from the folder of the file
abbrev pub source_path : List ℕ → List ℕ → List ℕ
source_path file text = if has_scheme text || is_from_root text then text else beside file text
