-- Which paths are known.
use Rattle.std.specs.Prelude.{◌≡◌, ℕ, List}
use Rattle.cov_words.specs.Words.{is_among}

-- the same stand among both
abbrev pub HaveSame : List (List ℕ) → List (List ℕ) → Type 0
HaveSame known paths = (path : List ℕ) → is_among path known ≡ is_among path paths
