-- Which keys of properties are indices.
use Rattle.std.specs.Prelude.{◌≡◌, ℕ, true, is_some, List, None, position}
use Rattle.std.specs.Str.{bytes_eq}
use Rattle.js_value.specs.Key.{index_of}

-- none of these is an index
abbrev pub NoIndices : List (List ℕ) → Type 0
NoIndices keys = (key : List ℕ) → is_some (index_of key) ≡ true → position (λ k. bytes_eq k key) keys ≡ None
