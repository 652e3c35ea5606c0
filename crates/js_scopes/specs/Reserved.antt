-- The words that are no names beside the keywords, which no reader takes for one.
use Rattle.std.specs.Prelude.{ℕ, Bool, not, ◌||◌, ◌&&◌, List, [], ◌∷◌, codes}
use Rattle.std.specs.List.{list_any}
use Rattle.std.specs.Str.{bytes_eq}

-- the words that strict code reserves (ECMA-262, 12.7.2)
abbrev pub strict_words : List (List ℕ)
strict_words = codes "implements" ∷ codes "interface" ∷ codes "let" ∷ codes "package" ∷ codes "private" ∷ codes "protected"
    ∷ codes "public" ∷ codes "static" ∷ codes "yield" ∷ []

-- the names that the suite keeps for itself or gives no meaning: they may be neither bound nor referred to
abbrev pub refused_names : List (List ℕ)
refused_names = codes "Infinity" ∷ codes "NaN" ∷ codes "__coverage__" ∷ codes "arguments" ∷ codes "eval" ∷ []

-- the name that the suite keeps for what it writes itself
abbrev pub own_name : List ℕ
own_name = codes "globalThis"

abbrev pub is_among : List (List ℕ) → List ℕ → Bool
is_among words word = list_any (λ other. bytes_eq word other) words

-- a label may have one of the refused names
unfoldable pub is_strict : List ℕ → Bool
is_strict word = is_among strict_words word

-- `again` is for a text that the suite has written
unfoldable pub is_reserved : Bool → List ℕ → Bool
is_reserved again word = is_among strict_words word || is_among refused_names word || (not again && bytes_eq word own_name)
