-- The words that may never be names (ECMA-262, 12.7.2: ReservedWord, but for `await` and `yield`, which are names in scripts).
use Rattle.std.specs.Prelude.{ℕ, List, [], ◌∷◌, map, Option, Some, None, if◌then◌else◌}
use Rattle.std.specs.Str.{bytes_eq}
use Rattle.js_text.specs.declared.word.ReservedWord.{ReservedWord}
use Rattle.js_text.specs.declared.word.TheConstants.{RESERVED_WORDS}

-- the first entry of a table for a word
abbrev pub lookup : List (List ℕ × ReservedWord) → List ℕ → Option ReservedWord
lookup [] word = None
lookup (entry ∷ entries) word = if bytes_eq word entry.0 then Some entry.1 else lookup entries word

-- which of them a word is
unfoldable pub reserved_word : List ℕ → Option ReservedWord
reserved_word word = lookup (map (λ entry. (entry.0.now, entry.1)) RESERVED_WORDS) word
