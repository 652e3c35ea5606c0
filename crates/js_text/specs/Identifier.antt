-- Identifiers, with escapes (ECMA-262, 12.7).
use Rattle.std.specs.Prelude.{ℕ, zero, suc, ◌-◌, ◌==◌, Bool, false, ◌&&◌, ◌||◌, List, [], ◌∷◌, length, Option, Some, None, is_some, if◌then◌else◌}
use Rattle.std.specs.List.{list_any}
use Rattle.std.specs.Str.{all_scalars}
use Rattle.js_text.specs.Character.{starts_identifier, continues_identifier}
use Rattle.js_text.specs.Escape.{identifier_escape}
use Rattle.js_text.specs.Gap.{with_found}
use Rattle.js_text.specs.Token.{Kind, Word, EscapedWord}

-- a backslash
abbrev pub is_backslash : ℕ → Bool
is_backslash c = c == 0x5C

-- what follows the escape here, if it stands for a character that passes a test
abbrev pub escape_of : (ℕ → Bool) → List ℕ → Option (List ℕ)
escape_of test cs = with_found (identifier_escape cs) (λ found. if all_scalars (found.0 ∷ []) && test found.0 then Some found.1 else None) None

-- what follows the backslash and the escape here, if that stands for a character that passes a test
abbrev pub escaped_rest : (ℕ → Bool) → List ℕ → Option (List ℕ)
escaped_rest test [] = None
escaped_rest test (c ∷ cs) = if is_backslash c then escape_of test cs else None

-- an identifier starts here
abbrev pub begins_identifier : List ℕ → Bool
begins_identifier [] = false
begins_identifier (c ∷ cs) = starts_identifier c || is_some (escaped_rest starts_identifier (c ∷ cs))

-- what follows the characters with which an identifier goes on here, after this many characters of an escape
abbrev pub identifier_rest : ℕ → List ℕ → List ℕ
identifier_rest n [] = []
identifier_rest (suc n) (c ∷ cs) = identifier_rest n cs
identifier_rest zero (c ∷ cs) =
    if continues_identifier c then identifier_rest zero cs
    else with_found (escaped_rest continues_identifier (c ∷ cs)) (λ rest. identifier_rest (length cs - length rest) cs) (c ∷ cs)

-- what follows an identifier after its first character; none where that is a backslash that begins no escape of one
abbrev pub after_first : ℕ → List ℕ → Option (List ℕ)
after_first c cs =
    if is_backslash c then with_found (escape_of starts_identifier cs) (λ rest. Some (identifier_rest zero rest)) None
    else Some (identifier_rest zero cs)

-- an identifier without escapes, or with one: that is never a reserved word, but may be a property's name
abbrev pub word_of_bytes : List ℕ → Kind
word_of_bytes bytes = if list_any is_backslash bytes then EscapedWord bytes else Word bytes

-- the character that the escape here stands for, and what follows it; half of a pair is none
abbrev pub character_escape : List ℕ → Option (ℕ × List ℕ)
character_escape cs = with_found (identifier_escape cs) (λ found. if all_scalars (found.0 ∷ []) then Some found else None) None

-- the characters that an identifier stands for (12.7.1.2, IdentifierCodePoints), after this many characters of an escape
abbrev pub decoded : ℕ → List ℕ → List ℕ
decoded n [] = []
decoded (suc n) (c ∷ cs) = decoded n cs
decoded zero (c ∷ cs) =
    if is_backslash c then with_found (character_escape cs) (λ found. found.0 ∷ decoded (length cs - length found.1) cs) []
    else c ∷ decoded zero cs
