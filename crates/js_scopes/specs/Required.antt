-- The files that a file asks for, in the order of its text.
use Rattle.std.specs.Prelude.{ℕ, List, [], ◌∷◌, ◌++◌, if◌then◌else◌}
use Rattle.std.specs.Char.Utf16.{has_unpaired_surrogate, utf16_lossy_chars}
use Rattle.std.specs.Str.{encode_utf8_all}
use Rattle.js_scopes.specs.declared.mention.Mention.{Mention}
use Rattle.js_scopes.specs.declared.mention.Mention.TheVariants as mention

-- the text of these units in UTF-8: none where they are not well formed (ECMA-262, 7.2.9), since a surrogate stands alone
abbrev pub text_of : List ℕ → List (List ℕ)
text_of units = if has_unpaired_surrogate units then [] else encode_utf8_all (utf16_lossy_chars units) ∷ []

-- what a mention asks for
abbrev pub required_by : Mention → List (List ℕ)
required_by (mention.Variable _ _) = []
required_by (mention.Label _ _) = []
required_by (mention.Member _) = []
required_by (mention.Required units) = text_of units

abbrev pub required_of : List Mention → List (List ℕ)
required_of [] = []
required_of (x ∷ xs) = required_by x ++ required_of xs
