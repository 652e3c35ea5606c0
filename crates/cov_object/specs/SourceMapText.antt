-- The JSON that a text is, and the texts that are source maps.
use Rattle.std.specs.Prelude.{◌≡◌, ◌≤◌, ℕ, List, true, false, Option, Some, None, is_some}
use Rattle.json.specs.Lex.{tokens}
use Rattle.json.specs.Tree.{json_tokens}
use Rattle.serde_json.specs.Data.{Data, null, depth}
use Rattle.serde_json.specs.Find.{as_object}
use Rattle.serde_json.specs.Read.{read}
use Rattle.serde_json.specs.Written.{compact_text, has_float, outline}

abbrev pub value_or_null : Option Data → Data
value_or_null (Some value) = value
value_or_null None = null

-- the value of a text, null where it is no JSON
abbrev pub data_of : List ℕ → Data
data_of text = value_or_null (read text)

-- how deep a value may nest inside a file's coverage inside a map
abbrev pub most_depth : ℕ
most_depth = 125

-- the text, with no space, of an object whose numbers are whole
pub record IsSourceMap (text : List ℕ) : Type 0 where
  pub compact : compact_text (data_of text) ≡ text
  pub object : is_some (as_object (data_of text)) ≡ true
  pub whole : has_float (data_of text) ≡ false
  pub shallow : depth (data_of text) ≤ most_depth
  pub plain : tokens text ≡ json_tokens (outline (data_of text))
