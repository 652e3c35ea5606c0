-- The pieces of an object's text, for private clauses.
use Rattle.std.specs.Prelude.{ℕ, List, [], ◌∷◌, ◌++◌, Bool, true, Option, Some, None, codes}
use Rattle.json.specs.Print.{quoted}
use Rattle.serde_json.specs.Data.{Data, string}
use Rattle.serde_json.specs.Written.{comma_if, compact_text}
use Rattle.cov_object.specs.SourceMapText.{data_of}

-- what begins a member: a comma where one stands before, the key and a colon
abbrev pub key_text : Bool → List ℕ → List ℕ
key_text later key = comma_if later ++ (quoted key ++ 58 ∷ [])

-- a member of an object
abbrev pub member_text : Bool → List ℕ → Data → List ℕ
member_text later key value = key_text later key ++ compact_text value

-- the member of a file's hash, where it has one, after another member
abbrev pub hash_text : Option (List ℕ) → List ℕ
hash_text (Some hash) = member_text true (codes "hash") (string hash)
hash_text None = []

-- the member of its source map
abbrev pub source_map_text : Option (List ℕ) → List ℕ
source_map_text (Some text) = member_text true (codes "inputSourceMap") (data_of text)
source_map_text None = []
