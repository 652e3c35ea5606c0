-- The names that a file writes, sorted by their bytes, each once.
use Rattle.std.specs.Prelude.{ℕ, List, [], ◌∷◌}
use Rattle.std.specs.Ordering.{nat_cmp}
use Rattle.std.specs.Cmp.Lexicographic.{slice_cmp}
use Rattle.std.specs.BTreeSet.{insert_key}
use Rattle.js_scopes.specs.declared.mention.Mention.{Mention}
use Rattle.js_scopes.specs.declared.mention.Mention.TheVariants as mention

-- sorted names and one more, which goes to its place unless it is there already
abbrev pub with_name : List (List ℕ) → List ℕ → List (List ℕ)
with_name names name = insert_key (slice_cmp nat_cmp) names name

-- sorted names and that of a variable, of a label or of a member
abbrev pub with_mention : List (List ℕ) → Mention → List (List ℕ)
with_mention names (mention.Variable _ name) = with_name names name
with_mention names (mention.Label _ name) = with_name names name
with_mention names (mention.Member name) = with_name names name
with_mention names (mention.Required _) = names

-- sorted names and those of a list
abbrev pub with_mentions : List (List ℕ) → List Mention → List (List ℕ)
with_mentions names [] = names
with_mentions names (x ∷ xs) = with_mentions (with_mention names x) xs

abbrev pub names_of : List Mention → List (List ℕ)
names_of mentions = with_mentions [] mentions
