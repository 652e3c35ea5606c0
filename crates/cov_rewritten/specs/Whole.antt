-- The rewritten tree of a counted file, and what is proved of it.
use Rattle.std.specs.Prelude.{◌≡◌, ℕ, Bool, false, true, List, None}
use Rattle.std.specs.List.{list_any}
use Rattle.std.specs.Str.{bytes_eq}
use Rattle.serde_json.specs.Data.{Data}
use Rattle.js_tree.specs.Linked.{Numbers, Marked, link_file}
use Rattle.js_tree.specs.Plain.{File}
use Rattle.js_layout.specs.Printable.{Printable}
use Rattle.js_scopes.specs.declared.mention.Mention.{Mention}
use Rattle.js_scopes.specs.declared.mention.Mention.TheVariants as mention
use Rattle.js_scopes.specs.Checks.{first_fault}
use Rattle.js_scopes.specs.Mentions.{mentions_file}
use Rattle.js_scopes.specs.Reserved.{is_reserved}
use Rattle.cov_rewritten.specs.Counters.{counter}
use Rattle.cov_rewritten.specs.Preamble.{preamble}
use Rattle.cov_rewritten.specs.Rewritten.{rewritten_file}

-- as it is read: no function has a number yet
abbrev pub from_zero : Numbers
from_zero = record { code = 0; counts = record { statements = 0; functions = 0; branches = 0 } }

-- with the name N, for a path, a hash and the data at the start
abbrev pub rewritten : (n path hash : List ℕ) → Data → File → File
rewritten n path hash zero tree = rewritten_file (counter n) (λ code. 0) (preamble n path hash zero) (link_file (Marked 0) tree from_zero).tree

-- a name is bound or referred to
abbrev pub says : List ℕ → Mention → Bool
says n (mention.Variable at w) = bytes_eq w n
says n other = false

-- a name for N: it may stand in a rewritten file, and no variable of the source has it
pub record IsFresh (n : List ℕ) (tree : File) : Type 0 where
  pub allowed : is_reserved true n ≡ false
  pub fresh : list_any (says n) (mentions_file tree) ≡ false

-- a rewritten file breaks no early rule
abbrev pub KeepsRules : Type 0
KeepsRules = (n path hash : List ℕ) (zero : Data) (tree : File) → Printable tree → first_fault false tree ≡ None → IsFresh n tree →
    first_fault true (rewritten n path hash zero tree) ≡ None
