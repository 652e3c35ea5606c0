-- What linking a rewritten file reads of it, where nothing is counted.
use Rattle.std.specs.Prelude.{◌≡◌, ℕ, List}
use Rattle.serde_json.specs.Data.{Data}
use Rattle.js_terms.specs.Mark.{Mark}
use Rattle.js_tree.specs.Linked.{Unmarked, Marked, Numbers, Chain, kept, after_code, link_expr, link_stmts, link_file}
use Rattle.js_tree.specs.Plain.{Expr, Stmts, File}
use Rattle.cov_rewritten.specs.Counters.{counter}
use Rattle.cov_rewritten.specs.Preamble.{preamble}
use Rattle.cov_rewritten.specs.Rewritten.{rewritten_file}
use Rattle.cov_rewritten.specs.Whole.{from_zero, rewritten}

-- whatever numbers its functions have, it is linked to the same
abbrev pub LinksAnyNumbers : Type 0
LinksAnyNumbers = (count : Mark → Expr) (code other : ℕ → ℕ) (before : Stmts) (tree : File) (k : Numbers) →
    link_file Unmarked (rewritten_file count code before tree) k ≡ link_file Unmarked (rewritten_file count other before tree) k

-- so the source may be linked as any file of a program, with functions before its own: where the code of that file's marks is the counter
-- of a name, the file is linked to the same as the rewritten tree of that name
abbrev pub LinksRewritten : Type 0
LinksRewritten = (count : Mark → Expr) (code : ℕ → ℕ) (n path hash : List ℕ) (zero : Data) (file : ℕ) (from : Numbers) →
    ((m : Mark) → count (record m { file = file }) ≡ counter n m) → from.counts ≡ from_zero.counts → (tree : File) (k : Numbers) →
    link_file Unmarked (rewritten_file count code (preamble n path hash zero) (link_file (Marked file) tree from).tree) k
    ≡ link_file Unmarked (rewritten n path hash zero tree) k

-- what stands before a file's statements has two functions, and the code of a mark has none: it is as it is
abbrev pub LinksPreamble : Type 0
LinksPreamble = (n path hash : List ℕ) (zero : Data) (k : Numbers) → (link_stmts Unmarked (preamble n path hash zero) k).next ≡ after_code (after_code k)

abbrev pub LinksCounters : Type 0
LinksCounters = (n : List ℕ) (m : Mark) (chain : Chain) (k : Numbers) → link_expr Unmarked chain (counter n m) k ≡ kept (counter n m) k
