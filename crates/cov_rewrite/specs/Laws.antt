-- What the code makes of a file is the linked file, rewritten.
use Rattle.std.specs.Prelude.{◌≡◌}
use Rattle.js_terms.specs.Mark.{Mark}
use Rattle.js_tree.specs.Linked.{Numbers, Marked, link_file}
use Rattle.js_tree.specs.Plain.{Expr, Stmts, File}
use Rattle.cov_rewritten.specs.Rewritten.{rewritten_file}
use Rattle.cov_rewrite.specs.Made.{made_file}

-- the first numbers
abbrev pub at_first : Numbers
at_first = record { code = 0; counts = record { statements = 0; functions = 0; branches = 0 } }

abbrev pub MakesRewritten : Type 0
MakesRewritten = (counter : Mark → Expr) (first : Stmts) (file : File) →
    rewritten_file counter (λ code. 0) first (link_file (Marked 0) file at_first).tree ≡ made_file counter first file at_first.counts
