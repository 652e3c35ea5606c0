-- The functions of a rewritten tree.
use Rattle.std.specs.Prelude.{ℕ}
use Rattle.js_terms.specs.Mark.{Mark}
use Rattle.js_tree.specs.Codes.{Code, Ordinary, OfMethod, Arrow}
use Rattle.js_tree.specs.Plain.{Expr}
use Rattle.cov_rewritten.specs.Rewritten.{rewritten_function, rewritten_params, rewritten_concise_body}

-- a function with its counters
abbrev pub rewritten_code : (Mark → Expr) → (ℕ → ℕ) → Code → Code
rewritten_code counter code (Ordinary function) = Ordinary (rewritten_function counter code function)
rewritten_code counter code (OfMethod function) = OfMethod (rewritten_function counter code function)
rewritten_code counter code (Arrow number params body) = Arrow (code number) (rewritten_params counter code params) (rewritten_concise_body counter code body)
