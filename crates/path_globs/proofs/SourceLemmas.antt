-- What is no source path.
use Rattle.std.proofs.Common.{◌≡◌, ℕ, Bool, false, cond, List, Some, None, sym, ap, ◌∙◌}
use Rattle.std.specs.Prelude.{codes, nat_eq, option_and_then}
use Rattle.std.specs.List.{ends_with}
use Rattle.path_globs.specs.NormalForm.{normal}
use Rattle.path_globs.specs.Source.{if_source, source_path}

-- a normal form that doesn't end with `.js`
pub no_source : (text path : List ℕ) (ends : Bool) → Some path ≡ normal text → ends ≡ ends_with nat_eq path (codes ".js") → ends ≡ false →
    None ≡ source_path text
no_source text path ends here same other =
    ap (λ test. cond test (Some path) None) (sym other ∙ same) ∙ ap (option_and_then if_source) here
