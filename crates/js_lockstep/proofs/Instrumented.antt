-- A file of the program with its counters.
use Rattle.std.proofs.Common.{◌≡◌, ℕ, zero, suc, ◌+◌, List, [], ◌∷◌, Some, refl, ap, ◌∙◌, arith}
use Rattle.std.specs.Prelude.{slice_get, option_map}
use Rattle.js_meaning.specs.Program.{Source}
use Rattle.js_suits.specs.Settings.{Setting}
use Rattle.js_suits.specs.Programs.{instrumented_source, instrumented_sources}

pub instrumented_at : (c : Setting) (sources : List Source) (first i : ℕ) → slice_get (instrumented_sources c first sources) i ≡ option_map (instrumented_source c (first + i)) (slice_get sources i)
instrumented_at c [] first i = refl
instrumented_at c (source ∷ sources) first zero = ap (λ n. Some (instrumented_source c n source)) (let e : first ≡ first + 0 = omega arith in e)
instrumented_at c (source ∷ sources) first (suc i) =
    let e : suc first + i ≡ first + suc i = omega arith in
    instrumented_at c sources (suc first) i ∙ ap (λ n. option_map (instrumented_source c n) (slice_get sources i)) e
