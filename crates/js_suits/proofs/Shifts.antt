-- How far functions are from those that stand for them.
use Rattle.std.proofs.Common.{◌≡◌, ℕ, zero, suc, ◌+◌, Bool, true, false, List, [], ◌∷◌, refl, ap, ◌∙◌, arith}
use Rattle.js_tree.specs.Codes.{Code}
use Rattle.js_meaning.specs.Program.{Source, Sources}
use Rattle.js_suits.specs.Laws.{added_before, shift_of, SameLengths, InstrumentedShifted}
use Rattle.js_suits.specs.Settings.{Outside, Setting}
use Rattle.js_suits.specs.Programs.{home_of, starts_at, start_of, added_to, instrumented, instrumented_sources}

module _ (c : Setting) (added : ℕ → List Code) (same : SameLengths c added) where
  starts_on : (first : ℕ) (sources : List Source) (file : ℕ) → starts_at (instrumented_sources c first sources) file ≡ starts_at sources file + added_before added first sources file
  starts_on first [] file = refl
  starts_on first (source ∷ sources) zero = refl
  starts_on first (source ∷ sources) (suc file) =
      let a = same.file source.counted first source.tree in
      let b = starts_on (suc first) sources file in
      omega (arith, a, b)

  start_on : (p : Sources) (file : ℕ) → start_of (instrumented c p) file ≡ start_of p file + added_before added 0 p.files file
  start_on p file = let a = same.prelude p.prelude in let b = starts_on 0 p.files file in omega (arith, a, b)

  pub shifted_by : (p : Sources) (counted : Bool) (file : ℕ) → shift_of added p (home_of counted file) + start_of p file ≡ start_of (instrumented c p) file + added_to added counted file
  shifted_by p true file = let a = start_on p file in omega (arith, a)
  shifted_by p false file = let a = start_on p file in omega (arith, a)

pub instrumented_shifted : InstrumentedShifted
instrumented_shifted c p added same shifts stand = record {
  stand = stand;
  prelude = shifts (Outside 0);
  files = λ file source e. ap (λ n. n + start_of p file) (shifts (home_of source.counted file)) ∙ shifted_by c added same p source.counted file;
}
