-- What the code of a running program is.
use Rattle.std.specs.Prelude.{◌≡◌, ℕ, false, slice_get}
use Rattle.std.specs.Option.{ForSome}
use Rattle.js_code.specs.Program.{ProgramCode, IsCodeOf}
use Rattle.js_meaning.specs.Program.{Sources}

-- it is the program's, and no file of it is counted
pub record Carries (p : Sources) (code : ProgramCode) : Type 0 where
  pub code_of : IsCodeOf p code
  pub uncounted : (file : ℕ) → ForSome (slice_get p.files file) (λ source. source.counted ≡ false)
