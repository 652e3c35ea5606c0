-- A file with its counters has its functions and theirs.
use Rattle.std.proofs.Common.{◌≡◌, ℕ, suc, ◌+◌, Bool, true, false, List, length, refl, ap, ◌∙◌, arith}
use Rattle.std.proofs.lemmas.List.{length-append, length-map}
use Rattle.js_tree.specs.Plain.{File, MakeFile, Stmts}
use Rattle.js_tree.specs.Codes.{Code, functions_file, functions_stmts}
use Rattle.js_meaning.specs.Program.{linked}
use Rattle.js_meaning.specs.Counted.{MarksConstructs}
use Rattle.cov_rewritten.proofs.Order.{on_stmts}
use Rattle.js_suits.specs.Rewritten.{code_of, rewritten_code, rewritten_stmts}
use Rattle.js_suits.specs.Laws.{SilentLengths, ProgramsSuit, fitted, FittedSuits}
use Rattle.js_suits.proofs.Shifts.{instrumented_shifted}
use Rattle.js_suits.proofs.Standing.{stand_there, stand_back}
use Rattle.js_suits.proofs.Whole.{accepted_suits, constructs_counted, shifted_numbered}
use Rattle.js_suits.specs.Settings.{Home, Outside, Within, Setting, setting_of}
use Rattle.js_suits.specs.Programs.{Silent, added_to, instrumented, instrumented_file, instrumented_prelude}

module _ (c : Setting) (added : ℕ → List Code) (silent : Silent c added) where
  as_long : (h : Home) (xs : Stmts) → length (functions_stmts (rewritten_stmts c (c.shift h) true xs)) ≡ length (functions_stmts xs)
  as_long h xs = ap length (on_stmts c.code silent.code (code_of c (c.shift h)) true xs) ∙ length-map (functions_stmts xs) (rewritten_code c (c.shift h))

  file_long : (counted : Bool) (file : ℕ) (tree : File) → length (functions_file (instrumented_file c counted file tree)) ≡ added_to added counted file + length (functions_file tree)
  file_long true file (MakeFile xs comments) =
      let zs = functions_stmts (rewritten_stmts c (c.shift (Within file)) true xs) in
      let a = ap length (silent.opened file (rewritten_stmts c (c.shift (Within file)) true xs)) in
      let b = length-append (added file) zs in
      let d = as_long (Within file) xs in
      omega (arith, a, b, d)
  file_long false file (MakeFile xs comments) = let d = as_long (Outside (suc file)) xs in omega (arith, d)

  prelude_long : (tree : File) → length (functions_file (instrumented_prelude c tree)) ≡ length (functions_file tree)
  prelude_long (MakeFile xs comments) = as_long (Outside 0) xs

pub silent_lengths : SilentLengths
silent_lengths c added silent = record { file = file_long c added silent; prelude = prelude_long c added silent }

pub programs_suit : MarksConstructs → ProgramsSuit
programs_suit marks t p added accepted prelude has fresh silent shifts stand =
    let c = setting_of t in
    accepted_suits marks c p accepted prelude (constructs_counted c p has fresh)
    (shifted_numbered c (linked p) (instrumented c (linked p)) added (instrumented_shifted c (linked p) added (silent_lengths c added silent) shifts stand))

pub fitted_suits : MarksConstructs → FittedSuits
fitted_suits marks t p added accepted prelude fresh silent =
    let u = fitted t added p in
    let c = setting_of u in
    let same = silent_lengths c added silent in record {
      suits = programs_suit marks u p added accepted prelude (λ m h. h) fresh silent (λ h. refl) (stand_there c (linked p) added same);
      stand = stand_back c (linked p) added same;
    }
