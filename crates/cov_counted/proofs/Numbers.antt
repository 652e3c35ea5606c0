-- Where the functions of a file begin, once each counted file before it has two more.
use Rattle.std.proofs.Common.{◌≡◌, ℕ, zero, suc, ◌+◌, Bool, true, false, List, [], ◌∷◌, length, refl, ap, ap₂, arith, if◌then◌else◌}
use Rattle.js_tree.specs.Linked.{Unmarked, link_file}
use Rattle.js_meaning.specs.Program.{Source, Sources, from, link_source, link_sources, linked}
use Rattle.js_suits.specs.Programs.{start_of, added_to, instrumented}
use Rattle.js_suits.specs.Laws.{added_before}
use Rattle.js_suits.proofs.Shifts.{shifted_by}
use Rattle.js_suits.proofs.Silent.{silent_lengths}
use Rattle.js_counted.specs.Files.{FileCounters}
use Rattle.js_counted.specs.Program.{preamble_codes, counted_program, counters}
use Rattle.js_counted.proofs.Preamble as proved
use Rattle.js_counted.proofs.Together.{same_program, silent}
use Rattle.cov_counted.specs.Accepted.{more_before, first_at, files_of, NumbersFirst}

module _ (files : ℕ → FileCounters) where
  pub two_codes : (file : ℕ) → length (preamble_codes files file) ≡ 2
  two_codes file = ap length (proved.preamble_codes (files file))

  added_one : (counted : Bool) (file : ℕ) → added_to (preamble_codes files) counted file ≡ (if counted then 2 else 0)
  added_one true file = two_codes file
  added_one false file = refl

  pub added_is : (first : ℕ) (xs : List Source) (i code n : ℕ) → added_before (preamble_codes files) first (link_sources xs i code) n ≡ more_before xs n
  added_is first [] i code n = refl
  added_is first (x ∷ xs) i code zero = refl
  added_is first (x ∷ xs) i code (suc n) = ap₂ (λ a b. a + b) (added_one x.counted first) (added_is (suc first) xs (suc i) (link_source x i code).next.code n)

  first_is : (p : Sources) (file : ℕ) → first_at p file ≡ start_of (counted_program files p) file
  first_is p file =
      let added = preamble_codes files in
      let d = counters files p in
      let sources = link_sources p.files 0 (link_file Unmarked p.prelude (from 0)).next.code in
      let a : added_before added 0 sources file + start_of (linked p) file ≡ start_of (instrumented d (linked p)) file + 0 =
      shifted_by d added (silent_lengths d added (silent files p)) (linked p) false file in
      let b : added_before added 0 sources file ≡ more_before p.files file = added_is 0 p.files 0 (link_file Unmarked p.prelude (from 0)).next.code file in
      let s : start_of (instrumented d (linked p)) file ≡ start_of (counted_program files p) file = ap (λ q. start_of q file) (same_program files p) in
      omega (arith, a, b, s)

pub numbers_first : NumbersFirst
numbers_first content p literals file = first_is (files_of content p literals) p file
