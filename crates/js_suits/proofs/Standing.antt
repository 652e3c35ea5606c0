-- Functions that stand for each other, by a test.
use Rattle.std.proofs.Common.{◌≡◌, ℕ, zero, suc, ◌+◌, ◌-◌, ◌<◌, ◌≤◌, Bool, true, false, ◌&&◌, List, length, Option, Some, None, refl, sym, ap, subst, ◌∙◌, arith}
use Rattle.std.specs.Prelude.{slice_get, nat_eq, nat_lt, nat_le, IsTrue}
use Rattle.std.proofs.lemmas.Bool.{and_parts, and_from}
use Rattle.std.proofs.lemmas.Bool.Decides.{nat_tests}
use Rattle.js_tree.specs.Codes.{Code, functions_file}
use Rattle.js_meaning.specs.Program.{Source, Sources}
use Rattle.js_suits.specs.Laws.{shift_of, SameLengths, same_bool, stands_in, stands}
use Rattle.js_suits.proofs.Shifts.{shifted_by}
use Rattle.js_suits.specs.Settings.{Home, Outside, Within, Setting}
use Rattle.js_suits.specs.Programs.{home_of, start_of, added_to, Stands, prelude_codes, file_codes, instrumented}

holds : (b : Bool) → b ≡ true → IsTrue b
holds true h = h
holds false h = h

held : (b : Bool) → IsTrue b → b ≡ true
held true h = h
held false h = h

same_itself : (b : Bool) → same_bool b b ≡ true
same_itself true = refl
same_itself false = refl

same_of : (a b : Bool) → same_bool a b ≡ true → a ≡ b
same_of true b h = sym h
same_of false true h = absurd cc
same_of false false h = refl

module _ (c : Setting) (p : Sources) (added : ℕ → List Code) (same : SameLengths c added) where
  q : Sources
  q = instrumented c p

  of_home : (counted : Bool) (file code other : ℕ) →
      stands added p (home_of counted file) code other ≡ stands_in (start_of p file) (slice_get p.files file) counted (shift_of added p (home_of counted file)) code other
  of_home true file code other = refl
  of_home false file code other = refl

  pub stand_there : (h : Home) (code other : ℕ) → Stands p (instrumented c p) added h code other → IsTrue (stands added p h code other)
  stand_there _ _ _ (prelude_codes i l) = holds (nat_lt i (length (functions_file p.prelude)) && nat_eq i i) (let a : nat_lt i (length (functions_file p.prelude)) ≡ true = grind (arith, nat_tests, l) in let b : nat_eq i i ≡ true = grind (arith, nat_tests) in and_from _ _ a b)
  stand_there _ _ _ (file_codes file source e i l) =
      let h : Home = home_of source.counted file in
      let code : ℕ = start_of p file + i in
      let other : ℕ = start_of (instrumented c p) file + (added_to added source.counted file + i) in
      let s = shifted_by c added same p source.counted file in
      let a : nat_le (start_of p file) (start_of p file + i) ≡ true = grind (arith, nat_tests) in
      let b : nat_lt (start_of p file + i) (start_of p file + length (functions_file source.tree)) ≡ true = grind (arith, nat_tests, l) in
      let z : start_of (instrumented c p) file + (added_to added source.counted file + i) ≡ shift_of added p (home_of source.counted file) + (start_of p file + i) = omega (arith, s) in
      let d : nat_eq (start_of (instrumented c p) file + (added_to added source.counted file + i)) (shift_of added p (home_of source.counted file) + (start_of p file + i)) ≡ true = grind (arith, nat_tests, z) in
      holds (stands added p h code other)
      (of_home source.counted file code other ∙ ap (λ o. stands_in (start_of p file) o source.counted (shift_of added p h) code other) e
      ∙ and_from _ _ (same_itself source.counted) (and_from _ _ a (and_from _ _ b d)))

  in_file : (counted : Bool) (file code other : ℕ) (o : Option Source) → slice_get p.files file ≡ o →
      stands_in (start_of p file) o counted (shift_of added p (home_of counted file)) code other ≡ true → Stands p (instrumented c p) added (home_of counted file) code other
  in_file counted file code other None e h = absurd cc
  in_file counted file code other (Some source) e h =
      let first = and_parts (same_bool source.counted counted) (nat_le (start_of p file) code && (nat_lt code (start_of p file + length (functions_file source.tree)) && nat_eq other (shift_of added p (home_of counted file) + code))) h in
      let second = and_parts (nat_le (start_of p file) code) (nat_lt code (start_of p file + length (functions_file source.tree)) && nat_eq other (shift_of added p (home_of counted file) + code)) first.1 in
      let third = and_parts (nat_lt code (start_of p file + length (functions_file source.tree))) (nat_eq other (shift_of added p (home_of counted file) + code)) second.1 in
      let is : source.counted ≡ counted = same_of source.counted counted first.0 in
      let low : start_of p file ≤ code = let x = second.0 in grind (arith, nat_tests, x) in
      let high : code < start_of p file + length (functions_file source.tree) = let x = third.0 in grind (arith, nat_tests, x) in
      let eq : other ≡ shift_of added p (home_of counted file) + code = let x = third.1 in grind (arith, nat_tests, x) in
      let i : ℕ = code - start_of p file in
      let l : code - start_of p file < length (functions_file source.tree) = omega (arith, low, high) in
      let n : start_of p file + (code - start_of p file) ≡ code = omega (arith, low) in
      let s = shifted_by c added same p counted file in
      let m : start_of (instrumented c p) file + (added_to added counted file + (code - start_of p file)) ≡ other = omega (arith, low, eq, s) in
      subst (λ x. Stands p (instrumented c p) added (home_of counted file) x other) n
      (subst (λ x. Stands p (instrumented c p) added (home_of counted file) (start_of p file + (code - start_of p file)) x) m
      (subst (λ b. Stands p (instrumented c p) added (home_of b file) (start_of p file + (code - start_of p file)) (start_of (instrumented c p) file + (added_to added b file + (code - start_of p file)))) is
      (file_codes file source e (code - start_of p file) l)))

  pub stand_back : (h : Home) (code other : ℕ) → IsTrue (stands added p h code other) → Stands p (instrumented c p) added h code other
  stand_back (Outside zero) code other t =
      let parts = and_parts (nat_lt code (length (functions_file p.prelude))) (nat_eq other code) (held (stands added p (Outside zero) code other) t) in
      let l : code < length (functions_file p.prelude) = let x = parts.0 in grind (arith, nat_tests, x) in
      let e : code ≡ other = let x = parts.1 in grind (arith, nat_tests, x) in
      subst (λ n. Stands p (instrumented c p) added (Outside zero) code n) e (prelude_codes code l)
  stand_back (Outside (suc file)) code other t = in_file false file code other (slice_get p.files file) refl (held _ t)
  stand_back (Within file) code other t = in_file true file code other (slice_get p.files file) refl (held _ t)
