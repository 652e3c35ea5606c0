-- Texts of different lengths are different.
use Rattle.std.proofs.Common.{◌≡◌, ℕ, List, Bool, true, false, length, refl, ap}
use Rattle.std.specs.Str.{bytes_eq}
use Rattle.std.proofs.lemmas.Slice.Eq.{bytes_eq-Decides}

pub other_length : (a b : List ℕ) → (length a ≡ length b → ⊥) → bytes_eq a b ≡ false
other_length a b other = by (bytes_eq a b) refl where
  by : (answer : Bool) → bytes_eq a b ≡ answer → bytes_eq a b ≡ false
  by true is = absurd (other (ap length ((bytes_eq-Decides a b).0 is)))
  by false is = is

pub ruleset length_rules = (other_length)
