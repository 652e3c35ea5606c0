-- Numbers in decimal, as keys and as they are spelled.
use Rattle.std.specs.Prelude.{◌≡◌, ◌≢◌, ℕ, suc, ◌+◌, ◌-◌, ◌^◌, ◌<◌, ◌≤◌, false, List, [], ◌∷◌, length, slice_index_or, Some}
use Rattle.std.specs.Str.{bytes_eq}
use Rattle.js_value.specs.Key.{index_of}
use Rattle.js_counter.specs.Represents.{PlacedMembers, empty, member, number, member_at}
use Rattle.js_counter.specs.Steady.{Spells, index_key}

abbrev pub SpelledInDecimal : Type 0
SpelledInDecimal = (n : ℕ) → n < 2 ^ 53 → Spells (index_key n) n

abbrev pub IndicesRead : Type 0
IndicesRead = (n : ℕ) → n < 2 ^ 32 - 1 → index_of (index_key n) ≡ Some n

abbrev pub KeysDiffer : Type 0
KeysDiffer = (m n : ℕ) → m < 2 ^ 64 → n < 2 ^ 64 → m ≢ n → bytes_eq (index_key m) (index_key n) ≡ false

-- counts under the numbers from one on
abbrev pub numbered_counts : ℕ → List ℕ → PlacedMembers
numbered_counts k [] = empty
numbered_counts k (n ∷ ns) = member (index_key k) (number n) (numbered_counts (suc k) ns)

abbrev pub CountsFound : Type 0
CountsFound = (k i : ℕ) (ns : List ℕ) → i < length ns → k + length ns ≤ 2 ^ 64 → member_at (numbered_counts k ns) (index_key (k + i)) ≡ Some (number (slice_index_or ns i 0))
