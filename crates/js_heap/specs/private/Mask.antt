-- The mask of an environment's names: a name whose bit isn't set in it is none of them.
use Rattle.std.specs.Prelude.{◌≡◌, ℕ, ◌%◌, List, None, position}
use Rattle.std.specs.Str.{bytes_eq}
use Rattle.std.specs.Int.{bit_at}
use Rattle.js_names.specs.Name.{number_of}

-- the bit of a name
abbrev pub bit_of : List ℕ → ℕ
bit_of name = number_of name % 64

abbrev pub IsMaskOf : ℕ → List (List ℕ) → Type 0
IsMaskOf mask names = (name : List ℕ) → bit_at mask (bit_of name) ≡ 0 → position (λ n. bytes_eq n name) names ≡ None

-- the bits of a mask that are set stay so
abbrev pub Keeps : ℕ → ℕ → Type 0
Keeps mask after = (bit : ℕ) → bit_at after bit ≡ 0 → bit_at mask bit ≡ 0
