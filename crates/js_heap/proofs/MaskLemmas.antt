-- The masks of names.
use Rattle.std.proofs.Common.{◌≡◌, ℕ, ◌*◌, ◌%◌, ◌^◌, bit_or, Bool, true, false, List, [], ◌∷◌, ◌++◌, length, None, refl, ap, ◌∙◌, arith}
use Rattle.std.specs.Str.{bytes_eq}
use Rattle.std.specs.Int.{bit_at, w64}
use Rattle.std.proofs.lemmas.Nat.Bits.{bit_at_set_same, bit_at_or}
use Rattle.std.proofs.lemmas.Slice.Eq.{bytes_eq-Decides}
use Rattle.js_heap.specs.private.Bindings.{or_place}
use Rattle.js_heap.specs.private.Mask.{bit_of, IsMaskOf, Keeps}
use Rattle.js_heap.proofs.NameLemmas.{position-push}

-- `mask | 1 << n % 64`
pub bit_set : (mask n : ℕ) → bit_at (bit_or mask (1 * 2 ^ (n % 64) % 2 ^ 64)) (n % 64) ≡ 1
bit_set mask n = bit_at_set_same w64 mask (n % 64) (omega arith)

pub bits_kept : (mask more : ℕ) → Keeps mask (bit_or mask more)
bits_kept mask more bit none = omega (arith, none, bit_at_or mask more bit)

-- no names have every mask
pub IsMaskOf-none : (mask : ℕ) → IsMaskOf mask []
IsMaskOf-none mask name absent = refl

-- a mask with more bits is one still
pub IsMaskOf-more : (mask after : ℕ) (names : List (List ℕ)) → IsMaskOf mask names → Keeps mask after → IsMaskOf after names
IsMaskOf-more mask after names is keeps name absent = is name (keeps (bit_of name) absent)

-- a mask with the bit of one more name is one of the names and it
pub IsMaskOf-push : (after : ℕ) (names : List (List ℕ)) (name : List ℕ) → IsMaskOf after names → bit_at after (bit_of name) ≡ 1 → IsMaskOf after (names ++ name ∷ [])
IsMaskOf-push after names name is set q absent =
    let other : (b : Bool) → bytes_eq name q ≡ b → or_place None b (length names) ≡ None = λ b. elim b as (λ b. bytes_eq name q ≡ b → or_place None b (length names) ≡ None) [
      | false ↦ λ _. refl
      | true ↦ λ same. absurd (omega (arith, set, absent, ap (λ n. bit_at after (bit_of n)) ((bytes_eq-Decides name q).0 same)))
    ] in
    position-push (λ n. bytes_eq n q) names name ∙ ap (λ p. or_place p (bytes_eq name q) (length names)) (is q absent) ∙ other (bytes_eq name q) refl
