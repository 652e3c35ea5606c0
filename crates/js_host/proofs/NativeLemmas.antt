-- The texts of a list of values, and UTF-16 as the host reads it.
use Rattle.std.proofs.Common.{◌≡◌, ℕ, true, false, cond, ◌&&◌, ◌||◌, List, [], ◌∷◌, map, nat_le, nat_lt, None, Some, refl, ap, ap₂, arith}
use Rattle.std.specs.Option.{unwrap_or}
use Rattle.std.specs.Char.Utf16.{utf16_chars, utf16_lossy_chars, lone_unit_char, surrogate_pair_char}
use Rattle.std.proofs.lemmas.Bool.Decides.{nat_tests}
use Rattle.js_value.specs.Host.{leads, trails, code_point, pair_code_point, code_points}

surrogate : (u : ℕ) → (leads u || trails u) ≡ (nat_le 0xD800 u && nat_lt u 0xE000)
surrogate u = grind (arith, nat_tests)

code_point_lossy : (u : ℕ) → unwrap_or (lone_unit_char u) 0xFFFD ≡ code_point u
code_point_lossy u =
    rw (surrogate u)
    (elim (nat_le 0xD800 u && nat_lt u 0xE000) as (λ b. unwrap_or (cond b None (Some u)) 0xFFFD ≡ cond b 0xFFFD u) [ true ↦ refl | false ↦ refl ])

pair_lossy : (u v : ℕ) → surrogate_pair_char u v ≡ pair_code_point u v
pair_lossy u v = omega arith

-- the characters of std's reading are the code points
pub utf16_lossy_chars-code_points : (units : List ℕ) → utf16_lossy_chars units ≡ code_points units
unfolding utf16_chars
utf16_lossy_chars-code_points [] = refl
utf16_lossy_chars-code_points (u ∷ []) = ap (λ c. c ∷ []) (code_point_lossy u)
utf16_lossy_chars-code_points (u ∷ v ∷ us) =
    elim (leads u && trails v) as (λ b.
    map (λ o. unwrap_or o 0xFFFD) (cond b (Some (surrogate_pair_char u v) ∷ utf16_chars us) (lone_unit_char u ∷ utf16_chars (v ∷ us)))
    ≡ cond b (pair_code_point u v ∷ code_points us) (code_point u ∷ code_points (v ∷ us))) [
      | true ↦ ap₂ (λ c cs. c ∷ cs) (pair_lossy u v) (utf16_lossy_chars-code_points us)
      | false ↦ ap₂ (λ c cs. c ∷ cs) (code_point_lossy u) (utf16_lossy_chars-code_points (v ∷ us))
    ]
