-- The name that a word with escapes stands for is no longer than its spelling: an escape has four characters at least.
use Rattle.std.proofs.Common.{◌≡◌, ℕ, zero, suc, ◌+◌, ◌-◌, ◌*◌, ◌≤◌, ◌==◌, ◌&&◌, nat_le, Bool, true, false, List, [], ◌∷◌, length, drop, Option, Some, None, if◌then◌else◌, encode_utf8_all, refl, ap, subst, sym, arith}
use Rattle.std.specs.Char as char
use Rattle.std.specs.Str.{all_scalars}
use Rattle.std.proofs.lemmas.List.{length-drop}
use Rattle.std.proofs.lemmas.Str.{len_utf8_bounds}
use Rattle.js_text.specs.Character.{begins_with_character}
use Rattle.js_text.specs.Escape.{hex_digit, joined, two_digits, four_digits, before, braced_digits, code_point, unicode_escape, identifier_escape}
use Rattle.js_text.specs.Gap.{with_found}
use Rattle.js_text.specs.Identifier.{is_backslash, character_escape, decoded}
use Rattle.js_text.proofs.Place.{length-encodes-cons}

-- ---- escapes

-- so many characters stand before what is left
abbrev Shorter : ℕ → List ℕ → Option (ℕ × List ℕ) → Type 0
Shorter k cs None = Unit {0}
Shorter k cs (Some x) = length x.1 + k ≤ length cs

one_more : (k c : ℕ) (cs : List ℕ) (o : Option (ℕ × List ℕ)) → Shorter k cs o → Shorter (k + 1) (c ∷ cs) o
one_more k c cs None h = tt
one_more k c cs (Some x) h = omega (arith, h)

less : (k j : ℕ) (cs : List ℕ) (o : Option (ℕ × List ℕ)) → Shorter k cs o → j ≤ k → Shorter j cs o
less k j cs None h le = tt
less k j cs (Some x) h le = omega (arith, h, le)

if_shorter : (b : Bool) (k : ℕ) (cs : List ℕ) (o : Option (ℕ × List ℕ)) → Shorter k cs o → Shorter k cs (if b then o else None)
if_shorter true k cs o h = h
if_shorter false k cs o h = tt

unless_shorter : (b : Bool) (k : ℕ) (cs : List ℕ) (o : Option (ℕ × List ℕ)) → Shorter k cs o → Shorter k cs (if b then None else o)
unless_shorter true k cs o h = tt
unless_shorter false k cs o h = h

either_shorter : (b : Bool) (k : ℕ) (cs : List ℕ) (o p : Option (ℕ × List ℕ)) → Shorter k cs o → Shorter k cs p → Shorter k cs (if b then o else p)
either_shorter true k cs o p h i = h
either_shorter false k cs o p h i = i

braced_shorter : (value : ℕ) (cs : List ℕ) → Shorter 1 cs (braced_digits value cs)
braced_shorter value [] = tt
braced_shorter value (c ∷ cs) =
    either_shorter (c == 0x7D) 1 (c ∷ cs) _ _ (omega arith)
    (if_shorter (char.is_digit c 16 && nat_le (value * 16 + char.digit_value c) 0x10FFFF) 1 (c ∷ cs) (braced_digits (value * 16 + char.digit_value c) cs)
    (less 2 1 (c ∷ cs) (braced_digits (value * 16 + char.digit_value c) cs) (one_more 1 c cs (braced_digits (value * 16 + char.digit_value c) cs) (braced_shorter (value * 16 + char.digit_value c) cs)) (omega arith)))

joined_none : (times : ℕ) (o : Option ℕ) → joined times o None ≡ None
joined_none times None = refl
joined_none times (Some x) = refl

-- one character is no four digits
one_digit : (c : ℕ) → four_digits (c ∷ []) ≡ None
one_digit c = ap (λ (o : Option ℕ). joined 256 o (two_digits [])) (joined_none 16 (hex_digit (c ∷ [])))

four_shorter : (cs : List ℕ) → Shorter 2 cs (before (drop 4 cs) (four_digits cs))
four_shorter [] = tt
four_shorter (c ∷ []) = subst (λ (o : Option ℕ). Shorter 2 (c ∷ []) (before (drop 4 (c ∷ [])) o)) (sym (one_digit c)) tt
four_shorter (c ∷ d ∷ cs) = by_value (four_digits (c ∷ d ∷ cs))
  where
    by_value : (o : Option ℕ) → Shorter 2 (c ∷ d ∷ cs) (before (drop 4 (c ∷ d ∷ cs)) o)
    by_value None = tt
    by_value (Some v) = omega (arith, length-drop 4 (c ∷ d ∷ cs))

unicode_shorter : (cs : List ℕ) → Shorter 2 cs (unicode_escape cs)
unicode_shorter [] = four_shorter []
unicode_shorter (c ∷ cs) =
    either_shorter (begins_with_character 0x7B (c ∷ cs)) 2 (c ∷ cs) (code_point cs) (before (drop 4 (c ∷ cs)) (four_digits (c ∷ cs)))
    (one_more 1 c cs (code_point cs) (unless_shorter (begins_with_character 0x7D cs) 1 cs (braced_digits 0 cs) (braced_shorter 0 cs)))
    (four_shorter (c ∷ cs))

identifier_shorter : (cs : List ℕ) → Shorter 3 cs (identifier_escape cs)
identifier_shorter [] = tt
identifier_shorter (c ∷ cs) = if_shorter (c == 0x75) 3 (c ∷ cs) (unicode_escape cs) (one_more 2 c cs (unicode_escape cs) (unicode_shorter cs))

character_shorter : (cs : List ℕ) → Shorter 3 cs (character_escape cs)
character_shorter cs = by_escape (identifier_escape cs) (identifier_shorter cs)
  where
    by_escape : (o : Option (ℕ × List ℕ)) → Shorter 3 cs o → Shorter 3 cs (with_found o (λ (x : ℕ × List ℕ). if all_scalars (x.0 ∷ []) then Some x else None) None)
    by_escape None h = tt
    by_escape (Some x) h = if_shorter (all_scalars (x.0 ∷ [])) 3 cs (Some x) h

-- ---- what characters stand for

abbrev pub bytes_of : List ℕ → ℕ
bytes_of cs = length (encode_utf8_all cs)

pub decoded_short : (n : ℕ) (cs : List ℕ) → n ≤ length cs → bytes_of (decoded n cs) + n ≤ bytes_of cs
decoded_short zero [] le = omega arith
decoded_short (suc n) [] le = absurd (omega (arith, le))
decoded_short (suc n) (c ∷ cs) le = omega (arith, decoded_short n cs (omega (arith, le)), length-encodes-cons c cs, (len_utf8_bounds c).0)
decoded_short zero (c ∷ cs) le = by_tests (is_backslash c) (character_escape cs) (character_shorter cs) (λ n. decoded_short n cs)
  where
    by_tests : (b : Bool) (o : Option (ℕ × List ℕ)) → Shorter 3 cs o → ((n : ℕ) → n ≤ length cs → bytes_of (decoded n cs) + n ≤ bytes_of cs) →
        bytes_of (if b then with_found o (λ (x : ℕ × List ℕ). x.0 ∷ decoded (length cs - length x.1) cs) [] else c ∷ decoded zero cs) + 0 ≤ bytes_of (c ∷ cs)
    by_tests false o h go = omega (arith, go zero (omega arith), length-encodes-cons c cs, length-encodes-cons c (decoded zero cs))
    by_tests true None h go = omega arith
    by_tests true (Some x) h go =
        omega (arith, h, go (length cs - length x.1) (omega arith), length-encodes-cons c cs, length-encodes-cons x.0 (decoded (length cs - length x.1) cs), (len_utf8_bounds c).0, (len_utf8_bounds x.0).1)
