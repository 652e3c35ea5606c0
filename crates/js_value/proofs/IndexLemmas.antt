-- The decimal digits of an index as its key.
use Rattle.std.proofs.Common.{◌⊎◌, inl, inr, ◌≡◌, ℕ, zero, suc, ◌+◌, ◌*◌, ◌-◌, ◌/◌, ◌%◌, ◌^◌, ◌<◌, ◌&&◌, Bool, true, false, List, [], ◌∷◌, ◌++◌, length, Option, Some, None, decimal, get_or, refl, ap, ◌∙◌, arith, if◌then◌else◌}
use Rattle.std.specs.Prelude.{nat_lt, nat_le, nat_eq, slice_get, option_map}
use Rattle.std.specs.Str.{bytes_eq}
use Rattle.std.proofs.lemmas.Bool.Decides.{nat_tests}
use Rattle.std.proofs.lemmas.Fmt.{decimal_digit, decimal_by_steps, first_decimal, decimal_nonempty, decimal_injective}
use Rattle.std.proofs.lemmas.Slice.Eq.{bytes_eq-Decides}
use Rattle.js_value.specs.Key.{digit_of, digits_after, numeral_of, if_index, index_of}
use Rattle.js_value.specs.declared.value.Value.{Value}
use Rattle.js_value.specs.State.{ObjectRecord}
use Rattle.js_value.specs.Objects.{object_at, is_array, array_length, length_property, property_of, own_of, own_of_array, assigned, found, found_in}
use Rattle.js_value.specs.Lookups.{ReadsIndex, TellsIndices, GetsElement}

digit_is : (d : ℕ) → d < 10 → digit_of (48 + d) ≡ Some d
digit_is d l =
    let a : (nat_le 48 (48 + d) && nat_le (48 + d) 57) ≡ true = grind (arith, nat_tests) in
    let e : (48 + d) - 48 ≡ d = omega arith in
    ap (λ b. if b then Some ((48 + d) - 48) else None) a ∙ ap Some e

after_push : (ds : List ℕ) (before m d : ℕ) → d < 10 → digits_after before ds ≡ Some m → digits_after before (ds ++ (48 + d) ∷ []) ≡ Some (m * 10 + d)
after_push [] before m d l e =
    ap (λ o. elim o [ None ↦ None | Some digit ↦ digits_after (before * 10 + digit) [] ]) (digit_is d l) ∙ ap (λ n. Some (n * 10 + d)) (inj e)
  where
    inj : {X : Type 0} {a b : X} → Some a ≡ Some b → a ≡ b
    inj e = cc
after_push (u ∷ us) before m d l e = by (digit_of u) refl e (λ digit f. after_push us (before * 10 + digit) m d l f)
  where
    by : (o : Option ℕ) → digit_of u ≡ o → elim o [ None ↦ None | Some digit ↦ digits_after (before * 10 + digit) us ] ≡ Some m →
        ((digit : ℕ) → digits_after (before * 10 + digit) us ≡ Some m → digits_after (before * 10 + digit) (us ++ (48 + d) ∷ []) ≡ Some (m * 10 + d)) →
        digits_after before ((u ∷ us) ++ (48 + d) ∷ []) ≡ Some (m * 10 + d)
    by None g f ih = cc
    by (Some digit) g f ih = ap (λ o. elim o [ None ↦ None | Some digit ↦ digits_after (before * 10 + digit) (us ++ (48 + d) ∷ []) ]) g ∙ ih digit f

digits_read : (n : ℕ) → n < 2 ^ 64 → digits_after 0 (decimal n) ≡ Some n
digits_read = decimal_by_steps (λ n ds. digits_after 0 ds ≡ Some n)
    (λ n l. let z : 0 * 10 + n ≡ n = omega arith in ap (λ o. elim o [ None ↦ None | Some digit ↦ digits_after (0 * 10 + digit) [] ]) (digit_is n l) ∙ ap Some z)
    (λ n ds l e. let d : n % 10 < 10 = omega arith in let w : (n / 10) * 10 + n % 10 ≡ n = omega arith in after_push ds 0 (n / 10) (n % 10) d e ∙ ap Some w)

-- a numeral without leading zeros
numeral_by : (ds : List ℕ) (n : ℕ) → digits_after 0 ds ≡ Some n → 0 < length ds → (48 < get_or ds 0 0) ⊎ (length ds ≡ 1) → numeral_of ds ≡ Some n
numeral_by [] n e l h = absurd (omega arith)
numeral_by (u ∷ []) n e l h = single (digit_of u) e
  where
    single : (o : Option ℕ) → elim o [ None ↦ None | Some digit ↦ digits_after (0 * 10 + digit) [] ] ≡ Some n → o ≡ Some n
    single None f = cc
    single (Some d) f = let z : d ≡ 0 * 10 + d = omega arith in ap Some z ∙ f
numeral_by (u ∷ v ∷ us) n e l (inl h) = let t : nat_eq u 48 ≡ false = grind (arith, nat_tests) in ap (λ b. if b then None else digits_after 0 (u ∷ v ∷ us)) t ∙ e
numeral_by (u ∷ v ∷ us) n e l (inr h) = absurd (omega (arith, h))

numeral_read : (n : ℕ) → n < 2 ^ 64 → numeral_of (decimal n) ≡ Some n
numeral_read zero l = numeral_by (decimal 0) 0 (digits_read 0 l) (decimal_nonempty 0 l) (inr (ap length (decimal_digit 0 (omega arith))))
numeral_read (suc n) l = numeral_by (decimal (suc n)) (suc n) (digits_read (suc n) l) (decimal_nonempty (suc n) l) (inl (first_decimal (suc n) (omega arith) l))

pub index_read : ReadsIndex
index_read n l =
    let m : n < 2 ^ 64 = omega arith in
    let t : nat_lt n (2 ^ 32 - 1) ≡ true = grind (arith, nat_tests) in
    ap if_index (numeral_read n m) ∙ ap (λ b. if b then Some n else None) t

keys_by : (m n : ℕ) (t : Bool) → bytes_eq (decimal m) (decimal n) ≡ t → (decimal m ≡ decimal n → ⊥) → bytes_eq (decimal m) (decimal n) ≡ false
keys_by m n false e differ = e
keys_by m n true e differ = absurd (differ ((bytes_eq-Decides (decimal m) (decimal n)).0 e))

pub keys_differ : TellsIndices
keys_differ m n a b c = keys_by m n (bytes_eq (decimal m) (decimal n)) refl (λ e. c (decimal_injective m n a b e))

-- An element by its key

own_by : (x : ObjectRecord) (key : List ℕ) (n : ℕ) (v : Value) → is_array x.kind ≡ true → index_of key ≡ Some n → slice_get x.elements n ≡ Some v → own_of x key ≡ Some (assigned key v)
own_by x key n v array index at =
    ap (λ b. if b then own_of_array x key else property_of x.properties key) array
    ∙ ap (λ i. elim i [
      | Some n ↦ option_map (assigned key) (slice_get x.elements n)
      | None ↦ if bytes_eq key array_length then Some (length_property (length x.elements)) else property_of x.properties key
    ]) index
    ∙ ap (option_map (assigned key)) at

pub element_got : GetsElement
element_got h o n v small array at =
    ap (λ q. option_map (λ f. f.property.value) (elim q [ Some p ↦ Some (found_in (object_at h o) p) | None ↦ found o h.objects (object_at h o).prototype (decimal n) ]))
    (own_by (object_at h o) (decimal n) n v array (index_read n small) at)
