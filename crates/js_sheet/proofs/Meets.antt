-- What the code looks at where two tokens meet is what the rules of printing say.
use Rattle.std.proofs.Common.{◌≡◌, ◌∙◌, ℕ, Bool, true, false, List, [], ◌∷◌, refl, sym, ap, if◌then◌else◌}
use Rattle.std.specs.Prelude.{◌==◌, ◌&&◌, ◌||◌}
use Rattle.js_text.specs.Character.{continues_identifier}
use Rattle.js_text.specs.Token.{Kind, Numeral, BigInt, RegularExpression}
use Rattle.js_spelling.specs.Written.{Written, Within, letters, first_is, last_is, meet, is_number, is_regular_expression, spaced, between, after_last}
use Rattle.js_sheet.specs.Meeting.{first_of, last_of, continues, is, parts}
use Rattle.js_sheet.specs.Sheets.{gap, sort_of, is_number_sort, is_expression_sort, left_of, end_of}

first_continues : (cs : List ℕ) → first_is continues_identifier cs ≡ continues (first_of cs)
first_continues [] = refl
first_continues (c ∷ cs) = refl

last_continues : (cs : List ℕ) → last_is continues_identifier cs ≡ continues (last_of cs)
last_continues [] = refl
last_continues (c ∷ []) = refl
last_continues (c ∷ d ∷ cs) = last_continues (d ∷ cs)

first_equals : (x : ℕ) (cs : List ℕ) → first_is (λ c. c == x) cs ≡ is x (first_of cs)
first_equals x [] = refl
first_equals x (c ∷ cs) = refl

last_equals : (x : ℕ) (cs : List ℕ) → last_is (λ c. c == x) cs ≡ is x (last_of cs)
last_equals x [] = refl
last_equals x (c ∷ []) = refl
last_equals x (c ∷ d ∷ cs) = last_equals x (d ∷ cs)

both : {x y u v : Bool} → x ≡ u → y ≡ v → (x && y) ≡ (u && v)
both {x = x} {v = v} p q = ap (λ b. x && b) q ∙ ap (λ b. b && v) p

either : {x y u v : Bool} → x ≡ u → y ≡ v → (x || y) ≡ (u || v)
either {x = x} {v = v} p q = ap (λ b. x || b) q ∙ ap (λ b. b || v) p

meets : (a b : ℕ) (left right : List ℕ) → meet a b left right ≡ (is a (last_of left) && is b (first_of right))
meets a b left right = both (last_equals a left) (first_equals b right)

number_sort : (k : Kind) → is_number_sort (sort_of k) ≡ is_number k
number_sort (Numeral w) = refl
number_sort (BigInt w) = refl
number_sort (RegularExpression w) = refl
number_sort k = refl

expression_sort : (k : Kind) → is_expression_sort (sort_of k) ≡ is_regular_expression k
expression_sort (Numeral w) = refl
expression_sort (BigInt w) = refl
expression_sort (RegularExpression w) = refl
expression_sort k = refl

space : (left right : Kind) → parts (last_of (letters left)) (is_number_sort (sort_of left)) (is_expression_sort (sort_of left)) (first_of (letters right)) ≡ spaced left right
space left right =
    let a = letters left in
    let b = letters right in
    sym (either (either (either (either (either (either (both (last_continues a) (first_continues b))
    (both (either (sym (number_sort left)) (sym (expression_sort left))) (first_continues b)))
    (both (sym (number_sort left)) (first_equals 0x2E b)))
    (meets 0x2B 0x2B a b)) (meets 0x2D 0x2D a b)) (meets 0x2F 0x2F a b)) (meets 0x3C 0x21 a b))

-- after a token stands what the rules say
abbrev ended : Kind → Bool → Written
ended k ends = record { kind = k; origin = Within; ends_line = ends }

gap_by : (ends : Bool) (left right : Kind) → gap (left_of (ended left ends)) (first_of (letters right)) ≡ (if ends then 0x0A ∷ [] else (if spaced left right then 0x20 ∷ [] else []))
gap_by true left right = refl
gap_by false left right = ap (λ b. if b then 0x20 ∷ [] else []) (space left right)

pub gap_after : (t : Written) (right : Kind) → gap (left_of t) (first_of (letters right)) ≡ between t right
gap_after t right = gap_by t.ends_line t.kind right

end_by : (ends : Bool) (left : Kind) → end_of (left_of (ended left ends)) ≡ (if ends then 0x0A ∷ [] else [])
end_by true left = refl
end_by false left = refl

pub end_after : (t : Written) → end_of (left_of t) ≡ after_last t
end_after t = end_by t.ends_line t.kind
