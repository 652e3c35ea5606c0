-- A later place in the same text is a move from the earlier one.
use Rattle.std.proofs.Common.{◌≡◌, ℕ, suc, ◌+◌, ◌-◌, ◌<◌, ◌≤◌, List, [], ◌∷◌, ◌++◌, length, take, drop, refl, sym, ap, ap₂, ◌∙◌, arith, length-append}
use Rattle.std.proofs.Math.Seq.{take-append_seam, drop-append_seam}
use Rattle.js_text.specs.Place.{Place}
use Rattle.js_text.specs.Lex.{moved, characters_of}
use Rattle.js_lexer.proofs.Places.{between}

drop-past : (xs ys : List ℕ) (n k : ℕ) → k ≡ length xs + n → drop k (xs ++ ys) ≡ drop n ys
drop-past [] ys n k e = let same : k ≡ n = omega arith in ap (λ j. drop j ys) same
drop-past (x ∷ xs) ys n k e =
    let more : k ≡ suc (length xs + n) = omega arith in
    ap (λ j. drop j (x ∷ (xs ++ ys))) more ∙ drop-past xs ys n (length xs + n) refl

take-past : (xs ys : List ℕ) (n k : ℕ) → k ≡ length xs + n → take k (xs ++ ys) ≡ xs ++ take n ys
take-past [] ys n k e = let same : k ≡ n = omega arith in ap (λ j. take j ys) same
take-past (x ∷ xs) ys n k e =
    let more : k ≡ suc (length xs + n) = omega arith in
    ap (λ j. take j (x ∷ (xs ++ ys))) more ∙ ap (λ zs. x ∷ zs) (take-past xs ys n (length xs + n) refl)

pub onward-moved : (p q : Place) → characters_of q ≡ characters_of p → length q.after ≤ length p.after → q ≡ moved (length p.after - length q.after) p
onward-moved p q text le =
    let n = length p.after - length q.after in
    let before : length q.before ≡ length p.before + n = omega (arith, ap length text, length-append q.before q.after, length-append p.before p.after) in
    let front : q.before ≡ p.before ++ take n p.after =
    sym (take-append_seam q.before q.after) ∙ ap (take (length q.before)) text ∙ take-past p.before p.after n (length q.before) before in
    let back : q.after ≡ drop n p.after =
    sym (drop-append_seam q.before q.after) ∙ ap (drop (length q.before)) text ∙ drop-past p.before p.after n (length q.before) before in
    ap₂ (λ xs ys. between xs ys) front back

-- what follows the later place, as what is left of what follows the earlier, and of that without its first character
pub left-is : (p q : Place) → characters_of q ≡ characters_of p → length q.after ≤ length p.after → q.after ≡ drop (length p.after - length q.after) p.after
left-is p q text le = ap (λ (r : Place). r.after) (onward-moved p q text le)

pub left-after : (p q : Place) (c : ℕ) (cs : List ℕ) → p.after ≡ c ∷ cs → characters_of q ≡ characters_of p → length q.after < length p.after →
    q.after ≡ drop (length cs - length q.after) cs
left-after p q c cs e text lt =
    let more : length p.after - length q.after ≡ suc (length cs - length q.after) = omega (arith, ap length e) in
    left-is p q text (omega arith) ∙ ap₂ (λ n xs. drop n xs) more e
