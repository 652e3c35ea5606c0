-- Lists of characters: the first of them, and where two parts of one list end.
use Rattle.std.proofs.Common.{◌≡◌, ℕ, zero, suc, ◌<◌, ◌≤◌, ◌==◌, ◌||◌, Bool, true, false, List, [], ◌∷◌, ◌++◌, length, drop, Some, None, refl, sym, ap, ◌∙◌, arith}
use Rattle.std.specs.List.{list_any}
use Rattle.std.specs.Str.{all_scalars}
use Rattle.std.proofs.lemmas.Bool.{and_parts, and_from, or_parts}
use Rattle.js_text.specs.Character.{is_digit, begins_with_digit, begins_with_character}
use Rattle.js_text.specs.Position.{begins_with_line_feed}
use Rattle.js_spelling.specs.Written.{first_is}

pub only : {X : Type 0} {x y : X} → Some x ≡ Some y → x ≡ y
only e = cc

pub never : {X : Type 0} {x : X} → None ≡ Some x → ⊥
never e = cc

-- the first characters of two lists, if there are any, pass the same tests
abbrev pub Alike : List ℕ → List ℕ → Type 0
Alike r s = (test : ℕ → Bool) → first_is test r ≡ first_is test s

pub alike_append : (t r s : List ℕ) → 0 < length t → Alike (t ++ r) (t ++ s)
alike_append [] r s h test = absurd (omega arith)
alike_append (c ∷ t) r s h test = refl

-- the same of what begins with a part that is not empty
pub alike_whole : (cs t r s : List ℕ) → cs ≡ t ++ r → 0 < length t → Alike cs (t ++ s)
alike_whole cs t r s e h test = ap (first_is test) e ∙ alike_append t r s h test

pub character_is : (x : ℕ) (cs : List ℕ) → begins_with_character x cs ≡ first_is (λ c. c == x) cs
character_is x [] = refl
character_is x (c ∷ cs) = refl

pub digit_is : (cs : List ℕ) → begins_with_digit cs ≡ first_is is_digit cs
digit_is [] = refl
digit_is (c ∷ cs) = refl

pub line_feed_is : (cs : List ℕ) → begins_with_line_feed cs ≡ first_is (λ c. c == 0x0A) cs
line_feed_is [] = refl
line_feed_is (c ∷ cs) = refl

pub same_character : (x : ℕ) (r s : List ℕ) → Alike r s → begins_with_character x s ≡ begins_with_character x r
same_character x r s like = character_is x s ∙ sym (like (λ c. c == x)) ∙ sym (character_is x r)

pub same_digit : (r s : List ℕ) → Alike r s → begins_with_digit s ≡ begins_with_digit r
same_digit r s like = digit_is s ∙ sym (like is_digit) ∙ sym (digit_is r)

pub same_line_feed : (r s : List ℕ) → Alike r s → begins_with_line_feed s ≡ begins_with_line_feed r
same_line_feed r s like = line_feed_is s ∙ sym (like (λ c. c == 0x0A)) ∙ sym (line_feed_is r)

-- the first character of a part, or else of what follows it
pub first_kept : (test : ℕ → Bool) (t s : List ℕ) → first_is test t ≡ false → first_is test s ≡ false → first_is test (t ++ s) ≡ false
first_kept test [] s h k = k
first_kept test (c ∷ t) s h k = h

pub first_append : (test : ℕ → Bool) (cs rest : List ℕ) → 0 < length cs → first_is test (cs ++ rest) ≡ first_is test cs
first_append test [] rest h = absurd (omega arith)
first_append test (c ∷ cs) rest h = refl

-- what fails one test fails another that holds of less
pub first_less : (test other : ℕ → Bool) (cs : List ℕ) → ((c : ℕ) → test c ≡ false → other c ≡ false) → first_is test cs ≡ false → first_is other cs ≡ false
first_less test other [] less h = refl
first_less test other (c ∷ cs) less h = less c h

pub any_parts : (test : ℕ → Bool) (xs ys : List ℕ) → list_any test (xs ++ ys) ≡ false → (list_any test xs ≡ false) × (list_any test ys ≡ false)
any_parts test [] ys h = (refl, h)
any_parts test (x ∷ xs) ys h =
    let one = or_parts (test x) (list_any test (xs ++ ys)) h in
    let both = any_parts test xs ys one.1 in
    (ap (λ b. b || list_any test xs) one.0 ∙ both.0, both.1)

-- of two parts with which one list begins the longer begins with the shorter
pub record Longer (t r u w : List ℕ) : Type 0 where
  pub more : List ℕ
  pub first : u ≡ t ++ more
  pub second : r ≡ more ++ w

pub longer : (t r u w : List ℕ) → t ++ r ≡ u ++ w → length t ≤ length u → Longer t r u w
longer [] r u w e l = record { more = u; first = refl; second = e }
longer (x ∷ t) r [] w e l = absurd (omega arith)
longer (x ∷ t) r (y ∷ u) w e l =
    let head : y ≡ x = cc in
    let tail : t ++ r ≡ u ++ w = cc in
    let rest = longer t r u w tail (omega arith) in
    record { more = rest.more; first = ap (λ c. c ∷ u) head ∙ ap (λ cs. x ∷ cs) rest.first; second = rest.second }

pub none_left : (r : List ℕ) → length r ≡ 0 → r ≡ []
none_left [] h = refl
none_left (c ∷ r) h = absurd (omega arith)

-- the parts of a list of characters are characters
pub scalars_left : (xs ys : List ℕ) → all_scalars (xs ++ ys) ≡ true → all_scalars xs ≡ true
scalars_left [] ys h = refl
scalars_left (x ∷ xs) ys h = let parts = and_parts _ _ h in and_from _ _ parts.0 (scalars_left xs ys parts.1)

pub scalars_right : (xs ys : List ℕ) → all_scalars (xs ++ ys) ≡ true → all_scalars ys ≡ true
scalars_right [] ys h = h
scalars_right (x ∷ xs) ys h = scalars_right xs ys (and_parts _ _ h).1

pub scalars_drop : (n : ℕ) (cs : List ℕ) → all_scalars cs ≡ true → all_scalars (drop n cs) ≡ true
scalars_drop zero cs h = h
scalars_drop (suc n) [] h = refl
scalars_drop (suc n) (c ∷ cs) h = scalars_drop n cs (and_parts _ _ h).1
