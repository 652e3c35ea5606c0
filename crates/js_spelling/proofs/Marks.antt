-- Which punctuator is the longest where one stands before what it doesn't go on with.
use Rattle.std.proofs.Common.{◌≡◌, ℕ, suc, ◌==◌, ◌||◌, ◌&&◌, not, cond, Bool, true, false, List, [], ◌∷◌, ◌++◌, length, drop, Option, Some, refl, sym, ap, subst, ◌∙◌, arith, append-nil}
use Rattle.std.specs.List.{list_any}
use Rattle.std.proofs.Math.Seq.{drop-append_seam}
use Rattle.std.proofs.lemmas.Bool.{true≢false, and_parts, or_parts, not-true, eqb-true, eq-eqb, cond-true, cond-false}
use Rattle.js_text.specs.Character.{is_digit, begins_with_digit, begins_with_character}
use Rattle.js_text.specs.declared.punctuator.Punctuator.{Punctuator}
use Rattle.js_text.specs.declared.punctuator.Punctuator.TheVariants as P
use Rattle.js_text.specs.Punctuator.{spelling_of, punctuators, begins_with, begins_with_punctuator, first_punctuator, longest_punctuator, may_stand_before}
use Rattle.js_text.specs.Lex.{begins_comment}
use Rattle.js_text.specs.Token as T
use Rattle.js_reading.specs.Kinds.{code_of}
use Rattle.js_reading.proofs.sentences.KindsLemmas.{kind_is}
use Rattle.js_spelling.specs.Written.{first_is}
use Rattle.js_spelling.proofs.Lists.{character_is, digit_is, first_less}

-- a longer punctuator begins with it and this character
abbrev pub longer_with : Punctuator → ℕ → Bool
longer_with p c = list_any (λ q. begins_with (spelling_of p ++ c ∷ []) (spelling_of q)) punctuators

-- it goes on with this character: with a longer punctuator, a number or a comment
abbrev pub mark_joins : Punctuator → ℕ → Bool
mark_joins P.Dot c = is_digit c || longer_with P.Dot c
mark_joins P.OptionalChain c = is_digit c
mark_joins P.Slash c = ((c == 0x2F) || (c == 0x2A)) || longer_with P.Slash c
mark_joins p c = longer_with p c

-- `?` stands before `.` where a digit follows
abbrev pub question_apart : List ℕ → Bool
question_apart [] = true
question_apart (c ∷ cs) = cond (c == 0x2E) (begins_with_digit cs) (not (longer_with P.Question c))

abbrev pub mark_apart : Punctuator → List ℕ → Bool
mark_apart P.Question rest = question_apart rest
mark_apart p rest = not (first_is (mark_joins p) rest)

-- ---- what a text begins with

begins_itself : (x rest : List ℕ) → begins_with x (x ++ rest) ≡ true
begins_itself [] rest = refl
begins_itself (c ∷ x) rest = ap (λ b. b && begins_with x (x ++ rest)) (eq-eqb c c refl) ∙ begins_itself x rest

-- what begins there only thanks to what follows goes on with it
begins_longer : (x s : List ℕ) (c : ℕ) (rest : List ℕ) → begins_with x s ≡ false → begins_with (s ++ c ∷ []) x ≡ false → begins_with x (s ++ c ∷ rest) ≡ false
begins_longer [] s c rest h g = absurd (true≢false h)
begins_longer (x ∷ xs) [] c rest h g = by_test (c == x) refl
  where
    by_test : (b : Bool) → (c == x) ≡ b → (b && begins_with xs rest) ≡ false
    by_test false e = refl
    by_test true e = absurd (true≢false (sym (ap (λ b. b && true) (eq-eqb x c (sym (eqb-true c x e)))) ∙ g))
begins_longer (x ∷ xs) (d ∷ s) c rest h g = by_test (d == x) refl (λ u v. begins_longer xs s c rest u v) h
  where
    by_test : (b : Bool) → (d == x) ≡ b → (begins_with xs s ≡ false → begins_with (s ++ c ∷ []) xs ≡ false → begins_with xs (s ++ c ∷ rest) ≡ false) → (b && begins_with xs s) ≡ false → (b && begins_with xs (s ++ c ∷ rest)) ≡ false
    by_test false e go h = refl
    by_test true e go h =
        go h (sym (ap (λ b. b && begins_with (s ++ c ∷ []) xs) (eq-eqb x d (sym (eqb-true d x e)))) ∙ g)

first_begins : (ps : List Punctuator) (cs : List ℕ) (p : Punctuator) → first_punctuator ps cs ≡ Some p → begins_with (spelling_of p) cs ≡ true
first_begins [] cs p h = absurd cc
first_begins (q ∷ ps) cs p h = by_test (begins_with_punctuator q cs) refl (first_begins ps cs p) h
  where
    by_test : (b : Bool) → begins_with_punctuator q cs ≡ b → (first_punctuator ps cs ≡ Some p → begins_with (spelling_of p) cs ≡ true) → cond b (Some q) (first_punctuator ps cs) ≡ Some p → begins_with (spelling_of p) cs ≡ true
    by_test true e go h = let same : q ≡ p = cc in subst (λ x. begins_with (spelling_of x) cs ≡ true) same (and_parts (begins_with (spelling_of q) cs) _ e).0
    by_test false e go h = go h

pub longest_begins : (cs : List ℕ) (p : Punctuator) → longest_punctuator cs ≡ Some p → begins_with (spelling_of p) cs ≡ true
unfolding longest_punctuator
longest_begins cs p h = first_begins punctuators cs p h

-- what begins with a text is that text and what follows it
pub begins_whole : (text cs : List ℕ) → begins_with text cs ≡ true → cs ≡ text ++ drop (length text) cs
begins_whole [] cs h = refl
begins_whole (x ∷ text) [] h = absurd (true≢false (sym h))
begins_whole (x ∷ text) (c ∷ cs) h =
    let parts = and_parts (c == x) (begins_with text cs) h in
    let more : length (x ∷ text) ≡ suc (length text) = omega arith in
    ap (λ y. y ∷ cs) (eqb-true c x parts.0) ∙ ap (λ xs. x ∷ xs) (begins_whole text cs parts.1) ∙ ap (λ n. x ∷ (text ++ drop n (c ∷ cs))) (sym more)

-- ---- the longest

-- none before it in the table is a part of it
abbrev leads : List Punctuator → Punctuator → Bool
leads [] p = false
leads (q ∷ qs) p = cond (code_of p == code_of q) true (not (begins_with (spelling_of q) (spelling_of p)) && leads qs p)

led : (p : Punctuator) → leads punctuators p ≡ true
led P.UnsignedShiftRightAssign = refl
led _ = refl

same_mark : (p q : Punctuator) → (code_of p == code_of q) ≡ true → q ≡ p
same_mark p q h = let e : T.Punctuator q ≡ T.Punctuator p = kind_is (T.Punctuator p) (T.Punctuator q) h in cc

not_begun : (q p : Punctuator) (rest : List ℕ) → begins_with (spelling_of q) (spelling_of p) ≡ false → first_is (λ c. begins_with (spelling_of p ++ c ∷ []) (spelling_of q)) rest ≡ false →
    begins_with_punctuator q (spelling_of p ++ rest) ≡ false
not_begun q p [] h g = ap (λ b. b && may_stand_before q (drop (length (spelling_of q)) (spelling_of p ++ []))) (ap (begins_with (spelling_of q)) (append-nil (spelling_of p)) ∙ h)
not_begun q p (c ∷ rest) h g = ap (λ b. b && may_stand_before q (drop (length (spelling_of q)) (spelling_of p ++ c ∷ rest))) (begins_longer (spelling_of q) (spelling_of p) c rest h g)

begun : (p : Punctuator) (rest : List ℕ) → may_stand_before p rest ≡ true → begins_with_punctuator p (spelling_of p ++ rest) ≡ true
begun p rest h =
    ap (λ b. b && may_stand_before p (drop (length (spelling_of p)) (spelling_of p ++ rest))) (begins_itself (spelling_of p) rest)
    ∙ ap (may_stand_before p) (drop-append_seam (spelling_of p) rest) ∙ h

abbrev longer_in : List Punctuator → Punctuator → ℕ → Bool
longer_in qs p c = list_any (λ q. begins_with (spelling_of p ++ c ∷ []) (spelling_of q)) qs

longer_first : (q : Punctuator) (qs : List Punctuator) (p : Punctuator) (rest : List ℕ) → first_is (longer_in (q ∷ qs) p) rest ≡ false →
    (first_is (λ c. begins_with (spelling_of p ++ c ∷ []) (spelling_of q)) rest ≡ false) × (first_is (longer_in qs p) rest ≡ false)
longer_first q qs p [] h = (refl, refl)
longer_first q qs p (c ∷ rest) h = or_parts (begins_with (spelling_of p ++ c ∷ []) (spelling_of q)) (longer_in qs p c) h

first_is_it : (qs : List Punctuator) (p : Punctuator) (rest : List ℕ) → leads qs p ≡ true → may_stand_before p rest ≡ true → first_is (longer_in qs p) rest ≡ false →
    first_punctuator qs (spelling_of p ++ rest) ≡ Some p
first_is_it [] p rest l m g = absurd (true≢false (sym l))
first_is_it (q ∷ qs) p rest l m g = by_code (code_of p == code_of q) refl (λ k f. first_is_it qs p rest k m f) l
  where
    by_code : (b : Bool) → (code_of p == code_of q) ≡ b → (leads qs p ≡ true → first_is (longer_in qs p) rest ≡ false → first_punctuator qs (spelling_of p ++ rest) ≡ Some p) →
        cond b true (not (begins_with (spelling_of q) (spelling_of p)) && leads qs p) ≡ true → cond (begins_with_punctuator q (spelling_of p ++ rest)) (Some q) (first_punctuator qs (spelling_of p ++ rest)) ≡ Some p
    by_code true e go l =
        let same : q ≡ p = same_mark p q e in
        let yes : begins_with_punctuator q (spelling_of p ++ rest) ≡ true = subst (λ x. begins_with_punctuator x (spelling_of p ++ rest) ≡ true) (sym same) (begun p rest m) in
        cond-true (begins_with_punctuator q (spelling_of p ++ rest)) _ _ yes ∙ ap Some same
    by_code false e go l =
        let both = and_parts (not (begins_with (spelling_of q) (spelling_of p))) (leads qs p) l in
        let two = longer_first q qs p rest g in
        cond-false (begins_with_punctuator q (spelling_of p ++ rest)) _ _ (not_begun q p rest (not-true (begins_with (spelling_of q) (spelling_of p)) both.0) two.0) ∙ go both.1 two.1

longest_is_it : (p : Punctuator) (rest : List ℕ) → may_stand_before p rest ≡ true → first_is (longer_with p) rest ≡ false → longest_punctuator (spelling_of p ++ rest) ≡ Some p
unfolding longest_punctuator
longest_is_it p rest m g = first_is_it punctuators p rest (led p) m g

question_digit : (d : ℕ) (rest : List ℕ) → is_digit d ≡ true → longest_punctuator (0x3F ∷ 0x2E ∷ d ∷ rest) ≡ Some P.Question
unfolding longest_punctuator
question_digit d rest h = ap (λ b. cond {A = Option Punctuator} (not b) (Some P.OptionalChain) (Some P.Question)) h

question_is : (rest : List ℕ) → question_apart rest ≡ true → longest_punctuator (0x3F ∷ rest) ≡ Some P.Question
question_is [] h = longest_is_it P.Question [] refl refl
question_is (c ∷ cs) h = by_test (c == 0x2E) refl h
  where
    by_digit : (ds : List ℕ) → begins_with_digit ds ≡ true → longest_punctuator (0x3F ∷ 0x2E ∷ ds) ≡ Some P.Question
    by_digit [] k = absurd (true≢false (sym k))
    by_digit (d ∷ ds) k = question_digit d ds k

    by_test : (b : Bool) → (c == 0x2E) ≡ b → cond b (begins_with_digit cs) (not (longer_with P.Question c)) ≡ true → longest_punctuator (0x3F ∷ c ∷ cs) ≡ Some P.Question
    by_test true e k = ap (λ x. longest_punctuator (0x3F ∷ x ∷ cs)) (eqb-true c 0x2E e) ∙ by_digit cs k
    by_test false e k = longest_is_it P.Question (c ∷ cs) refl (not-true (longer_with P.Question c) k)

no_longer : (rest : List ℕ) → first_is (longer_with P.OptionalChain) rest ≡ false
no_longer [] = refl
no_longer (c ∷ rest) = refl

-- where nothing goes on with it, it is the longest
pub mark_longest : (p : Punctuator) (rest : List ℕ) → mark_apart p rest ≡ true → longest_punctuator (spelling_of p ++ rest) ≡ Some p
mark_longest P.Question rest h = question_is rest h
mark_longest P.OptionalChain rest h =
    longest_is_it P.OptionalChain rest (ap not (digit_is rest) ∙ h) (no_longer rest)
mark_longest P.Dot rest h =
    longest_is_it P.Dot rest refl (first_less (mark_joins P.Dot) (longer_with P.Dot) rest (λ c k. (or_parts (is_digit c) (longer_with P.Dot c) k).1) (not-true (first_is (mark_joins P.Dot) rest) h))
mark_longest P.Slash rest h =
    longest_is_it P.Slash rest refl (first_less (mark_joins P.Slash) (longer_with P.Slash) rest (λ c k. (or_parts ((c == 0x2F) || (c == 0x2A)) (longer_with P.Slash c) k).1) (not-true (first_is (mark_joins P.Slash) rest) h))
mark_longest P.UnsignedShiftRightAssign rest h = longest_is_it P.UnsignedShiftRightAssign rest refl (not-true (first_is (longer_with P.UnsignedShiftRightAssign) rest) h)
mark_longest p rest h = longest_is_it p rest refl (not-true (first_is (longer_with p) rest) h)

-- ---- and neither a number nor a comment begins there

abbrev pub risky : List ℕ → Bool
risky [] = false
risky (c ∷ cs) = ((c == 0x2E) && begins_with_digit cs) || ((c == 0x2F) && begins_comment cs)

pub no_risk : (p : Punctuator) (rest : List ℕ) → mark_apart p rest ≡ true → risky (spelling_of p ++ rest) ≡ false
unfolding is_digit
no_risk P.Dot rest h = ap (λ b. b || false) (digit_is rest ∙ first_less (mark_joins P.Dot) is_digit rest (λ c k. (or_parts (is_digit c) (longer_with P.Dot c) k).0) (not-true (first_is (mark_joins P.Dot) rest) h))
no_risk P.Slash rest h =
    let slash : first_is (λ c. c == 0x2F) rest ≡ false = first_less (mark_joins P.Slash) (λ c. c == 0x2F) rest
    (λ c k. (or_parts (c == 0x2F) (c == 0x2A) (or_parts ((c == 0x2F) || (c == 0x2A)) (longer_with P.Slash c) k).0).0) (not-true (first_is (mark_joins P.Slash) rest) h) in
    let star : first_is (λ c. c == 0x2A) rest ≡ false = first_less (mark_joins P.Slash) (λ c. c == 0x2A) rest
    (λ c k. (or_parts (c == 0x2F) (c == 0x2A) (or_parts ((c == 0x2F) || (c == 0x2A)) (longer_with P.Slash c) k).0).1) (not-true (first_is (mark_joins P.Slash) rest) h) in
    ap (λ b. b || begins_with_character 0x2A rest) (character_is 0x2F rest ∙ slash) ∙ (character_is 0x2A rest ∙ star)
no_risk P.UnsignedShiftRightAssign rest h = refl
no_risk p rest h = refl
