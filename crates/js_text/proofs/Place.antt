-- Places in a text, by the characters before them.
use Rattle.std.proofs.Common.{◌≡◌, ℕ, ◌+◌, ◌-◌, ◌<◌, ◌≤◌, true, false, nat_le, List, [], ◌∷◌, ◌++◌, length, take, drop, slice_get, Option, Some, None, IfSome, IfNone, refl, sym, ap, ◌∙◌, subst, inl, inr, arith, encode_utf8, encode_utf8_all, IsUtf8, length-append, length-take, append-nil, append_assoc}
use Rattle.std.specs.Char.{IsScalar, len_utf8}
use Rattle.std.specs.Str.{chars, all_scalars, IsCharBoundary}
use Rattle.std.proofs.Math.Seq.{take-add, drop-append_seam}
use Rattle.std.proofs.lemmas.Bool.{cases_lt, le-leb, lt-leb, and_parts, and_from}
use Rattle.std.proofs.lemmas.List.{take_at, drop-take, length-drop, get_or-take}
use Rattle.std.proofs.lemmas.Str.{length-encode, len_utf8_bounds, encodes-append, encodes-chars, IsUtf8-append, IsUtf8-encode, IsCharBoundary-from_drop, IsCharBoundary-at_seam, chars-append, chars-encodes, chars_past_char, scalars-chars}
use Rattle.js_text.specs.Place.{Place, characters_before, place_at}

-- how many bytes the characters of a list take, one more at a time
pub length-encodes-cons : (c : ℕ) (cs : List ℕ) → length (encode_utf8_all (c ∷ cs)) ≡ len_utf8 c + length (encode_utf8_all cs)
length-encodes-cons c cs = omega (arith, length-append (encode_utf8 c) (encode_utf8_all cs), length-encode c)

pub length-encodes-append : (xs ys : List ℕ) → length (encode_utf8_all (xs ++ ys)) ≡ length (encode_utf8_all xs) + length (encode_utf8_all ys)
length-encodes-append xs ys = ap length (encodes-append xs ys) ∙ length-append (encode_utf8_all xs) (encode_utf8_all ys)

pub length-encodes-push : (cs : List ℕ) (c : ℕ) → length (encode_utf8_all (cs ++ c ∷ [])) ≡ length (encode_utf8_all cs) + len_utf8 c
length-encodes-push cs c = omega (arith, length-encodes-append cs (c ∷ []), length-encodes-cons c [])

-- characters that end at or before a number of bytes are among those that do
pub characters_before-append : (before after : List ℕ) (at : ℕ) → length (encode_utf8_all before) ≤ at
    → characters_before at (before ++ after) ≡ before ++ characters_before (at - length (encode_utf8_all before)) after
characters_before-append [] after at h = ap (λ n. characters_before n after) (let e : at ≡ at - 0 = omega arith in e)
characters_before-append (c ∷ before) after at h =
    let whole = length-encodes-cons c before in
    let fits : nat_le (len_utf8 c) at ≡ true = le-leb _ _ (omega arith) in
    let left : (at - len_utf8 c) - length (encode_utf8_all before) ≡ at - length (encode_utf8_all (c ∷ before)) = omega arith in
    rw fits
    (ap (λ cs. c ∷ cs) (characters_before-append before after (at - len_utf8 c) (omega arith) ∙ ap (λ n. before ++ characters_before n after) left))

-- where the next character ends later, or there is none, no more of them do
pub characters_before-late : (c : ℕ) (after : List ℕ) (at : ℕ) → at < len_utf8 c → characters_before at (c ∷ after) ≡ []
characters_before-late c after at h = let late : nat_le (len_utf8 c) at ≡ false = lt-leb _ _ h in rw late refl

pub characters_before-zero : (cs : List ℕ) → characters_before 0 cs ≡ []
characters_before-zero [] = refl
characters_before-zero (c ∷ cs) = characters_before-late c cs 0 (omega (arith, len_utf8_bounds c))

-- the place between these characters and those
pub place_at-between : (before after : List ℕ) (at : ℕ) → length (encode_utf8_all before) ≤ at → characters_before (at - length (encode_utf8_all before)) after ≡ []
    → place_at (before ++ after) at ≡ record { before = before; after = after }
place_at-between before after at h none =
    let same : characters_before at (before ++ after) ≡ before = characters_before-append before after at h ∙ ap (λ cs. before ++ cs) none ∙ append-nil before in
    ap (λ cs. let p : Place = record { before = cs; after = drop (length cs) (before ++ after) } in p) same
    ∙ ap (λ cs. let p : Place = record { before = before; after = cs } in p) (drop-append_seam before after)

-- a place is found again at the number of bytes before it
pub place_at-here : (place : Place) → place_at (place.before ++ place.after) (length (encode_utf8_all place.before)) ≡ place
place_at-here place =
    let n = length (encode_utf8_all place.before) in
    let none : n - n ≡ 0 = omega arith in
    place_at-between place.before place.after n (omega arith) (ap (λ k. characters_before k place.after) none ∙ characters_before-zero place.after)

-- a place in a text has no more bytes before it than the text has
pub length-before-le : (text before after : List ℕ) → IsUtf8 text → before ++ after ≡ chars text → length (encode_utf8_all before) ≤ length text
length-before-le text before after utf8 whole =
    let bytes : encode_utf8_all (before ++ after) ≡ text = ap encode_utf8_all whole ∙ encodes-chars text utf8 in
    omega (arith, length-encodes-append before after, ap length bytes)

-- a move over one character leaves the text as it is
pub before-after-push : (before after : List ℕ) (c : ℕ) → (before ++ c ∷ []) ++ after ≡ before ++ (c ∷ after)
before-after-push before after c = append_assoc before (c ∷ []) after

pub before-after-moved : (old new : Place) (c : ℕ) → old.after ≡ c ∷ new.after → new.before ≡ old.before ++ c ∷ [] → new.before ++ new.after ≡ old.before ++ old.after
before-after-moved old new c after before =
    ap (λ cs. cs ++ new.after) before ∙ before-after-push old.before new.after c ∙ ap (λ cs. old.before ++ cs) (sym after)

-- where a character follows, a move takes that one
pub moves_over : (old new : Place) (result : Option ℕ) (c : ℕ) → Some c ≡ slice_get old.after 0 → IfSome result (λ next. old.after ≡ next ∷ new.after)
    → IfSome result (λ next. new.before ≡ old.before ++ next ∷ []) → IfNone result (old.after ≡ []) → (old.after ≡ c ∷ new.after) × (new.before ≡ old.before ++ c ∷ [])
moves_over old new None c peeked after before end = let gone = peeked ∙ ap (λ cs. slice_get cs 0) end in cc
moves_over old new (Some next) c peeked after before end =
    let same : Some c ≡ Some next = peeked ∙ ap (λ cs. slice_get cs 0) after in
    let e : next ≡ c = cc in (after ∙ ap (λ n. n ∷ new.after) e, before ∙ ap (λ n. old.before ++ n ∷ []) e)

-- the last place at or before a number of bytes: nothing follows it, or a character that ends later
pub place_at-last : (before after : List ℕ) (at : ℕ) → length (encode_utf8_all before) ≤ at → None ≡ slice_get after 0
    → place_at (before ++ after) at ≡ record { before = before; after = after }
place_at-last before [] at h none = place_at-between before [] at h refl
place_at-last before (c ∷ after) at h none = absurd (let never : None ≡ Some c = none in cc)

pub place_at-late : (before after : List ℕ) (at c : ℕ) → length (encode_utf8_all before) ≤ at → Some c ≡ slice_get after 0 → at - length (encode_utf8_all before) < len_utf8 c
    → place_at (before ++ after) at ≡ record { before = before; after = after }
place_at-late before [] at c h some late = absurd (let never : Some c ≡ None = some in cc)
place_at-late before (d ∷ after) at c h some late =
    let same : Some c ≡ Some d = some in
    let e : c ≡ d = cc in
    place_at-between before (d ∷ after) at h (characters_before-late d after (at - length (encode_utf8_all before)) (subst (λ n. at - length (encode_utf8_all before) < len_utf8 n) e late))

-- ---- a text that is cut in two

-- a text that begins with these bytes of a character begins with that character
pub scalar-first : (bytes rest : List ℕ) (c : ℕ) → IsUtf8 bytes → bytes ≡ encode_utf8 c ++ rest → IsScalar c
scalar-first bytes rest c utf8 e = (and_parts _ _ (subst (λ cs. all_scalars cs ≡ true) (chars_past_char bytes rest c utf8 e) (scalars-chars bytes utf8))).0

pub chars-one : (c : ℕ) → IsScalar c → chars (encode_utf8 c) ≡ c ∷ []
chars-one c scalar = ap chars (sym (append-nil (encode_utf8 c))) ∙ chars-encodes (c ∷ []) (and_from _ _ scalar refl)

-- the first bytes of a text, with one character more
pub take-past_char : (text rest : List ℕ) (at c : ℕ) → drop at text ≡ encode_utf8 c ++ rest → take (at + len_utf8 c) text ≡ take at text ++ encode_utf8 c
take-past_char text rest at c e =
    take-add at (len_utf8 c) text ∙ ap (λ bs. take at text ++ bs) (ap (take (len_utf8 c)) e ∙ take_at (encode_utf8 c) rest (len_utf8 c) (length-encode c))

pub IsUtf8-take-past_char : (text rest : List ℕ) (at c : ℕ) → IsUtf8 (take at text) → IsScalar c → drop at text ≡ encode_utf8 c ++ rest → IsUtf8 (take (at + len_utf8 c) text)
IsUtf8-take-past_char text rest at c front scalar e =
    subst IsUtf8 (sym (take-past_char text rest at c e)) (IsUtf8-append _ _ front (IsUtf8-encode c scalar))

pub chars-take-past_char : (text rest : List ℕ) (at c : ℕ) → IsUtf8 (take at text) → IsScalar c → drop at text ≡ encode_utf8 c ++ rest
    → chars (take (at + len_utf8 c) text) ≡ chars (take at text) ++ c ∷ []
chars-take-past_char text rest at c front scalar e =
    ap chars (take-past_char text rest at c e) ∙ chars-append (take at text) (encode_utf8 c) front ∙ ap (λ cs. chars (take at text) ++ cs) (chars-one c scalar)

pub length-past_char : (text rest : List ℕ) (at c : ℕ) → at ≤ length text → drop at text ≡ encode_utf8 c ++ rest → at + len_utf8 c ≤ length text
length-past_char text rest at c within e =
    omega (arith, length-drop at text, ap length e, length-append (encode_utf8 c) rest, length-encode c)

-- the characters before a cut take as many bytes as stand before it
pub length-encodes-front : (text : List ℕ) (at : ℕ) → at ≤ length text → IsUtf8 (take at text) → length (encode_utf8_all (chars (take at text))) ≡ at
length-encodes-front text at within front = omega (arith, ap length (encodes-chars (take at text) front), length-take at text)

-- a place where the text before a cut may be cut is one where the text may be
pub IsCharBoundary-from_front : (text : List ℕ) (at start : ℕ) → at ≤ length text → IsUtf8 (drop at text) → start ≤ at → IsCharBoundary (take at text) start → IsCharBoundary text start
IsCharBoundary-from_front text at start within back le front = elim (cases_lt start at) [
  | inl lt ↦ (omega arith, (λ _ high. let same = get_or-take at text start 0 lt in let short = length-take at text in omega (arith, front.1 (omega arith) (omega arith))))
  | inr ge ↦ let same : at ≡ start = omega arith in subst (IsCharBoundary text) same (IsCharBoundary-from_drop text at within back)
]

pub drop-take-range : (text : List ℕ) (start at : ℕ) → start ≤ at → take (at - start) (drop start text) ≡ drop start (take at text)
drop-take-range text start at le =
    let sum : start + (at - start) ≡ at = omega arith in
    sym (drop-take start (at - start) text) ∙ ap (λ n. drop start (take n text)) sum

-- ---- the text from an earlier place up to here

scalars-append_left : (xs ys : List ℕ) → all_scalars (xs ++ ys) ≡ true → all_scalars xs ≡ true
scalars-append_left [] ys h = refl
scalars-append_left (x ∷ xs) ys h = let parts = and_parts _ _ h in and_from _ _ parts.0 (scalars-append_left xs ys parts.1)

scalars-append_right : (xs ys : List ℕ) → all_scalars (xs ++ ys) ≡ true → all_scalars ys ≡ true
scalars-append_right [] ys h = h
scalars-append_right (x ∷ xs) ys h = scalars-append_right xs ys (and_parts _ _ h).1

-- the characters between two places of a text are characters
pub scalars-since : (text earlier since after : List ℕ) → IsUtf8 text → (earlier ++ since) ++ after ≡ chars text → all_scalars since ≡ true
scalars-since text earlier since after utf8 whole =
    scalars-append_right earlier since (scalars-append_left (earlier ++ since) after (subst (λ cs. all_scalars cs ≡ true) (sym whole) (scalars-chars text utf8)))

-- at an earlier place the bytes before a later one may be cut
pub IsCharBoundary-earlier : (text earlier since after : List ℕ) → IsUtf8 text → (earlier ++ since) ++ after ≡ chars text
    → IsCharBoundary (encode_utf8_all (earlier ++ since)) (length (encode_utf8_all earlier))
IsCharBoundary-earlier text earlier since after utf8 whole =
    IsCharBoundary-at_seam _ (encode_utf8_all earlier) (encode_utf8_all since) (encodes-append earlier since) (since, (scalars-since text earlier since after utf8 whole, refl))

-- and what is cut off there has the characters since
pub chars-since : (text earlier since after : List ℕ) → IsUtf8 text → (earlier ++ since) ++ after ≡ chars text
    → chars (drop (length (encode_utf8_all earlier)) (encode_utf8_all (earlier ++ since))) ≡ since
chars-since text earlier since after utf8 whole =
    ap chars (ap (drop (length (encode_utf8_all earlier))) (encodes-append earlier since) ∙ drop-append_seam (encode_utf8_all earlier) (encode_utf8_all since))
    ∙ chars-encodes since (scalars-since text earlier since after utf8 whole)
