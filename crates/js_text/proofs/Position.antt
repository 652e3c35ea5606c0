-- How the position of a place follows from that of the place one character before it.
use Rattle.std.proofs.Common.{◌≡◌, ℕ, ◌+◌, ◌-◌, ◌^◌, ◌<◌, ◌≤◌, ◌==◌, nat_lt, min, true, false, Bool, cond, List, [], ◌∷◌, ◌++◌, refl, sym, ap, ap₂, ◌∙◌, arith, encode_utf8_all, IsUtf8, length, append_assoc, inl, inr, Some, None}
use Rattle.std.specs.Char.{len_utf8}
use Rattle.std.specs.List.{sum_by, slice_index, slice_get}
use Rattle.std.specs.Str.{chars}
use Rattle.std.proofs.lemmas.Bool.{cases_eq, cases_lt, eq-eqb, ne_eqb, lt-ltb, le-ltb}
use Rattle.std.proofs.lemmas.Str.{encodes-chars, byte_from_char, char_from_byte}
use Rattle.std.proofs.lemmas.List.Sums.{sum_by_push}
use Rattle.js_terms.specs.declared.place.Pos.{Pos}
use Rattle.js_text.specs.Place.{Place, place_at}
use Rattle.js_text.specs.Position.{begins_with_line_feed, ends_line, lines_ended, line_so_far, utf16_units, saturated, position_of, position}
use Rattle.js_text.proofs.Place.{place_at-here, place_at-last, place_at-late}

-- one character more ends one line more, or none
pub lines_ended-push : (before after : List ℕ) (c : ℕ) → lines_ended (before ++ c ∷ []) after ≡ lines_ended before (c ∷ after) + cond (ends_line c after) 1 0
lines_ended-push [] after c = omega arith
lines_ended-push (x ∷ before) after c =
    let rest = append_assoc before (c ∷ []) after in
    let last = lines_ended-push before after c in
    rw rest (omega arith)

pub lines_ended-end : (before after : List ℕ) (c : ℕ) → ends_line c after ≡ true → lines_ended (before ++ c ∷ []) after ≡ lines_ended before (c ∷ after) + 1
lines_ended-end before after c e = lines_ended-push before after c ∙ ap (λ b. lines_ended before (c ∷ after) + cond b 1 0) e

pub lines_ended-more : (before after : List ℕ) (c : ℕ) → ends_line c after ≡ false → lines_ended (before ++ c ∷ []) after ≡ lines_ended before (c ∷ after)
lines_ended-more before after c e =
    let same = lines_ended-push before after c ∙ ap (λ b. lines_ended before (c ∷ after) + cond b 1 0) e in omega arith

-- after a character that ends a line, the line is empty
pub line_so_far-end : (before after : List ℕ) (c : ℕ) → ends_line c after ≡ true → line_so_far (before ++ c ∷ []) after ≡ []
line_so_far-end [] after c e = rw e refl
line_so_far-end (x ∷ before) after c e =
    let some = lines_ended-end (x ∷ before) after c e in
    let test : (lines_ended ((x ∷ before) ++ c ∷ []) after == 0) ≡ false = ne_eqb _ _ (λ zero. omega arith) in
    ap (λ b. cond b ((x ∷ before) ++ c ∷ []) (line_so_far (before ++ c ∷ []) after)) test ∙ line_so_far-end before after c e

-- after any other, it has that character more
line_so_far-test : (b : Bool) (xs ys whole : List ℕ) (c : ℕ) → whole ≡ ys ++ c ∷ [] → cond b (xs ++ c ∷ []) whole ≡ cond b xs ys ++ c ∷ []
line_so_far-test true xs ys whole c e = refl
line_so_far-test false xs ys whole c e = e

pub line_so_far-more : (before after : List ℕ) (c : ℕ) → ends_line c after ≡ false → line_so_far (before ++ c ∷ []) after ≡ line_so_far before (c ∷ after) ++ c ∷ []
line_so_far-more [] after c e = rw e refl
line_so_far-more (x ∷ before) after c e =
    ap (λ n. cond (n == 0) ((x ∷ before) ++ c ∷ []) (line_so_far (before ++ c ∷ []) after)) (lines_ended-more (x ∷ before) after c e)
    ∙ line_so_far-test (lines_ended (x ∷ before) (c ∷ after) == 0) (x ∷ before) (line_so_far before (c ∷ after)) _ c (line_so_far-more before after c e)

-- numbers that stand at their greatest stay there
saturated-more : (m n : ℕ) → saturated (m + n) ≡ min (saturated m + n) (2 ^ 32 - 1)
saturated-more m n = omega arith

-- the position after a character that ends a line
pub position_of-end : (before after : List ℕ) (c : ℕ) → ends_line c after ≡ true
    → position_of (record { before = before ++ c ∷ []; after = after })
    ≡ record { line = min ((position_of (record { before = before; after = c ∷ after })).line + 1) (2 ^ 32 - 1); column = 0 }
position_of-end before after c e =
    let line : saturated (1 + lines_ended (before ++ c ∷ []) after) ≡ min (saturated (1 + lines_ended before (c ∷ after)) + 1) (2 ^ 32 - 1) =
    let one = lines_ended-end before after c e in omega arith in
    let column : saturated (sum_by utf16_units (line_so_far (before ++ c ∷ []) after)) ≡ 0 =
    ap (λ cs. saturated (sum_by utf16_units cs)) (line_so_far-end before after c e) in
    ap₂ (λ l k. let p : Pos = record { line = l; column = k } in p) line column

-- and after any other
pub position_of-more : (before after : List ℕ) (c : ℕ) → ends_line c after ≡ false
    → position_of (record { before = before ++ c ∷ []; after = after })
    ≡ record { line = (position_of (record { before = before; after = c ∷ after })).line; column = min ((position_of (record { before = before; after = c ∷ after })).column + utf16_units c) (2 ^ 32 - 1) }
position_of-more before after c e =
    let line : saturated (1 + lines_ended (before ++ c ∷ []) after) ≡ saturated (1 + lines_ended before (c ∷ after)) =
    ap (λ n. saturated (1 + n)) (lines_ended-more before after c e) in
    let column : saturated (sum_by utf16_units (line_so_far (before ++ c ∷ []) after)) ≡ min (saturated (sum_by utf16_units (line_so_far before (c ∷ after))) + utf16_units c) (2 ^ 32 - 1) =
    ap (λ cs. saturated (sum_by utf16_units cs)) (line_so_far-more before after c e)
    ∙ ap saturated (sum_by_push utf16_units (line_so_far before (c ∷ after)) c)
    ∙ saturated-more (sum_by utf16_units (line_so_far before (c ∷ after))) (utf16_units c) in
    ap₂ (λ l k. let p : Pos = record { line = l; column = k } in p) line column

-- in a text, the position of a place is that at the number of bytes before it
pub position-here : (text : List ℕ) (place : Place) → place.before ++ place.after ≡ chars text → position text (length (encode_utf8_all place.before)) ≡ position_of place
position-here text place whole =
    ap (λ cs. position_of (place_at cs (length (encode_utf8_all place.before)))) (sym whole) ∙ ap position_of (place_at-here place)

some : (bytes : List ℕ) → slice_index bytes 0 ≡ 0x0A → 0 < length bytes
some [] e = absurd (omega arith)
some (b ∷ bytes) e = omega arith

by_characters : (cs bytes : List ℕ) → encode_utf8_all cs ≡ bytes → begins_with_line_feed cs ≡ (slice_index bytes 0 == 0x0A)
by_characters [] bytes e = ap (λ bs. slice_index bs 0 == 0x0A) e
by_characters (c ∷ cs) bytes e = elim (cases_eq c 0x0A) [
  | inl same ↦ eq-eqb c 0x0A same ∙ sym (eq-eqb _ 0x0A (byte_from_char bytes (encode_utf8_all cs) c (sym e) (omega arith) ∙ same))
  | inr other ↦ ne_eqb c 0x0A other ∙ sym (ne_eqb _ 0x0A (λ byte. other (char_from_byte bytes (encode_utf8_all cs) c (sym e) (omega arith) (some bytes byte) ∙ byte)))
]

-- whether characters begin with LF shows in their first byte
pub begins_with_line_feed-chars : (bytes : List ℕ) → IsUtf8 bytes → begins_with_line_feed (chars bytes) ≡ (slice_index bytes 0 == 0x0A)
begins_with_line_feed-chars bytes utf8 = by_characters (chars bytes) bytes (encodes-chars bytes utf8)

pub utf16_units-cases : (c units : ℕ) → (c < 0x1_0000 → units ≡ 1) → (0x1_0000 ≤ c → units ≡ 2) → units ≡ utf16_units c
utf16_units-cases c units one two = elim (cases_lt c 0x1_0000) [
  | inl lt ↦ let test : nat_lt c 0x1_0000 ≡ true = lt-ltb c 0x1_0000 lt in rw test (one lt)
  | inr ge ↦ let test : nat_lt c 0x1_0000 ≡ false = le-ltb c 0x1_0000 ge in rw test (two ge)
]

-- the two steps, from a position that is known
pub position_of-step_end : (was : Pos) (line : ℕ) (before after : List ℕ) (c : ℕ) → ends_line c after ≡ true → was ≡ position_of (record { before = before; after = c ∷ after })
    → line ≡ min (was.line + 1) (2 ^ 32 - 1) → record { line = line; column = 0 } ≡ position_of (record { before = before ++ c ∷ []; after = after })
position_of-step_end was line before after c ends known next =
    ap (λ n. let p : Pos = record { line = n; column = 0 } in p) (next ∙ ap (λ (p : Pos). min (p.line + 1) (2 ^ 32 - 1)) known)
    ∙ sym (position_of-end before after c ends)

pub position_of-step_more : (was : Pos) (column units : ℕ) (before after : List ℕ) (c : ℕ) → ends_line c after ≡ false → was ≡ position_of (record { before = before; after = c ∷ after })
    → units ≡ utf16_units c → column ≡ min (was.column + units) (2 ^ 32 - 1) → record { line = was.line; column = column } ≡ position_of (record { before = before ++ c ∷ []; after = after })
position_of-step_more was column units before after c stays known same next =
    ap₂ (λ l k. let p : Pos = record { line = l; column = k } in p) (ap (λ (p : Pos). p.line) known)
    (next ∙ ap₂ (λ (p : Pos) n. min (p.column + n) (2 ^ 32 - 1)) known same)
    ∙ sym (position_of-more before after c stays)

-- the position at a number of bytes is that of the last place at or before it
same_place : (text : List ℕ) (place : Place) (at : ℕ) → place.before ++ place.after ≡ chars text → place_at (place.before ++ place.after) at ≡ place → position_of place ≡ position text at
same_place text place at whole here = ap position_of (sym here) ∙ ap (λ cs. position_of (place_at cs at)) whole

pub position-last : (text : List ℕ) (place : Place) (at : ℕ) → place.before ++ place.after ≡ chars text → length (encode_utf8_all place.before) ≤ at → None ≡ slice_get place.after 0
    → position_of place ≡ position text at
position-last text place at whole within none = same_place text place at whole (place_at-last place.before place.after at within none)

pub position-late : (text : List ℕ) (place : Place) (at c : ℕ) → place.before ++ place.after ≡ chars text → length (encode_utf8_all place.before) ≤ at → Some c ≡ slice_get place.after 0
    → at - length (encode_utf8_all place.before) < len_utf8 c → position_of place ≡ position text at
position-late text place at c whole within some late = same_place text place at whole (place_at-late place.before place.after at c within some late)

-- ---- worked examples

-- "a\r\nb": between CR and LF no line has ended, and after both one has
between_cr_and_lf : position (0x61 ∷ 0x0D ∷ 0x0A ∷ 0x62 ∷ []) 2 ≡ record { line = 1; column = 2 }
unfolding chars
between_cr_and_lf = refl

after_cr_lf : position (0x61 ∷ 0x0D ∷ 0x0A ∷ 0x62 ∷ []) 3 ≡ record { line = 2; column = 0 }
unfolding chars
after_cr_lf = refl

-- "\r\r\n\n" has three lines before its last place
after_three_lines : position (0x0D ∷ 0x0D ∷ 0x0A ∷ 0x0A ∷ []) 4 ≡ record { line = 4; column = 0 }
unfolding chars
after_three_lines = refl

-- "a", U+2028, "b": LINE SEPARATOR takes three bytes and ends a line
after_line_separator : position (0x61 ∷ 0xE2 ∷ 0x80 ∷ 0xA8 ∷ 0x62 ∷ []) 5 ≡ record { line = 2; column = 1 }
unfolding chars
after_line_separator = refl

-- U+1F600, ";a": four bytes and two columns, and a place within it is the one before it
after_face : position (0xF0 ∷ 0x9F ∷ 0x98 ∷ 0x80 ∷ 0x3B ∷ 0x61 ∷ []) 5 ≡ record { line = 1; column = 3 }
unfolding chars
after_face = refl

within_face : position (0xF0 ∷ 0x9F ∷ 0x98 ∷ 0x80 ∷ 0x3B ∷ 0x61 ∷ []) 3 ≡ record { line = 1; column = 0 }
unfolding chars
within_face = refl
