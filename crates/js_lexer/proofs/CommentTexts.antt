-- What comments say, and which comments stand at a place.
use Rattle.std.proofs.Common.{◌≡◌, ℕ, zero, ◌-◌, ◌<◌, ◌==◌, ◌&&◌, Bool, true, false, List, [], ◌∷◌, ◌++◌, length, take, drop, map, slice_get, Some, None, encode_utf8_all, IsUtf8, chars, refl, sym, ap, ap₂, ◌∙◌, arith, length-append, append_assoc}
use Rattle.std.specs.Str.{IsCharBoundary}
use Rattle.std.proofs.Math.Seq.{take-append_seam}
use Rattle.std.proofs.lemmas.Str.{chars-append, IsUtf8-take}
use Rattle.js_terms.specs.declared.place.Pos.{Pos}
use Rattle.js_terms.specs.declared.words.Comment.{Comment}
use Rattle.js_text.specs.Place.{Place, place_at}
use Rattle.js_text.specs.Position.{is_line_terminator}
use Rattle.js_text.specs.Character.{is_gap}
use Rattle.js_text.specs.Comment.{single_line_rest, single_line_text, closes_comment, multi_line_text, comment_rest, begins_hashbang}
use Rattle.js_text.specs.Gap.{is_start, has_hashbang, comments_in, comment_of, comments_before}
use Rattle.js_text.specs.Lex.{past, characters_of}
use Rattle.js_text.proofs.Place.{place_at-here, length-encodes-front}
use Rattle.js_lexer.specs.private.Close.{close_from}
use Rattle.js_lexer.proofs.Gaps.{comments-past, comments-comment, comments-end}
use Rattle.js_lexer.proofs.Places.{take-drop, start-is}
use Rattle.js_lexer.proofs.Steps.{Stops, past-stops, none_is}

-- ---- one comment

-- what stands before its end
front-is : (cs xs ys : List ℕ) → cs ≡ xs ++ ys → take (length cs - length ys) cs ≡ xs
front-is cs xs ys e =
    let size : length cs - length ys ≡ length xs = omega (arith, ap length e, length-append xs ys) in
    ap₂ take size e ∙ take-append_seam xs ys

single-parts : (cs : List ℕ) → cs ≡ single_line_text cs ++ single_line_rest cs
single-parts [] = refl
single-parts (c ∷ cs) = by_test (is_line_terminator c) refl (single-parts cs)
  where
    by_test : (b : Bool) → is_line_terminator c ≡ b → cs ≡ single_line_text cs ++ single_line_rest cs → (c ∷ cs) ≡ single_line_text (c ∷ cs) ++ single_line_rest (c ∷ cs)
    by_test true e again = rw e refl
    by_test false e again = rw e (ap (λ xs. c ∷ xs) again)

pub single-text : (cs ds : List ℕ) → ds ≡ single_line_rest cs → take (length cs - length ds) cs ≡ single_line_text cs
single-text cs ds e = ap (λ xs. take (length cs - length xs) cs) e ∙ front-is cs (single_line_text cs) (single_line_rest cs) (single-parts cs)

multi-parts : (cs : List ℕ) → cs ≡ multi_line_text cs ++ close_from cs
multi-parts [] = refl
multi-parts (c ∷ cs) = by_test (closes_comment (c ∷ cs)) refl (multi-parts cs)
  where
    by_test : (b : Bool) → closes_comment (c ∷ cs) ≡ b → cs ≡ multi_line_text cs ++ close_from cs → (c ∷ cs) ≡ multi_line_text (c ∷ cs) ++ close_from (c ∷ cs)
    by_test true e again = rw e refl
    by_test false e again = rw e (ap (λ xs. c ∷ xs) again)

pub multi-text : (cs ds : List ℕ) → ds ≡ close_from cs → take (length cs - length ds) cs ≡ multi_line_text cs
multi-text cs ds e = ap (λ xs. take (length cs - length xs) cs) e ∙ front-is cs (multi_line_text cs) (close_from cs) (multi-parts cs)

pub close-end : (cs : List ℕ) → slice_get cs 0 ≡ None → cs ≡ close_from cs
close-end cs h = none_is cs h ∙ sym (ap close_from (none_is cs h))

-- ---- the comments of a gap

abbrev pub all_of : Pos → List ℕ → List Comment
all_of next cs = map (λ each. comment_of next each.0) (comments_in zero cs)

pub turn-found : (next : Pos) (p q r : Place) (found more : List Comment) → q.after ≡ past is_gap p.after → comment_rest q.after ≡ Some r.after →
    characters_of r ≡ characters_of q → length r.after < length q.after → more ≡ found ++ comment_of next q.after ∷ [] →
    more ++ all_of next r.after ≡ found ++ all_of next p.after
turn-found next p q r found more run rest text lt pushed =
    let stops : Stops is_gap q.after = rw (← run) at (past-stops is_gap p.after) in
    let all : all_of next p.after ≡ comment_of next q.after ∷ all_of next r.after =
    ap (map (λ (each : List ℕ × List ℕ). comment_of next each.0)) (comments-past p.after ∙ ap (comments_in zero) (sym run) ∙ comments-comment q r stops rest text lt) in
    ap (λ xs. xs ++ all_of next r.after) pushed
    ∙ append_assoc found (comment_of next q.after ∷ []) (all_of next r.after)
    ∙ ap (λ xs. found ++ xs) (sym all)

pub last-found : (next : Pos) (p q : Place) → q.after ≡ past is_gap p.after → comment_rest q.after ≡ None → all_of next p.after ≡ []
last-found next p q run none =
    let stops : Stops is_gap q.after = rw (← run) at (past-stops is_gap p.after) in
    ap (map (λ (each : List ℕ × List ℕ). comment_of next each.0)) (comments-past p.after ∙ ap (comments_in zero) (sym run) ∙ comments-end q.after stops none)

-- ---- a place in a text, by the bytes before it

pub place-is : (text : List ℕ) (start : ℕ) → IsUtf8 text → IsCharBoundary text start →
    place_at (chars text) start ≡ record { before = chars (take start text); after = chars (drop start text) }
place-is text start utf8 boundary =
    let front = IsUtf8-take text start utf8 boundary in
    let whole : chars text ≡ chars (take start text) ++ chars (drop start text) =
    ap chars (sym (take-drop start text)) ∙ chars-append (take start text) (drop start text) front in
    let size : start ≡ length (encode_utf8_all (chars (take start text))) = sym (length-encodes-front text start boundary.0 front) in
    let place : Place = record { before = chars (take start text); after = chars (drop start text) } in
    ap₂ place_at whole size ∙ place_at-here place

-- a hashbang comment stands there or not, by what stands after so many bytes
hashbang-is : (text cs : List ℕ) (start : ℕ) (b : Bool) → IsUtf8 text → IsCharBoundary text start → cs ≡ chars (drop start text) → b ≡ ((start == 0) && begins_hashbang cs) →
    has_hashbang (record { before = chars (take start text); after = cs }) ≡ b
hashbang-is text cs start b utf8 boundary rest is =
    let front = IsUtf8-take text start utf8 boundary in
    let size : length (encode_utf8_all (chars (take start text))) ≡ start = length-encodes-front text start boundary.0 front in
    let first : is_start (chars (take start text)) ≡ (start == 0) = sym (start-is (chars (take start text))) ∙ ap (λ n. n == 0) size in
    ap (λ (x : Bool). x && begins_hashbang cs) first ∙ sym is

there : (text cs : List ℕ) (start : ℕ) → IsUtf8 text → IsCharBoundary text start → cs ≡ chars (drop start text) →
    place_at (chars text) start ≡ record { before = chars (take start text); after = cs }
there text cs start utf8 boundary rest =
    place-is text start utf8 boundary ∙ ap (λ xs. let p : Place = record { before = chars (take start text); after = xs } in p) (sym rest)

pub with-hashbang : (next : Pos) (text cs : List ℕ) (start : ℕ) (b : Bool) (found : List Comment) → IsUtf8 text → IsCharBoundary text start → cs ≡ chars (drop start text) →
    b ≡ ((start == 0) && begins_hashbang cs) → b ≡ true → found ≡ comment_of next cs ∷ all_of next (single_line_rest cs) → found ≡ comments_before next (place_at (chars text) start)
with-hashbang next text cs start b found utf8 boundary rest is one these =
    let place : Place = record { before = chars (take start text); after = cs } in
    let here : has_hashbang place ≡ true = hashbang-is text cs start b utf8 boundary rest is ∙ one in
    let all : comments_before next place ≡ comment_of next cs ∷ all_of next (single_line_rest cs) = rw here refl in
    these ∙ sym (ap (comments_before next) (there text cs start utf8 boundary rest) ∙ all)

pub without-hashbang : (next : Pos) (text cs : List ℕ) (start : ℕ) (b : Bool) (found : List Comment) → IsUtf8 text → IsCharBoundary text start → cs ≡ chars (drop start text) →
    b ≡ ((start == 0) && begins_hashbang cs) → b ≡ false → found ≡ all_of next cs → found ≡ comments_before next (place_at (chars text) start)
without-hashbang next text cs start b found utf8 boundary rest is none these =
    let place : Place = record { before = chars (take start text); after = cs } in
    let here : has_hashbang place ≡ false = hashbang-is text cs start b utf8 boundary rest is ∙ none in
    let all : comments_before next place ≡ all_of next cs = rw here refl in
    these ∙ sym (ap (comments_before next) (there text cs start utf8 boundary rest) ∙ all)
