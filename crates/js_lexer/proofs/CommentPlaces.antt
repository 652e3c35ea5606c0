-- The comments before a token stand where its comments start.
use Rattle.std.proofs.Common.{◌≡◌, ℕ, zero, suc, ◌-◌, ◌≤◌, ◌==◌, ◌&&◌, Bool, true, false, List, [], ◌∷◌, ◌++◌, length, take, drop, map, Option, Some, None, encode_utf8_all, refl, sym, ap, ap₂, ◌∙◌, subst, arith, append-nil, chars, IsUtf8, length-take}
use Rattle.std.specs.Str.{IsCharBoundary}
use Rattle.std.proofs.lemmas.Bool.{eqb-true}
use Rattle.std.proofs.lemmas.Str.{encodes-chars}
use Rattle.js_terms.specs.declared.place.Pos.{Pos}
use Rattle.js_text.specs.Place.{Place, place_at}
use Rattle.js_text.specs.Character.{is_gap}
use Rattle.js_text.specs.Comment.{comment_rest, begins_hashbang, single_line_rest}
use Rattle.js_text.specs.Gap.{with_found, gap_rest, comments_in, is_start, has_hashbang, after_gap, comments_at, comment_of, comments_before}
use Rattle.js_text.specs.declared.goal.Goal.{Goal}
use Rattle.js_text.specs.declared.goal.Goal.TheVariants.{Div, RegExp, Template}
use Rattle.js_text.specs.Token.{Kind, Token}
use Rattle.js_text.specs.Lex.{next_token, token_of, token_place, continued_token, comments_for, characters_of, offset_of, moved, moved_to, span_of, gap_run}
use Rattle.js_text.proofs.Place.{place_at-here, IsCharBoundary-earlier}
use Rattle.js_lexer.proofs.Lex.{found}
use Rattle.js_lexer.proofs.Places.{characters_of-moved, moved-zero, take-drop}

-- ---- where the first comment stands

-- the first of the comments among these stands further on, and begins there with no `#`
record First (cs : List ℕ) (first : List ℕ × List ℕ) (more : List (List ℕ × List ℕ)) : Type 0 where
  pub same : comments_in zero first.0 ≡ first ∷ more
  pub within : length first.0 ≤ length cs
  pub left : drop (length cs - length first.0) cs ≡ first.0
  pub no_hashbang : begins_hashbang first.0 ≡ false

later : (c : ℕ) (cs : List ℕ) (first : List ℕ × List ℕ) (more : List (List ℕ × List ℕ)) → First cs first more → First (c ∷ cs) first more
later c cs first more h =
    let one_more : length (c ∷ cs) - length first.0 ≡ suc (length cs - length first.0) = omega (arith, h.within) in
    record { same = h.same; within = omega (arith, h.within); left = ap (λ n. drop n (c ∷ cs)) one_more ∙ h.left; no_hashbang = h.no_hashbang }

no_hash : (c : ℕ) (cs rest : List ℕ) → comment_rest (c ∷ cs) ≡ Some rest → begins_hashbang (c ∷ cs) ≡ false
no_hash c cs rest h = by_test (c == 0x2F) refl h
  where
    by_test : (b : Bool) → (c == 0x2F) ≡ b → comment_rest (c ∷ cs) ≡ Some rest → begins_hashbang (c ∷ cs) ≡ false
    by_test true e k = ap (λ x. begins_hashbang (x ∷ cs)) (eqb-true c 0x2F e)
    by_test false e k = absurd (let none : comment_rest (c ∷ cs) ≡ None = rw e refl in cc)

first-is : (n : ℕ) (cs : List ℕ) (first : List ℕ × List ℕ) (more : List (List ℕ × List ℕ)) → comments_in n cs ≡ first ∷ more → First cs first more
first-is n [] first more h = absurd cc
first-is (suc n) (c ∷ cs) first more h = later c cs first more (first-is n cs first more h)
first-is zero (c ∷ cs) first more h = by_tests (is_gap c) refl (comment_rest (c ∷ cs)) refl h (λ k. later c cs first more (first-is zero cs first more k))
  where
    by_tests : (b : Bool) → is_gap c ≡ b → (o : Option (List ℕ)) → comment_rest (c ∷ cs) ≡ o → comments_in zero (c ∷ cs) ≡ first ∷ more →
        (comments_in zero cs ≡ first ∷ more → First (c ∷ cs) first more) → First (c ∷ cs) first more
    by_tests true e o f h again = again (let on : comments_in zero (c ∷ cs) ≡ comments_in zero cs = rw e refl in sym on ∙ h)
    by_tests false e None f h again =
        absurd (let none : comments_in zero (c ∷ cs) ≡ [] =
        rw e (ap (λ (o : Option (List ℕ)). with_found o (λ rest. (c ∷ cs, rest) ∷ comments_in (length cs - length rest) cs) []) f) in cc)
    by_tests false e (Some rest) f h again =
        let here : comments_in zero (c ∷ cs) ≡ (c ∷ cs, rest) ∷ comments_in (length cs - length rest) cs =
        rw e (ap (λ (o : Option (List ℕ)). with_found o (λ rest. (c ∷ cs, rest) ∷ comments_in (length cs - length rest) cs) []) f) in
        let same : (c ∷ cs) ≡ first.0 = cc in
        let none_left : length (c ∷ cs) - length first.0 ≡ 0 = omega (arith, ap length same) in
        record {
          same = ap (comments_in zero) (sym same) ∙ h;
          within = omega (arith, ap length same);
          left = ap (λ n. drop n (c ∷ cs)) none_left ∙ same;
          no_hashbang = ap begins_hashbang (sym same) ∙ no_hash c cs rest f;
        }

-- after a gap no comment stands
none-after : (n : ℕ) (cs : List ℕ) → comments_in zero (gap_rest n cs) ≡ []
none-after n [] = refl
none-after (suc n) (c ∷ cs) = none-after n cs
none-after zero (c ∷ cs) = by_tests (is_gap c) refl (comment_rest (c ∷ cs)) refl (none-after zero cs) (λ rest. none-after (length cs - length rest) cs)
  where
    by_tests : (b : Bool) → is_gap c ≡ b → (o : Option (List ℕ)) → comment_rest (c ∷ cs) ≡ o → comments_in zero (gap_rest zero cs) ≡ [] →
        ((rest : List ℕ) → comments_in zero (gap_rest (length cs - length rest) cs) ≡ []) → comments_in zero (gap_rest zero (c ∷ cs)) ≡ []
    by_tests true e o f again past = rw e again
    by_tests false e (Some rest) f again past =
        let on : gap_rest zero (c ∷ cs) ≡ gap_rest (length cs - length rest) cs =
        rw e (ap (λ (o : Option (List ℕ)). with_found o (λ rest. gap_rest (length cs - length rest) cs) (c ∷ cs)) f) in
        ap (comments_in zero) on ∙ past rest
    by_tests false e None f again past =
        let stays : gap_rest zero (c ∷ cs) ≡ c ∷ cs =
        rw e (ap (λ (o : Option (List ℕ)). with_found o (λ rest. gap_rest (length cs - length rest) cs) (c ∷ cs)) f) in
        let none : comments_in zero (c ∷ cs) ≡ [] =
        rw e (ap (λ (o : Option (List ℕ)). with_found o (λ rest. (c ∷ cs, rest) ∷ comments_in (length cs - length rest) cs) []) f) in
        ap (comments_in zero) stays ∙ none

-- ---- the comments at that place

and-false : (b : Bool) → (b && false) ≡ false
and-false true = refl
and-false false = refl

at-none : (p : Place) → has_hashbang p ≡ false → comments_at p ≡ comments_in zero p.after
at-none p h = rw h refl

-- where the first comment before a token stands, its comments stand
same-first : (p : Place) (first : List ℕ × List ℕ) (more : List (List ℕ × List ℕ)) → comments_at p ≡ first ∷ more → comments_at (moved_to p first.0) ≡ first ∷ more
same-first p first more h = by_test (has_hashbang p) refl
  where
    by_test : (b : Bool) → has_hashbang p ≡ b → comments_at (moved_to p first.0) ≡ first ∷ more
    by_test true e =
        let all : comments_at p ≡ (p.after, single_line_rest p.after) ∷ comments_in zero (single_line_rest p.after) = rw e refl in
        let start : p.after ≡ first.0 = cc in
        let none : length p.after - length first.0 ≡ 0 = omega (arith, ap length start) in
        ap comments_at (ap (λ n. moved n p) none ∙ sym (moved-zero p)) ∙ h
    by_test false e =
        let f = first-is zero p.after first more (sym (at-none p e) ∙ h) in
        let there = moved_to p first.0 in
        let no : has_hashbang there ≡ false = ap (λ xs. is_start there.before && begins_hashbang xs) f.left ∙ ap (λ b. is_start there.before && b) f.no_hashbang ∙ and-false (is_start there.before) in
        at-none there no ∙ ap (comments_in zero) f.left ∙ f.same

-- ---- where no comment stands

record Tail (cs : List ℕ) (rest : List ℕ) : Type 0 where
  pub within : length rest ≤ length cs
  pub left : drop (length cs - length rest) cs ≡ rest

tail-more : (c : ℕ) (cs rest : List ℕ) → Tail cs rest → Tail (c ∷ cs) rest
tail-more c cs rest h =
    let one_more : length (c ∷ cs) - length rest ≡ suc (length cs - length rest) = omega (arith, h.within) in
    record { within = omega (arith, h.within); left = ap (λ n. drop n (c ∷ cs)) one_more ∙ h.left }

tail-all : (cs : List ℕ) → Tail cs cs
tail-all cs = let none : length cs - length cs ≡ 0 = omega arith in record { within = omega arith; left = ap (λ n. drop n cs) none }

gap-tail : (n : ℕ) (cs : List ℕ) → Tail cs (gap_rest n cs)
gap-tail n [] = tail-all []
gap-tail (suc n) (c ∷ cs) = tail-more c cs (gap_rest n cs) (gap-tail n cs)
gap-tail zero (c ∷ cs) = by_tests (is_gap c) refl (comment_rest (c ∷ cs)) refl (gap-tail zero cs) (λ rest. gap-tail (length cs - length rest) cs)
  where
    by_tests : (b : Bool) → is_gap c ≡ b → (o : Option (List ℕ)) → comment_rest (c ∷ cs) ≡ o → Tail cs (gap_rest zero cs) →
        ((rest : List ℕ) → Tail cs (gap_rest (length cs - length rest) cs)) → Tail (c ∷ cs) (gap_rest zero (c ∷ cs))
    by_tests true e o f again past = rw e (tail-more c cs (gap_rest zero cs) again)
    by_tests false e (Some rest) f again past =
        let on : gap_rest (length cs - length rest) cs ≡ gap_rest zero (c ∷ cs) =
        sym (rw e (ap (λ (o : Option (List ℕ)). with_found o (λ rest. gap_rest (length cs - length rest) cs) (c ∷ cs)) f)) in
        subst (Tail (c ∷ cs)) on (tail-more c cs (gap_rest (length cs - length rest) cs) (past rest))
    by_tests false e None f again past =
        let stays : c ∷ cs ≡ gap_rest zero (c ∷ cs) =
        sym (rw e (ap (λ (o : Option (List ℕ)). with_found o (λ rest. gap_rest (length cs - length rest) cs) (c ∷ cs)) f)) in
        subst (Tail (c ∷ cs)) stays (tail-all (c ∷ cs))

start-append : (xs ys : List ℕ) → is_start (xs ++ ys) ≡ (is_start xs && is_start ys)
start-append [] ys = refl
start-append (x ∷ xs) ys = refl

-- no hashbang comment stands further on where none stands here
no_hashbang-moved : (n : ℕ) (p : Place) → has_hashbang p ≡ false → has_hashbang (moved n p) ≡ false
no_hashbang-moved n p h = by_run (take n p.after) refl
  where
    by_run : (xs : List ℕ) → take n p.after ≡ xs → has_hashbang (moved n p) ≡ false
    by_run [] e =
        let stays : drop n p.after ≡ p.after = ap (λ ys. ys ++ drop n p.after) (sym e) ∙ take-drop n p.after in
        ap₂ (λ ys zs. is_start (p.before ++ ys) && begins_hashbang zs) e stays ∙ ap (λ ys. is_start ys && begins_hashbang p.after) (append-nil p.before) ∙ h
    by_run (x ∷ xs) e =
        let moved_on : is_start (p.before ++ take n p.after) ≡ false =
        ap (λ ys. is_start (p.before ++ ys)) e ∙ start-append p.before (x ∷ xs) ∙ and-false (is_start p.before) in
        ap (λ b. b && begins_hashbang (drop n p.after)) moved_on

-- after a gap without comments there are none
none-there : (p : Place) → comments_at p ≡ [] → comments_at (moved (length (take (length p.after - length (after_gap p)) p.after)) p) ≡ []
none-there p h = by_test (has_hashbang p) refl
  where
    by_test : (b : Bool) → has_hashbang p ≡ b → comments_at (moved (length (take (length p.after - length (after_gap p)) p.after)) p) ≡ []
    by_test true e =
        absurd (let all : comments_at p ≡ (p.after, single_line_rest p.after) ∷ comments_in zero (single_line_rest p.after) = rw e refl in cc)
    by_test false e =
        let n = length p.after - length (after_gap p) in
        let t = gap-tail zero p.after in
        let gap : after_gap p ≡ gap_rest zero p.after = rw e refl in
        let size : length (take n p.after) ≡ length p.after - length (gap_rest zero p.after) = omega (arith, length-take n p.after, ap length gap) in
        let rest : drop (length (take n p.after)) p.after ≡ gap_rest zero p.after = ap (λ k. drop k p.after) size ∙ t.left in
        at-none (moved (length (take n p.after)) p) (no_hashbang-moved (length (take n p.after)) p e) ∙ ap (comments_in zero) rest ∙ none-after zero p.after

-- the `}` of a template is no comment
none-at_brace : (p : Place) (cs : List ℕ) → p.after ≡ 0x7D ∷ cs → comments_at p ≡ []
unfolding is_gap
none-at_brace p cs e =
    let no : has_hashbang p ≡ false = ap (λ xs. is_start p.before && begins_hashbang xs) e ∙ and-false (is_start p.before) in
    at-none p no ∙ ap (comments_in zero) e

begins_with_brace : (cs : List ℕ) (found : Kind × ℕ) → continued_token cs ≡ Some found → cs ≡ 0x7D ∷ drop 1 cs
begins_with_brace [] found h = absurd cc
begins_with_brace (c ∷ cs) found h = by_test (c == 0x7D) refl h
  where
    by_test : (b : Bool) → (c == 0x7D) ≡ b → continued_token (c ∷ cs) ≡ Some found → (c ∷ cs) ≡ 0x7D ∷ cs
    by_test true e k = ap (λ x. x ∷ cs) (eqb-true c 0x7D e)
    by_test false e k = absurd (let none : continued_token (c ∷ cs) ≡ None = rw e refl in cc)

-- ---- of a token

abbrev start_among : Goal → Place → List (List ℕ × List ℕ) → Place
start_among goal p [] = token_place goal p
start_among goal p (first ∷ more) = moved_to p first.0

abbrev start_place : Goal → Place → Place
start_place goal p = start_among goal p (comments_for goal p)

at-gap : (goal : Goal) (p : Place) → comments_for goal p ≡ comments_at p → token_place goal p ≡ moved (length (take (length p.after - length (after_gap p)) p.after)) p →
    comments_at (start_place goal p) ≡ comments_for goal p
at-gap goal p all there = by_comments (comments_for goal p) refl
  where
    by_comments : (comments : List (List ℕ × List ℕ)) → comments_for goal p ≡ comments → comments_at (start_place goal p) ≡ comments_for goal p
    by_comments [] e =
        ap (λ (xs : List (List ℕ × List ℕ)). comments_at (start_among goal p xs)) e ∙ ap comments_at there ∙ none-there p (sym all ∙ e) ∙ sym e
    by_comments (first ∷ more) e =
        ap (λ (xs : List (List ℕ × List ℕ)). comments_at (start_among goal p xs)) e ∙ same-first p first more (sym all ∙ e) ∙ sym e

comments-there : (goal : Goal) (p : Place) (kind : Kind) (count : ℕ) → token_of goal (token_place goal p).after ≡ Some (kind, count) → comments_at (start_place goal p) ≡ comments_for goal p
comments-there Div p kind count h = at-gap Div p refl refl
comments-there RegExp p kind count h = at-gap RegExp p refl refl
comments-there Template p kind count h =
    let stays : token_place Template p ≡ p = sym (moved-zero p) in
    ap comments_at stays ∙ none-at_brace p (drop 1 p.after) (begins_with_brace p.after (kind, count) (ap (λ (r : Place). continued_token r.after) (sym stays) ∙ h))

start-text : (goal : Goal) (p : Place) → characters_of (start_place goal p) ≡ characters_of p
start-text goal p = by_comments (comments_for goal p)
  where
    by_comments : (comments : List (List ℕ × List ℕ)) → characters_of (start_among goal p comments) ≡ characters_of p
    by_comments [] = characters_of-moved (length (gap_run goal p)) p
    by_comments (first ∷ more) = characters_of-moved (length p.after - length first.0) p

span-start : (goal : Goal) (p : Place) → (span_of p (offset_of (token_place goal p)) (comments_for goal p)).start ≡ offset_of (start_place goal p)
span-start goal p = by_comments (comments_for goal p)
  where
    by_comments : (comments : List (List ℕ × List ℕ)) → (span_of p (offset_of (token_place goal p)) comments).start ≡ offset_of (start_among goal p comments)
    by_comments [] = refl
    by_comments (first ∷ more) = refl

starts-there : (goal : Goal) (p q : Place) (t : Token) → next_token goal p ≡ Some (t, q) → t.comments.start ≡ offset_of (start_place goal p)
starts-there goal p q t h = ap (λ (u : Token). u.comments.start) (found goal p q t h).token ∙ span-start goal p

pub comments-of_token : (goal : Goal) (p q : Place) (t : Token) (next : Pos) → next_token goal p ≡ Some (t, q) →
    comments_before next (place_at (characters_of p) t.comments.start) ≡ map (λ found. comment_of next found.0) (comments_for goal p)
comments-of_token goal p q t next h =
    let f = found goal p q t h in
    let place : place_at (characters_of p) t.comments.start ≡ start_place goal p =
    ap₂ place_at (sym (start-text goal p)) (starts-there goal p q t h) ∙ place_at-here (start_place goal p) in
    ap (comments_before next) place ∙ ap (map (λ (each : List ℕ × List ℕ). comment_of next each.0)) (comments-there goal p f.kind f.count f.is)

pub comments-start : (text : List ℕ) (goal : Goal) (p q : Place) (t : Token) → IsUtf8 text → characters_of p ≡ chars text → next_token goal p ≡ Some (t, q) →
    IsCharBoundary text t.comments.start
comments-start text goal p q t utf8 whole h =
    let there = start_place goal p in
    let all : (there.before ++ there.after) ++ [] ≡ chars text = append-nil (there.before ++ there.after) ∙ start-text goal p ∙ whole in
    let bytes : encode_utf8_all (there.before ++ there.after) ≡ text = ap encode_utf8_all (start-text goal p ∙ whole) ∙ encodes-chars text utf8 in
    subst (λ n. IsCharBoundary text n) (sym (starts-there goal p q t h))
    (subst (λ bs. IsCharBoundary bs (offset_of there)) bytes (IsCharBoundary-earlier text there.before there.after [] utf8 all))
