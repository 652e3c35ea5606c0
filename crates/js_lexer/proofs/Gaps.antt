-- White space and comments, one run or one comment at a time.
use Rattle.std.proofs.Common.{◌≡◌, ℕ, zero, suc, ◌-◌, ◌<◌, ◌≤◌, Bool, true, false, List, [], ◌∷◌, length, take, drop, Option, Some, None, refl, sym, ap, ap₂, ◌∙◌, arith, ◌⊎◌, inl, inr, length-take}
use Rattle.js_text.specs.Place.{Place}
use Rattle.js_text.specs.Character.{is_gap}
use Rattle.js_text.specs.declared.goal.Goal.{Goal}
use Rattle.js_text.specs.declared.goal.Goal.TheVariants.{Div, RegExp}
use Rattle.js_text.specs.Comment.{comment_rest}
use Rattle.js_text.specs.Gap.{with_found, gap_rest, comments_in, after_gap, comments_at}
use Rattle.js_text.specs.Lex.{past, moved, moved_to, gap_run, token_place, comments_for, offset_of, characters_of}
use Rattle.js_lexer.specs.declared.token.Span.{Span}
use Rattle.js_lexer.specs.Gap.{spans, grown}
use Rattle.js_lexer.proofs.Onward.{onward-moved, left-after}
use Rattle.js_lexer.proofs.Steps.{Stops, past-stops}

-- ---- what follows

gap-skip : (n : ℕ) (cs : List ℕ) → gap_rest n cs ≡ gap_rest zero (drop n cs)
gap-skip zero cs = refl
gap-skip (suc n) [] = refl
gap-skip (suc n) (c ∷ cs) = gap-skip n cs

gap-past : (cs : List ℕ) → gap_rest zero cs ≡ gap_rest zero (past is_gap cs)
gap-past [] = refl
gap-past (c ∷ cs) = by_test (is_gap c) refl (gap-past cs)
  where
    by_test : (b : Bool) → is_gap c ≡ b → gap_rest zero cs ≡ gap_rest zero (past is_gap cs) → gap_rest zero (c ∷ cs) ≡ gap_rest zero (past is_gap (c ∷ cs))
    by_test true e again = rw e again
    by_test false e again = ap (gap_rest zero) (let stop : (c ∷ cs) ≡ past is_gap (c ∷ cs) = rw e refl in stop)

gap-comment : (p q : Place) → Stops is_gap p.after → comment_rest p.after ≡ Some q.after → characters_of q ≡ characters_of p → length q.after < length p.after →
    gap_rest zero p.after ≡ gap_rest zero q.after
gap-comment p q stops found text lt = by_after p.after refl stops found
  where
    by_after : (cs : List ℕ) → p.after ≡ cs → Stops is_gap cs → comment_rest cs ≡ Some q.after → gap_rest zero cs ≡ gap_rest zero q.after
    by_after [] e s f = absurd cc
    by_after (c ∷ cs) e s f =
        let to : gap_rest zero (c ∷ cs) ≡ gap_rest (length cs - length q.after) cs =
        rw s (ap (λ (o : Option (List ℕ)). with_found o (λ rest. gap_rest (length cs - length rest) cs) (c ∷ cs)) f) in
        to ∙ gap-skip (length cs - length q.after) cs ∙ ap (gap_rest zero) (sym (left-after p q c cs e text lt))

gap-ends : (cs : List ℕ) → Stops is_gap cs → comment_rest cs ≡ None → gap_rest zero cs ≡ cs
gap-ends [] s f = refl
gap-ends (c ∷ cs) s f = rw s (ap (λ (o : Option (List ℕ)). with_found o (λ rest. gap_rest (length cs - length rest) cs) (c ∷ cs)) f)

-- ---- the comments

comments-skip : (n : ℕ) (cs : List ℕ) → comments_in n cs ≡ comments_in zero (drop n cs)
comments-skip zero cs = refl
comments-skip (suc n) [] = refl
comments-skip (suc n) (c ∷ cs) = comments-skip n cs

pub comments-past : (cs : List ℕ) → comments_in zero cs ≡ comments_in zero (past is_gap cs)
comments-past [] = refl
comments-past (c ∷ cs) = by_test (is_gap c) refl (comments-past cs)
  where
    by_test : (b : Bool) → is_gap c ≡ b → comments_in zero cs ≡ comments_in zero (past is_gap cs) → comments_in zero (c ∷ cs) ≡ comments_in zero (past is_gap (c ∷ cs))
    by_test true e again = rw e again
    by_test false e again = ap (comments_in zero) (let stop : (c ∷ cs) ≡ past is_gap (c ∷ cs) = rw e refl in stop)

pub comments-comment : (p q : Place) → Stops is_gap p.after → comment_rest p.after ≡ Some q.after → characters_of q ≡ characters_of p → length q.after < length p.after →
    comments_in zero p.after ≡ (p.after, q.after) ∷ comments_in zero q.after
comments-comment p q stops found text lt = by_after p.after refl stops found
  where
    by_after : (cs : List ℕ) → p.after ≡ cs → Stops is_gap cs → comment_rest cs ≡ Some q.after → comments_in zero cs ≡ (cs, q.after) ∷ comments_in zero q.after
    by_after [] e s f = absurd cc
    by_after (c ∷ cs) e s f =
        let to : comments_in zero (c ∷ cs) ≡ (c ∷ cs, q.after) ∷ comments_in (length cs - length q.after) cs =
        rw s (ap (λ (o : Option (List ℕ)). with_found o (λ rest. (c ∷ cs, rest) ∷ comments_in (length cs - length rest) cs) []) f) in
        let left : comments_in (length cs - length q.after) cs ≡ comments_in zero q.after =
        comments-skip (length cs - length q.after) cs ∙ ap (comments_in zero) (sym (left-after p q c cs e text lt)) in
        to ∙ ap (λ (xs : List (List ℕ × List ℕ)). (c ∷ cs, q.after) ∷ xs) left

pub comments-end : (cs : List ℕ) → Stops is_gap cs → comment_rest cs ≡ None → comments_in zero cs ≡ []
comments-end [] s f = refl
comments-end (c ∷ cs) s f = rw s (ap (λ (o : Option (List ℕ)). with_found o (λ rest. (c ∷ cs, rest) ∷ comments_in (length cs - length rest) cs) []) f)

-- ---- a turn: a run of white space, and a comment

pub turn-rest : (p q r : Place) → q.after ≡ past is_gap p.after → comment_rest q.after ≡ Some r.after → characters_of r ≡ characters_of q → length r.after < length q.after →
    gap_rest zero r.after ≡ gap_rest zero p.after
turn-rest p q r run found text lt =
    let stops : Stops is_gap q.after = rw (← run) at (past-stops is_gap p.after) in
    sym (gap-past p.after ∙ ap (gap_rest zero) (sym run) ∙ gap-comment q r stops found text lt)

pub last-rest : (p q r : Place) → q.after ≡ past is_gap p.after → comment_rest q.after ≡ None → r ≡ q → r.after ≡ gap_rest zero p.after
last-rest p q r run none same =
    let stops : Stops is_gap q.after = rw (← run) at (past-stops is_gap p.after) in
    ap (λ (x : Place). x.after) same ∙ sym (gap-past p.after ∙ ap (gap_rest zero) (sym run) ∙ gap-ends q.after stops none)

-- the place of a text after which these characters are left
moved_to-is : (p q : Place) → characters_of q ≡ characters_of p → length q.after ≤ length p.after → moved_to p q.after ≡ q
moved_to-is p q text le = sym (onward-moved p q text le)

pub turn-comments : (whole p q r : Place) (before : Option Span) (start end : ℕ) (grows : Span) → q.after ≡ past is_gap p.after → comment_rest q.after ≡ Some r.after →
    characters_of q ≡ characters_of whole → characters_of r ≡ characters_of q → length q.after ≤ length whole.after → length r.after < length q.after →
    start ≡ offset_of q → end ≡ offset_of r → grows ≡ spans before start end →
    grown whole (Some grows) (comments_in zero r.after) ≡ grown whole before (comments_in zero p.after)
turn-comments whole p q r before start end grows run found text text2 le lt at_start at_end is =
    let stops : Stops is_gap q.after = rw (← run) at (past-stops is_gap p.after) in
    let there : offset_of (moved_to whole q.after) ≡ start = ap offset_of (moved_to-is whole q text le) ∙ sym at_start in
    let here : offset_of (moved_to whole r.after) ≡ end = ap offset_of (moved_to-is whole r (text2 ∙ text) (omega arith)) ∙ sym at_end in
    let span : spans before (offset_of (moved_to whole q.after)) (offset_of (moved_to whole r.after)) ≡ grows = ap₂ (spans before) there here ∙ sym is in
    sym (ap (grown whole before) (comments-past p.after ∙ ap (comments_in zero) (sym run) ∙ comments-comment q r stops found text2 lt)
    ∙ ap (λ (x : Span). grown whole (Some x) (comments_in zero r.after)) span)

pub last-comments : (whole p q : Place) (before : Option Span) → q.after ≡ past is_gap p.after → comment_rest q.after ≡ None → before ≡ grown whole before (comments_in zero p.after)
last-comments whole p q before run none =
    let stops : Stops is_gap q.after = rw (← run) at (past-stops is_gap p.after) in
    sym (ap (grown whole before) (comments-past p.after ∙ ap (comments_in zero) (sym run) ∙ comments-end q.after stops none))

-- ---- what stands before a token

pub gap-run : (goal : Goal) (p : Place) → (goal ≡ Div) ⊎ (goal ≡ RegExp) → gap_run Div p ≡ gap_run goal p
gap-run goal p (inl is) = ap (λ (g : Goal). gap_run g p) (sym is)
gap-run goal p (inr is) = ap (λ (g : Goal). gap_run g p) (sym is)

pub gap-place : (goal : Goal) (p q : Place) → (goal ≡ Div) ⊎ (goal ≡ RegExp) → q.after ≡ after_gap p → characters_of q ≡ characters_of p → length q.after ≤ length p.after →
    q ≡ token_place goal p
gap-place goal p q is rest text le =
    let taken : length (take (length p.after - length (after_gap p)) p.after) ≡ length p.after - length q.after =
    omega (arith, length-take (length p.after - length (after_gap p)) p.after, ap length rest) in
    onward-moved p q text le ∙ ap (λ n. moved n p) (sym taken) ∙ ap (λ xs. moved (length xs) p) (gap-run goal p is)

pub gap-comments : (goal : Goal) (p : Place) → (goal ≡ Div) ⊎ (goal ≡ RegExp) → comments_at p ≡ comments_for goal p
gap-comments goal p (inl is) = ap (λ (g : Goal). comments_for g p) (sym is)
gap-comments goal p (inr is) = ap (λ (g : Goal). comments_for g p) (sym is)
