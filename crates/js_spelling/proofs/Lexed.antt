-- The text of tokens is lexed as those tokens, where each is apart from what follows it.
use Rattle.std.proofs.Common.{◌≡◌, ℕ, zero, suc, ◌-◌, ◌<◌, ◌==◌, ◌||◌, ◌&&◌, cond, Bool, true, false, List, [], ◌∷◌, ◌++◌, length, take, drop, Option, Some, None, refl, sym, ap, subst, ◌∙◌, arith, append-nil, length-append}
use Rattle.std.specs.List.{list_any, list_all}
use Rattle.std.specs.Option.{option_map}
use Rattle.std.specs.Str.{chars, IsUtf8, IsAscii}
use Rattle.std.proofs.Math.Seq.{take-append_seam, drop-append_seam}
use Rattle.std.proofs.lemmas.Bool.{and_parts, or_parts, or_from, eqb-true}
use Rattle.std.proofs.lemmas.Str.{chars-append, IsUtf8-append, IsUtf8-nil, chars-nil, IsUtf8-from_ascii, chars-IsAscii}
use Rattle.js_text.specs.Place.{Place}
use Rattle.js_text.specs.Position.{is_line_terminator}
use Rattle.js_text.specs.Character.{starts_identifier, is_digit, is_gap, begins_with_digit, begins_with_character}
use Rattle.js_text.specs.Comment.{comment_rest, comment_after_slash, begins_hashbang, single_line_rest, multi_line_rest}
use Rattle.js_text.specs.Gap.{with_found, gap_rest, is_start, has_hashbang, after_gap}
use Rattle.js_text.specs.Identifier.{is_backslash}
use Rattle.js_text.specs.declared.goal.Goal.{Goal}
use Rattle.js_text.specs.declared.goal.Goal.TheVariants as goal
use Rattle.js_text.specs.declared.punctuator.Punctuator.TheVariants as P
use Rattle.js_text.specs.Punctuator.{longest_punctuator}
use Rattle.js_text.specs.Token.{Kind, RegularExpression, End, Token, spelling}
use Rattle.js_text.specs.Token as T
use Rattle.js_text.specs.Units.{template_rest}
use Rattle.js_text.specs.Lex.{token_by, continued_kind, common_token, continued_token, token_of, is_quote, slash_token, begins_comment, moved, gap_run, token_place, token_after, next_token}
use Rattle.js_reading.specs.Reads.{goal_of, after_gap_of, continued, next_for, Lexes, no_token, one_more, start_of}
use Rattle.js_reading.proofs.goals.Tokens.{closing}
use Rattle.js_spelling.specs.Written.{Written, letters, first_is, spaced, between, after_last, text_from, text_of}
use Rattle.js_spelling.specs.Tokens.{is_written, IsToken, AreTokens, Follow}
use Rattle.js_spelling.proofs.Lists.{never, none_left}
use Rattle.js_spelling.proofs.Characters.{sign_no_word, no_start, no_digit}
use Rattle.js_spelling.proofs.Alone.{apart, Found, found, Cut, choice, choice_is, cut_div, cut_regular, cut_continued}

-- ---- a token by itself stands before all that it is apart from

from_cut : (f : List ℕ → Found) (k : Kind) (cs s : List ℕ) → Cut f k (length cs) cs → apart k s ≡ true → f (cs ++ s) ≡ Some (found k (length cs))
from_cut f k cs s c a =
    let none : c.rest ≡ [] = none_left c.rest (omega (arith, ap length c.whole, c.size, length-append (c.first ∷ c.taken) c.rest)) in
    let same : cs ≡ c.first ∷ c.taken = c.whole ∙ ap (λ xs. (c.first ∷ c.taken) ++ xs) none ∙ append-nil (c.first ∷ c.taken) in
    ap (λ xs. f (xs ++ s)) same ∙ c.again s a ∙ ap (λ n. Some (found k n)) (sym c.size)

div_more : (k : Kind) (cs s : List ℕ) → is_written k ≡ true → 0 < length cs → common_token goal.Div cs ≡ Some (found k (length cs)) → apart k s ≡ true → common_token goal.Div (cs ++ s) ≡ Some (found k (length cs))
div_more k [] s w some h a = absurd (omega arith)
div_more k (c ∷ cs) s w some h a = from_cut (common_token goal.Div) k (c ∷ cs) s (cut_div k (length (c ∷ cs)) c cs w h) a

regular_more : (v cs s : List ℕ) → 0 < length cs → common_token goal.RegExp cs ≡ Some (found (RegularExpression v) (length cs)) → apart (RegularExpression v) s ≡ true →
    common_token goal.RegExp (cs ++ s) ≡ Some (found (RegularExpression v) (length cs))
regular_more v [] s some h a = absurd (omega arith)
regular_more v (c ∷ cs) s some h a = from_cut (common_token goal.RegExp) (RegularExpression v) (c ∷ cs) s (cut_regular v (length (c ∷ cs)) c cs h) a

continued_more : (k : Kind) (cs s : List ℕ) → 0 < length cs → continued_token cs ≡ Some (found k (length cs)) → apart k s ≡ true → continued_token (cs ++ s) ≡ Some (found k (length cs))
continued_more k [] s some h a = absurd (omega arith)
continued_more k (c ∷ cs) s some h a = from_cut continued_token k (c ∷ cs) s (cut_continued k (length (c ∷ cs)) c cs h) a

-- ---- where a token stands neither a comment nor a hashbang does

no_comment : (cs : List ℕ) → begins_comment cs ≡ false → comment_after_slash cs ≡ None
no_comment [] h = refl
no_comment (d ∷ ds) h =
    let two = or_parts (d == 0x2F) (d == 0x2A) h in
    ap (λ b. cond {A = Option (List ℕ)} b (Some (single_line_rest ds)) (cond {A = Option (List ℕ)} (d == 0x2A) (multi_line_rest ds) None)) two.0
    ∙ ap (λ b. cond {A = Option (List ℕ)} b (multi_line_rest ds) None) two.1

abbrev is_hash : ℕ → Bool
is_hash c = c == 0x23

-- neither white space, a comment nor a hashbang begins here
pub record Quiet (cs : List ℕ) : Type 0 where
  pub no_gap : first_is is_gap cs ≡ false
  pub comment : comment_rest cs ≡ None
  pub hash : first_is is_hash cs ≡ false

plain_sign : (g : Goal) (c : ℕ) (cs : List ℕ) → starts_identifier c ≡ false → is_digit c ≡ false → ((is_backslash c || (c == 0x2E)) || (is_quote c || (c == 0x60))) ≡ false → common_token g (c ∷ cs) ≡ choice false false false false (c == 0x2F) g c cs
plain_sign g c cs start digit others =
    let both = or_parts (is_backslash c || (c == 0x2E)) (is_quote c || (c == 0x60)) others in
    let one = or_parts (is_backslash c) (c == 0x2E) both.0 in
    let two = or_parts (is_quote c) (c == 0x60) both.1 in
    choice_is g c cs (or_from (starts_identifier c) (is_backslash c) start one.0) (or_from (is_digit c) ((c == 0x2E) && begins_with_digit cs) digit (ap (λ b. b && begins_with_digit cs) one.1)) two.0 two.1 refl

slash_quiet : (g : Goal) (cs : List ℕ) (k : Kind × ℕ) → common_token g (0x2F ∷ cs) ≡ Some k → comment_rest (0x2F ∷ cs) ≡ None
slash_quiet g cs k h = by_comment (begins_comment cs) refl (sym (plain_sign g 0x2F cs (no_start 0x2F (sign_no_word 0x2F refl)) (no_digit 0x2F (sign_no_word 0x2F refl)) refl) ∙ h)
  where
    by_comment : (b : Bool) → begins_comment cs ≡ b → cond {A = Found} b None (slash_token g cs) ≡ Some k → comment_rest (0x2F ∷ cs) ≡ None
    by_comment true e h = absurd (never h)
    by_comment false e h = no_comment cs e

no_hash : (g : Goal) (cs : List ℕ) → common_token g (0x23 ∷ cs) ≡ None
unfolding longest_punctuator
no_hash g cs = plain_sign g 0x23 cs (no_start 0x23 (sign_no_word 0x23 refl)) (no_digit 0x23 (sign_no_word 0x23 refl)) refl

common_quiet : (g : Goal) (c : ℕ) (cs : List ℕ) (k : Kind × ℕ) → is_gap c ≡ false → common_token g (c ∷ cs) ≡ Some k → Quiet (c ∷ cs)
common_quiet g c cs k gap h = record { no_gap = gap; comment = by_slash (c == 0x2F) refl; hash = by_hash (c == 0x23) refl }
  where
    by_slash : (b : Bool) → (c == 0x2F) ≡ b → comment_rest (c ∷ cs) ≡ None
    by_slash false e = ap (λ b. cond {A = Option (List ℕ)} b (comment_after_slash cs) None) e
    by_slash true e =
        let same : c ≡ 0x2F = eqb-true c 0x2F e in
        ap (λ d. comment_rest (d ∷ cs)) same ∙ slash_quiet g cs k (ap (λ d. common_token g (d ∷ cs)) (sym same) ∙ h)

    by_hash : (b : Bool) → (c == 0x23) ≡ b → is_hash c ≡ false
    by_hash false e = e
    by_hash true e = absurd (never (sym (no_hash g cs) ∙ ap (λ d. common_token g (d ∷ cs)) (sym (eqb-true c 0x23 e)) ∙ h))

pub brace_quiet : (c : ℕ) (cs : List ℕ) (k : Kind × ℕ) → is_gap c ≡ false → continued_token (c ∷ cs) ≡ Some k → ((c == 0x7D) ≡ true) × Quiet (c ∷ cs)
brace_quiet c cs k gap h = by_brace (c == 0x7D) refl h
  where
    by_brace : (b : Bool) → (c == 0x7D) ≡ b → cond {A = Found} b (token_by continued_kind c cs (template_rest zero cs)) None ≡ Some k → ((c == 0x7D) ≡ true) × Quiet (c ∷ cs)
    by_brace false e h = absurd (never h)
    by_brace true e h =
        let same : c ≡ 0x7D = eqb-true c 0x7D e in
        (e, record { no_gap = gap; comment = ap (λ d. comment_rest (d ∷ cs)) same; hash = ap is_hash same })

end_quiet : Quiet []
end_quiet = record { no_gap = refl; comment = refl; hash = refl }

-- ---- the gap before a token

-- a gap that is written: white space or a line terminator, or none
pub record Gap (gap : List ℕ) : Type 0 where
  pub all : list_all is_gap gap ≡ true
  pub hash : first_is is_hash gap ≡ false

gap_stops : (cs : List ℕ) → Quiet cs → gap_rest zero cs ≡ cs
gap_stops [] q = refl
gap_stops (c ∷ cs) q =
    ap (λ b. cond b (gap_rest zero cs) (with_found (comment_rest (c ∷ cs)) (λ (rest : List ℕ). gap_rest (length cs - length rest) cs) (c ∷ cs))) q.no_gap
    ∙ ap (λ o. with_found o (λ (rest : List ℕ). gap_rest (length cs - length rest) cs) (c ∷ cs)) q.comment

gap_passed : (gap cs : List ℕ) → list_all is_gap gap ≡ true → Quiet cs → gap_rest zero (gap ++ cs) ≡ cs
gap_passed [] cs all q = gap_stops cs q
gap_passed (g ∷ gap) cs all q =
    let both = and_parts (is_gap g) (list_all is_gap gap) all in
    ap (λ b. cond b (gap_rest zero (gap ++ cs)) (with_found (comment_rest (g ∷ (gap ++ cs))) (λ (rest : List ℕ). gap_rest (length (gap ++ cs) - length rest) (gap ++ cs)) (g ∷ (gap ++ cs)))) both.0
    ∙ gap_passed gap cs both.1 q

no_hashbang : (cs : List ℕ) → first_is is_hash cs ≡ false → begins_hashbang cs ≡ false
no_hashbang [] h = refl
no_hashbang (c ∷ cs) h = ap (λ b. b && begins_with_character 0x21 cs) h

first_of_gap : (gap cs : List ℕ) → first_is is_hash gap ≡ false → first_is is_hash cs ≡ false → first_is is_hash (gap ++ cs) ≡ false
first_of_gap [] cs h k = k
first_of_gap (g ∷ gap) cs h k = h

no_and : (b : Bool) → (b && false) ≡ false
no_and true = refl
no_and false = refl

gap_left : (gap cs : List ℕ) (p : Place) → Gap gap → Quiet cs → p.after ≡ gap ++ cs → after_gap p ≡ cs
gap_left gap cs p g q at =
    let hash : has_hashbang p ≡ false = ap (λ b. is_start p.before && b) (ap begins_hashbang at ∙ no_hashbang (gap ++ cs) (first_of_gap gap cs g.hash q.hash)) ∙ no_and (is_start p.before) in
    ap (λ b. cond b (gap_rest zero (single_line_rest p.after)) (gap_rest zero p.after)) hash ∙ ap (gap_rest zero) at ∙ gap_passed gap cs g.all q

gap_here : (gap cs : List ℕ) (p : Place) → Gap gap → Quiet cs → p.after ≡ gap ++ cs → take (length p.after - length (after_gap p)) p.after ≡ gap
gap_here gap cs p g q at =
    let size : length p.after - length (after_gap p) ≡ length gap = omega (arith, ap length at, ap length (gap_left gap cs p g q at), length-append gap cs) in
    ap (λ n. take n p.after) size ∙ ap (take (length gap)) at ∙ take-append_seam gap cs

-- ---- the next token

abbrev Next : Type 0
Next = Option (Token × Place)

abbrev next : Token → Place → Token × Place
next t p = (t, p)

-- the place after a token of so many characters
abbrev place_past : Goal → ℕ → Place → Place
place_past g n p = moved n (token_place g p)

there : (g : Goal) (gap cs : List ℕ) (p : Place) → gap_run g p ≡ gap → p.after ≡ gap ++ cs → (token_place g p).after ≡ cs
there g gap cs p run at = ap (λ xs. drop (length xs) p.after) run ∙ ap (drop (length gap)) at ∙ drop-append_seam gap cs

next_is : (g : Goal) (gap cs rest : List ℕ) (k : Kind) (p : Place) → gap_run g p ≡ gap → p.after ≡ gap ++ (cs ++ rest) → token_of g (cs ++ rest) ≡ Some (found k (length cs)) →
    next_token g p ≡ Some (next (token_after g k p (place_past g (length cs) p)) (place_past g (length cs) p))
next_is g gap cs rest k p run at token =
    ap (option_map {U = Token × Place} (λ (x : Kind × ℕ). next (token_after g x.0 p (place_past g x.1 p)) (place_past g x.1 p))) (ap (token_of g) (there g gap (cs ++ rest) p run at) ∙ token)

after_is : (g : Goal) (gap cs rest : List ℕ) (p : Place) → gap_run g p ≡ gap → p.after ≡ gap ++ (cs ++ rest) → (place_past g (length cs) p).after ≡ rest
after_is g gap cs rest p run at = ap (drop (length cs)) (there g gap (cs ++ rest) p run at) ∙ drop-append_seam cs rest

-- a token of this kind is the next one, and this is left after it
pub record Stands (k : Kind) (line : Bool) (rest : List ℕ) (p : Place) : Type 0 where
  pub token : Token
  pub after : Place
  pub is : next_for (goal_of token.kind) p ≡ Some (next token after)
  pub kind : token.kind ≡ k
  pub line_is : token.line_terminator_before ≡ line
  pub left : after.after ≡ rest

plain_stands : (g : Goal) (gap cs rest : List ℕ) (k : Kind) (p : Place) → goal_of k ≡ g → ((q : Place) → next_for g q ≡ next_token g q) → gap_run g p ≡ gap → p.after ≡ gap ++ (cs ++ rest) →
    token_of g (cs ++ rest) ≡ Some (found k (length cs)) → Stands k (list_any is_line_terminator gap) rest p
plain_stands g gap cs rest k p goals same run at token = record {
  token = token_after g k p (place_past g (length cs) p);
  after = place_past g (length cs) p;
  is = ap (λ h. next_for h p) goals ∙ same p ∙ next_is g gap cs rest k p run at token;
  kind = refl;
  line_is = ap (list_any is_line_terminator) run;
  left = after_is g gap cs rest p run at;
}

continued_stands : (gap : List ℕ) (c : ℕ) (cs rest : List ℕ) (k : Kind) (p : Place) → goal_of k ≡ goal.Template → Gap gap → is_gap c ≡ false → p.after ≡ gap ++ ((c ∷ cs) ++ rest) →
    continued_token ((c ∷ cs) ++ rest) ≡ Some (found k (length (c ∷ cs))) → Stands k (list_any is_line_terminator gap) rest p
continued_stands gap c cs rest k p goals g no_gap at token =
    let quiet = brace_quiet c (cs ++ rest) (found k (length (c ∷ cs))) no_gap token in
    let run : gap_run goal.Div p ≡ gap = gap_here gap ((c ∷ cs) ++ rest) p g quiet.1 at in
    let brace : common_token goal.Div ((c ∷ []) ++ (cs ++ rest)) ≡ Some (found (T.Punctuator P.CloseBrace) 1) = ap (λ d. common_token goal.Div (d ∷ (cs ++ rest))) (eqb-true c 0x7D quiet.0) ∙ closing (cs ++ rest) in
    let t = token_after goal.Div (T.Punctuator P.CloseBrace) p (place_past goal.Div 1 p) in
    let start = token_place goal.Div p in
    let first : next_token goal.Div p ≡ Some (next t (place_past goal.Div 1 p)) = next_is goal.Div gap (c ∷ []) (cs ++ rest) (T.Punctuator P.CloseBrace) p run at brace in
    let second : next_token goal.Template start ≡ Some (next (token_after goal.Template k start (place_past goal.Template (length (c ∷ cs)) start)) (place_past goal.Template (length (c ∷ cs)) start)) =
    next_is goal.Template [] (c ∷ cs) rest k start refl (there goal.Div gap ((c ∷ cs) ++ rest) p run at) token in
    let part = after_gap_of t (next (token_after goal.Template k start (place_past goal.Template (length (c ∷ cs)) start)) (place_past goal.Template (length (c ∷ cs)) start)) in
    record {
      token = part.0;
      after = part.1;
      is = ap (λ h. next_for h p) goals ∙ ap (continued p) first ∙ ap (option_map {U = Token × Place} (after_gap_of t)) second;
      kind = refl;
      line_is = ap (list_any is_line_terminator) run;
      left = after_is goal.Template [] (c ∷ cs) rest start refl (there goal.Div gap ((c ∷ cs) ++ rest) p run at);
    }

common_stands : (gap cs rest : List ℕ) (k : Kind) (p : Place) → goal_of k ≡ goal.Div → Gap gap → first_is is_gap cs ≡ false → 0 < length cs → p.after ≡ gap ++ (cs ++ rest) →
    common_token goal.Div (cs ++ rest) ≡ Some (found k (length cs)) → Stands k (list_any is_line_terminator gap) rest p
common_stands gap [] rest k p goals g no_gap some at token = absurd (omega arith)
common_stands gap (c ∷ cs) rest k p goals g no_gap some at token =
    plain_stands goal.Div gap (c ∷ cs) rest k p goals (λ q. refl) (gap_here gap ((c ∷ cs) ++ rest) p g (common_quiet goal.Div c (cs ++ rest) (found k (length (c ∷ cs))) no_gap token) at) at token

regular_stands : (gap cs rest : List ℕ) (k : Kind) (p : Place) → goal_of k ≡ goal.RegExp → Gap gap → first_is is_gap cs ≡ false → 0 < length cs → p.after ≡ gap ++ (cs ++ rest) →
    common_token goal.RegExp (cs ++ rest) ≡ Some (found k (length cs)) → Stands k (list_any is_line_terminator gap) rest p
regular_stands gap [] rest k p goals g no_gap some at token = absurd (omega arith)
regular_stands gap (c ∷ cs) rest k p goals g no_gap some at token =
    plain_stands goal.RegExp gap (c ∷ cs) rest k p goals (λ q. refl) (gap_here gap ((c ∷ cs) ++ rest) p g (common_quiet goal.RegExp c (cs ++ rest) (found k (length (c ∷ cs))) no_gap token) at) at token

part_stands : (gap cs rest : List ℕ) (k : Kind) (p : Place) → goal_of k ≡ goal.Template → Gap gap → first_is is_gap cs ≡ false → 0 < length cs → p.after ≡ gap ++ (cs ++ rest) →
    continued_token (cs ++ rest) ≡ Some (found k (length cs)) → Stands k (list_any is_line_terminator gap) rest p
part_stands gap [] rest k p goals g no_gap some at token = absurd (omega arith)
part_stands gap (c ∷ cs) rest k p goals g no_gap some at token = continued_stands gap c cs rest k p goals g no_gap at token

pub stands : (gap rest : List ℕ) (k : Kind) (p : Place) → IsToken k → Gap gap → apart k rest ≡ true → p.after ≡ gap ++ (letters k ++ rest) → Stands k (list_any is_line_terminator gap) rest p
stands gap rest (RegularExpression w) p is g a at =
    regular_stands gap (letters (RegularExpression w)) rest (RegularExpression w) p refl g is.no_gap is.some at (regular_more w (letters (RegularExpression w)) rest is.some is.alone a)
stands gap rest (T.TemplateMiddle w) p is g a at = part_stands gap (letters (T.TemplateMiddle w)) rest (T.TemplateMiddle w) p refl g is.no_gap is.some at (continued_more (T.TemplateMiddle w) (letters (T.TemplateMiddle w)) rest is.some is.alone a)
stands gap rest (T.TemplateTail w) p is g a at = part_stands gap (letters (T.TemplateTail w)) rest (T.TemplateTail w) p refl g is.no_gap is.some at (continued_more (T.TemplateTail w) (letters (T.TemplateTail w)) rest is.some is.alone a)
stands gap rest k p is g a at = common_stands gap (letters k) rest k p refl g is.no_gap is.some at (div_more k (letters k) rest is.written is.some is.alone a)

pub end_stands : (gap : List ℕ) (p : Place) → Gap gap → p.after ≡ gap → Stands End (list_any is_line_terminator gap) [] p
unfolding common_token
end_stands gap p g at =
    let whole : p.after ≡ gap ++ ([] ++ []) = at ∙ sym (append-nil gap) in
    plain_stands goal.Div gap [] [] End p refl (λ q. refl) (gap_here gap [] p g end_quiet whole) whole refl

-- ---- all of them

-- the characters after a token
abbrev pub letters_after : Written → List Written → List ℕ
letters_after m [] = after_last m
letters_after m (n ∷ ms) = between m n.kind ++ (letters n.kind ++ letters_after n ms)

-- each is apart from what follows it
abbrev pub AreApart : Written → List Written → Type 0
AreApart m [] = apart m.kind (after_last m) ≡ true
AreApart m (n ∷ ms) = (apart m.kind (letters_after m (n ∷ ms)) ≡ true) × AreApart n ms

ends_apart : (m : Written) (ms : List Written) → AreApart m ms → apart m.kind (letters_after m ms) ≡ true
ends_apart m [] a = a
ends_apart m (n ∷ ms) a = a.0

-- from a place on these tokens stand, and then the end
pub record Lexed (line : Bool) (ms : List Written) (p : Place) : Type 0 where
  pub tokens : List Token
  pub end : Place
  pub lexed : Lexes p tokens end
  pub follow : Follow line ms tokens

gap_is : (line space : Bool) → Gap (cond line (0x0A ∷ []) (cond space (0x20 ∷ []) [])) × (list_any is_line_terminator (cond line (0x0A ∷ []) (cond space (0x20 ∷ []) [])) ≡ line)
unfolding is_gap
gap_is true space = (record { all = refl; hash = refl }, refl)
gap_is false true = (record { all = refl; hash = refl }, refl)
gap_is false false = (record { all = refl; hash = refl }, refl)

last_is_gap : (line : Bool) → Gap (cond line (0x0A ∷ []) []) × (list_any is_line_terminator (cond line (0x0A ∷ []) []) ≡ line)
unfolding is_gap
last_is_gap true = (record { all = refl; hash = refl }, refl)
last_is_gap false = (record { all = refl; hash = refl }, refl)

more_lexed : (gap : List ℕ) (n : Written) (ms : List Written) (p : Place) → Gap gap → IsToken n.kind → AreApart n ms → p.after ≡ gap ++ (letters n.kind ++ letters_after n ms) →
    ((q : Place) → q.after ≡ letters_after n ms → Lexed n.ends_line ms q) → Lexed (list_any is_line_terminator gap) (n ∷ ms) p
more_lexed gap n ms p g is a at go =
    let s = stands gap (letters_after n ms) n.kind p is g (ends_apart n ms a) at in
    let rest = go s.after s.left in
    record { tokens = s.token ∷ rest.tokens; end = rest.end; lexed = one_more s.is rest.lexed; follow = (s.kind, s.line_is, rest.follow) }

end_lexed : (gap : List ℕ) (p : Place) → Gap gap → p.after ≡ gap → Lexed (list_any is_line_terminator gap) [] p
end_lexed gap p g at =
    let s = end_stands gap p g at in
    record { tokens = s.token ∷ []; end = s.after; lexed = one_more s.is no_token; follow = (s.kind, s.line_is) }

lexed_after : (m : Written) (ms : List Written) (p : Place) → p.after ≡ letters_after m ms → AreTokens ms → AreApart m ms → Lexed m.ends_line ms p
lexed_after m [] p at are a =
    let gap = last_is_gap m.ends_line in
    subst (λ b. Lexed b [] p) gap.1 (end_lexed (after_last m) p gap.0 at)
lexed_after m (n ∷ ms) p at are a =
    let gap = gap_is m.ends_line (spaced m.kind n.kind) in
    subst (λ b. Lexed b (n ∷ ms) p) gap.1 (more_lexed (between m n.kind) n ms p gap.0 are.0 a.1 at (λ q e. lexed_after n ms q e are.1 a.1))

-- ---- and their bytes

one_byte : (c : ℕ) → c < 128 → IsUtf8 (c ∷ []) × (chars (c ∷ []) ≡ c ∷ [])
one_byte c h = (IsUtf8-from_ascii (c ∷ []) ascii, chars-IsAscii (c ∷ []) ascii)
  where
    ascii : IsAscii (c ∷ [])
    ascii zero = h
    ascii (suc i) = omega arith

between_utf8 : (line space : Bool) → IsUtf8 (cond line (0x0A ∷ []) (cond space (0x20 ∷ []) [])) × (chars (cond line (0x0A ∷ []) (cond space (0x20 ∷ []) [])) ≡ cond line (0x0A ∷ []) (cond space (0x20 ∷ []) []))
between_utf8 true space = one_byte 0x0A (omega arith)
between_utf8 false true = one_byte 0x20 (omega arith)
between_utf8 false false = (IsUtf8-nil, chars-nil)

last_utf8 : (line : Bool) → IsUtf8 (cond line (0x0A ∷ []) []) × (chars (cond line (0x0A ∷ []) []) ≡ cond line (0x0A ∷ []) [])
last_utf8 true = one_byte 0x0A (omega arith)
last_utf8 false = (IsUtf8-nil, chars-nil)

pub text_letters : (m : Written) (ms : List Written) → IsToken m.kind → AreTokens ms → IsUtf8 (text_from m ms) × (chars (text_from m ms) ≡ letters m.kind ++ letters_after m ms)
text_letters m [] is are =
    let gap = last_utf8 m.ends_line in
    (IsUtf8-append (spelling m.kind) (after_last m) is.utf8 gap.0, chars-append (spelling m.kind) (after_last m) is.utf8 ∙ ap (λ xs. letters m.kind ++ xs) gap.1)
text_letters m (n ∷ ms) is are =
    let gap = between_utf8 m.ends_line (spaced m.kind n.kind) in
    let rest = text_letters n ms are.0 are.1 in (
      IsUtf8-append (spelling m.kind) (between m n.kind ++ text_from n ms) is.utf8 (IsUtf8-append (between m n.kind) (text_from n ms) gap.0 rest.0),
      chars-append (spelling m.kind) (between m n.kind ++ text_from n ms) is.utf8
          ∙ ap (λ xs. letters m.kind ++ xs) (chars-append (between m n.kind) (text_from n ms) gap.0 ∙ ap (λ xs. xs ++ chars (text_from n ms)) gap.1 ∙ ap (λ xs. between m n.kind ++ xs) rest.1),
    )

abbrev pub AreAllApart : List Written → Type 0
AreAllApart [] = Unit {0}
AreAllApart (m ∷ ms) = AreApart m ms

pub lexed_text : (ms : List Written) → AreTokens ms → AreAllApart ms → Lexed false ms (start_of (text_of ms))
lexed_text [] are a = end_lexed [] (start_of []) (record { all = refl; hash = refl }) chars-nil
lexed_text (m ∷ ms) are a =
    more_lexed [] m ms (start_of (text_of (m ∷ ms))) (record { all = refl; hash = refl }) are.0 a (text_letters m ms are.0 are.1).1 (λ q e. lexed_after m ms q e are.1 a)
