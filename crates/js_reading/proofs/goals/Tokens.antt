-- The token that stands at a place for one goal and for another: a token that is one for both is the same.
use Rattle.std.proofs.Common.{◌≡◌, ℕ, zero, ◌==◌, Bool, true, false, ◌||◌, ◌&&◌, List, [], ◌∷◌, length, arith, Option, Some, None, cond, if◌then◌else◌, refl, sym, ap, ◌∙◌}
use Rattle.std.proofs.lemmas.Bool.{true≢false}
use Rattle.unicode_ident.proofs.IdentLemmas.{is_xid_start-ascii}
use Rattle.js_text.specs.Character.{starts_identifier, is_digit}
use Rattle.js_text.specs.declared.goal.Goal.{Goal}
use Rattle.js_text.specs.declared.goal.Goal.TheVariants as goal
use Rattle.js_text.specs.declared.punctuator.Punctuator.{Punctuator}
use Rattle.js_text.specs.declared.punctuator.Punctuator.TheVariants as P
use Rattle.js_text.specs.Punctuator.{spelling_of, longest_punctuator, is_for}
use Rattle.js_text.specs.Identifier.{is_backslash, after_first, word_of_bytes}
use Rattle.js_text.specs.Gap.{with_found}
use Rattle.js_text.specs.Number.{number_rest}
use Rattle.js_text.specs.Units.{string_rest, template_rest}
use Rattle.js_text.specs.RegularExpression.{body_rest}
use Rattle.js_text.specs.Token.{Kind, RegularExpression, StringLiteral, Token}
use Rattle.js_text.specs.Token as T
use Rattle.js_text.specs.Lex.{common_token, token_to, token_by, number_kind, template_kind, punctuator_of, slash_token, begins_comment, begins_number, is_quote, flags_rest}
use Rattle.js_reading.specs.Turns.{divides, is_regular}

abbrev pub Found : Type 0
Found = Option (Kind × ℕ)

-- what two goals make of the same characters is alike, if it is where they differ: at a `/`, and in punctuators
goals_alike : (R : Found → Found → Type 0) → ((o : Found) → R o o) → (g h : Goal) (c : ℕ) (cs : List ℕ) →
    ((c == 0x2F) ≡ true → R (slash_token g cs) (slash_token h cs)) → ((c == 0x2F) ≡ false → R (punctuator_of g (longest_punctuator (c ∷ cs))) (punctuator_of h (longest_punctuator (c ∷ cs)))) →
    R (common_token g (c ∷ cs)) (common_token h (c ∷ cs))
unfolding common_token
goals_alike R same g h c cs slash mark = by_tests (starts_identifier c || is_backslash c) (begins_number c cs) (is_quote c) (c == 0x60) (c == 0x2F) refl
  where
    by_tests : (a b d e f : Bool) → (c == 0x2F) ≡ f → R
        (cond a (token_to word_of_bytes c cs (after_first c cs)) (cond b (token_by number_kind c cs (number_rest c cs)) (cond d (token_to StringLiteral c cs (string_rest c zero cs)) (cond e (token_by template_kind c cs (template_rest zero cs))
        (cond f (cond (begins_comment cs) None (slash_token g cs)) (punctuator_of g (longest_punctuator (c ∷ cs))))))))
        (cond a (token_to word_of_bytes c cs (after_first c cs)) (cond b (token_by number_kind c cs (number_rest c cs)) (cond d (token_to StringLiteral c cs (string_rest c zero cs)) (cond e (token_by template_kind c cs (template_rest zero cs))
        (cond f (cond (begins_comment cs) None (slash_token h cs)) (punctuator_of h (longest_punctuator (c ∷ cs))))))))
    by_tests true b d e f q = same (token_to word_of_bytes c cs (after_first c cs))
    by_tests false true d e f q = same (token_by number_kind c cs (number_rest c cs))
    by_tests false false true e f q = same (token_to StringLiteral c cs (string_rest c zero cs))
    by_tests false false false true f q = same (token_by template_kind c cs (template_rest zero cs))
    by_tests false false false false true q = by_comment (begins_comment cs)
      where
        by_comment : (b : Bool) → R (cond b None (slash_token g cs)) (cond b None (slash_token h cs))
        by_comment true = same None
        by_comment false = slash q
    by_tests false false false false false q = mark q

abbrev Keeps : (Kind → Bool) → Found → Found → Type 0
Keeps other x y = (k : Kind × ℕ) → x ≡ Some k → other k.0 ≡ false → y ≡ Some k

keeps_same : (other : Kind → Bool) (o : Found) → Keeps other o o
keeps_same other o k h isnt = h

-- ---- from RegExp to Div

regular_to : (c : ℕ) (cs : List ℕ) (o : Option (List ℕ)) (y : Found) → Keeps is_regular (token_to RegularExpression c cs o) y
regular_to c cs None y k h isnt = absurd cc
regular_to c cs (Some rest) y k h isnt = let e : true ≡ is_regular k.0 = ap (λ (o : Found). elim o [ None ↦ true | Some x ↦ is_regular x.0 ]) h in absurd (true≢false (e ∙ isnt))

mark_to_div : (o : Option Punctuator) → Keeps is_regular (punctuator_of goal.RegExp o) (punctuator_of goal.Div o)
mark_to_div None k h isnt = h
mark_to_div (Some p) k h isnt = by_for (is_for goal.RegExp p) h
  where
    by_for : (b : Bool) → cond b (Some (T.Punctuator p, length (spelling_of p))) None ≡ Some k → Some (T.Punctuator p, length (spelling_of p)) ≡ Some k
    by_for true q = q
    by_for false q = absurd cc

-- a token for RegExp that is no regular expression is one for Div
pub to_div : (cs : List ℕ) → Keeps is_regular (common_token goal.RegExp cs) (common_token goal.Div cs)
unfolding common_token
to_div [] = keeps_same is_regular (Some (T.End, 0))
to_div (c ∷ cs) = goals_alike (Keeps is_regular) (keeps_same is_regular) goal.RegExp goal.Div c cs (λ q. regular_to 0x2F cs (with_found (body_rest false false cs) flags_rest None) (slash_token goal.Div cs)) (λ q. mark_to_div (longest_punctuator (c ∷ cs)))

-- ---- from Div to RegExp

-- `/` or `/=` is the longest where a `/` stands
slash_divides : (cs : List ℕ) → (k : Kind × ℕ) → punctuator_of goal.Div (longest_punctuator (0x2F ∷ cs)) ≡ Some k → divides k.0 ≡ true
unfolding longest_punctuator
slash_divides [] k h = sym (ap (λ (o : Found). elim o [ None ↦ true | Some x ↦ divides x.0 ]) h)
slash_divides (c ∷ cs) k h = by_equals (c == 0x3D) h
  where
    by_equals : (b : Bool) → punctuator_of goal.Div (if (b && true) && true then Some P.DivideAssign else Some P.Slash) ≡ Some k → divides k.0 ≡ true
    by_equals true q = sym (ap (λ (o : Found). elim o [ None ↦ true | Some x ↦ divides x.0 ]) q)
    by_equals false q = sym (ap (λ (o : Found). elim o [ None ↦ true | Some x ↦ divides x.0 ]) q)

for_regexp : (p : Punctuator) → divides (T.Punctuator p) ≡ false → is_for goal.RegExp p ≡ true
for_regexp P.Slash isnt = absurd (true≢false isnt)
for_regexp P.DivideAssign isnt = absurd (true≢false isnt)
for_regexp p isnt = refl

mark_to_regexp : (o : Option Punctuator) → Keeps divides (punctuator_of goal.Div o) (punctuator_of goal.RegExp o)
mark_to_regexp None k h isnt = h
mark_to_regexp (Some p) k h isnt =
    let e : divides (T.Punctuator p) ≡ false = ap (λ (o : Found). elim o [ None ↦ false | Some x ↦ divides x.0 ]) h ∙ isnt in
    ap (λ b. cond b (Some (T.Punctuator p, length (spelling_of p))) None) (for_regexp p e) ∙ h

-- a token for Div that divides nothing is one for RegExp
pub to_regexp : (cs : List ℕ) → Keeps divides (common_token goal.Div cs) (common_token goal.RegExp cs)
unfolding common_token
to_regexp [] = keeps_same divides (Some (T.End, 0))
to_regexp (c ∷ cs) = goals_alike (Keeps divides) (keeps_same divides) goal.Div goal.RegExp c cs (λ q k h isnt. absurd (true≢false (sym (slash_divides cs k h) ∙ isnt))) (λ q. mark_to_regexp (longest_punctuator (c ∷ cs)))

-- ---- what continues a template

-- `}` starts no identifier
no_start : starts_identifier 0x7D ≡ false
unfolding starts_identifier
no_start = ap (λ b. b || (0x7D == 0x24) || (0x7D == 0x5F)) (is_xid_start-ascii 0x7D (omega arith))

pub closing : (cs : List ℕ) → common_token goal.Div (0x7D ∷ cs) ≡ Some (T.Punctuator P.CloseBrace, 1)
unfolding common_token longest_punctuator is_digit
closing cs = ap (λ b. cond (b || is_backslash 0x7D) (token_to word_of_bytes 0x7D cs (after_first 0x7D cs)) (Some (T.Punctuator P.CloseBrace, 1))) no_start
