-- The places that the tokens of a text lead to are places of the text.
use Rattle.std.proofs.Common.{◌≡◌, ℕ, ◌≤◌, List, ◌++◌, length, take, drop, Option, Some, None, refl, sym, ap, subst, ◌∙◌, append_assoc, take-append-drop}
use Rattle.std.specs.Option.{option_map}
use Rattle.std.specs.Str.{IsUtf8}
use Rattle.js_text.specs.Place.{Place}
use Rattle.js_text.specs.declared.goal.Goal.{Goal}
use Rattle.js_text.specs.declared.goal.Goal.TheVariants as goal
use Rattle.js_text.specs.Token.{Kind, Token}
use Rattle.js_text.specs.Lex.{moved, gap_run, token_place, token_of, token_after, next_token, characters_of}
use Rattle.js_reading.specs.Reads.{goal_of, after_gap_of, continued, next_for, Lexes, no_token, one_more, Reaches}
use Rattle.js_parser.specs.Refused.{Because, RefusesText}
use Rattle.js_parser.specs.declared.refused.Refusal.{Refusal}
use Rattle.js_parser.specs.declared.refused.Refusal.TheVariants as why
use Rattle.js_parser.specs.declared.refused.Refused.{Refused}
use Rattle.js_text.proofs.Place.{length-before-le}

-- a move keeps the text
moved_within : (count : ℕ) (place : Place) → characters_of (moved count place) ≡ characters_of place
moved_within count place = append_assoc place.before (take count place.after) (drop count place.after) ∙ ap (λ cs. place.before ++ cs) (take-append-drop count place.after)

-- the place after a token that stands somewhere
place_after : Place → Option (Token × Place) → Place
place_after here None = here
place_after here (Some found) = found.1

-- a token keeps it too
token_within : (goal : Goal) (place between : Place) (token : Token) → next_token goal place ≡ Some (token, between) → characters_of between ≡ characters_of place
unfolding place_after
token_within goal place between token here = by_found (token_of goal (token_place goal place).after) here
  where
    by_found : (found : Option (Kind × ℕ)) →
        option_map {U = Token × Place} (λ found. (token_after goal found.0 place (moved found.1 (token_place goal place)), moved found.1 (token_place goal place))) found ≡ Some (token, between) →
        characters_of between ≡ characters_of place
    by_found None none = absurd cc
    by_found (Some found) some =
        ap characters_of (sym (ap (place_after place) some)) ∙ moved_within found.1 (token_place goal place) ∙ moved_within (length (gap_run goal place)) place

asked_within : (g : Goal) (place between : Place) (token : Token) → next_for g place ≡ Some (token, between) → characters_of between ≡ characters_of place
asked_within goal.Div place between token here = token_within goal.Div place between token here
asked_within goal.RegExp place between token here = token_within goal.RegExp place between token here
asked_within goal.Template place between token here = by_brace (next_token goal.Div place) here
  where
    by_part : (brace : Token × Place) (found : Option (Token × Place)) → next_token goal.Template (token_place goal.Div place) ≡ found →
        option_map (after_gap_of brace.0) found ≡ Some (token, between) → characters_of between ≡ characters_of place
    by_part brace None is none = absurd cc
    by_part brace (Some part) is some =
        let same : (◌≡◌) {A = Token × Place} (after_gap_of brace.0 part) (token, between) = cc in
        subst (λ (z : Token × Place). characters_of z.1 ≡ characters_of place) same
        (token_within goal.Template (token_place goal.Div place) part.1 part.0 is ∙ moved_within (length (gap_run goal.Div place)) place)

    by_brace : (found : Option (Token × Place)) → continued place found ≡ Some (token, between) → characters_of between ≡ characters_of place
    by_brace None none = absurd cc
    by_brace (Some brace) some = by_part brace (next_token goal.Template (token_place goal.Div place)) refl some

lexes_within : {place end : Place} {tokens : List Token} → Lexes place tokens end → characters_of end ≡ characters_of place
lexes_within no_token = refl
lexes_within (one_more {place = place} {between = between} {token = token} here later) = lexes_within later ∙ asked_within (goal_of token.kind) place between token here

pub reached_within : (text : List ℕ) (at : ℕ) → IsUtf8 text → Reaches text at → at ≤ length text
reached_within text at utf8 reached =
    let start = token_place goal.Div reached.place in
    subst (λ n. n ≤ length text) (sym reached.there)
    (length-before-le text start.before start.after utf8 (moved_within (length (gap_run goal.Div reached.place)) reached.place ∙ lexes_within reached.lexed))

-- the place of a refusal is one of the text
pub refused_within : (text : List ℕ) (refused : Refused) (limit : ℕ) → IsUtf8 text → RefusesText refused text limit → refused.at ≤ length text
refused_within text refused limit utf8 refuses = by_why refused.why refuses
  where
    by_why : (why : Refusal) → Because why text refused.at limit → refused.at ≤ length text
    by_why why.Syntax because = reached_within text refused.at utf8 because.0.reached
    by_why (why.Unsupported form) because = reached_within text refused.at utf8 because.reached
    by_why why.TooDeep because = reached_within text refused.at utf8 because.reached
    by_why why.Memory because = reached_within text refused.at utf8 because
