-- The token that stands at a place of a text, for a goal (ECMA-262, 12). A text is given as its characters.
use Rattle.std.specs.Prelude.{◌≡◌, ℕ, zero, ◌+◌, ◌-◌, ◌==◌, Bool, true, false, ◌&&◌, ◌||◌, List, [], ◌∷◌, ◌++◌, length, take, drop, Option, Some, None, if◌then◌else◌, encode_utf8_all}
use Rattle.std.specs.List.{list_any}
use Rattle.std.specs.Option.{option_map}
use Rattle.js_text.specs.Place.{Place, place_at}
use Rattle.js_text.specs.Position.{is_line_terminator, position_of}
use Rattle.js_text.specs.Character.{starts_identifier, continues_identifier, is_digit, begins_with_digit, begins_with_character}
use Rattle.js_text.specs.declared.goal.Goal.{Goal}
use Rattle.js_text.specs.declared.goal.Goal.TheVariants as goal
use Rattle.js_text.specs.declared.punctuator.Punctuator.{Punctuator}
use Rattle.js_text.specs.Punctuator.{spelling_of, longest_punctuator, is_for}
use Rattle.js_text.specs.Gap.{with_found, after_gap, comments_at}
use Rattle.js_text.specs.Identifier.{is_backslash, after_first, word_of_bytes}
use Rattle.js_text.specs.Number.{number_rest}
use Rattle.js_text.specs.Units.{string_rest, template_rest}
use Rattle.js_text.specs.RegularExpression.{body_rest, are_flags}
use Rattle.js_text.specs.Token.{Kind, Numeral, BigInt, StringLiteral, NoSubstitutionTemplate, TemplateHead, TemplateMiddle, TemplateTail, RegularExpression, End, Token, Span}
use Rattle.js_text.specs.Token as T

-- what follows the longest run, from here on, of characters that pass a test
abbrev pub past : (ℕ → Bool) → List ℕ → List ℕ
past test [] = []
past test (c ∷ cs) = if test c then past test cs else c ∷ cs

-- the token of this kind from its first character up to what follows it, and how many characters it has
abbrev pub up_to : (List ℕ → Kind) → ℕ → List ℕ → List ℕ → Kind × ℕ
up_to kind c cs rest = let count = 1 + (length cs - length rest) in (kind (encode_utf8_all (take count (c ∷ cs))), count)

abbrev pub token_to : (List ℕ → Kind) → ℕ → List ℕ → Option (List ℕ) → Option (Kind × ℕ)
token_to kind c cs None = None
token_to kind c cs (Some rest) = Some (up_to kind c cs rest)

-- the same where one of two kinds was found
abbrev pub token_by : (Bool → List ℕ → Kind) → ℕ → List ℕ → Option (Bool × List ℕ) → Option (Kind × ℕ)
token_by kind c cs None = None
token_by kind c cs (Some found) = Some (up_to (kind found.0) c cs found.1)

-- whether a number is a BigInt
abbrev pub number_kind : Bool → List ℕ → Kind
number_kind true = BigInt
number_kind false = Numeral

-- whether a part of a template that begins with a backquote, or with `}`, is the last
abbrev pub template_kind : Bool → List ℕ → Kind
template_kind true = NoSubstitutionTemplate
template_kind false = TemplateHead

abbrev pub continued_kind : Bool → List ℕ → Kind
continued_kind true = TemplateTail
continued_kind false = TemplateMiddle

-- `'` and `"`
abbrev pub is_quote : ℕ → Bool
is_quote c = (c == 0x27) || (c == 0x22)

-- a number begins with these: a digit, or a `.` before one
abbrev pub begins_number : ℕ → List ℕ → Bool
begins_number c cs = is_digit c || ((c == 0x2E) && begins_with_digit cs)

-- the longest punctuator, where it is one for the goal
abbrev pub punctuator_of : Goal → Option Punctuator → Option (Kind × ℕ)
punctuator_of goal None = None
punctuator_of goal (Some p) = if is_for goal p then Some (T.Punctuator p, length (spelling_of p)) else None

-- what follows the flags that stand after a body, up to the last character that an identifier goes on with
abbrev pub flags_rest : List ℕ → Option (List ℕ)
flags_rest cs = let rest = past continues_identifier cs in if are_flags (take (length cs - length rest) cs) then Some rest else None

-- a `/` where a comment begins is no token: one that is closed stands before a token, not in its place
abbrev pub begins_comment : List ℕ → Bool
begins_comment cs = begins_with_character 0x2F cs || begins_with_character 0x2A cs

-- the token that begins with `/`
abbrev pub slash_token : Goal → List ℕ → Option (Kind × ℕ)
slash_token goal.RegExp cs = token_to RegularExpression 0x2F cs (with_found (body_rest false false cs) flags_rest None)
slash_token goal cs = punctuator_of goal (longest_punctuator (0x2F ∷ cs))

-- the token that begins with this character, where these follow
abbrev pub token_from : Goal → ℕ → List ℕ → Option (Kind × ℕ)
token_from goal c cs =
    if starts_identifier c || is_backslash c then token_to word_of_bytes c cs (after_first c cs)
    else (if begins_number c cs then token_by number_kind c cs (number_rest c cs)
    else (if is_quote c then token_to StringLiteral c cs (string_rest c zero cs)
    else (if c == 0x60 then token_by template_kind c cs (template_rest zero cs)
    else (if c == 0x2F then (if begins_comment cs then None else slash_token goal cs)
    else punctuator_of goal (longest_punctuator (c ∷ cs))))))

-- a part of a template after the `}` that closes a `${`
abbrev pub continued_token : List ℕ → Option (Kind × ℕ)
continued_token [] = None
continued_token (c ∷ cs) = if c == 0x7D then token_by continued_kind c cs (template_rest zero cs) else None

-- the token that these characters begin with, if it doesn't continue a template
unfoldable pub common_token : Goal → List ℕ → Option (Kind × ℕ)
common_token goal [] = Some (End, 0)
common_token goal (c ∷ cs) = token_from goal c cs

-- the token for a goal, and how many characters it has
abbrev pub token_of : Goal → List ℕ → Option (Kind × ℕ)
token_of goal.Template cs = continued_token cs
token_of goal cs = common_token goal cs

-- a place further on by this many characters
abbrev pub moved : ℕ → Place → Place
moved count place = record { before = place.before ++ take count place.after; after = drop count place.after }

-- the place in the same text after which these characters are left
abbrev pub moved_to : Place → List ℕ → Place
moved_to place rest = moved (length place.after - length rest) place

-- what stands here before the next token; nothing is passed over for Template
abbrev pub gap_run : Goal → Place → List ℕ
gap_run goal.Template place = []
gap_run goal place = take (length place.after - length (after_gap place)) place.after

-- the place where the next token stands, if one does
abbrev pub token_place : Goal → Place → Place
token_place goal place = moved (length (gap_run goal place)) place

-- how many bytes stand before a place
abbrev pub offset_of : Place → ℕ
offset_of place = length (encode_utf8_all place.before)

-- the characters of the text in which a place is
abbrev pub characters_of : Place → List ℕ
characters_of place = place.before ++ place.after

-- from the start of the first of these comments to the end of the last; where there is none, both are this many bytes
abbrev pub end_of_last : Place → List ℕ → List (List ℕ × List ℕ) → ℕ
end_of_last place rest [] = offset_of (moved_to place rest)
end_of_last place rest (comment ∷ comments) = end_of_last place comment.1 comments

abbrev pub span_of : Place → ℕ → List (List ℕ × List ℕ) → Span
span_of place at [] = record { start = at; end = at }
span_of place at (comment ∷ comments) = record { start = offset_of (moved_to place comment.0); end = end_of_last place comment.1 comments }

-- the comments that stand here for a goal
abbrev pub comments_for : Goal → Place → List (List ℕ × List ℕ)
comments_for goal.Template place = []
comments_for goal place = comments_at place

-- the token of this kind that stands here for a goal, up to its end
abbrev pub token_after : Goal → Kind → Place → Place → Token
token_after goal kind place end =
    let start = token_place goal place in record {
      kind = kind;
      span = record { start = offset_of start; end = offset_of end };
      loc = record { start = position_of start; end = position_of end };
      line_terminator_before = list_any is_line_terminator (gap_run goal place);
      comments = span_of place (offset_of start) (comments_for goal place);
    }

-- the next token from a place on, and the place after it; none where no token stands there
abbrev pub next_token : Goal → Place → Option (Token × Place)
next_token goal place =
    let start = token_place goal place in
    option_map (λ found. (token_after goal found.0 place (moved found.1 start), moved found.1 start)) (token_of goal start.after)

-- at this many bytes of the text of these characters, this token stands for this goal
abbrev pub Lex : Goal → List ℕ → ℕ → Token → Type 0
Lex goal text at token = option_map (λ found. found.0) (next_token goal (place_at text at)) ≡ Some token
