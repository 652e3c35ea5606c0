-- What stands before a token: white space, line terminators and comments (ECMA-262, 12.2 to 12.5).
use Rattle.std.specs.Prelude.{ℕ, zero, suc, ◌-◌, Bool, true, false, ◌&&◌, List, [], ◌∷◌, length, map, Option, Some, None, if◌then◌else◌, encode_utf8_all}
use Rattle.js_terms.specs.declared.place.Pos.{Pos}
use Rattle.js_terms.specs.declared.words.Comment.{Comment}
use Rattle.js_text.specs.Place.{Place}
use Rattle.js_text.specs.Character.{is_gap}
use Rattle.js_text.specs.Comment.{comment_rest, single_line_rest, begins_hashbang, comment_text}

-- what is done with what was found, or else what is told for that
abbrev pub with_found : {A B : Type 0} → Option A → (A → B) → B → B
with_found None go other = other
with_found (Some found) go other = go found

-- what follows the white space, the line terminators and the comments that stand here, after this many characters of a
-- comment; a comment that is not closed is none
abbrev pub gap_rest : ℕ → List ℕ → List ℕ
gap_rest n [] = []
gap_rest (suc n) (c ∷ cs) = gap_rest n cs
gap_rest zero (c ∷ cs) =
    if is_gap c then gap_rest zero cs
    else with_found (comment_rest (c ∷ cs)) (λ rest. gap_rest (length cs - length rest) cs) (c ∷ cs)

-- the comments among these: each by what stands from its start on, and by what follows it
abbrev pub comments_in : ℕ → List ℕ → List (List ℕ × List ℕ)
comments_in n [] = []
comments_in (suc n) (c ∷ cs) = comments_in n cs
comments_in zero (c ∷ cs) =
    if is_gap c then comments_in zero cs
    else with_found (comment_rest (c ∷ cs)) (λ rest. (c ∷ cs, rest) ∷ comments_in (length cs - length rest) cs) []

-- a place has no character before it
abbrev pub is_start : List ℕ → Bool
is_start [] = true
is_start before = false

-- a hashbang comment stands at this place: it does at a text's start alone
abbrev pub has_hashbang : Place → Bool
has_hashbang place = is_start place.before && begins_hashbang place.after

-- what follows what stands at a place before the next token
abbrev pub after_gap : Place → List ℕ
after_gap place = if has_hashbang place then gap_rest zero (single_line_rest place.after) else gap_rest zero place.after

-- the comments that stand there
abbrev pub comments_at : Place → List (List ℕ × List ℕ)
comments_at place =
    if has_hashbang place then (place.after, single_line_rest place.after) ∷ comments_in zero (single_line_rest place.after)
    else comments_in zero place.after

-- the comment that begins here, before a token that starts at a position
abbrev pub comment_of : Pos → List ℕ → Comment
comment_of next cs = record { text = encode_utf8_all (comment_text cs); next = next }

-- the comments that stand at a place before a token that starts at a position
abbrev pub comments_before : Pos → Place → List Comment
comments_before next place = map (λ found. comment_of next found.0) (comments_at place)
