-- What a comment says of coverage: its text is `istanbul ignore` and one of four words, by the pattern
-- `^\s*istanbul\s+ignore\s+(if|else|next|file)(?=\W|$)`, where `\W` is all but ASCII letters, digits and `_`.
use Rattle.std.specs.Prelude.{ℕ, ◌==◌, Bool, true, false, not, ◌&&◌, ◌||◌, List, [], ◌∷◌, Option, Some, None, codes, if◌then◌else◌}
use Rattle.std.specs.Char.{is_ascii_alphanumeric}
use Rattle.std.specs.Str.{chars}
use Rattle.js_terms.specs.Blank.{is_gap}
use Rattle.js_tree.specs.declared.hint.Hint.{Hint}
use Rattle.js_tree.specs.declared.hint.Hint.TheVariants as hint
use Rattle.js_terms.specs.declared.place.Pos.{Pos}
use Rattle.js_terms.specs.declared.words.Comment.{Comment}

-- `\s*`: what follows white space and line terminators
abbrev pub skip_gap : List ℕ → List ℕ
skip_gap [] = []
skip_gap (c ∷ cs) = if is_gap c then skip_gap cs else c ∷ cs

-- `\s+`: where there are none, nothing fits
abbrev pub after_gap : List ℕ → Option (List ℕ)
after_gap [] = None
after_gap (c ∷ cs) = if is_gap c then Some (skip_gap cs) else None

-- what follows a word that stands here
abbrev pub after_word : List ℕ → List ℕ → Option (List ℕ)
after_word [] cs = Some cs
after_word (w ∷ word) [] = None
after_word (w ∷ word) (c ∷ cs) = if c == w then after_word word cs else None

-- `(?=\W|$)`: a word ends here
abbrev pub is_word_end : List ℕ → Bool
is_word_end [] = true
is_word_end (c ∷ cs) = not (is_ascii_alphanumeric c || (c == 0x5F))

abbrev pub ends_word : Option (List ℕ) → Bool
ends_word None = false
ends_word (Some rest) = is_word_end rest

-- this word stands here, and no longer one
abbrev pub has_word : List ℕ → List ℕ → Bool
has_word word cs = ends_word (after_word word cs)

abbrev pub then_gap : Option (List ℕ) → Option (List ℕ)
then_gap None = None
then_gap (Some rest) = after_gap rest

abbrev pub then_word : List ℕ → Option (List ℕ) → Option (List ℕ)
then_word word None = None
then_word word (Some rest) = after_word word rest

-- `^\s*istanbul\s+ignore\s+`: what follows it
abbrev pub after_ignore : List ℕ → Option (List ℕ)
after_ignore cs = then_gap (then_word (codes "ignore") (then_gap (after_word (codes "istanbul") (skip_gap cs))))

-- the words that take out a part
abbrev pub hint_in : Option (List ℕ) → Option Hint
hint_in None = None
hint_in (Some rest) = if has_word (codes "if") rest then Some hint.If
    else if has_word (codes "else") rest then Some hint.Else
    else if has_word (codes "next") rest then Some hint.Next
    else None

-- the word that takes out the file
abbrev pub file_in : Option (List ℕ) → Bool
file_in None = false
file_in (Some rest) = has_word (codes "file") rest

unfoldable pub hint_in_text : List ℕ → Option Hint
hint_in_text text = hint_in (after_ignore (chars text))

unfoldable pub ignores_in_text : List ℕ → Bool
ignores_in_text text = file_in (after_ignore (chars text))

-- of several comments the last that is a hint counts
abbrev pub or_earlier : Option Hint → Option Hint → Option Hint
or_earlier None earlier = earlier
or_earlier (Some last) earlier = Some last

abbrev pub hint_of : List Comment → Option Hint
hint_of [] = None
hint_of (comment ∷ comments) = or_earlier (hint_of comments) (hint_in_text comment.text)

-- the comments before the token that starts here
abbrev pub is_same : Pos → Pos → Bool
is_same a b = (a.line == b.line) && (a.column == b.column)

abbrev pub comments_before : Pos → List Comment → List Comment
comments_before token [] = []
comments_before token (comment ∷ comments) = if is_same comment.next token then comment ∷ comments_before token comments else comments_before token comments

abbrev pub hint_before : List Comment → Pos → Option Hint
hint_before comments token = hint_of (comments_before token comments)

-- one of a file's comments, wherever it stands, takes out the file
abbrev pub ignores_file : List Comment → Bool
ignores_file [] = false
ignores_file (comment ∷ comments) = ignores_in_text comment.text || ignores_file comments
