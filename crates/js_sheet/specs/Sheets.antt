-- What is written so far, as the tokens that follow need it: tokens put one after another make the text and the marks of the layout.
use Rattle.std.specs.Str.{chars}
use Rattle.std.specs.Prelude.{ℕ, Bool, true, false, List, [], ◌∷◌, ◌++◌, length, Option, Some, None, if◌then◌else◌}
use Rattle.js_terms.specs.declared.place.Pos.{Pos}
use Rattle.js_terms.specs.declared.place.Loc.{Loc}
use Rattle.js_text.specs.Token.{Kind, Numeral, BigInt, RegularExpression, spelling}
use Rattle.js_spelling.specs.Written.{Written, Origin, Begins, Within, Inserted}
use Rattle.js_layout.specs.Layout.{marked, is_inserted}
use Rattle.js_sheet.specs.declared.left.Left.{Left}
use Rattle.js_sheet.specs.declared.left.Left.TheVariants as left
use Rattle.js_sheet.specs.Meeting.{first_of, last_of, parts}
use Rattle.js_sheet.specs.declared.left.Sort.{Sort}
use Rattle.js_sheet.specs.declared.left.Sort.TheVariants as sort

pub record Sheet : Type 0 where
  pub text : List ℕ
  -- what the space before the next token depends on
  pub left : Left
  pub marks : List (ℕ × Option Pos)
  -- the last token was inserted
  pub inserted : Bool
  -- what begins with the next token
  pub due : Option Pos

abbrev pub gap : Left → Option ℕ → List ℕ
gap left.Nothing b = []
gap left.Line b = 0x0A ∷ []
gap (left.Token a number expression) b = if parts a number expression b then 0x20 ∷ [] else []

abbrev pub sort_of : Kind → Sort
sort_of (Numeral w) = sort.Number
sort_of (BigInt w) = sort.Number
sort_of (RegularExpression w) = sort.Expression
sort_of kind = sort.Other

abbrev pub is_number_sort : Sort → Bool
is_number_sort sort.Number = true
is_number_sort _ = false

abbrev pub is_expression_sort : Sort → Bool
is_expression_sort sort.Expression = true
is_expression_sort _ = false

abbrev pub left_after : Sort → List ℕ → Bool → Left
left_after sort bytes ends_line = if ends_line then left.Line else left.Token (last_of (chars bytes)) (is_number_sort sort) (is_expression_sort sort)

-- what is due counts before a token's own
abbrev pub origin_of : Option Pos → Origin → Origin
origin_of None o = o
origin_of (Some p) o = Begins p

abbrev pub left_of : Written → Left
left_of t = left_after (sort_of t.kind) (spelling t.kind) t.ends_line

-- what begins with the next token: of several that do, the outermost counts, which is told first
abbrev pub due_after : Option Pos → Option Pos → Option Pos
due_after told None = told
due_after told due = due

abbrev pub begins : Origin → Option Pos
begins (Begins p) = Some p
begins o = None

abbrev pub due_with : Origin → Sheet → Sheet
due_with o s = record s { due = due_after (begins o) s.due }

-- the steps of the code: text that is written, the gap before a token, and its mark
abbrev pub with_text : List ℕ → Sheet → Sheet
with_text bytes s = record s { text = s.text ++ bytes }

abbrev pub with_gap : Option ℕ → Sheet → Sheet
with_gap b s = record s { text = s.text ++ gap s.left b }

abbrev pub origin_if : Bool → Origin
origin_if true = Within
origin_if false = Inserted

abbrev pub kept : Bool → Sheet → Sheet
kept in_source s =
    let origin = origin_of s.due (origin_if in_source) in
    record s { marks = s.marks ++ marked origin s.inserted (length s.text); inserted = is_inserted origin; due = None }

-- a token of this spelling
abbrev pub put_spelled : Sheet → Sort → List ℕ → Bool → Bool → Sheet
put_spelled s sort bytes in_source ends_line =
    let before = kept in_source (with_gap (first_of (chars bytes)) s) in record before { text = before.text ++ bytes; left = left_after sort bytes ends_line }

abbrev pub in_source : Origin → Bool
in_source Inserted = false
in_source o = true

-- of what was written, where nothing begins with it
unfoldable pub put : Sheet → Written → Sheet
put s t = put_spelled (due_with t.origin s) (sort_of t.kind) (spelling t.kind) (in_source t.origin) t.ends_line

abbrev pub put_all : Sheet → List Written → Sheet
put_all s [] = s
put_all s (t ∷ ts) = put_all (put s t) ts

-- what stands at a place of the source begins with the next token
abbrev pub start_of : Option Loc → Option Pos
start_of None = None
start_of (Some l) = Some l.start

abbrev pub begin : Option Loc → Sheet → Sheet
begin l s = record s { due = due_after (start_of l) s.due }

-- nothing is written yet
abbrev pub blank : Sheet
blank = record { text = []; left = left.Nothing; marks = []; inserted = false; due = None }

-- the text with the end of its last line
abbrev pub end_of : Left → List ℕ
end_of left.Line = 0x0A ∷ []
end_of l = []

abbrev pub ended : Sheet → List ℕ
ended s = s.text ++ end_of s.left
