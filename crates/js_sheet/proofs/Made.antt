-- Tokens that are put one after another make the text and the marks of the layout.
use Rattle.std.proofs.Common.{◌≡◌, ◌∙◌, ℕ, ◌+◌, ◌≤◌, Bool, true, false, List, [], ◌∷◌, ◌++◌, length, Option, None, refl, sym, ap, subst, arith, append_assoc, append-nil, length-append}
use Rattle.js_terms.specs.declared.place.Pos.{Pos}
use Rattle.js_text.specs.Token.{spelling}
use Rattle.js_spelling.specs.Written.{Written, Origin, Begins, Within, Inserted, letters, between, after_last, text_from, text_of}
use Rattle.js_layout.specs.Layout.{marked, is_inserted, marks_from, marks_of}
use Rattle.js_sheet.specs.Meeting.{first_of}
use Rattle.js_sheet.specs.Sheets.{Sheet, gap, left_of, put, put_all, blank, ended, origin_of, origin_if, due_after, begins, in_source}
use Rattle.js_sheet.specs.Ascending.{Ascending}
use Rattle.js_sheet.proofs.Meets.{gap_after, end_after}
use Rattle.js_sheet.proofs.Offsets.{ascend_lower}

-- what a sheet has after a token, where nothing is due
abbrev text_to : Sheet → Written → List ℕ
text_to s t = s.text ++ gap s.left (first_of (letters t.kind))

put_text : (s : Sheet) (t : Written) → (put s t).text ≡ text_to s t ++ spelling t.kind
unfolding put
put_text s t = refl

put_left : (s : Sheet) (t : Written) → (put s t).left ≡ left_of t
unfolding put
put_left s t = refl

put_due : (s : Sheet) (t : Written) → (put s t).due ≡ None
unfolding put
put_due s t = refl

origin_kept : (o : Origin) → origin_of (due_after (begins o) None) (origin_if (in_source o)) ≡ o
origin_kept (Begins p) = refl
origin_kept Within = refl
origin_kept Inserted = refl

marks_by : (d : Option Pos) (s : Sheet) (t : Written) → d ≡ None → marked (origin_of (due_after (begins t.origin) d) (origin_if (in_source t.origin))) s.inserted (length (text_to s t)) ≡ marked t.origin s.inserted (length (text_to s t))
marks_by d s t e = ap (λ x. marked (origin_of (due_after (begins t.origin) x) (origin_if (in_source t.origin))) s.inserted (length (text_to s t))) e ∙ ap (λ o. marked o s.inserted (length (text_to s t))) (origin_kept t.origin)

put_marks : (s : Sheet) (t : Written) → s.due ≡ None → (put s t).marks ≡ s.marks ++ marked t.origin s.inserted (length (text_to s t))
unfolding put
put_marks s t e = ap (λ ms. s.marks ++ ms) (marks_by s.due s t e)

put_inserted : (s : Sheet) (t : Written) → s.due ≡ None → (put s t).inserted ≡ is_inserted t.origin
unfolding put
put_inserted s t e = ap (λ x. is_inserted (origin_of (due_after (begins t.origin) x) (origin_if (in_source t.origin)))) e ∙ ap is_inserted (origin_kept t.origin)

-- ---- the text

text_after : (s : Sheet) (t : Written) (ts : List Written) → ended (put_all (put s t) ts) ≡ text_to s t ++ text_from t ts
unfolding put
text_after s t [] = ap (λ e. (text_to s t ++ spelling t.kind) ++ e) (end_after t) ∙ append_assoc (text_to s t) (spelling t.kind) (after_last t)
text_after s t (next ∷ ts) =
    text_after (put s t) next ts
    ∙ ap (λ g. ((text_to s t ++ spelling t.kind) ++ g) ++ text_from next ts) (gap_after t next.kind)
    ∙ append_assoc (text_to s t ++ spelling t.kind) (between t next.kind) (text_from next ts)
    ∙ append_assoc (text_to s t) (spelling t.kind) (between t next.kind ++ text_from next ts)

pub all_text : (ts : List Written) → ended (put_all blank ts) ≡ text_of ts
all_text [] = refl
all_text (t ∷ ts) = text_after blank t ts

-- ---- the marks

marks_after : (s : Sheet) (t : Written) (ts : List Written) → s.due ≡ None → (put_all (put s t) ts).marks ≡ s.marks ++ marks_from (length (text_to s t)) s.inserted t ts
unfolding put
marks_after s t [] e = put_marks s t e
marks_after s t (next ∷ ts) e =
    let at = length (text_to s t) in
    let here = marked t.origin s.inserted at in
    let there : length (text_to (put s t) next) ≡ at + length (spelling t.kind ++ between t next.kind) =
    ap (λ g. length ((text_to s t ++ spelling t.kind) ++ g)) (gap_after t next.kind) ∙ ap length (append_assoc (text_to s t) (spelling t.kind) (between t next.kind)) ∙ length-append (text_to s t) (spelling t.kind ++ between t next.kind) in
    marks_after (put s t) next ts (put_due s t)
    ∙ ap (λ ms. ms ++ marks_from (length (text_to (put s t) next)) (put s t).inserted next ts) (put_marks s t e)
    ∙ ap (λ n. (s.marks ++ here) ++ marks_from n (put s t).inserted next ts) there
    ∙ ap (λ b. (s.marks ++ here) ++ marks_from (at + length (spelling t.kind ++ between t next.kind)) b next ts) (put_inserted s t e)
    ∙ append_assoc s.marks here (marks_from (at + length (spelling t.kind ++ between t next.kind)) (is_inserted t.origin) next ts)

pub all_marks : (ts : List Written) → (put_all blank ts).marks ≡ marks_of ts
all_marks [] = refl
all_marks (t ∷ ts) = marks_after blank t ts refl

-- ---- their places ascend

ascend_marked : (o : Origin) (b : Bool) (least at : ℕ) (ms : List (ℕ × Option Pos)) → least ≤ at → Ascending at ms → Ascending least (marked o b at ++ ms)
ascend_marked (Begins p) b least at ms le h = (le, h)
ascend_marked Within b least at ms le h = ascend_lower ms le h
ascend_marked Inserted true least at ms le h = ascend_lower ms le h
ascend_marked Inserted false least at ms le h = (le, h)

ascend_from : (least at : ℕ) (b : Bool) (t : Written) (ts : List Written) → least ≤ at → Ascending least (marks_from at b t ts)
ascend_from least at b t [] le = subst (λ ms. Ascending least ms) (append-nil (marked t.origin b at)) (ascend_marked t.origin b least at [] le tt)
ascend_from least at b t (next ∷ ts) le =
    ascend_marked t.origin b least at (marks_from (at + length (spelling t.kind ++ between t next.kind)) (is_inserted t.origin) next ts) le
    (ascend_from at (at + length (spelling t.kind ++ between t next.kind)) (is_inserted t.origin) next ts (omega arith))

pub all_ascend : (ts : List Written) → Ascending 0 (marks_of ts)
all_ascend [] = tt
all_ascend (t ∷ ts) = ascend_from 0 0 false t ts (omega arith)

pub marks_ascend : (ts : List Written) → Ascending 0 (put_all blank ts).marks
marks_ascend ts = subst (λ ms. Ascending 0 ms) (sym (all_marks ts)) (all_ascend ts)
