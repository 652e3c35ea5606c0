-- The marks of a text stand in order: each is a token's, and a token stands after those before it.
use Rattle.std.proofs.Common.{◌≡◌, ℕ, ◌+◌, ◌-◌, ◌^◌, ◌<◌, ◌≤◌, ◌==◌, ◌&&◌, ◌⊎◌, inl, inr, nat_lt, length, drop, map, Bool, true, false, List, [], ◌∷◌, ◌++◌, Option, if◌then◌else◌, refl, sym, ap, ap₂, subst, ◌∙◌, arith, append_assoc, append-nil}
use Rattle.std.specs.Prelude.{nat_le, ◌||◌}
use Rattle.std.proofs.lemmas.Bool.Decides.{nat_tests}
use Rattle.std.specs.List.{sum_by}
use Rattle.std.specs.Char.{len_utf8}
use Rattle.std.specs.Str.{chars}
use Rattle.std.proofs.lemmas.Bool.{leb-true, leb-false}
use Rattle.std.proofs.lemmas.List.{append_cancel_left}
use Rattle.std.proofs.lemmas.List.Sums.{sum_by_push}
use Rattle.js_terms.specs.declared.place.Pos.{Pos}
use Rattle.js_text.specs.Place.{Place, characters_before, place_at}
use Rattle.js_text.specs.Position.{ends_line, lines_ended, line_so_far, utf16_units, saturated, position_of, position}
use Rattle.js_text.specs.Token.{spelling}
use Rattle.js_text.proofs.Position.{lines_ended-end, lines_ended-more, line_so_far-more}
use Rattle.js_spelling.specs.Written.{Written, Origin, Begins, Within, Inserted, between}
use Rattle.js_layout.specs.Layout.{written, layout, marked, is_inserted, marks_from, marks_of, mark_of}
use Rattle.printed_map.specs.Laws.{NotBefore, FollowInOrder, AreInOrder, StandInOrder}

-- ---- a character more: the line, or the column on it, is greater

abbrev Later : ℕ → ℕ → ℕ → ℕ → Type 0
Later l c m d = (l < m) ⊎ ((l ≡ m) × (c < d))

later_on_later : (l c m d n e : ℕ) → Later l c m d → Later m d n e → Later l c n e
later_on_later l c m d n e (inl x) (inl y) = inl (omega arith)
later_on_later l c m d n e (inl x) (inr y) = let z = y.0 in inl (omega arith)
later_on_later l c m d n e (inr x) (inl y) = let z = x.0 in inl (omega arith)
later_on_later l c m d n e (inr x) (inr y) = let p = x.1 in let q = y.1 in inr (x.0 ∙ y.0, omega arith)

abbrev units : List ℕ → List ℕ → ℕ
units before after = sum_by utf16_units (line_so_far before after)

some_units : (c : ℕ) → 1 ≤ utf16_units c
some_units c = elim (nat_lt c 0x1_0000) as (λ x. 1 ≤ (if x then 1 else 2)) [ true ↦ (omega arith) | false ↦ (omega arith) ]

step : (b a : List ℕ) (c : ℕ) → Later (lines_ended b (c ∷ a)) (units b (c ∷ a)) (lines_ended (b ++ c ∷ []) a) (units (b ++ c ∷ []) a)
step b a c = by_end (ends_line c a) refl
  where
    by_end : (x : Bool) → ends_line c a ≡ x → Later (lines_ended b (c ∷ a)) (units b (c ∷ a)) (lines_ended (b ++ c ∷ []) a) (units (b ++ c ∷ []) a)
    by_end true e = let p = lines_ended-end b a c e in inl (omega arith)
    by_end false e =
        let p = lines_ended-more b a c e in
        let q : units (b ++ c ∷ []) a ≡ units b (c ∷ a) + utf16_units c = ap (sum_by utf16_units) (line_so_far-more b a c e) ∙ sum_by_push utf16_units (line_so_far b (c ∷ a)) c in
        let r = some_units c in inr (sym p, omega arith)

later_on : (b xs a : List ℕ) (x : ℕ) → Later (lines_ended b (x ∷ (xs ++ a))) (units b (x ∷ (xs ++ a))) (lines_ended (b ++ x ∷ xs) a) (units (b ++ x ∷ xs) a)
later_on b [] a x = step b a x
later_on b (y ∷ ys) a x =
    later_on_later _ _ (lines_ended (b ++ x ∷ []) (y ∷ (ys ++ a))) (units (b ++ x ∷ []) (y ∷ (ys ++ a))) _ _ (step b (y ∷ (ys ++ a)) x)
    (subst (λ z. Later (lines_ended (b ++ x ∷ []) (y ∷ (ys ++ a))) (units (b ++ x ∷ []) (y ∷ (ys ++ a))) (lines_ended z a) (units z a)) (append_assoc b (x ∷ []) (y ∷ ys)) (later_on (b ++ x ∷ []) ys a y))

lines_low : (b a : List ℕ) → lines_ended b a ≤ length b
lines_low [] a = omega arith
lines_low (c ∷ b) a = let r = lines_low b a in elim (ends_line c (b ++ a)) as (λ x. (if x then 1 else 0) + lines_ended b a ≤ length (c ∷ b)) [ true ↦ (omega arith) | false ↦ (omega arith) ]

-- ---- places by bytes

whole : (at : ℕ) (cs : List ℕ) → characters_before at cs ++ drop (length (characters_before at cs)) cs ≡ cs
whole at [] = refl
whole at (c ∷ cs) =
    elim (nat_le (len_utf8 c) at) as (λ x. (if x then c ∷ characters_before (at - len_utf8 c) cs else []) ++ drop (length (if x then c ∷ characters_before (at - len_utf8 c) cs else [])) (c ∷ cs) ≡ c ∷ cs)
    [ true ↦ (ap (λ xs. c ∷ xs) (whole (at - len_utf8 c) cs)) | false ↦ refl ]

record Longer (one other : List ℕ) : Type 0 where
  more : List ℕ
  is : other ≡ one ++ more

longer : (a b : ℕ) (cs : List ℕ) → a ≤ b → Longer (characters_before a cs) (characters_before b cs)
longer a b [] h = record { more = []; is = refl }
longer a b (c ∷ cs) h = by (nat_le (len_utf8 c) a) (nat_le (len_utf8 c) b) refl refl (longer (a - len_utf8 c) (b - len_utf8 c) cs (omega (arith, h)))
  where
    by : (x y : Bool) → nat_le (len_utf8 c) a ≡ x → nat_le (len_utf8 c) b ≡ y → Longer (characters_before (a - len_utf8 c) cs) (characters_before (b - len_utf8 c) cs) →
        Longer (if x then c ∷ characters_before (a - len_utf8 c) cs else []) (if y then c ∷ characters_before (b - len_utf8 c) cs else [])
    by true true e f rest = record { more = rest.more; is = ap (λ xs. c ∷ xs) rest.is }
    by true false e f rest = let low = leb-true (len_utf8 c) a e in let high = leb-false (len_utf8 c) b f in absurd (omega (arith, h, low, high))
    by false y e f rest = record { more = if y then c ∷ characters_before (b - len_utf8 c) cs else []; is = refl }

-- ---- their positions

above : (k l c d : ℕ) → k < l → (nat_lt l k || ((l == k) && nat_lt d c)) ≡ false
above k l c d below = grind (arith, nat_tests)

beside : (k l c d : ℕ) → k ≡ l → c ≤ d → (nat_lt l k || ((l == k) && nat_lt d c)) ≡ false
beside k l c d same within = grind (arith, nat_tests)

in_order_by : (l c m d : ℕ) → m < 2 ^ 32 - 2 → Later l c m d → NotBefore (record { line = saturated (1 + m); column = saturated d }) (record { line = saturated (1 + l); column = saturated c })
in_order_by l c m d small (inl below) = above (saturated (1 + l)) (saturated (1 + m)) (saturated c) (saturated d) (omega (arith, small, below))
in_order_by l c m d small (inr after) = let p = after.1 in beside (saturated (1 + l)) (saturated (1 + m)) (saturated c) (saturated d) (ap (λ n. saturated (1 + n)) after.0) (omega (arith, p))

in_order_with : (before more after cs : List ℕ) (place : Place) → length cs < 2 ^ 32 - 2 → (before ++ more) ++ after ≡ cs → place.before ≡ before → place.after ≡ more ++ after →
    NotBefore (position_of (record { before = before ++ more; after = after })) (position_of place)
in_order_with before [] after cs place small is b a =
    let same : place ≡ record { before = before ++ []; after = after } = ap₂ (λ (x y : List ℕ). record { before = x; after = y }) (b ∙ sym (append-nil before)) a in
    let p = position_of (record { before = before ++ []; after = after }) in
    subst (λ (q : Place). NotBefore p (position_of q)) (sym same) (beside p.line p.line p.column p.column refl (omega arith))
in_order_with before (x ∷ more) after cs place small is b a =
    let same : place ≡ record { before = before; after = x ∷ (more ++ after) } = ap₂ (λ (x y : List ℕ). record { before = x; after = y }) b a in
    let low = lines_low (before ++ x ∷ more) after in
    let short = length_of (before ++ x ∷ more) after in
    let long = ap length is in
    subst (λ (q : Place). NotBefore (position_of (record { before = before ++ x ∷ more; after = after })) (position_of q)) (sym same)
    (in_order_by (lines_ended before (x ∷ (more ++ after))) (units before (x ∷ (more ++ after))) (lines_ended (before ++ x ∷ more) after) (units (before ++ x ∷ more) after)
    (omega (arith, low, short, long, small)) (later_on before more after x))
  where
    length_of : (xs ys : List ℕ) → length xs ≤ length (xs ++ ys)
    length_of [] ys = omega arith
    length_of (x ∷ xs) ys = let r = length_of xs ys in omega (arith, r)

in_order : (cs : List ℕ) (a b : ℕ) → a ≤ b → length cs < 2 ^ 32 - 2 → NotBefore (position_of (place_at cs b)) (position_of (place_at cs a))
in_order cs a b h small =
    let l = longer a b cs h in
    let after = drop (length (characters_before b cs)) cs in
    let all : (characters_before a cs ++ l.more) ++ after ≡ cs = ap (λ xs. xs ++ after) (sym l.is) ∙ whole b cs in
    let rest : drop (length (characters_before a cs)) cs ≡ l.more ++ after =
    append_cancel_left (characters_before a cs) (drop (length (characters_before a cs)) cs) (l.more ++ after) (whole a cs ∙ sym all ∙ append_assoc (characters_before a cs) l.more after) in
    subst (λ xs. NotBefore (position_of (record { before = xs; after = after })) (position_of (place_at cs a))) (sym l.is)
    (in_order_with (characters_before a cs) l.more after cs (place_at cs a) small all refl rest)

-- ---- the marks

abbrev Ascend : ℕ → List (ℕ × Option Pos) → Type 0
Ascend least [] = Unit {0}
Ascend least (m ∷ ms) = (least ≤ m.0) × Ascend m.0 ms

from_less : (least more : ℕ) (ms : List (ℕ × Option Pos)) → least ≤ more → Ascend more ms → Ascend least ms
from_less least more [] h up = tt
from_less least more (m ∷ ms) h up = let first = up.0 in (omega (arith, h, first), up.1)

with_mark : (o : Origin) (inserted : Bool) (at : ℕ) (ms : List (ℕ × Option Pos)) → Ascend at ms → Ascend at (marked o inserted at ++ ms)
with_mark (Begins p) inserted at ms up = (omega arith, up)
with_mark Within inserted at ms up = up
with_mark Inserted true at ms up = up
with_mark Inserted false at ms up = (omega arith, up)

ascending : (at : ℕ) (inserted : Bool) (t : Written) (ts : List Written) → Ascend at (marks_from at inserted t ts)
ascending at inserted t [] = subst (Ascend at) (append-nil (marked t.origin inserted at)) (with_mark t.origin inserted at [] tt)
ascending at inserted t (next ∷ ts) =
    let further = at + length (spelling t.kind ++ between t next.kind) in
    with_mark t.origin inserted at (marks_from further (is_inserted t.origin) next ts) (from_less at further (marks_from further (is_inserted t.origin) next ts) (omega arith) (ascending further (is_inserted t.origin) next ts))

all_ascend : (ts : List Written) → Ascend 0 (marks_of ts)
all_ascend [] = tt
all_ascend (t ∷ ts) = ascending 0 false t ts

follow : (text : List ℕ) → length (chars text) < 2 ^ 32 - 2 → (at : ℕ) (ms : List (ℕ × Option Pos)) → Ascend at ms → FollowInOrder (position text at) (map (λ m. mark_of text m) ms)
follow text small at [] up = tt
follow text small at (m ∷ ms) up = (in_order (chars text) at m.0 up.0 small, follow text small m.0 ms up.1)

are_in_order : (text : List ℕ) → length (chars text) < 2 ^ 32 - 2 → (ms : List (ℕ × Option Pos)) → Ascend 0 ms → AreInOrder (map (λ m. mark_of text m) ms)
are_in_order text small [] up = tt
are_in_order text small (m ∷ ms) up = follow text small m.0 ms up.1

pub stand_in_order : StandInOrder
stand_in_order file small = are_in_order (layout file) small (marks_of (written file)) (all_ascend (written file))
