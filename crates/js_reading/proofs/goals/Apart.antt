-- The tokens of a text start apart: each but an end has characters of its own.
use Rattle.std.proofs.Common.{◌≡◌, ℕ, zero, suc, ◌+◌, ◌-◌, ◌^◌, ◌<◌, ◌≤◌, ◌==◌, ◌⊎◌, inl, inr, nat_lt, length, take, Bool, true, false, List, [], ◌∷◌, ◌++◌, Option, Some, None, if◌then◌else◌, refl, sym, ap, subst, ◌∙◌, arith, append_assoc, append-nil}
use Rattle.std.specs.Prelude.{nat_le, ◌||◌}
use Rattle.std.specs.List.{sum_by}
use Rattle.std.specs.Option.{option_map}
use Rattle.std.specs.Str.{chars}
use Rattle.std.proofs.lemmas.Bool.{true≢false, and_parts, eqb-true, leb-true}
use Rattle.std.proofs.lemmas.List.{take-append-drop}
use Rattle.std.proofs.lemmas.List.Sums.{sum_by_push, sum_by-cons}
use Rattle.js_terms.specs.declared.place.Loc.{Loc}
use Rattle.js_terms.specs.declared.place.Pos.{Pos}
use Rattle.js_text.specs.declared.goal.Goal.{Goal}
use Rattle.js_text.specs.declared.goal.Goal.TheVariants as goal
use Rattle.js_text.specs.declared.punctuator.Punctuator.{Punctuator}
use Rattle.js_text.specs.declared.punctuator.Punctuator.TheVariants as P
use Rattle.js_text.specs.Character.{starts_identifier}
use Rattle.js_text.specs.Punctuator.{spelling_of, longest_punctuator, is_for}
use Rattle.js_text.specs.Identifier.{is_backslash, after_first, word_of_bytes}
use Rattle.js_text.specs.Gap.{with_found}
use Rattle.js_text.specs.Number.{number_rest}
use Rattle.js_text.specs.Units.{string_rest, template_rest}
use Rattle.js_text.specs.RegularExpression.{body_rest}
use Rattle.js_text.specs.Place.{Place}
use Rattle.js_text.specs.Position.{ends_line, lines_ended, line_so_far, utf16_units, saturated, position_of}
use Rattle.js_text.specs.Token.{Token, Kind, End, RegularExpression, StringLiteral}
use Rattle.js_text.specs.Lex.{common_token, token_from, token_of, token_to, token_by, number_kind, template_kind, continued_kind, punctuator_of, slash_token, begins_comment, begins_number, is_quote, flags_rest, moved, token_place, token_after, next_token}
use Rattle.js_text.proofs.Position.{lines_ended-end, lines_ended-more, line_so_far-more}
use Rattle.js_reading.specs.Kinds.{is_kind}
use Rattle.js_reading.specs.Reads.{goal_of, after_gap_of, continued, next_for, Lexes, no_token, one_more, start_of}
use Rattle.js_reading.specs.Found.{same_start, Apart}

-- ---- positions: the line, or the column on it, is greater after a character more

abbrev pub Later : ℕ → ℕ → ℕ → ℕ → Type 0
Later l c m d = (l < m) ⊎ ((l ≡ m) × (c < d))

later_trans : (l c m d n e : ℕ) → Later l c m d → Later m d n e → Later l c n e
later_trans l c m d n e (inl x) (inl y) = inl (omega arith)
later_trans l c m d n e (inl x) (inr y) = let z = y.0 in inl (omega arith)
later_trans l c m d n e (inr x) (inl y) = let z = x.0 in inl (omega arith)
later_trans l c m d n e (inr x) (inr y) = let p = x.1 in let q = y.1 in inr (x.0 ∙ y.0, omega arith)

abbrev pub units : List ℕ → List ℕ → ℕ
units b a = sum_by utf16_units (line_so_far b a)

some_units : (c : ℕ) → 1 ≤ utf16_units c
some_units c = elim (nat_lt c 0x1_0000) as (λ x. 1 ≤ (if x then 1 else 2)) [ true ↦ (omega arith) | false ↦ (omega arith) ]

step : (b a : List ℕ) (c : ℕ) → Later (lines_ended b (c ∷ a)) (units b (c ∷ a)) (lines_ended (b ++ c ∷ []) a) (units (b ++ c ∷ []) a)
step b a c = by_end (ends_line c a) refl
  where
    by_end : (x : Bool) → ends_line c a ≡ x → Later (lines_ended b (c ∷ a)) (units b (c ∷ a)) (lines_ended (b ++ c ∷ []) a) (units (b ++ c ∷ []) a)
    by_end true e = let p = lines_ended-end b a c e in inl (omega arith)
    by_end false e =
        let p = lines_ended-more b a c e in
        let q : units (b ++ c ∷ []) a ≡ units b (c ∷ a) + utf16_units c = ap (sum_by utf16_units) (line_so_far-more b a c e) ∙ sum_by_push utf16_units (line_so_far b (c ∷ a)) c in
        let r = some_units c in inr (sym p, omega arith)

later_on : (b xs a : List ℕ) (x : ℕ) → Later (lines_ended b (x ∷ (xs ++ a))) (units b (x ∷ (xs ++ a))) (lines_ended (b ++ x ∷ xs) a) (units (b ++ x ∷ xs) a)
later_on b [] a x = step b a x
later_on b (y ∷ ys) a x =
    later_trans _ _ (lines_ended (b ++ x ∷ []) (y ∷ (ys ++ a))) (units (b ++ x ∷ []) (y ∷ (ys ++ a))) _ _ (step b (y ∷ (ys ++ a)) x)
    (subst (λ z. Later (lines_ended (b ++ x ∷ []) (y ∷ (ys ++ a))) (units (b ++ x ∷ []) (y ∷ (ys ++ a))) (lines_ended z a) (units z a)) (append_assoc b (x ∷ []) (y ∷ ys)) (later_on (b ++ x ∷ []) ys a y))

lines_low : (b a : List ℕ) → lines_ended b a ≤ length b
lines_low [] a = omega arith
lines_low (c ∷ b) a = let r = lines_low b a in elim (ends_line c (b ++ a)) as (λ x. (if x then 1 else 0) + lines_ended b a ≤ length (c ∷ b)) [ true ↦ (omega arith) | false ↦ (omega arith) ]

few_units : (c : ℕ) → utf16_units c ≤ 2
few_units c = elim (nat_lt c 0x1_0000) as (λ x. (if x then 1 else 2) ≤ 2) [ true ↦ (omega arith) | false ↦ (omega arith) ]

units_low : (xs : List ℕ) → sum_by utf16_units xs ≤ length xs + length xs
units_low [] = omega arith
units_low (x ∷ xs) = let r = units_low xs in let q = sum_by-cons utf16_units x xs in let m = few_units x in omega arith

so_far_low : (b a : List ℕ) → units b a ≤ length b + length b
so_far_low [] a = omega arith
so_far_low (c ∷ b) a =
    let r = so_far_low b a in
    let s = units_low (c ∷ b) in
    elim (lines_ended (c ∷ b) a == 0) as (λ x. sum_by utf16_units (if x then c ∷ b else line_so_far b a) ≤ length (c ∷ b) + length (c ∷ b)) [ true ↦ s | false ↦ (omega arith) ]

clash : (l c m d n : ℕ) → n < 2 ^ 30 → saturated (1 + l) ≡ saturated (1 + m) → saturated c ≡ saturated d → m ≤ n → d ≤ n + n → Later l c m d → ⊥
clash l c m d n small p q low lower (inl x) = omega arith
clash l c m d n small p q low lower (inr x) = let y = x.1 in omega arith

pub starts_apart : (b xs a : List ℕ) (x : ℕ) (l m : Loc) → length (b ++ x ∷ xs) < 2 ^ 30 → l.start ≡ position_of (record { before = b; after = x ∷ (xs ++ a) }) → m.start ≡ position_of (record { before = b ++ x ∷ xs; after = a }) → same_start l m ≡ false
starts_apart b xs a x l m small e f = by_test (same_start l m) refl
  where
    by_test : (t : Bool) → same_start l m ≡ t → same_start l m ≡ false
    by_test false q = q
    by_test true q =
        let both = and_parts (l.start.line == m.start.line) (l.start.column == m.start.column) q in
        absurd (clash (lines_ended b (x ∷ (xs ++ a))) (units b (x ∷ (xs ++ a))) (lines_ended (b ++ x ∷ xs) a) (units (b ++ x ∷ xs) a) (length (b ++ x ∷ xs)) small
        (sym (ap (λ (p : Pos). p.line) e) ∙ eqb-true l.start.line m.start.line both.0 ∙ ap (λ (p : Pos). p.line) f)
        (sym (ap (λ (p : Pos). p.column) e) ∙ eqb-true l.start.column m.start.column both.1 ∙ ap (λ (p : Pos). p.column) f)
        (lines_low (b ++ x ∷ xs) a) (so_far_low (b ++ x ∷ xs) a) (later_on b xs a x))

-- ---- places further on

pub record Onto (p q : Place) : Type 0 where
  pub some : List ℕ
  pub befores : q.before ≡ p.before ++ some
  pub afters : p.after ≡ some ++ q.after

pub onto_same : (p : Place) → Onto p p
onto_same p = record { some = []; befores = sym (append-nil p.before); afters = refl }

pub onto_on : {p q r : Place} → Onto p q → Onto q r → Onto p r
onto_on {p = p} {q = q} {r = r} a b = record {
  some = a.some ++ b.some;
  befores = b.befores ∙ ap (λ x. x ++ b.some) a.befores ∙ append_assoc p.before a.some b.some;
  afters = a.afters ∙ ap (λ x. a.some ++ x) b.afters ∙ sym (append_assoc a.some b.some r.after);
}

pub onto_moved : (n : ℕ) (p : Place) → Onto p (moved n p)
onto_moved n p = record { some = take n p.after; befores = refl; afters = sym (take-append-drop n p.after) }

-- ---- a token has characters

abbrev pub Moves : List ℕ → ℕ → Type 0
Moves cs n = (x : ℕ) × (xs : List ℕ) × (take n cs ≡ x ∷ xs)

abbrev pub Counted : List ℕ → Option (Kind × ℕ) → Type 0
Counted cs None = Unit {0}
Counted cs (Some k) = is_kind End k.0 ≡ false → Moves cs k.1

moves_some : (n c : ℕ) (cs : List ℕ) → 1 ≤ n → Moves (c ∷ cs) n
moves_some zero c cs h = absurd (omega arith)
moves_some (suc n) c cs h = (c, take n cs, refl)

counted_to : (kind : List ℕ → Kind) (c : ℕ) (cs : List ℕ) (o : Option (List ℕ)) → Counted (c ∷ cs) (token_to kind c cs o)
counted_to kind c cs None = tt
counted_to kind c cs (Some rest) = λ h. moves_some (1 + (length cs - length rest)) c cs (omega arith)

counted_by : (kind : Bool → List ℕ → Kind) (c : ℕ) (cs : List ℕ) (o : Option (Bool × List ℕ)) → Counted (c ∷ cs) (token_by kind c cs o)
counted_by kind c cs None = tt
counted_by kind c cs (Some found) = λ h. moves_some (1 + (length cs - length found.1)) c cs (omega arith)

counted_if : (cs : List ℕ) (b : Bool) (x y : Option (Kind × ℕ)) → Counted cs x → Counted cs y → Counted cs (if b then x else y)
counted_if cs true x y h k = h
counted_if cs false x y h k = k

spelled : (p : Punctuator) → nat_le 1 (length (spelling_of p)) ≡ true
spelled P.UnsignedShiftRightAssign = refl
spelled p = refl

counted_mark : (g : Goal) (c : ℕ) (cs : List ℕ) (o : Option Punctuator) → Counted (c ∷ cs) (punctuator_of g o)
counted_mark g c cs None = tt
counted_mark g c cs (Some p) = counted_if (c ∷ cs) (is_for g p) _ _ (λ h. moves_some (length (spelling_of p)) c cs (leb-true 1 (length (spelling_of p)) (spelled p))) tt

counted_slash : (g : Goal) (cs : List ℕ) → Counted (0x2F ∷ cs) (slash_token g cs)
counted_slash goal.RegExp cs = counted_to RegularExpression 0x2F cs (with_found (body_rest false false cs) flags_rest None)
counted_slash goal.Div cs = counted_mark goal.Div 0x2F cs (longest_punctuator (0x2F ∷ cs))
counted_slash goal.Template cs = counted_mark goal.Template 0x2F cs (longest_punctuator (0x2F ∷ cs))

slash_first : (c : ℕ) (cs : List ℕ) (o : Option (Kind × ℕ)) → (c == 0x2F) ≡ true → Counted (0x2F ∷ cs) o → Counted (c ∷ cs) o
slash_first c cs o h k = subst (λ x. Counted (x ∷ cs) o) (sym (eqb-true c 0x2F h)) k

counted_from : (g : Goal) (c : ℕ) (cs : List ℕ) → Counted (c ∷ cs) (token_from g c cs)
counted_from g c cs =
    counted_if (c ∷ cs) (starts_identifier c || is_backslash c) _ _ (counted_to word_of_bytes c cs (after_first c cs))
    (counted_if (c ∷ cs) (begins_number c cs) _ _ (counted_by number_kind c cs (number_rest c cs))
    (counted_if (c ∷ cs) (is_quote c) _ _ (counted_to StringLiteral c cs (string_rest c zero cs))
    (counted_if (c ∷ cs) (c == 0x60) _ _ (counted_by template_kind c cs (template_rest zero cs)) (by_slash (c == 0x2F) refl))))
  where
    by_slash : (b : Bool) → (c == 0x2F) ≡ b → Counted (c ∷ cs) (if b then (if begins_comment cs then None else slash_token g cs) else punctuator_of g (longest_punctuator (c ∷ cs)))
    by_slash true e = counted_if (c ∷ cs) (begins_comment cs) None (slash_token g cs) tt (slash_first c cs (slash_token g cs) e (counted_slash g cs))
    by_slash false e = counted_mark g c cs (longest_punctuator (c ∷ cs))

counted_common : (g : Goal) (cs : List ℕ) → Counted cs (common_token g cs)
unfolding common_token
counted_common g [] = λ h. absurd (true≢false h)
counted_common g (c ∷ cs) = counted_from g c cs

counted_of : (g : Goal) (cs : List ℕ) → Counted cs (token_of g cs)
counted_of goal.Div cs = counted_common goal.Div cs
counted_of goal.RegExp cs = counted_common goal.RegExp cs
counted_of goal.Template [] = tt
counted_of goal.Template (c ∷ cs) = counted_if (c ∷ cs) (c == 0x7D) _ _ (counted_by continued_kind c cs (template_rest zero cs)) tt

-- ---- where a token stands, and the place after it

pub record Stands (q r : Place) (t : Token) : Type 0 where
  pub start : Place
  pub onto : Onto q start
  pub at : t.loc.start ≡ position_of start
  pub on : Onto start r
  pub moves : is_kind End t.kind ≡ false → (x : ℕ) × (xs : List ℕ) × (on.some ≡ x ∷ xs)

stands_next : (g : Goal) (q : Place) (x : Token × Place) → next_token g q ≡ Some x → Stands q x.1 x.0
unfolding onto_moved
stands_next g q x h = by_found (token_of g (token_place g q).after) (counted_of g (token_place g q).after) h
  where
    here : (k : Kind × ℕ) → Counted (token_place g q).after (Some k) → Stands q (moved k.1 (token_place g q)) (token_after g k.0 q (moved k.1 (token_place g q)))
    here k counted = record { start = token_place g q; onto = onto_moved _ q; at = refl; on = onto_moved k.1 (token_place g q); moves = counted }

    by_found : (o : Option (Kind × ℕ)) → Counted (token_place g q).after o → option_map (λ found. (token_after g found.0 q (moved found.1 (token_place g q)), moved found.1 (token_place g q))) o ≡ Some x → Stands q x.1 x.0
    by_found None counted k = absurd cc
    by_found (Some k) counted e = let same : (token_after g k.0 q (moved k.1 (token_place g q)), moved k.1 (token_place g q)) ≡ x = cc in subst (λ (y : Token × Place). Stands q y.1 y.0) same (here k counted)

pub stands_for : (g : Goal) (q : Place) (x : Token × Place) → next_for g q ≡ Some x → Stands q x.1 x.0
stands_for goal.Div q x h = stands_next goal.Div q x h
stands_for goal.RegExp q x h = stands_next goal.RegExp q x h
stands_for goal.Template q x h = by_brace (next_token goal.Div q) h
  where
    by_part : (brace : Token × Place) (o : Option (Token × Place)) → next_token goal.Template (token_place goal.Div q) ≡ o → option_map (after_gap_of brace.0) o ≡ Some x → Stands q x.1 x.0
    by_part brace None e k = absurd cc
    by_part brace (Some part) e k =
        let s = stands_next goal.Template (token_place goal.Div q) part e in
        let same : after_gap_of brace.0 part ≡ x = cc in
        subst (λ (y : Token × Place). Stands q y.1 y.0) same (record { start = s.start; onto = onto_on (onto_moved _ q) s.onto; at = s.at; on = s.on; moves = s.moves })

    by_brace : (o : Option (Token × Place)) → continued q o ≡ Some x → Stands q x.1 x.0
    by_brace None k = absurd cc
    by_brace (Some brace) k = by_part brace (next_token goal.Template (token_place goal.Div q)) refl k

-- ---- the tokens of a text

record Split (p : Place) (t : Token) (us : List Token) (end : Place) : Type 0 where
  pub here : Place
  pub next : Place
  pub onto : Onto p here
  pub read : next_for (goal_of t.kind) here ≡ Some (t, next)
  pub rest : Lexes next us end

split_at : {p end : Place} {ts : List Token} (vs us : List Token) (t : Token) → Lexes p ts end → ts ≡ vs ++ t ∷ us → Split p t us end
split_at {p = p} {end = end} [] us t (one_more {between = r} h d) e = by_same h d e
  where
    by_same : {v : Token} {vs : List Token} → next_for (goal_of v.kind) p ≡ Some (v, r) → Lexes r vs end → v ∷ vs ≡ t ∷ us → Split p t us end
    by_same {v = v} {vs = ws} h d e =
        let a : v ≡ t = cc in
        let b : ws ≡ us = cc in
        record { here = p; next = r; onto = onto_same p; read = subst (λ x. next_for (goal_of x.kind) p ≡ Some (x, r)) a h; rest = subst (λ x. Lexes r x end) b d }
split_at {p = p} {end = end} (v ∷ vs) us t (one_more {between = r} {token = w} {tokens = ws} h d) e =
    let b : ws ≡ vs ++ t ∷ us = cc in
    let s = stands_for (goal_of w.kind) p (w, r) h in
    let m = split_at vs us t d b in
    record { here = m.here; next = m.next; onto = onto_on (onto_on s.onto s.on) m.onto; read = m.read; rest = m.rest }
split_at [] us t no_token e = absurd cc
split_at (v ∷ vs) us t no_token e = absurd cc

pub length_append : (xs ys : List ℕ) → length (xs ++ ys) ≡ length xs + length ys
length_append [] ys = omega arith
length_append (x ∷ xs) ys = let r = length_append xs ys in omega arith

onto_low : {p q : Place} → Onto p q → length q.before ≤ length p.before + length p.after
onto_low {p = p} {q = q} o =
    let a = ap length o.befores ∙ length_append p.before o.some in
    let b = ap length o.afters ∙ length_append o.some q.after in omega arith

-- a token that has characters, and one that stands on from after it
stands_apart : {q r v w : Place} (t u : Token) (a : Stands q r t) (b : Stands v w u) → Onto r b.start → is_kind End t.kind ≡ false → length b.start.before < 2 ^ 30 → same_start t.loc u.loc ≡ false
stands_apart {r = r} t u a b o no_end small =
    starts_apart a.start.before (m.1 ++ o.some) b.start.after m.0 t.loc u.loc (subst (λ x. length x < 2 ^ 30) whole small)
    (a.at ∙ ap (λ x. position_of (record { before = a.start.before; after = x })) after_is)
    (b.at ∙ ap (λ x. position_of (record { before = x; after = b.start.after })) whole)
  where
    m : (x : ℕ) × (xs : List ℕ) × (a.on.some ≡ x ∷ xs)
    m = a.moves no_end

    whole : b.start.before ≡ a.start.before ++ m.0 ∷ (m.1 ++ o.some)
    whole = o.befores ∙ ap (λ x. x ++ o.some) (a.on.befores ∙ ap (λ x. a.start.before ++ x) m.2) ∙ append_assoc a.start.before (m.0 ∷ m.1) o.some

    after_is : a.start.after ≡ m.0 ∷ ((m.1 ++ o.some) ++ b.start.after)
    after_is = a.on.afters ∙ ap (λ x. x ++ r.after) m.2 ∙ ap (λ x. m.0 ∷ (m.1 ++ x)) o.afters ∙ ap (λ x. m.0 ∷ x) (sym (append_assoc m.1 o.some b.start.after))

lexed_apart : {p end : Place} {ts : List Token} → Lexes p ts end → length p.before + length p.after < 2 ^ 30 → Apart ts
lexed_apart {p = p} d small before between after t u are no_end =
    let a = split_at before (between ++ u ∷ after) t d are in
    let s = stands_for (goal_of t.kind) a.here (t, a.next) a.read in
    let b = split_at between after u a.rest refl in
    let r = stands_for (goal_of u.kind) b.here (u, b.next) b.read in
    let o = onto_on b.onto r.onto in
    let low = onto_low (onto_on (onto_on a.onto s.onto) (onto_on s.on o)) in
    stands_apart t u s r o no_end (omega arith)

-- no two tokens of a text of fewer than 2^30 characters start at one place, but its ends
pub text_apart : (text : List ℕ) (ts : List Token) (end : Place) → Lexes (start_of text) ts end → length (chars text) < 2 ^ 30 → Apart ts
text_apart text ts end d small = lexed_apart d (omega arith)
