-- What the slots of a production say: where one may end with an expression, and which lists of items are closed by a bracket.
use Rattle.std.proofs.Common.{◌≡◌, ℕ, Bool, true, false, not, ◌&&◌, List, [], ◌∷◌, ◌++◌, Option, Some, None, codes, if◌then◌else◌, refl, sym, ap, subst, ◌∙◌, append_assoc, append-nil}
use Rattle.std.specs.Prelude.{◌||◌}
use Rattle.std.proofs.lemmas.Bool.{cond-true, true≢false, and_parts}
use Rattle.js_terms.specs.declared.place.Loc.{Loc}
use Rattle.js_tree.specs.Plain.{Expr}
use Rattle.js_text.specs.Token.{Token}
use Rattle.js_text.specs.declared.punctuator.Punctuator.{Punctuator}
use Rattle.js_text.specs.declared.punctuator.Punctuator.TheVariants as P
use Rattle.js_reading.specs.Spans.{first}
use Rattle.js_reading.specs.Kinds.{is_kind}
use Rattle.js_reading.specs.Slots.{Wanted, Level, WithoutIn, Callee, Slot, Sign, Text, Expr_, Stmt_, Stmts_, Items_, Place_, By, Piece, AnExpr, Branch, Refuse, Pass, Go, Form, Class, Choice}
use Rattle.js_reading.specs.Slots as slot
use Rattle.js_reading.specs.Productions.{is_word, slots, begins_with, after_first, find, prefixes, joins, statements, as_it_is, prefix, statement, join, on_line, same_line}
use Rattle.js_reading.specs.Choices.{branch}
use Rattle.js_reading.specs.Makes.{bare_in}
use Rattle.js_reading.specs.Sentences.{bans}
use Rattle.js_reading.specs.Turns.{Frame, Config, place, begin_form, take_second, pass, banned}
use Rattle.js_reading.proofs.sentences.Branches.{branches, each, among}

-- ---- lists of tokens

abbrev pub others : List Token → Token → List Token → List Token
others [] next rest = rest
others (u ∷ us) next rest = us ++ next ∷ rest

pub split : (us : List Token) (next : Token) (rest : List Token) → us ++ next ∷ rest ≡ first us next ∷ others us next rest
split [] next rest = refl
split (u ∷ us) next rest = refl

pub first_append : (ts us : List Token) (next : Token) → first (ts ++ us) next ≡ first ts (first us next)
first_append [] us next = refl
first_append (t ∷ ts) us next = refl

pub others_append : (ts us : List Token) (next : Token) (rest : List Token) → others (ts ++ us) next rest ≡ others ts (first us next) (others us next rest)
others_append [] us next rest = refl
others_append (t ∷ ts) us next rest = append_assoc ts us (next ∷ rest) ∙ ap (λ x. ts ++ x) (split us next rest)

-- ---- slots that a token begins

abbrev pub taking : Slot → Bool
taking Place_ = false
taking Stmts_ = false
taking (By c) = false
taking s = true

abbrev pub closing : Punctuator → Bool
closing P.CloseParenthesis = true
closing P.CloseBracket = true
closing p = false

-- items are closed by `)` or `]`
abbrev pub plain_slot : Slot → Bool
plain_slot (Items_ p) = closing p
plain_slot s = true

abbrev pub plain : List Slot → Bool
plain [] = true
plain (s ∷ ss) = plain_slot s && plain ss

abbrev pub plain_branch : Branch → Bool
plain_branch (Go qs s rs) = taking s && plain (s ∷ rs)
plain_branch b = true

plain_branches : (c : Choice) → each plain_branch (branches c) ≡ true
plain_branches slot.Semicolon = refl
plain_branches c = refl

pub plain_form : (f : Form) → plain (slots f) ≡ true
plain_form slot.Parentheses = refl
plain_form f = refl

pub both_true : {x y : Bool} → x ≡ true → y ≡ true → (x && y) ≡ true
both_true {y = y} h k = ap (λ b. b && y) h ∙ k

pub plain_append : (rs ss : List Slot) → plain rs ≡ true → plain ss ≡ true → plain (rs ++ ss) ≡ true
plain_append [] ss h k = k
plain_append (r ∷ rs) ss h k = let a = and_parts (plain_slot r) (plain rs) h in both_true a.0 (plain_append rs ss a.1 k)

-- a branch that goes on begins with a slot that takes the token
pub taken_branch : (c : Choice) (t : Token) (qs : List Piece) (s : Slot) (rs : List Slot) → branch c t ≡ Go qs s rs → (taking s && plain (s ∷ rs)) ≡ true
taken_branch c t qs s rs h = subst (λ b. plain_branch b ≡ true) h (among c t plain_branch (plain_branches c))

-- ---- where a production may end with an expression

abbrev pub open_choice : Choice → Bool
open_choice slot.ConciseBody = true
open_choice slot.Arrow = true
open_choice slot.ValueOnLine = true
open_choice (slot.ValueBefore p) = true
open_choice c = false

abbrev pub open_slot : Slot → Bool
open_slot (Expr_ w) = true
open_slot (By c) = open_choice c
open_slot s = false

abbrev pub open_end : List Slot → Bool
open_end [] = false
open_end (s ∷ []) = open_slot s
open_end (s ∷ r ∷ ss) = open_end (r ∷ ss)

abbrev pub open_branch : Bool → Branch → Bool
open_branch b (Go qs s rs) = not (open_end (s ∷ rs)) || b
open_branch b x = true

open_branches : (c : Choice) → each (open_branch (open_choice c)) (branches c) ≡ true
open_branches slot.Semicolon = refl
open_branches c = refl

pub open_append : (s : Slot) (rs : List Slot) (r : Slot) (ss : List Slot) → open_end (s ∷ (rs ++ r ∷ ss)) ≡ open_end (r ∷ ss)
open_append s [] r ss = refl
open_append s (q ∷ rs) r ss = open_append q rs r ss

implied : (x b : Bool) → (not x || b) ≡ true → x ≡ true → b ≡ true
implied true b h k = h
implied false b h k = absurd (true≢false (sym k))

pub open_chosen : (c : Choice) (t : Token) (qs : List Piece) (s : Slot) (rs ss : List Slot) → branch c t ≡ Go qs s rs → open_end (s ∷ (rs ++ ss)) ≡ true → open_end (By c ∷ ss) ≡ true
open_chosen c t qs s rs [] h o =
    implied (open_end (s ∷ rs)) (open_choice c) (subst (λ b. open_branch (open_choice c) b ≡ true) h (among c t (open_branch (open_choice c)) (open_branches c))) (sym (ap (λ x. open_end (s ∷ x)) (append-nil rs)) ∙ o)
open_chosen c t qs s rs (r ∷ ss) h o = sym (open_append s rs r ss) ∙ o

pub open_drop : (s : Slot) (ss : List Slot) → open_end ss ≡ true → open_end (s ∷ ss) ≡ true
open_drop s [] h = absurd (true≢false (sym h))
open_drop s (r ∷ ss) h = h

-- the last piece is an expression with a bare `in`
abbrev pub bare_piece : Piece → Bool
bare_piece (AnExpr i e) = bare_in e
bare_piece p = false

abbrev pub last_bare : List Piece → Bool
last_bare [] = false
last_bare (p ∷ []) = bare_piece p
last_bare (p ∷ q ∷ ps) = last_bare (q ∷ ps)

pub last_is : (ps : List Piece) (p : Piece) → last_bare (ps ++ p ∷ []) ≡ bare_piece p
last_is [] p = refl
last_is (q ∷ []) p = refl
last_is (q ∷ r ∷ ps) p = last_is (r ∷ ps) p

-- ---- frames in which `in` is banned

abbrev pub without : Wanted → Bool
without (WithoutIn n) = true
without v = false

abbrev pub shut : List Frame → Bool
shut fs = without (place fs)

pub banned_shut : (t : Token) (fs : List Frame) → banned t fs ≡ true → (shut fs ≡ true) × (is_word (codes "in") t ≡ true)
banned_shut t fs h = by_place (place fs) h
  where
    by_place : (v : Wanted) → bans v t ≡ true → (without v ≡ true) × (is_word (codes "in") t ≡ true)
    by_place (WithoutIn n) k = (refl, k)
    by_place v k = absurd (true≢false (sym k))

-- ---- what is found

abbrev pub all : (Form → Bool) → List Form → Bool
all p [] = true
all p (f ∷ fs) = p f && all p fs

pub find_all : (p : Form → Bool) (part : List Slot → List Slot) (fs : List Form) (t : Token) (f : Form) → all p fs ≡ true → find part fs t ≡ Some f → (p f ≡ true) × (begins_with (part (slots f)) t ≡ true)
find_all p part [] t f a h = absurd cc
find_all p part (g ∷ fs) t f a h = by_test (begins_with (part (slots g)) t) refl (find_all p part fs t f (and_parts (p g) (all p fs) a).1) h
  where
    by_test : (b : Bool) → begins_with (part (slots g)) t ≡ b → (find part fs t ≡ Some f → (p f ≡ true) × (begins_with (part (slots f)) t ≡ true)) → (if b then Some g else find part fs t) ≡ Some f → (p f ≡ true) × (begins_with (part (slots f)) t ≡ true)
    by_test true e go q = let is : g ≡ f = cc in subst (λ x. (p x ≡ true) × (begins_with (part (slots x)) t ≡ true)) is ((and_parts (p g) (all p fs) a).0, e)
    by_test false e go q = go q

pub join_found : (t : Token) (f : Form) → join t ≡ Some f → find after_first joins t ≡ Some f
join_found t f h = by_form (find after_first joins t) h
  where
    by_form : (o : Option Form) → on_line t o ≡ Some f → o ≡ Some f
    by_form None q = absurd cc
    by_form (Some g) q = by_line (same_line g && t.line_terminator_before) q
      where
        by_line : (b : Bool) → (if b then None else Some g) ≡ Some f → Some g ≡ Some f
        by_line true r = absurd cc
        by_line false r = r

abbrev pub begins_sign : List Slot → Bool
begins_sign (Sign k ∷ ss) = true
begins_sign ss = false

abbrev pub nothing_asked : Form → Bool
nothing_asked f = true

pub begins_prefix : (t : Token) (f : Form) → prefix t ≡ Some f → begins_with (slots f) t ≡ true
begins_prefix t f h = (find_all nothing_asked as_it_is prefixes t f refl h).1

pub begins_statement : (t : Token) (f : Form) → statement t ≡ Some f → (open_end (slots f) ≡ false) × (begins_with (slots f) t ≡ true)
begins_statement t f h = let a = find_all (λ g. not (open_end (slots g))) as_it_is statements t f refl h in (not_true (open_end (slots f)) a.0, a.1)
  where
    not_true : (b : Bool) → not b ≡ true → b ≡ false
    not_true false q = refl
    not_true true q = absurd (true≢false (sym q))

pub begins_join : (t : Token) (f : Form) → join t ≡ Some f → (begins_sign (after_first (slots f)) ≡ true) × (begins_with (after_first (slots f)) t ≡ true)
begins_join t f h = find_all (λ g. begins_sign (after_first (slots g))) after_first joins t f refl (join_found t f h)

-- the first token of a production is taken by its first slot
pub begin_pass : (f : Form) (t : Token) (ss : List Slot) (fs : List Frame) (go : Option Piece → Loc → Option Config) → begins_with ss t ≡ true → begin_form f t ss fs ≡ pass f t.loc ss [] t.loc fs t go
begin_pass f t (Sign k ∷ ss) fs go h = sym (cond-true (is_kind k t.kind) _ _ h)
begin_pass f t (Text c ∷ ss) fs go h = refl
begin_pass f t ss fs go h = absurd (true≢false (sym h))

pub second_pass : (f : Form) (i : ℕ) (e : Expr) (l : Loc) (t : Token) (ss : List Slot) (fs : List Frame) (go : Option Piece → Loc → Option Config) → begins_sign ss ≡ true → begins_with ss t ≡ true →
    take_second f i e l fs t ss ≡ pass f l ss (AnExpr i e ∷ []) l fs t go
second_pass f i e l t (Sign k ∷ ss) fs go b h = sym (cond-true (is_kind k t.kind) _ _ h)
second_pass f i e l t ss fs go b h = absurd (true≢false (sym b))
