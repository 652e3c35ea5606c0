-- What follows from the definition of the next token: there is one at most, it is a part of the text, and it goes on.
use Rattle.std.proofs.Common.{◌≡◌, ℕ, zero, suc, ◌+◌, ◌-◌, ◌<◌, ◌≤◌, ◌==◌, ◌||◌, Bool, true, false, cond, List, [], ◌∷◌, ◌++◌, length, take, drop, Option, Some, None, encode_utf8_all, refl, sym, ap, ◌∙◌, subst, arith, ◌⊎◌, inl, inr}
use Rattle.std.specs.List.{list_any}
use Rattle.std.specs.Option.{option_map}
use Rattle.std.proofs.Math.Seq.{take-append_seam, drop-append_seam}
use Rattle.std.proofs.lemmas.Bool.{and_parts, eqb-true}
use Rattle.std.proofs.lemmas.List.{length-drop}
use Rattle.std.proofs.lemmas.Str.{encodes-append}
use Rattle.js_text.specs.Place.{Place}
use Rattle.js_text.specs.Character.{starts_identifier}
use Rattle.js_text.specs.Gap.{with_found}
use Rattle.js_text.specs.Identifier.{is_backslash, after_first, word_of_bytes}
use Rattle.js_text.specs.Number.{number_rest}
use Rattle.js_text.specs.Units.{string_rest, template_rest}
use Rattle.js_text.specs.RegularExpression.{body_rest}
use Rattle.js_text.specs.declared.punctuator.Punctuator.{Punctuator}
use Rattle.js_text.specs.declared.punctuator.Punctuator.TheVariants.{UnsignedShiftRightAssign}
use Rattle.js_text.specs.Punctuator.{spelling_of, begins_with, begins_with_punctuator, punctuators, first_punctuator, longest_punctuator, is_for}
use Rattle.js_text.specs.Token as T
use Rattle.js_text.specs.declared.goal.Goal.{Goal}
use Rattle.js_text.specs.declared.goal.Goal.TheVariants.{Div, RegExp, Template}
use Rattle.js_text.specs.Token.{Kind, Word, EscapedWord, StringLiteral, RegularExpression, End, Token, spelling}
use Rattle.js_text.specs.Lex.{common_token, continued_token, token_of, token_to, token_by, number_kind, template_kind, continued_kind, begins_number, is_quote, punctuator_of, flags_rest, begins_comment, slash_token, moved, gap_run, token_place, token_after, next_token, offset_of, characters_of, Lex}
use Rattle.js_text.proofs.Place.{place_at-here, length-encodes-append}
use Rattle.js_lexer.proofs.Places.{characters_of-moved, encodes-take-drop}

-- ---- one token at most

abbrev first : Token × Place → Token
first found = found.0

only_one : {x y : Token × Place} → Some x ≡ Some y → x ≡ y
only_one h = cc

-- two runs over one text go the same way
pub next_once : (goal : Goal) (p q r : Place) (t u : Token) → next_token goal p ≡ Some (t, q) → next_token goal p ≡ Some (u, r) → (t ≡ u) × (q ≡ r)
next_once goal p q r t u h k =
    let same = only_one (sym h ∙ k) in
    (ap (λ (z : Token × Place). z.0) same, ap (λ (z : Token × Place). z.1) same)

pub lex_once : (goal : Goal) (text : List ℕ) (at : ℕ) (t u : Token) → Lex goal text at t → Lex goal text at u → t ≡ u
lex_once goal text at t u h k = let same : Some t ≡ Some u = sym h ∙ k in cc

-- the next token from a place on stands there in its text
pub lex-here : (goal : Goal) (p q : Place) (t : Token) → next_token goal p ≡ Some (t, q) → Lex goal (characters_of p) (offset_of p) t
lex-here goal p q t h = ap (λ (r : Place). option_map first (next_token goal r)) (place_at-here p) ∙ ap (option_map first) h

-- and where no token stands next, none does
pub no_lex-here : (goal : Goal) (p : Place) (t : Token) → next_token goal p ≡ None → Lex goal (characters_of p) (offset_of p) t → ⊥
no_lex-here goal p t h lex =
    let none : option_map first (next_token goal p) ≡ None = ap (option_map first) h in
    let some : option_map first (next_token goal p) ≡ Some t = sym (ap (λ (r : Place). option_map first (next_token goal r)) (place_at-here p)) ∙ lex in
    cc

-- ---- what was found

-- a token of this kind and of this many characters stands there
pub record Found (goal : Goal) (p q : Place) (t : Token) : Type 0 where
  pub kind : Kind
  pub count : ℕ
  pub is : token_of goal (token_place goal p).after ≡ Some (kind, count)
  pub token : t ≡ token_after goal kind p (moved count (token_place goal p))
  pub place : q ≡ moved count (token_place goal p)

pub found : (goal : Goal) (p q : Place) (t : Token) → next_token goal p ≡ Some (t, q) → Found goal p q t
found goal p q t h = by_token (token_of goal (token_place goal p).after) refl h
  where
    by_token : (o : Option (Kind × ℕ)) → token_of goal (token_place goal p).after ≡ o →
        option_map {U = Token × Place} (λ (f : Kind × ℕ). (token_after goal f.0 p (moved f.1 (token_place goal p)), moved f.1 (token_place goal p))) o ≡ Some (t, q) →
        Found goal p q t
    by_token None e h = absurd cc
    by_token (Some (kind, count)) e h = record {
      kind = kind;
      count = count;
      is = e;
      token = sym (ap (λ (z : Token × Place). z.0) (only_one h));
      place = sym (ap (λ (z : Token × Place). z.1) (only_one h));
    }

-- the text stays
pub next_token-text : (goal : Goal) (p q : Place) (t : Token) → next_token goal p ≡ Some (t, q) → characters_of q ≡ characters_of p
next_token-text goal p q t h =
    let f = found goal p q t h in
    ap characters_of f.place ∙ characters_of-moved f.count (token_place goal p) ∙ characters_of-moved (length (gap_run goal p)) p

-- ---- places and bytes

pub offset_of-moved : (n : ℕ) (p : Place) → offset_of (moved n p) ≡ offset_of p + length (encode_utf8_all (take n p.after))
offset_of-moved n p = length-encodes-append p.before (take n p.after)

pub offset_of-token_place : (goal : Goal) (p : Place) → offset_of p ≤ offset_of (token_place goal p)
offset_of-token_place goal p = omega (arith, offset_of-moved (length (gap_run goal p)) p)

-- a token starts at or after the end of the one before
pub next_token-start : (goal : Goal) (p q : Place) (t : Token) → next_token goal p ≡ Some (t, q) → offset_of p ≤ t.span.start
next_token-start goal p q t h =
    let f = found goal p q t h in
    subst (λ n. offset_of p ≤ n) (sym (ap (λ (u : Token). u.span.start) f.token)) (offset_of-token_place goal p)

-- and ends at or after its own start, where the next place is
pub next_token-order : (goal : Goal) (p q : Place) (t : Token) → next_token goal p ≡ Some (t, q) → t.span.start ≤ t.span.end
next_token-order goal p q t h =
    let f = found goal p q t h in
    let start = ap (λ (u : Token). u.span.start) f.token in
    let end = ap (λ (u : Token). u.span.end) f.token in
    omega (arith, start, end, offset_of-moved f.count (token_place goal p))

pub next_token-end : (goal : Goal) (p q : Place) (t : Token) → next_token goal p ≡ Some (t, q) → offset_of q ≡ t.span.end
next_token-end goal p q t h =
    let f = found goal p q t h in
    ap offset_of f.place ∙ sym (ap (λ (u : Token). u.span.end) f.token)

-- the bytes that a move takes are a slice of the text
pub moved-slice : (n : ℕ) (p : Place) →
    take (offset_of (moved n p) - offset_of p) (drop (offset_of p) (encode_utf8_all (characters_of p))) ≡ encode_utf8_all (take n p.after)
moved-slice n p =
    let before = encode_utf8_all p.before in
    let run = encode_utf8_all (take n p.after) in
    let rest = encode_utf8_all (drop n p.after) in
    let whole : encode_utf8_all (characters_of p) ≡ before ++ (run ++ rest) = encodes-append p.before p.after ∙ ap (λ xs. before ++ xs) (encodes-take-drop n p.after) in
    let size : offset_of (moved n p) - offset_of p ≡ length run = omega (arith, offset_of-moved n p) in
    ap (λ k. take k (drop (offset_of p) (encode_utf8_all (characters_of p)))) size
    ∙ ap (λ bs. take (length run) (drop (offset_of p) bs)) whole
    ∙ ap (take (length run)) (drop-append_seam before (run ++ rest))
    ∙ take-append_seam run rest

-- ---- the spelling is what stands there

-- every punctuator is spelled in ASCII
encodes-spelling_of : (p : Punctuator) → encode_utf8_all (spelling_of p) ≡ spelling_of p
unfolding lib.Utf8.encode
encodes-spelling_of UnsignedShiftRightAssign = refl
encodes-spelling_of _ = refl

take-begins_with : (text cs : List ℕ) → begins_with text cs ≡ true → take (length text) cs ≡ text
take-begins_with [] cs h = refl
take-begins_with (x ∷ text) [] h = absurd cc
take-begins_with (x ∷ text) (c ∷ cs) h =
    let parts = and_parts _ _ h in
    let same : c ≡ x = eqb-true c x parts.0 in
    let more : length (x ∷ text) ≡ suc (length text) = omega arith in
    ap (λ n. take n (c ∷ cs)) more ∙ ap (λ y. y ∷ take (length text) cs) same ∙ ap (λ xs. x ∷ xs) (take-begins_with text cs parts.1)

abbrev StartsWith : List ℕ → Option Punctuator → Type 0
StartsWith cs None = Unit {0}
StartsWith cs (Some p) = begins_with (spelling_of p) cs ≡ true

first_punctuator-begins : (ps : List Punctuator) (cs : List ℕ) → StartsWith cs (first_punctuator ps cs)
first_punctuator-begins [] cs = tt
first_punctuator-begins (p ∷ ps) cs = by_test (begins_with_punctuator p cs) refl (first_punctuator-begins ps cs)
  where
    by_test : (b : Bool) → begins_with_punctuator p cs ≡ b → StartsWith cs (first_punctuator ps cs) → StartsWith cs (cond b (Some p) (first_punctuator ps cs))
    by_test true e rest = (and_parts _ _ e).0
    by_test false e rest = rest

longest_punctuator-begins : (cs : List ℕ) → StartsWith cs (longest_punctuator cs)
unfolding longest_punctuator
longest_punctuator-begins cs = first_punctuator-begins punctuators cs

-- a token is spelled by the characters that it takes, and is the end, where nothing follows, or takes one at least
abbrev Fits : List ℕ → Option (Kind × ℕ) → Type 0
Fits cs None = Unit {0}
Fits cs (Some (kind, count)) = (spelling kind ≡ encode_utf8_all (take count cs)) × (((kind ≡ End) × (cs ≡ [])) ⊎ ((0 < count) × (0 < length cs)))

-- a kind that has these bytes is spelled by them
abbrev Lends : (List ℕ → Kind) → Type 0
Lends kind = (bytes : List ℕ) → spelling (kind bytes) ≡ bytes

fits-to : (kind : List ℕ → Kind) → Lends kind → (c : ℕ) (cs : List ℕ) (rest : Option (List ℕ)) → Fits (c ∷ cs) (token_to kind c cs rest)
fits-to kind lends c cs None = tt
fits-to kind lends c cs (Some rest) = (lends (encode_utf8_all (take (1 + (length cs - length rest)) (c ∷ cs))), inr (omega arith, omega arith))

fits-by : (kind : Bool → List ℕ → Kind) → ((b : Bool) → Lends (kind b)) → (c : ℕ) (cs : List ℕ) (found : Option (Bool × List ℕ)) → Fits (c ∷ cs) (token_by kind c cs found)
fits-by kind lends c cs None = tt
fits-by kind lends c cs (Some found) = (lends found.0 (encode_utf8_all (take (1 + (length cs - length found.1)) (c ∷ cs))), inr (omega arith, omega arith))

lends-word : Lends word_of_bytes
lends-word bytes = elim (list_any is_backslash bytes) as (λ b. spelling (cond b (EscapedWord bytes) (Word bytes)) ≡ bytes) [ true ↦ refl | false ↦ refl ]

lends-number : (b : Bool) → Lends (number_kind b)
lends-number true bytes = refl
lends-number false bytes = refl

lends-template : (b : Bool) → Lends (template_kind b)
lends-template true bytes = refl
lends-template false bytes = refl

lends-continued : (b : Bool) → Lends (continued_kind b)
lends-continued true bytes = refl
lends-continued false bytes = refl

spelling_of-some : (p : Punctuator) → 0 < length (spelling_of p)
spelling_of-some UnsignedShiftRightAssign = omega arith
spelling_of-some _ = omega arith

fits-punctuator : (goal : Goal) (c : ℕ) (cs : List ℕ) (o : Option Punctuator) → StartsWith (c ∷ cs) o → Fits (c ∷ cs) (punctuator_of goal o)
fits-punctuator goal c cs None h = tt
fits-punctuator goal c cs (Some p) h = elim (is_for goal p) as (λ b. Fits (c ∷ cs) (cond b (Some (T.Punctuator p, length (spelling_of p))) None)) [
  | true ↦ (sym (ap encode_utf8_all (take-begins_with (spelling_of p) (c ∷ cs) h) ∙ encodes-spelling_of p), inr (spelling_of-some p, omega arith))
  | false ↦ tt
]

fits-longest : (goal : Goal) (c : ℕ) (cs : List ℕ) → Fits (c ∷ cs) (punctuator_of goal (longest_punctuator (c ∷ cs)))
fits-longest goal c cs = fits-punctuator goal c cs (longest_punctuator (c ∷ cs)) (longest_punctuator-begins (c ∷ cs))

fits-slash : (goal : Goal) (cs : List ℕ) → Fits (0x2F ∷ cs) (slash_token goal cs)
fits-slash Div cs = fits-longest Div 0x2F cs
fits-slash RegExp cs = fits-to RegularExpression (λ bytes. refl) 0x2F cs (with_found (body_rest false false cs) flags_rest None)
fits-slash Template cs = fits-longest Template 0x2F cs

fits-slash_or_comment : (goal : Goal) (cs : List ℕ) (b : Bool) → Fits (0x2F ∷ cs) (cond b None (slash_token goal cs))
fits-slash_or_comment goal cs true = tt
fits-slash_or_comment goal cs false = fits-slash goal cs

fits-common : (goal : Goal) (cs : List ℕ) → Fits cs (common_token goal cs)
unfolding common_token
fits-common goal [] = (refl, inl (refl, refl))
fits-common goal (c ∷ cs) = by_tests (starts_identifier c || is_backslash c) (begins_number c cs) (is_quote c) (c == 0x60) (c == 0x2F) refl
  where
    by_tests : (a b d e f : Bool) → (c == 0x2F) ≡ f → Fits (c ∷ cs) (cond a (token_to word_of_bytes c cs (after_first c cs))
        (cond b (token_by number_kind c cs (number_rest c cs))
        (cond d (token_to StringLiteral c cs (string_rest c zero cs))
        (cond e (token_by template_kind c cs (template_rest zero cs))
        (cond f (cond (begins_comment cs) None (slash_token goal cs)) (punctuator_of goal (longest_punctuator (c ∷ cs))))))))
    by_tests true b d e f h = fits-to word_of_bytes lends-word c cs (after_first c cs)
    by_tests false true d e f h = fits-by number_kind lends-number c cs (number_rest c cs)
    by_tests false false true e f h = fits-to StringLiteral (λ bytes. refl) c cs (string_rest c zero cs)
    by_tests false false false true f h = fits-by template_kind lends-template c cs (template_rest zero cs)
    by_tests false false false false true h =
        subst (λ (x : ℕ). Fits (x ∷ cs) (cond (begins_comment cs) None (slash_token goal cs))) (sym (eqb-true c 0x2F h)) (fits-slash_or_comment goal cs (begins_comment cs))
    by_tests false false false false false h = fits-longest goal c cs

fits-continued : (cs : List ℕ) → Fits cs (continued_token cs)
fits-continued [] = tt
fits-continued (c ∷ cs) = elim (c == 0x7D) as (λ b. Fits (c ∷ cs) (cond b (token_by continued_kind c cs (template_rest zero cs)) None)) [
  | true ↦ fits-by continued_kind lends-continued c cs (template_rest zero cs)
  | false ↦ tt
]

fits : (goal : Goal) (cs : List ℕ) → Fits cs (token_of goal cs)
fits Div cs = fits-common Div cs
fits RegExp cs = fits-common RegExp cs
fits Template cs = fits-continued cs

-- a token is spelled by the bytes of the text from its start to its end
pub next_token-spelled : (goal : Goal) (p q : Place) (t : Token) → next_token goal p ≡ Some (t, q) →
    spelling t.kind ≡ take (t.span.end - t.span.start) (drop t.span.start (encode_utf8_all (characters_of p)))
next_token-spelled goal p q t h =
    let f = found goal p q t h in
    let place = token_place goal p in
    let text : characters_of place ≡ characters_of p = characters_of-moved (length (gap_run goal p)) p in
    let spelled : spelling f.kind ≡ encode_utf8_all (take f.count place.after) = (subst (Fits place.after) f.is (fits goal place.after)).0 in
    ap (λ (u : Token). spelling u.kind) f.token ∙ spelled ∙ sym (moved-slice f.count place)
    ∙ ap (λ cs. take (offset_of (moved f.count place) - offset_of place) (drop (offset_of place) (encode_utf8_all cs))) text
    ∙ sym (ap (λ (u : Token). take (u.span.end - u.span.start) (drop u.span.start (encode_utf8_all (characters_of p)))) f.token)

-- ---- the text goes on

empty : (cs : List ℕ) → length cs ≡ 0 → cs ≡ []
empty [] h = refl
empty (c ∷ cs) h = absurd (omega arith)

-- what is left after a move
length-moved : (n : ℕ) (p : Place) → length (moved n p).after ≡ length p.after - n
length-moved n p = length-drop n p.after

goes_on : (t : Token) (p q start : Place) (kind : Kind) (gap count : ℕ) → t.kind ≡ kind → ((kind ≡ End) × (start.after ≡ [])) ⊎ ((0 < count) × (0 < length start.after)) →
    length start.after ≡ length p.after - gap → length q.after ≡ length start.after - count → ((t.kind ≡ End) × (q.after ≡ [])) ⊎ (length q.after < length p.after)
goes_on t p q start kind gap count is (inl end) before after =
    let none : length start.after ≡ 0 = ap length end.1 in
    inl (is ∙ end.0, empty q.after (omega arith))
goes_on t p q start kind gap count is (inr more) before after = inr (omega (arith, more.0, more.1))

-- a token is the end, after which nothing stands, or takes at least one character
pub next_token-advances : (goal : Goal) (p q : Place) (t : Token) → next_token goal p ≡ Some (t, q) → ((t.kind ≡ End) × (q.after ≡ [])) ⊎ (length q.after < length p.after)
next_token-advances goal p q t h =
    let f = found goal p q t h in
    let start = token_place goal p in
    let gap = length (gap_run goal p) in
    goes_on t p q start f.kind gap f.count (ap (λ (u : Token). u.kind) f.token) (subst (Fits start.after) f.is (fits goal start.after)).1
    (length-moved gap p) (ap (λ (r : Place). length r.after) f.place ∙ length-moved f.count start)
