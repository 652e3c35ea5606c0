-- A pass over the places of a text comes to one of a position that it has.
use Rattle.std.proofs.Common.{◌≡◌, ℕ, ◌+◌, ◌≤◌, List, [], ◌∷◌, ◌++◌, length, Option, None, Some, is_some, IfSome, IfNone, true, false, sym, ap, subst, ◌∙◌, arith, append_assoc}
use Rattle.std.proofs.lemmas.Bool.{true≢false}
use Rattle.js_terms.specs.declared.place.Pos.{Pos}
use Rattle.js_text.specs.Place.{Place}
use Rattle.js_text.specs.Position.{position_of}
use Rattle.js_text.specs.Lex.{characters_of}
use Rattle.js_reading.proofs.goals.Apart.{length_append}

-- no place of this position stands before
abbrev pub NoneBefore : List ℕ → Pos → Place → Type 0
NoneBefore text position here = (p : Place) → characters_of p ≡ text → position_of p ≡ position → length here.before ≤ length p.before

abbrev between : List ℕ → List ℕ → Place
between b a = record { before = b; after = a }

-- places of a text after as many characters are one
one_place : (b a d e : List ℕ) → b ++ a ≡ d ++ e → length b ≡ length d → between b a ≡ between d e
one_place [] a [] e h n = ap (λ x. between [] x) h
one_place [] a (y ∷ d) e h n = absurd (omega arith)
one_place (x ∷ b) a [] e h n = absurd (omega arith)
one_place (x ∷ b) a (y ∷ d) e h n =
    let head : x ≡ y = cc in
    let rest : b ++ a ≡ d ++ e = cc in
    ap (λ (p : Place). between (x ∷ p.before) p.after) (one_place b a d e rest (omega arith)) ∙ ap (λ z. between (z ∷ d) e) head

same_place : (text : List ℕ) (p q : Place) → characters_of p ≡ text → characters_of q ≡ text → length p.before ≡ length q.before → p ≡ q
same_place text p q h k n = one_place p.before p.after q.before q.after (h ∙ sym k) n

pub at_start : (text : List ℕ) (position : Pos) (here : Place) → here.before ≡ [] → NoneBefore text position here
at_start text position here h p within is = subst (λ x. length x ≤ length p.before) (sym h) (omega arith)

-- over a place of another position
pub none_on : (text : List ℕ) (position : Pos) (here next : Place) (c : ℕ) → characters_of here ≡ text → (position_of here ≡ position → ⊥) → next.before ≡ here.before ++ c ∷ [] → NoneBefore text position here → NoneBefore text position next
none_on text position here next c within other moved none p within_p is =
    let low = none p within_p is in
    let differ : length here.before ≡ length p.before → ⊥ = λ n. other (ap position_of (same_place text here p within within_p n) ∙ is) in
    let one_more : length next.before ≡ length here.before + 1 = ap length moved ∙ length_append here.before (c ∷ []) in
    above (length here.before) (length p.before) (length next.before) low differ one_more
  where
    above : (m n k : ℕ) → m ≤ n → (m ≡ n → ⊥) → k ≡ m + 1 → k ≤ n
    above m n k low differ is = omega (arith, differ)

pub same_text : (text : List ℕ) (here next : Place) (c : ℕ) → characters_of here ≡ text → here.after ≡ c ∷ next.after → next.before ≡ here.before ++ c ∷ [] → characters_of next ≡ text
same_text text here next c within after before = ap (λ x. x ++ next.after) before ∙ append_assoc here.before (c ∷ []) next.after ∙ ap (λ x. here.before ++ x) (sym after) ∙ within

-- the end of the text is no other place than that
pub at_end : (text : List ℕ) (position : Pos) (here p : Place) → characters_of here ≡ text → here.after ≡ [] → NoneBefore text position here → characters_of p ≡ text → position_of p ≡ position → position_of here ≡ position
at_end text position here p within end none within_p is =
    let low = none p within_p is in
    let whole : length here.before + length here.after ≡ length text = sym (length_append here.before here.after) ∙ ap length within in
    let other : length p.before + length p.after ≡ length text = sym (length_append p.before p.after) ∙ ap length within_p in
    let over : length here.after ≡ 0 = ap length end in
    ap position_of (same_place text here p within within_p (omega arith)) ∙ is

-- over the next character
pub passed : (text : List ℕ) (position : Pos) (here next : Place) (r : Option ℕ) → IfSome r (λ c. here.after ≡ c ∷ next.after) → IfSome r (λ c. next.before ≡ here.before ++ c ∷ []) → is_some r ≡ true →
    characters_of here ≡ text → (position_of here ≡ position → ⊥) → NoneBefore text position here → (characters_of next ≡ text) × NoneBefore text position next
passed text position here next None after before is within other none = absurd (true≢false (sym is))
passed text position here next (Some c) after before is within other none = (same_text text here next c within after before, none_on text position here next c within other before none)

pub over : (here : Place) (r : Option ℕ) → IfNone r (here.after ≡ []) → is_some r ≡ false → here.after ≡ []
over here None h is = h
over here (Some c) h is = absurd (true≢false is)

pub same_position : (p q : Pos) → p.line ≡ q.line → p.column ≡ q.column → p ≡ q
same_position p q h k = ap (λ l. record { line = l; column = p.column }) h ∙ ap (λ n. record { line = q.line; column = n }) k
