-- One character at a time.
use Rattle.std.proofs.Common.{◌≡◌, ℕ, ◌<◌, ◌≤◌, ◌==◌, Bool, true, false, not, eqb, List, [], ◌∷◌, ◌++◌, length, drop, slice_get, Option, Some, None, if◌then◌else◌, IfSome, IfNone, refl, sym, ap, ◌∙◌, arith, append_assoc, eq-eqb}
use Rattle.std.specs.Option.{option_eq}
use Rattle.std.proofs.lemmas.Bool.{eqb-true}
use Rattle.std.proofs.lemmas.List.{length-drop}
use Rattle.js_text.specs.Place.{Place}
use Rattle.js_text.specs.Position.{is_line_terminator}
use Rattle.js_text.specs.Comment.{single_line_rest}
use Rattle.js_text.specs.Lex.{past, characters_of}
use Rattle.js_text.specs.Number.{based_rest, decimal_number, whole_number, after_zero}
use Rattle.js_text.specs.RegularExpression.{body_rest}

-- the character that follows, and those after it
pub first_is : (cs : List ℕ) (c : ℕ) → slice_get cs 0 ≡ Some c → cs ≡ c ∷ drop 1 cs
first_is [] c h = absurd cc
first_is (d ∷ cs) c h = let same : d ≡ c = cc in ap (λ x. x ∷ cs) same

pub none_is : (cs : List ℕ) → slice_get cs 0 ≡ None → cs ≡ []
none_is [] h = refl
none_is (d ∷ cs) h = absurd cc

-- another character follows, or none; and this one does
pub another : (o : Option ℕ) (x : ℕ) → not (option_eq eqb o (Some x)) ≡ true → o ≡ Some x → ⊥
another None x h e = cc
another (Some c) x h e =
    let same : (c == x) ≡ true = (let is : c ≡ x = cc in eq-eqb c x is) in
    let never : false ≡ true = sym (ap not same) ∙ h in
    cc

pub this : (o : Option ℕ) (x : ℕ) → not (option_eq eqb o (Some x)) ≡ false → o ≡ Some x
this None x h = absurd cc
this (Some c) x h = by_test (c == x) refl h
  where
    by_test : (b : Bool) → (c == x) ≡ b → not b ≡ false → Some c ≡ Some x
    by_test true e k = ap Some (eqb-true c x e)
    by_test false e k = absurd cc

-- a move over one character, or over none at the end
pub advanced-rest : (p q : Place) (r : Option ℕ) → IfSome r (λ c. p.after ≡ c ∷ q.after) → IfNone r (p.after ≡ []) → IfNone r (q ≡ p) → q.after ≡ drop 1 p.after
advanced-rest p q None some none same = ap (λ (x : Place). x.after) same ∙ none ∙ sym (ap (drop 1) none)
advanced-rest p q (Some c) some none same = sym (ap (drop 1) some)

pub advanced-text : (p q : Place) (r : Option ℕ) → IfSome r (λ c. p.after ≡ c ∷ q.after) → IfSome r (λ c. q.before ≡ p.before ++ c ∷ []) → IfNone r (q ≡ p) → characters_of q ≡ characters_of p
advanced-text p q None after before same = ap characters_of same
advanced-text p q (Some c) after before same =
    ap (λ xs. xs ++ q.after) before ∙ append_assoc p.before (c ∷ []) q.after ∙ ap (λ xs. p.before ++ xs) (sym after)

pub advanced-onward : (p q : Place) → q.after ≡ drop 1 p.after → length q.after ≤ length p.after
advanced-onward p q rest = omega (arith, ap length rest, length-drop 1 p.after)

pub shorter : (cs ds : List ℕ) (c : ℕ) → slice_get cs 0 ≡ Some c → ds ≡ drop 1 cs → length ds < length cs
shorter cs ds c h rest = omega (arith, ap length rest, ap length (first_is cs c h))

-- ---- runs

pub past-step : (test : ℕ → Bool) (cs : List ℕ) (c : ℕ) → slice_get cs 0 ≡ Some c → test c ≡ true → past test cs ≡ past test (drop 1 cs)
past-step test cs c h t = ap (past test) (first_is cs c h) ∙ rw t refl

pub past-stop : (test : ℕ → Bool) (cs : List ℕ) (c : ℕ) → slice_get cs 0 ≡ Some c → test c ≡ false → past test cs ≡ cs
past-stop test cs c h t = ap (past test) (first_is cs c h) ∙ rw t (sym (first_is cs c h))

pub past-end : (test : ℕ → Bool) (cs : List ℕ) → slice_get cs 0 ≡ None → past test cs ≡ cs
past-end test cs h = ap (past test) (none_is cs h) ∙ sym (none_is cs h)

-- no character that passes a test stands here
abbrev pub Stops : (ℕ → Bool) → List ℕ → Type 0
Stops test [] = Unit {0}
Stops test (c ∷ cs) = test c ≡ false

pub past-stops : (test : ℕ → Bool) (cs : List ℕ) → Stops test (past test cs)
past-stops test [] = tt
past-stops test (c ∷ cs) = by_test (test c) refl (past-stops test cs)
  where
    by_test : (b : Bool) → test c ≡ b → Stops test (past test cs) → Stops test (past test (c ∷ cs))
    by_test true e again = rw e again
    by_test false e again = rw e e

-- ---- comments

pub single_line-step : (cs : List ℕ) (c : ℕ) → slice_get cs 0 ≡ Some c → is_line_terminator c ≡ false → single_line_rest cs ≡ single_line_rest (drop 1 cs)
single_line-step cs c h t = ap single_line_rest (first_is cs c h) ∙ rw t refl

pub single_line-stop : (cs : List ℕ) (c : ℕ) → slice_get cs 0 ≡ Some c → is_line_terminator c ≡ true → single_line_rest cs ≡ cs
single_line-stop cs c h t = ap single_line_rest (first_is cs c h) ∙ rw t (sym (first_is cs c h))

pub single_line-end : (cs : List ℕ) → slice_get cs 0 ≡ None → single_line_rest cs ≡ cs
single_line-end cs h = ap single_line_rest (none_is cs h) ∙ sym (none_is cs h)

-- ---- digits

-- a number that begins with a zero, by whether a base follows it
pub zero-is : (based : Bool) (cs rest : List ℕ) (found : Option (Bool × List ℕ)) → based_rest cs ≡ (if based then Some rest else None) → (based ≡ false → rest ≡ cs) →
    (if not based then decimal_number rest else whole_number rest rest) ≡ found → after_zero (based_rest cs) cs ≡ found
zero-is true cs rest found is same whole = ap (λ (o : Option (List ℕ)). after_zero o cs) is ∙ whole
zero-is false cs rest found is same whole = ap (λ (o : Option (List ℕ)). after_zero o cs) is ∙ ap decimal_number (sym (same refl)) ∙ whole

-- ---- regular expressions

pub body-breaks : (escaped inside : Bool) (cs : List ℕ) (c : ℕ) → slice_get cs 0 ≡ Some c → is_line_terminator c ≡ true → body_rest escaped inside cs ≡ None
body-breaks escaped inside cs c h t = ap (body_rest escaped inside) (first_is cs c h) ∙ rw t refl

pub body-end : (escaped inside : Bool) (cs : List ℕ) → slice_get cs 0 ≡ None → body_rest escaped inside cs ≡ None
body-end escaped inside cs h = ap (body_rest escaped inside) (none_is cs h)
