-- Identifiers, one run or one escape at a time.
use Rattle.std.proofs.Common.{◌≡◌, ℕ, zero, suc, ◌-◌, ◌<◌, Bool, true, false, List, [], ◌∷◌, length, drop, slice_get, Option, Some, None, refl, sym, ap, ◌∙◌}
use Rattle.js_text.specs.Place.{Place}
use Rattle.js_text.specs.Character.{continues_identifier}
use Rattle.js_text.specs.Gap.{with_found}
use Rattle.js_text.specs.Identifier.{escape_of, escaped_rest, identifier_rest}
use Rattle.js_text.specs.Lex.{past, characters_of}
use Rattle.js_lexer.proofs.Onward.{left-after}
use Rattle.js_lexer.proofs.Steps.{first_is, Stops, past-stops}

-- a backslash stands here
pub escaped-first : (test : ℕ → Bool) (cs : List ℕ) → slice_get cs 0 ≡ Some 0x5C → escaped_rest test cs ≡ escape_of test (drop 1 cs)
escaped-first test cs h = ap (escaped_rest test) (first_is cs 0x5C h)

identifier-skip : (n : ℕ) (cs : List ℕ) → identifier_rest n cs ≡ identifier_rest zero (drop n cs)
identifier-skip zero cs = refl
identifier-skip (suc n) [] = refl
identifier-skip (suc n) (c ∷ cs) = identifier-skip n cs

identifier-past : (cs : List ℕ) → identifier_rest zero cs ≡ identifier_rest zero (past continues_identifier cs)
identifier-past [] = refl
identifier-past (c ∷ cs) = by_test (continues_identifier c) refl (identifier-past cs)
  where
    by_test : (b : Bool) → continues_identifier c ≡ b → identifier_rest zero cs ≡ identifier_rest zero (past continues_identifier cs) →
        identifier_rest zero (c ∷ cs) ≡ identifier_rest zero (past continues_identifier (c ∷ cs))
    by_test true e again = rw e again
    by_test false e again = ap (identifier_rest zero) (let stop : (c ∷ cs) ≡ past continues_identifier (c ∷ cs) = rw e refl in stop)

identifier-escape : (p q : Place) → Stops continues_identifier p.after → escaped_rest continues_identifier p.after ≡ Some q.after → characters_of q ≡ characters_of p →
    length q.after < length p.after → identifier_rest zero p.after ≡ identifier_rest zero q.after
identifier-escape p q stops found text lt = by_after p.after refl stops found
  where
    by_after : (cs : List ℕ) → p.after ≡ cs → Stops continues_identifier cs → escaped_rest continues_identifier cs ≡ Some q.after →
        identifier_rest zero cs ≡ identifier_rest zero q.after
    by_after [] e s f = absurd cc
    by_after (c ∷ cs) e s f =
        let to : identifier_rest zero (c ∷ cs) ≡ identifier_rest (length cs - length q.after) cs =
        rw s (ap (λ (o : Option (List ℕ)). with_found o (λ rest. identifier_rest (length cs - length rest) cs) (c ∷ cs)) f) in
        to ∙ identifier-skip (length cs - length q.after) cs ∙ ap (identifier_rest zero) (sym (left-after p q c cs e text lt))

identifier-stops : (cs : List ℕ) → Stops continues_identifier cs → escaped_rest continues_identifier cs ≡ None → identifier_rest zero cs ≡ cs
identifier-stops [] s f = refl
identifier-stops (c ∷ cs) s f = rw s (ap (λ (o : Option (List ℕ)). with_found o (λ rest. identifier_rest (length cs - length rest) cs) (c ∷ cs)) f)

-- a run of characters, and an escape
pub identifier-turn : (p q r : Place) → q.after ≡ past continues_identifier p.after → escaped_rest continues_identifier q.after ≡ Some r.after →
    characters_of r ≡ characters_of q → length r.after < length q.after → identifier_rest zero r.after ≡ identifier_rest zero p.after
identifier-turn p q r run found text lt =
    let stops : Stops continues_identifier q.after = rw (← run) at (past-stops continues_identifier p.after) in
    sym (identifier-past p.after ∙ ap (identifier_rest zero) (sym run) ∙ identifier-escape q r stops found text lt)

-- the last run, after which no escape stands
pub identifier-ends : (p q r : Place) → q.after ≡ past continues_identifier p.after → escaped_rest continues_identifier q.after ≡ None → r ≡ q →
    r.after ≡ identifier_rest zero p.after
identifier-ends p q r run none same =
    let stops : Stops continues_identifier q.after = rw (← run) at (past-stops continues_identifier p.after) in
    ap (λ (x : Place). x.after) same ∙ sym (identifier-past p.after ∙ ap (identifier_rest zero) (sym run) ∙ identifier-stops q.after stops none)
