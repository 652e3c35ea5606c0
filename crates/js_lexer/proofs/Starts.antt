-- Which token begins, by the first character.
use Rattle.std.proofs.Common.{◌≡◌, ℕ, zero, ◌||◌, true, false, List, [], ◌∷◌, drop, slice_get, Some, None, refl, sym, ap, ◌∙◌, eq-eqb}
use Rattle.std.proofs.lemmas.Bool.{ne_eqb}
use Rattle.js_text.specs.declared.goal.Goal.{Goal}
use Rattle.js_text.specs.declared.goal.Goal.TheVariants.{Div, RegExp, Template}
use Rattle.js_text.specs.Character.{starts_identifier}
use Rattle.js_text.specs.Identifier.{is_backslash, after_first, word_of_bytes}
use Rattle.js_text.specs.Number.{number_rest}
use Rattle.js_text.specs.Punctuator.{longest_punctuator}
use Rattle.js_text.specs.Units.{string_rest, template_rest}
use Rattle.js_text.specs.Token.{StringLiteral, End}
use Rattle.js_text.specs.Lex.{common_token, token_of, token_to, token_by, number_kind, template_kind, begins_number, is_quote, begins_comment, slash_token, punctuator_of}
use Rattle.std.specs.Bool.{if◌then◌else◌}
use Rattle.js_lexer.proofs.Steps.{first_is}

pub token-end : (goal : Goal) (cs : List ℕ) → (goal ≡ Template → ⊥) → slice_get cs 0 ≡ None → token_of goal cs ≡ Some (End, 0)
unfolding common_token
token-end Div [] other h = refl
token-end RegExp [] other h = refl
token-end Template cs other h = absurd (other refl)
token-end Div (c ∷ cs) other h = absurd cc
token-end RegExp (c ∷ cs) other h = absurd cc

pub token-word : (goal : Goal) (cs : List ℕ) (c : ℕ) → slice_get cs 0 ≡ Some c → (starts_identifier c || is_backslash c) ≡ true →
    token_to word_of_bytes c (drop 1 cs) (after_first c (drop 1 cs)) ≡ common_token goal cs
unfolding common_token
token-word goal cs c h word = sym (ap (common_token goal) (first_is cs c h) ∙ rw word refl)

pub token-number : (goal : Goal) (cs : List ℕ) (c : ℕ) → slice_get cs 0 ≡ Some c → (starts_identifier c || is_backslash c) ≡ false → begins_number c (drop 1 cs) ≡ true →
    token_by number_kind c (drop 1 cs) (number_rest c (drop 1 cs)) ≡ common_token goal cs
unfolding common_token
token-number goal cs c h word number = sym (ap (common_token goal) (first_is cs c h) ∙ rw (word, number) refl)

pub token-string : (goal : Goal) (cs : List ℕ) (c : ℕ) → slice_get cs 0 ≡ Some c → (starts_identifier c || is_backslash c) ≡ false → begins_number c (drop 1 cs) ≡ false →
    is_quote c ≡ true → token_to StringLiteral c (drop 1 cs) (string_rest c zero (drop 1 cs)) ≡ common_token goal cs
unfolding common_token
token-string goal cs c h word number quote = sym (ap (common_token goal) (first_is cs c h) ∙ rw (word, number, quote) refl)

pub token-template : (goal : Goal) (cs : List ℕ) (c : ℕ) → slice_get cs 0 ≡ Some c → (starts_identifier c || is_backslash c) ≡ false → begins_number c (drop 1 cs) ≡ false →
    is_quote c ≡ false → c ≡ 0x60 → token_by template_kind 0x60 (drop 1 cs) (template_rest zero (drop 1 cs)) ≡ common_token goal cs
unfolding common_token
token-template goal cs c h word number quote same =
    let here = eq-eqb c 0x60 same in
    sym (ap (common_token goal) (first_is cs c h) ∙ rw (word, number, quote, here) (ap (λ x. token_by template_kind x (drop 1 cs) (template_rest zero (drop 1 cs))) same))

pub token-slash : (goal : Goal) (cs : List ℕ) (c : ℕ) → slice_get cs 0 ≡ Some c → (starts_identifier c || is_backslash c) ≡ false → begins_number c (drop 1 cs) ≡ false →
    is_quote c ≡ false → (c ≡ 0x60 → ⊥) → c ≡ 0x2F → (if begins_comment (drop 1 cs) then None else slash_token goal (drop 1 cs)) ≡ common_token goal cs
unfolding common_token
token-slash goal cs c h word number quote other same =
    let there = ne_eqb c 0x60 other in
    let here = eq-eqb c 0x2F same in
    sym (ap (common_token goal) (first_is cs c h) ∙ rw (word, number, quote, there, here) refl)

pub token-punctuator : (goal : Goal) (cs : List ℕ) (c : ℕ) → slice_get cs 0 ≡ Some c → (starts_identifier c || is_backslash c) ≡ false → begins_number c (drop 1 cs) ≡ false →
    is_quote c ≡ false → (c ≡ 0x60 → ⊥) → (c ≡ 0x2F → ⊥) → punctuator_of goal (longest_punctuator cs) ≡ common_token goal cs
unfolding common_token
token-punctuator goal cs c h word number quote other another =
    let there = ne_eqb c 0x60 other in
    let here = ne_eqb c 0x2F another in
    sym (ap (common_token goal) (first_is cs c h) ∙ rw (word, number, quote, there, here) (ap (λ xs. punctuator_of goal (longest_punctuator xs)) (sym (first_is cs c h))))
