-- A token that is asked for is one for the goal of its kind: each goal finds its own kinds alone.
use Rattle.std.proofs.Common.{◌≡◌, ℕ, zero, ◌==◌, Bool, true, false, ◌||◌, List, [], ◌∷◌, Option, Some, None, if◌then◌else◌, refl, sym, ap, subst, ◌∙◌}
use Rattle.std.specs.List.{list_any}
use Rattle.std.specs.Option.{option_map}
use Rattle.std.proofs.lemmas.Bool.{true≢false}
use Rattle.js_text.specs.Character.{starts_identifier}
use Rattle.js_text.specs.declared.goal.Goal.{Goal}
use Rattle.js_text.specs.declared.goal.Goal.TheVariants as goal
use Rattle.js_text.specs.declared.punctuator.Punctuator.{Punctuator}
use Rattle.js_text.specs.declared.punctuator.Punctuator.TheVariants as P
use Rattle.js_text.specs.Place.{Place}
use Rattle.js_text.specs.Punctuator.{longest_punctuator}
use Rattle.js_text.specs.Gap.{with_found}
use Rattle.js_text.specs.Identifier.{is_backslash, after_first, word_of_bytes}
use Rattle.js_text.specs.Number.{number_rest}
use Rattle.js_text.specs.Units.{string_rest, template_rest}
use Rattle.js_text.specs.RegularExpression.{body_rest}
use Rattle.js_text.specs.Token.{Kind, RegularExpression, StringLiteral, Token}
use Rattle.js_text.specs.Token as T
use Rattle.js_text.specs.Lex.{common_token, token_from, token_to, token_by, number_kind, template_kind, punctuator_of, slash_token, begins_comment, begins_number, is_quote, flags_rest, token_place, next_token}
use Rattle.js_reading.specs.Turns.{is_later, is_for, braced, asked}
use Rattle.js_reading.specs.Reads.{goal_of, continued, next_for, unless_braced, asked_for}
use Rattle.js_reading.proofs.goals.Asked.{asked_next, later_part}

abbrev Found : Type 0
Found = Option (Kind × ℕ)

-- what is found is for this goal
abbrev IsFor : Goal → Found → Type 0
IsFor g None = Unit {0}
IsFor g (Some k) = is_for g k.0 ≡ true

-- Div, and RegExp
abbrev Common : Goal → Type 0
Common g = (w : List ℕ) → (is_for g (word_of_bytes w) ≡ true) × ((b : Bool) → is_for g (number_kind b w) ≡ true) × (is_for g (StringLiteral w) ≡ true) × ((b : Bool) → is_for g (template_kind b w) ≡ true)

word_for : (g : Goal) → ((w : List ℕ) → is_for g (T.EscapedWord w) ≡ true) → ((w : List ℕ) → is_for g (T.Word w) ≡ true) → (w : List ℕ) (b : Bool) → is_for g (if b then T.EscapedWord w else T.Word w) ≡ true
word_for g e f w true = e w
word_for g e f w false = f w

common_div : Common goal.Div
common_div w = (word_for goal.Div (λ v. refl) (λ v. refl) w (list_any is_backslash w), (λ b. elim b as (λ x. is_for goal.Div (number_kind x w) ≡ true) [ true ↦ refl | false ↦ refl ]), refl, (λ b. elim b as (λ x. is_for goal.Div (template_kind x w) ≡ true) [ true ↦ refl | false ↦ refl ]))

common_regexp : Common goal.RegExp
common_regexp w = (word_for goal.RegExp (λ v. refl) (λ v. refl) w (list_any is_backslash w), (λ b. elim b as (λ x. is_for goal.RegExp (number_kind x w) ≡ true) [ true ↦ refl | false ↦ refl ]), refl, (λ b. elim b as (λ x. is_for goal.RegExp (template_kind x w) ≡ true) [ true ↦ refl | false ↦ refl ]))

to_for : (g : Goal) (kind : List ℕ → Kind) → ((w : List ℕ) → is_for g (kind w) ≡ true) → (c : ℕ) (cs : List ℕ) (o : Option (List ℕ)) → IsFor g (token_to kind c cs o)
to_for g kind h c cs None = tt
to_for g kind h c cs (Some rest) = h _

by_for : (g : Goal) (kind : Bool → List ℕ → Kind) → ((b : Bool) (w : List ℕ) → is_for g (kind b w) ≡ true) → (c : ℕ) (cs : List ℕ) (o : Option (Bool × List ℕ)) → IsFor g (token_by kind c cs o)
by_for g kind h c cs None = tt
by_for g kind h c cs (Some found) = h found.0 _

if_for : (g : Goal) (b : Bool) (x y : Found) → IsFor g x → IsFor g y → IsFor g (if b then x else y)
if_for g true x y h k = h
if_for g false x y h k = k

from_for : (g : Goal) → Common g → (c : ℕ) (cs : List ℕ) → IsFor g (slash_token g cs) → IsFor g (punctuator_of g (longest_punctuator (c ∷ cs))) → IsFor g (token_from g c cs)
from_for g h c cs slash mark =
    if_for g (starts_identifier c || is_backslash c) _ _ (to_for g word_of_bytes (λ w. (h w).0) c cs (after_first c cs))
    (if_for g (begins_number c cs) _ _ (by_for g number_kind (λ b w. (h w).1 b) c cs (number_rest c cs))
    (if_for g (is_quote c) _ _ (to_for g StringLiteral (λ w. (h w).2) c cs (string_rest c zero cs))
    (if_for g (c == 0x60) _ _ (by_for g template_kind (λ b w. (h w).3 b) c cs (template_rest zero cs))
    (if_for g (c == 0x2F) _ _ (if_for g (begins_comment cs) None (slash_token g cs) tt slash) mark))))

mark_div : (o : Option Punctuator) → IsFor goal.Div (punctuator_of goal.Div o)
mark_div None = tt
mark_div (Some p) = refl

mark_regexp : (o : Option Punctuator) → IsFor goal.RegExp (punctuator_of goal.RegExp o)
mark_regexp None = tt
mark_regexp (Some P.Slash) = tt
mark_regexp (Some P.DivideAssign) = tt
mark_regexp (Some p) = refl

common_for_div : (cs : List ℕ) → IsFor goal.Div (common_token goal.Div cs)
unfolding common_token
common_for_div [] = refl
common_for_div (c ∷ cs) = from_for goal.Div common_div c cs (mark_div (longest_punctuator (0x2F ∷ cs))) (mark_div (longest_punctuator (c ∷ cs)))

common_for_regexp : (cs : List ℕ) → IsFor goal.RegExp (common_token goal.RegExp cs)
unfolding common_token
common_for_regexp [] = refl
common_for_regexp (c ∷ cs) = from_for goal.RegExp common_regexp c cs (to_for goal.RegExp RegularExpression (λ w. refl) 0x2F cs (with_found (body_rest false false cs) flags_rest None)) (mark_regexp (longest_punctuator (c ∷ cs)))

-- ---- the next token for a goal

named : (g : Goal) (f : Kind × ℕ → Token × Place) → ((k : Kind × ℕ) → (f k).0.kind ≡ k.0) → (o : Found) → IsFor g o → (x : Token × Place) → option_map f o ≡ Some x → is_for g x.0.kind ≡ true
named g f name None h x q = absurd cc
named g f name (Some k) h x q = let e : f k ≡ x = cc in subst (λ (y : Token × Place). is_for g y.0.kind ≡ true) e (ap (is_for g) (name k) ∙ h)

pub div_kind : (place : Place) (x : Token × Place) → next_token goal.Div place ≡ Some x → is_for goal.Div x.0.kind ≡ true
div_kind place = named goal.Div _ (λ k. refl) (common_token goal.Div (token_place goal.Div place).after) (common_for_div (token_place goal.Div place).after)

regexp_kind : (place : Place) (x : Token × Place) → next_token goal.RegExp place ≡ Some x → is_for goal.RegExp x.0.kind ≡ true
regexp_kind place = named goal.RegExp _ (λ k. refl) (common_token goal.RegExp (token_place goal.Div place).after) (common_for_regexp (token_place goal.Div place).after)

later_braced : (k : Kind) → is_later k ≡ true → is_for (asked goal.Template (braced k)) k ≡ true
later_braced (T.TemplateMiddle w) h = refl
later_braced (T.TemplateTail w) h = refl
later_braced k h = absurd (true≢false (sym h))

template_kind_asked : (place : Place) (x : Token × Place) → asked_for goal.Template place ≡ Some x → is_for (asked goal.Template (braced x.0.kind)) x.0.kind ≡ true
template_kind_asked place x h = by_found (next_token goal.Div place) refl h
  where
    by_found : (o : Option (Token × Place)) → next_token goal.Div place ≡ o → unless_braced place o ≡ Some x → is_for (asked goal.Template (braced x.0.kind)) x.0.kind ≡ true
    by_found None e q = absurd cc
    by_found (Some brace) e q = by_brace (braced brace.0.kind) refl q
      where
        by_brace : (b : Bool) → braced brace.0.kind ≡ b → (if b then continued place (Some brace) else Some brace) ≡ Some x → is_for (asked goal.Template (braced x.0.kind)) x.0.kind ≡ true
        by_brace true r s = later_braced x.0.kind (later_part place brace x s)
        by_brace false r s =
            let same : brace ≡ x = cc in
            subst (λ (y : Token × Place). is_for (asked goal.Template (braced y.0.kind)) y.0.kind ≡ true) same (subst (λ b. is_for (asked goal.Template b) brace.0.kind ≡ true) (sym r) (div_kind place brace e))

asked_kind : (g : Goal) (place : Place) (x : Token × Place) → asked_for g place ≡ Some x → is_for (asked g (braced x.0.kind)) x.0.kind ≡ true
asked_kind goal.Div = div_kind
asked_kind goal.RegExp = regexp_kind
asked_kind goal.Template = template_kind_asked

-- what is asked for is the token of the text for the goal of its kind, read or refused
pub asked_stands : (g : Goal) (place : Place) (x : Token × Place) → asked_for g place ≡ Some x → next_for (goal_of x.0.kind) place ≡ Some x
asked_stands g place x h = asked_next g place x h (asked_kind g place x h)

pub div_stands : (place : Place) (x : Token × Place) → next_token goal.Div place ≡ Some x → next_for (goal_of x.0.kind) place ≡ Some x
div_stands place x h = asked_stands goal.Div place x h
