-- The token that is asked for with the goal of a place is the token of the text for the goal of its kind.
use Rattle.std.proofs.Common.{◌≡◌, ℕ, ◌==◌, Bool, true, false, not, ◌||◌, List, [], ◌∷◌, Option, Some, None, cond, if◌then◌else◌, refl, sym, ap, subst, ◌∙◌}
use Rattle.std.specs.Option.{option_map}
use Rattle.std.proofs.lemmas.Bool.{true≢false, eqb-true}
use Rattle.js_text.specs.Place.{Place}
use Rattle.js_text.specs.declared.goal.Goal.{Goal}
use Rattle.js_text.specs.declared.goal.Goal.TheVariants as goal
use Rattle.js_text.specs.Token.{Kind, Token}
use Rattle.js_text.specs.Token as T
use Rattle.js_text.specs.declared.punctuator.Punctuator.TheVariants as P
use Rattle.js_text.specs.Units.{template_rest}
use Rattle.js_text.specs.Lex.{next_token, token_place, common_token, continued_token, continued_kind, token_by, token_after, moved}
use Rattle.js_reading.specs.Turns.{divides, is_regular, is_later, is_for, braced, asked}
use Rattle.js_reading.specs.Reads.{goal_of, after_gap_of, continued, next_for, unless_braced, asked_for}
use Rattle.js_reading.proofs.goals.Tokens.{Found, to_div, to_regexp, closing}

abbrev Met : Type 0
Met = Option (Token × Place)

-- ---- goals and kinds

goal_regular : (k : Kind) → is_regular k ≡ true → goal_of k ≡ goal.RegExp
goal_regular (T.RegularExpression w) h = refl
goal_regular k h = absurd (true≢false (sym h))

goal_later : (k : Kind) → is_later k ≡ true → goal_of k ≡ goal.Template
goal_later (T.TemplateMiddle w) h = refl
goal_later (T.TemplateTail w) h = refl
goal_later k h = absurd (true≢false (sym h))

goal_other : (k : Kind) → is_regular k ≡ false → is_later k ≡ false → goal_of k ≡ goal.Div
goal_other (T.RegularExpression w) h isnt = absurd (true≢false h)
goal_other (T.TemplateMiddle w) h isnt = absurd (true≢false isnt)
goal_other (T.TemplateTail w) h isnt = absurd (true≢false isnt)
goal_other k h isnt = refl

neither : (a b : Bool) → not (a || b) ≡ true → (a ≡ false) × (b ≡ false)
neither true b h = absurd (true≢false (sym h))
neither false true h = absurd (true≢false (sym h))
neither false false h = (refl, refl)

goal_div : (k : Kind) → is_for goal.Div k ≡ true → goal_of k ≡ goal.Div
goal_div k h = let both = neither (is_regular k) (is_later k) h in goal_other k both.0 both.1

later_no_regular : (k : Kind) → is_later k ≡ true → braced k ≡ true
later_no_regular (T.TemplateMiddle w) h = refl
later_no_regular (T.TemplateTail w) h = refl
later_no_regular k h = absurd (true≢false (sym h))

-- ---- what is found and the token of it

kept : (f : Kind × ℕ → Token × Place) → ((k : Kind × ℕ) → (f k).0.kind ≡ k.0) → (other : Kind → Bool) (o p : Found) → ((k : Kind × ℕ) → o ≡ Some k → other k.0 ≡ false → p ≡ Some k) →
    (x : Token × Place) → option_map f o ≡ Some x → other x.0.kind ≡ false → option_map f p ≡ Some x
kept f named other None p keeps x h isnt = absurd cc
kept f named other (Some k) p keeps x h isnt =
    let e : f k ≡ x = cc in ap (option_map f) (keeps k refl (ap other (sym (named k)) ∙ (ap (λ (y : Token × Place). other y.0.kind) e ∙ isnt))) ∙ h

pub next_to_div : (place : Place) (x : Token × Place) → next_token goal.RegExp place ≡ Some x → is_regular x.0.kind ≡ false → next_token goal.Div place ≡ Some x
next_to_div place = kept _ (λ k. refl) is_regular (common_token goal.RegExp (token_place goal.Div place).after) (common_token goal.Div (token_place goal.Div place).after) (to_div (token_place goal.Div place).after)

pub next_to_regexp : (place : Place) (x : Token × Place) → next_token goal.Div place ≡ Some x → divides x.0.kind ≡ false → next_token goal.RegExp place ≡ Some x
next_to_regexp place = kept _ (λ k. refl) divides (common_token goal.Div (token_place goal.Div place).after) (common_token goal.RegExp (token_place goal.Div place).after) (to_regexp (token_place goal.Div place).after)

-- ---- what continues a template

by_kind : (c : ℕ) (cs : List ℕ) (o : Option (Bool × List ℕ)) (k : Kind × ℕ) → token_by continued_kind c cs o ≡ Some k → is_later k.0 ≡ true
by_kind c cs None k h = absurd cc
by_kind c cs (Some (true, rest)) k h = sym (ap (λ (o : Found). elim o [ None ↦ true | Some x ↦ is_later x.0 ]) h)
by_kind c cs (Some (false, rest)) k h = sym (ap (λ (o : Found). elim o [ None ↦ true | Some x ↦ is_later x.0 ]) h)

continued_later : (cs : List ℕ) (k : Kind × ℕ) → continued_token cs ≡ Some k → is_later k.0 ≡ true
continued_later [] k h = absurd cc
continued_later (c ∷ cs) k h = by_brace (c == 0x7D) h
  where
    by_brace : (b : Bool) → cond b (token_by continued_kind c cs (template_rest 0 cs)) None ≡ Some k → is_later k.0 ≡ true
    by_brace true q = by_kind c cs (template_rest 0 cs) k q
    by_brace false q = absurd cc

-- where it stands, a `}` does
continued_closing : (cs : List ℕ) (k b : Kind × ℕ) → continued_token cs ≡ Some k → common_token goal.Div cs ≡ Some b → braced b.0 ≡ true
continued_closing [] k b h e = absurd cc
continued_closing (c ∷ cs) k b h e = by_brace (c == 0x7D) refl h
  where
    by_brace : (d : Bool) → (c == 0x7D) ≡ d → cond d (token_by continued_kind c cs (template_rest 0 cs)) None ≡ Some k → braced b.0 ≡ true
    by_brace true same q =
        let found : Some (T.Punctuator P.CloseBrace, 1) ≡ Some b = sym (closing cs) ∙ subst (λ x. common_token goal.Div (x ∷ cs) ≡ Some b) (eqb-true c 0x7D same) e in
        ap (λ (o : Found). elim o [ None ↦ true | Some x ↦ braced x.0 ]) (sym found)
    by_brace false same q = absurd cc

named_of : (f : Kind × ℕ → Token × Place) → ((k : Kind × ℕ) → (f k).0.kind ≡ k.0) → (Q : Kind → Type 0) → (o : Found) → ((k : Kind × ℕ) → o ≡ Some k → Q k.0) → (x : Token × Place) → option_map f o ≡ Some x → Q x.0.kind
named_of f named Q None q x h = absurd cc
named_of f named Q (Some k) q x h = let e : f k ≡ x = cc in subst (λ (y : Token × Place). Q y.0.kind) e (subst Q (sym (named k)) (q k refl))

pub later_part : (place : Place) (brace x : Token × Place) → continued place (Some brace) ≡ Some x → is_later x.0.kind ≡ true
later_part place brace x h = by_part (next_token goal.Template (token_place goal.Div place)) refl h
  where
    by_part : (o : Met) → next_token goal.Template (token_place goal.Div place) ≡ o → option_map (after_gap_of brace.0) o ≡ Some x → is_later x.0.kind ≡ true
    by_part None e q = absurd cc
    by_part (Some part) e q =
        let same : after_gap_of brace.0 part ≡ x = cc in
        ap (λ (y : Token × Place). is_later y.0.kind) (sym same) ∙ named_of _ (λ k. refl) (λ k. is_later k ≡ true) (continued_token (token_place goal.Div place).after) (continued_later (token_place goal.Div place).after) part e

brace_there : (place : Place) (brace x : Token × Place) → next_token goal.Div place ≡ Some brace → continued place (Some brace) ≡ Some x → braced brace.0.kind ≡ true
brace_there place brace x h g = named_of _ (λ k. refl) (λ k. braced k ≡ true) (common_token goal.Div (token_place goal.Div place).after) from brace h
  where
    from : (b : Kind × ℕ) → common_token goal.Div (token_place goal.Div place).after ≡ Some b → braced b.0 ≡ true
    from b e = by_found (continued_token (token_place goal.Div place).after) refl g
      where
        template_token : Kind × ℕ → Token × Place
        template_token found = let start = token_place goal.Template (token_place goal.Div place) in (token_after goal.Template found.0 (token_place goal.Div place) (moved found.1 start), moved found.1 start)

        by_found : (o : Found) → continued_token (token_place goal.Div place).after ≡ o → option_map (after_gap_of brace.0) (option_map template_token o) ≡ Some x → braced b.0 ≡ true
        by_found None r q = absurd cc
        by_found (Some k) r q = continued_closing (token_place goal.Div place).after k b r e

-- ---- what is asked for is what is next for its kind

div_next : (place : Place) (x : Token × Place) → next_token goal.Div place ≡ Some x → is_for goal.Div x.0.kind ≡ true → next_for (goal_of x.0.kind) place ≡ Some x
div_next place x h is = subst (λ g. next_for g place ≡ Some x) (sym (goal_div x.0.kind is)) h

regexp_next : (place : Place) (x : Token × Place) → next_token goal.RegExp place ≡ Some x → is_for goal.RegExp x.0.kind ≡ true → next_for (goal_of x.0.kind) place ≡ Some x
regexp_next place x h is = by_regular (is_regular x.0.kind) refl
  where
    by_regular : (b : Bool) → is_regular x.0.kind ≡ b → next_for (goal_of x.0.kind) place ≡ Some x
    by_regular true r = subst (λ g. next_for g place ≡ Some x) (sym (goal_regular x.0.kind r)) h
    by_regular false r = subst (λ g. next_for g place ≡ Some x) (sym (goal_other x.0.kind r (neither (divides x.0.kind) (is_later x.0.kind) is).1)) (next_to_div place x h r)

template_next : (place : Place) (x : Token × Place) → unless_braced place (next_token goal.Div place) ≡ Some x → is_for (asked goal.Template (braced x.0.kind)) x.0.kind ≡ true → next_for (goal_of x.0.kind) place ≡ Some x
template_next place x h is = by_found (next_token goal.Div place) refl h
  where
    by_found : (o : Met) → next_token goal.Div place ≡ o → unless_braced place o ≡ Some x → next_for (goal_of x.0.kind) place ≡ Some x
    by_found None e q = absurd cc
    by_found (Some brace) e q = by_brace (braced brace.0.kind) refl q
      where
        by_brace : (b : Bool) → braced brace.0.kind ≡ b → (if b then continued place (Some brace) else Some brace) ≡ Some x → next_for (goal_of x.0.kind) place ≡ Some x
        by_brace true r s = subst (λ g. next_for g place ≡ Some x) (sym (goal_later x.0.kind (later_part place brace x s))) (ap (continued place) e ∙ s)
        by_brace false r s =
            let same : brace ≡ x = cc in
            div_next place x (e ∙ s) (subst (λ b. is_for (asked goal.Template b) x.0.kind ≡ true) (ap (λ (y : Token × Place). braced y.0.kind) (sym same) ∙ r) is)

pub asked_next : (g : Goal) (place : Place) (x : Token × Place) → asked_for g place ≡ Some x → is_for (asked g (braced x.0.kind)) x.0.kind ≡ true → next_for (goal_of x.0.kind) place ≡ Some x
asked_next goal.Div = div_next
asked_next goal.RegExp = regexp_next
asked_next goal.Template = template_next

-- ---- and what is next for its kind is asked for, where it is one for the goal of the place

next_div : (place : Place) (x : Token × Place) → next_for (goal_of x.0.kind) place ≡ Some x → is_for goal.Div x.0.kind ≡ true → next_token goal.Div place ≡ Some x
next_div place x h is = subst (λ g. next_for g place ≡ Some x) (goal_div x.0.kind is) h

next_regexp : (place : Place) (x : Token × Place) → next_for (goal_of x.0.kind) place ≡ Some x → is_for goal.RegExp x.0.kind ≡ true → next_token goal.RegExp place ≡ Some x
next_regexp place x h is = by_regular (is_regular x.0.kind) refl
  where
    both : (divides x.0.kind ≡ false) × (is_later x.0.kind ≡ false)
    both = neither (divides x.0.kind) (is_later x.0.kind) is

    by_regular : (b : Bool) → is_regular x.0.kind ≡ b → next_token goal.RegExp place ≡ Some x
    by_regular true r = subst (λ g. next_for g place ≡ Some x) (goal_regular x.0.kind r) h
    by_regular false r = next_to_regexp place x (subst (λ g. next_for g place ≡ Some x) (goal_other x.0.kind r both.1) h) both.0

next_template : (place : Place) (x : Token × Place) → next_for (goal_of x.0.kind) place ≡ Some x → is_for (asked goal.Template (braced x.0.kind)) x.0.kind ≡ true → unless_braced place (next_token goal.Div place) ≡ Some x
next_template place x h is = by_braced (braced x.0.kind) refl is
  where
    by_braced : (b : Bool) → braced x.0.kind ≡ b → is_for (asked goal.Template b) x.0.kind ≡ true → unless_braced place (next_token goal.Div place) ≡ Some x
    by_braced false r s = ap (unless_braced place) (next_div place x h s) ∙ ap (λ b. if b then continued place (Some x) else Some x) r
    by_braced true r s = by_found (next_token goal.Div place) refl (subst (λ g. next_for g place ≡ Some x) (goal_later x.0.kind s) h)
      where
        by_found : (o : Met) → next_token goal.Div place ≡ o → continued place o ≡ Some x → unless_braced place o ≡ Some x
        by_found None e q = absurd cc
        by_found (Some brace) e q = ap (λ b. if b then continued place (Some brace) else Some brace) (brace_there place brace x e q) ∙ q

pub next_asked : (g : Goal) (place : Place) (x : Token × Place) → next_for (goal_of x.0.kind) place ≡ Some x → is_for (asked g (braced x.0.kind)) x.0.kind ≡ true → asked_for g place ≡ Some x
next_asked goal.Div = next_div
next_asked goal.RegExp = next_regexp
next_asked goal.Template = next_template
