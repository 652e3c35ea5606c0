-- Pairs of parentheses, and expressions in them where their places ask for them.
use Rattle.std.proofs.Common.{◌≡◌, ℕ, ◌<◌, ◌≤◌, Bool, true, false, not, ◌&&◌, List, [], ◌∷◌, ◌++◌, Option, Some, None, if◌then◌else◌, refl, sym, ap, subst, ◌∙◌, arith}
use Rattle.std.specs.Prelude.{nat_le, nat_lt, ◌==◌, ◌||◌}
use Rattle.std.proofs.lemmas.Bool.{true≢false, leb-true, leb-false, ltb-true, ltb-false, eqb-true, eqb-false}
use Rattle.js_terms.specs.declared.place.Loc.{Loc}
use Rattle.js_terms.specs.declared.operators.LogicalOperator.{LogicalOperator}
use Rattle.js_terms.specs.declared.operators.LogicalOperator.TheVariants as logic
use Rattle.js_tree.specs.Plain.{Expr}
use Rattle.js_tree.specs.Plain as tree
use Rattle.js_text.specs.Token.{Token}
use Rattle.js_text.specs.Token as T
use Rattle.js_text.specs.declared.punctuator.Punctuator.TheVariants as P
use Rattle.js_reading.specs.Level.{logical_level}
use Rattle.js_reading.specs.Spans.{through}
use Rattle.js_reading.specs.Slots.{By, Missing, Pass, Go}
use Rattle.js_reading.specs.declared.form.Form.TheVariants as slot
use Rattle.js_reading.specs.declared.choice.Choice.TheVariants as choice
use Rattle.js_reading.specs.Productions.{member, call}
use Rattle.js_reading.specs.Productions as reading
use Rattle.js_reading.specs.Choices.{branch, either}
use Rattle.js_reading.specs.Makes.{comma_of, loc_of, is_and_or}
use Rattle.js_reading.specs.Sentences
use Rattle.js_layout.specs.Tokens.{expr_tokens, mark, pair_of}
use Rattle.js_layout.specs.Neat.{level, member_level, paired, placed, left_operand}
use Rattle.js_layout.proofs.Follows.{unbegun, Quiet}
use Rattle.js_layout.proofs.Spelt.{standing, SpeltExpr, WillExpr}
use Rattle.js_layout.proofs.ExpressLevels.{quiet_any}
use Rattle.js_layout.proofs.ExpressSigns.{prefix_parenthesis, quiet_close}
use Rattle.js_layout.proofs.ExpressParts.{by_split, by_token, by_last, same_traits}
use Rattle.js_layout.proofs.ExpressContent.{Content, items_of}
use Rattle.js_layout.proofs.ExpressOperators.{Bound, MayMix}

-- ---- a pair

pub pair : (l : Option Loc) (x : Expr) → WillExpr x → WillExpr (tree.Parenthesized l x)
pair l x will line ts next follows quiet =
    by_token (λ us. SpeltExpr (tree.Parenthesized l x) us next) line (mark (pair_of l x) P.OpenParenthesis) (expr_tokens x ++ mark (pair_of l x) P.CloseParenthesis ∷ []) ts (unbegun l line _ ts follows)
    (λ t rest is on f. by_split (λ us. SpeltExpr (tree.Parenthesized l x) (t ∷ us) next) false (expr_tokens x) (mark (pair_of l x) P.CloseParenthesis ∷ []) rest f
    (λ tx more fx fm. by_last (λ us. SpeltExpr (tree.Parenthesized l x) (t ∷ (tx ++ us)) next) _ (mark (pair_of l x) P.CloseParenthesis) more fm
    (λ u is_close at. whole tx t u is is_close (within tx u (quiet_close 2 u (omega arith) is_close) (will false tx u fx (quiet_any (standing x) u (quiet_close 2 u (omega arith) is_close)))))))
  where
    within : (tx : List Token) (u : Token) → Quiet 2 u → SpeltExpr x tx u → Content x tx u
    within tx u q s = let c = items_of s.spells q in record { first = c.first; rest = c.rest; spells = c.spells; same = c.same ∙ s.same }

    no_arrow : branch choice.Arrow next ≡ Pass (Missing ∷ [])
    no_arrow = ap (λ c. either (c && not next.line_terminator_before) (Go [] (reading.mark P.Arrow) (By choice.ConciseBody ∷ [])) (Pass (Missing ∷ []))) quiet.no_arrow

    whole : (tx : List Token) (t u : Token) → t.kind ≡ T.Punctuator P.OpenParenthesis → u.kind ≡ T.Punctuator P.CloseParenthesis → Content x tx u → SpeltExpr (tree.Parenthesized l x) (t ∷ (tx ++ u ∷ [])) next
    whole tx t u is is_close c = let read : Expr = tree.Parenthesized (Some (through t.loc u.loc)) (comma_of loc_of c.first c.rest) in record {
      tree = read;
      loc = through t.loc u.loc;
      spells = Sentences.prefixed slot.Parentheses t (prefix_parenthesis t is) (Sentences.sign t is (Sentences.items u c.spells is_close (Sentences.passed {qs = Missing ∷ []} {us = []} no_arrow Sentences.done))) refl;
      same = ap (tree.Parenthesized None) c.same;
      traits = same_traits read (tree.Parenthesized l x) refl refl refl refl refl;
    }

pub paired_will : (b : Bool) (e x : Expr) → WillExpr x → WillExpr (paired b e x)
paired_will false e x will = will
paired_will true (tree.Parenthesized l e) x will = pair l x will
paired_will true e x will = pair None x will

-- ---- what a pair changes

pub paired_level : (b : Bool) (e x : Expr) → level (paired b e x) ≡ level x
paired_level false e x = refl
paired_level true (tree.Parenthesized l e) x = refl
paired_level true e x = refl

pub paired_standing : (e x : Expr) → standing (paired true e x) ≡ member
paired_standing (tree.Parenthesized l e) x = refl
paired_standing e x = refl

pub paired_mixed : (e x : Expr) → is_and_or (paired true e x) ≡ false
paired_mixed (tree.Parenthesized l e) x = refl
paired_mixed e x = refl

-- ---- where a place asks for a level

pub placed_will : (n : ℕ) (e x : Expr) → WillExpr x → WillExpr (placed n e x)
placed_will n e x will = paired_will (nat_lt (level e) n) e x will

-- in a pair, or tight enough
pub low_or_pair : (b : Bool) (n : ℕ) (e x : Expr) → n ≤ member → (b ≡ false → n ≤ standing x) → n ≤ standing (paired b e x)
low_or_pair true n e x most enough = subst (λ k. n ≤ k) (sym (paired_standing e x)) most
low_or_pair false n e x most enough = enough refl

pub placed_low : (n : ℕ) (e x : Expr) → n ≤ member → standing x ≡ level e → n ≤ standing (placed n e x)
placed_low n e x most same = low_or_pair (nat_lt (level e) n) n e x most (λ h. omega (arith, same, ltb-false (level e) n h))

pub left_will : (o : LogicalOperator) (e x : Expr) → WillExpr x → WillExpr (left_operand o e x)
left_will logic.Coalesce e x will = paired_will (nat_lt (level e) 4 || is_and_or x) e x will
left_will o e x will = placed_will (logical_level o) e x will

pub or_false : (b c : Bool) → (b || c) ≡ false → (b ≡ false) × (c ≡ false)
or_false false c h = (refl, h)
or_false true c h = absurd (true≢false h)

pub left_low : (o : LogicalOperator) (e x : Expr) → standing x ≡ level e → logical_level o ≤ standing (left_operand o e x)
left_low logic.Coalesce e x same =
    low_or_pair (nat_lt (level e) 4 || is_and_or x) 4 e x (omega arith) (λ h. omega (arith, same, ltb-false (level e) 4 (or_false (nat_lt (level e) 4) (is_and_or x) h).0))
left_low o e x same = placed_low (logical_level o) e x (omega arith) same

mixed_or_pair : (b : Bool) (e x : Expr) → (b ≡ false → is_and_or x ≡ false) → is_and_or (paired b e x) ≡ false
mixed_or_pair true e x h = paired_mixed e x
mixed_or_pair false e x h = h refl

pub left_mixes : (o : LogicalOperator) (e x : Expr) → MayMix o (left_operand o e x)
left_mixes logic.Coalesce e x = mixed_or_pair (nat_lt (level e) 4 || is_and_or x) e x (λ h. (or_false (nat_lt (level e) 4) (is_and_or x) h).1)
left_mixes o e x = tt

-- ---- members of what stands where a call may

tests_agree : (k : ℕ) (b c : Bool) → nat_le 21 k ≡ b → (k == 20) ≡ c → 20 ≤ k → (if b then member else call) ≡ (if c then call else member)
tests_agree k true true h g low = absurd (omega (arith, leb-true 21 k h, eqb-true k 20 g))
tests_agree k true false h g low = refl
tests_agree k false true h g low = refl
tests_agree k false false h g low = absurd (omega (arith, leb-false 21 k h, eqb-false k 20 g))

no_call : (k : ℕ) (c : Bool) → (k == 20) ≡ c → k < 20 → member ≡ (if c then call else member)
no_call k true h low = absurd (omega (arith, eqb-true k 20 h))
no_call k false h low = refl

bound_or_pair : (b : Bool) (e x : Expr) → nat_lt (level e) call ≡ b → standing x ≡ level e → level x ≡ level e → Bound (paired b e x)
bound_or_pair false e x h same at = let low = ltb-false (level e) call h in ap reading.member_level same ∙ tests_agree (level e) (nat_le 21 (level e)) (level e == 20) refl refl (omega arith) ∙ ap member_level (sym at)
bound_or_pair true e x h same at =
    ap reading.member_level (paired_standing e x) ∙ no_call (level e) (level e == 20) refl (ltb-true (level e) call h) ∙ ap member_level (sym at) ∙ ap member_level (sym (paired_level true e x))

pub placed_bound : (e x : Expr) → standing x ≡ level e → level x ≡ level e → Bound (placed call e x)
placed_bound e x same at = bound_or_pair (nat_lt (level e) call) e x refl same at
