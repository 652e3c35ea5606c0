-- Targets that are none: where an assignment, an update or a `for` has begun with one, no run ends.
use Rattle.std.proofs.Common.{◌≡◌, ℕ, inl, inr, true, false, not, ◌&&◌, List, [], ◌∷◌, ◌++◌, Option, Some, None, codes, refl, sym, ap, subst, ◌∙◌}
use Rattle.std.specs.Prelude.{nat_le}
use Rattle.std.proofs.lemmas.Bool.{true≢false, cond-true, cond-false}
use Rattle.js_terms.specs.declared.place.Loc.{Loc}
use Rattle.js_terms.specs.declared.operators.AssignmentOperator.{AssignmentOperator}
use Rattle.js_terms.specs.declared.operators.UpdateOperator.{UpdateOperator}
use Rattle.js_tree.specs.Plain.{Expr, Stmt}
use Rattle.js_tree.specs.Plain as tree
use Rattle.js_text.specs.Token.{Token, Kind, Word}
use Rattle.js_text.specs.Token as T
use Rattle.js_reading.specs.Level.{any, assignment}
use Rattle.js_reading.specs.Spans.{through}
use Rattle.js_text.specs.declared.punctuator.Punctuator.TheVariants as P
use Rattle.js_reading.specs.Slots.{Wanted, WithoutIn, Slot, Sign, Expr_, By, Piece, AnExpr, AStmt, IsIn, IsOf, Form}
use Rattle.js_reading.specs.Slots as slot
use Rattle.js_reading.specs.Productions.{is_mark, is_word, join, wants}
use Rattle.js_reading.specs.Choices.{each_rest}
use Rattle.js_reading.specs.Makes.{build, is_target, is_async, bare_in}
use Rattle.js_reading.specs.Sentences.{fits, continues, Spells}
use Rattle.js_reading.specs.Turns.{place, Frame, InForm, Config, Due, want, wanted, banned, shift, have, turn, run, then_run}
use Rattle.js_reading.specs.Unsupported.{assigns, is_each, is_parenthesized_target, is_literal_pattern, is_head, is_update}
use Rattle.js_reading.proofs.sentences.Firsts.{remade}
use Rattle.js_reading.proofs.sentences.KindsLemmas.{kind_is}
use Rattle.js_reading.proofs.sentences.Runs.{nowhere, by_bool}
use Rattle.js_reading.proofs.sentences.Rows.{either_of}
use Rattle.js_reading.proofs.sentences.Ways.{lands}
use Rattle.js_reading.proofs.sentences.Reading.{complete_expr}
use Rattle.js_reading.proofs.refusing.Dooms.{Doomed, Lost, lost_of, lost_then}

pub parenthesized_facts : (e : Expr) → is_parenthesized_target e ≡ true → (is_target e ≡ false) × (bare_in e ≡ false)
parenthesized_facts (tree.Parenthesized l e) h = (refl, refl)
parenthesized_facts e h = absurd (true≢false (sym h))

pub literal_facts : (e : Expr) → is_literal_pattern e ≡ true → (is_target e ≡ false) × (bare_in e ≡ false)
literal_facts (tree.ArrayLiteral l xs) h = (refl, refl)
literal_facts (tree.ObjectLiteral l ps) h = (refl, refl)
literal_facts e h = absurd (true≢false (sym h))

pub assign_assigns : (t : Token) → is_mark P.Assign t ≡ true → assigns (join t) ≡ true
assign_assigns t h = subst (λ k. assigns (join (remade t k)) ≡ true) (sym (kind_is (T.Punctuator P.Assign) t.kind h)) refl

-- ---- no production is made of them

no_assignment : (o : AssignmentOperator) (i : ℕ) (e : Expr) → is_target e ≡ false → (l : Loc) (qs : List Piece) → build (slot.Assignment o) l (AnExpr i e ∷ qs) ≡ None
no_assignment o i e h l (AnExpr j v ∷ []) = cond-false (is_target e) _ _ h
no_assignment o i e h l qs = refl

no_postfix : (o : UpdateOperator) (i : ℕ) (e : Expr) → is_target e ≡ false → (l : Loc) (qs : List Piece) → build (slot.Postfix o) l (AnExpr i e ∷ qs) ≡ None
no_postfix o i e h l [] = cond-false (is_target e) _ _ h
no_postfix o i e h l qs = refl

no_prefix : (o : UpdateOperator) (i : ℕ) (e : Expr) → is_target e ≡ false → (l : Loc) → build (slot.PrefixUpdate o) l (AnExpr i e ∷ []) ≡ None
no_prefix o i e h l = cond-false (is_target e) _ _ h

no_for_in : (i : ℕ) (e : Expr) → is_target e ≡ false → (l : Loc) (qs : List Piece) → build slot.For l (AnExpr i e ∷ IsIn ∷ qs) ≡ None
no_for_in i e h l (AnExpr j y ∷ AStmt s ∷ []) = cond-false (is_target e) _ _ h
no_for_in i e h l [] = refl
no_for_in i e h l (AnExpr j y ∷ []) = refl
no_for_in i e h l (AnExpr j y ∷ AStmt s ∷ r ∷ qs) = refl
no_for_in i e h l (AnExpr j y ∷ r ∷ qs) = refl
no_for_in i e h l (q ∷ AStmt s ∷ []) = refl
no_for_in i e h l (q ∷ []) = refl
no_for_in i e h l (q ∷ AStmt s ∷ r ∷ qs) = refl
no_for_in i e h l (q ∷ r ∷ qs) = refl

no_for_of : (i : ℕ) (e : Expr) → is_target e ≡ false → (l : Loc) (qs : List Piece) → build slot.For l (AnExpr i e ∷ IsOf ∷ qs) ≡ None
no_for_of i e h l (AnExpr j y ∷ AStmt s ∷ []) = cond-false (is_target e && not (is_async e)) _ _ (ap (λ b. b && not (is_async e)) h)
no_for_of i e h l [] = refl
no_for_of i e h l (AnExpr j y ∷ []) = refl
no_for_of i e h l (AnExpr j y ∷ AStmt s ∷ r ∷ qs) = refl
no_for_of i e h l (AnExpr j y ∷ r ∷ qs) = refl
no_for_of i e h l (q ∷ AStmt s ∷ []) = refl
no_for_of i e h l (q ∷ []) = refl
no_for_of i e h l (q ∷ AStmt s ∷ r ∷ qs) = refl
no_for_of i e h l (q ∷ r ∷ qs) = refl

-- ---- before a sign

shift_lost : (i : ℕ) (e : Expr) (l : Loc) (fs : List Frame) (sign : Token) (d : Config) → is_target e ≡ false → (o : Option Form) → assigns o ≡ true → shift o i e l fs sign ≡ Some d → Doomed d
shift_lost i e l fs sign d none (Some (slot.Assignment o)) assigned h =
    by_bool (nat_le (wants (Some (slot.Assignment o))) i && fits (place fs) i e) _ _ d (λ c q. lands Doomed q (inr (inl (λ m qs. no_assignment o i e none m qs)))) (λ c q. nowhere q) h
shift_lost i e l fs sign d none (Some (slot.Postfix o)) assigned h =
    by_bool (nat_le (wants (Some (slot.Postfix o))) i && fits (place fs) i e) _ _ d (λ c q. lands Doomed q (inr (inl (λ m qs. no_postfix o i e none m qs)))) (λ c q. nowhere q) h
shift_lost i e l fs sign d none o assigned h = absurd (true≢false (sym assigned))

sign_lost : (i : ℕ) (e : Expr) (l : Loc) (f : Frame) (fs : List Frame) (sign : Token) → is_target e ≡ false → assigns (join sign) ≡ true → continues (wanted f) e sign ≡ true → Lost (have (f ∷ fs) (Some (AnExpr i e)) l sign)
sign_lost i e l f fs sign none assigned go =
    lost_of (have (f ∷ fs) (Some (AnExpr i e)) l sign) (λ d h. by_bool (continues (wanted f) e sign) _ _ d
    (λ c q. by_bool (banned sign (f ∷ fs)) _ _ d (λ k g. nowhere g) (λ k g. shift_lost i e l (f ∷ fs) sign d none (join sign) assigned g) q)
    (λ c q. absurd (true≢false (sym go ∙ c))) h)

-- the tokens of an expression that is wanted there lead to it
pub comes : (c : Config) (i : ℕ) (e : Expr) (l : Loc) (t : Token) (te : List Token) (f : Frame) (fs : List Frame) (next : Token) (ts : List Token) → turn c t ≡ want t (f ∷ fs) → fits (wanted f) i e ≡ true → Spells (AnExpr i e) l (t ∷ te) next → bare_in e ≡ false →
    run c (t ∷ (te ++ next ∷ ts)) ≡ then_run (have (f ∷ fs) (Some (AnExpr i e)) l next) (λ d. run d ts)
comes c i e l t te f fs next ts begins fit de bare_ = ap (λ o. then_run o (λ d. run d (te ++ next ∷ ts))) begins ∙ complete_expr de f fs ts fit (λ k. bare_)

pub assigned_lost : (c : Config) (i : ℕ) (e : Expr) (l : Loc) (t : Token) (te : List Token) (f : Frame) (fs : List Frame) (sign : Token) (ts : List Token) → turn c t ≡ want t (f ∷ fs) → fits (wanted f) i e ≡ true → Spells (AnExpr i e) l (t ∷ te) sign →
    is_target e ≡ false → bare_in e ≡ false → assigns (join sign) ≡ true → continues (wanted f) e sign ≡ true → Lost (run c (t ∷ (te ++ sign ∷ ts)))
assigned_lost c i e l t te f fs sign ts begins fit de none bare_ assigned go = subst Lost (sym (comes c i e l t te f fs sign ts begins fit de bare_)) (lost_then (have (f ∷ fs) (Some (AnExpr i e)) l sign) ts (sign_lost i e l f fs sign none assigned go))

-- ---- after the sign of an update

no_have : (fs : List Frame) (m : Loc) (t : Token) → have fs None m t ≡ None
no_have [] m t = refl
no_have (f ∷ fs) m t = refl

update_stops : (i : ℕ) (e : Expr) (f : Frame) (fs : List Frame) (m : Loc) (next : Token) → is_update f ≡ true → fits (wanted f) i e ≡ true → is_target e ≡ false → continues (wanted f) e next ≡ false → have (f ∷ fs) (Some (AnExpr i e)) m next ≡ None
update_stops i e (InForm (slot.PrefixUpdate o) w (Expr_ n) [] []) fs m next is fit none go =
    cond-false (continues n e next) _ _ go ∙ cond-true (fits n i e) _ _ fit ∙ ap (λ x. have fs x (through w m) next) (no_prefix o i e none (through w m)) ∙ no_have fs (through w m) next
update_stops i e f fs m next is fit none go = absurd (true≢false (sym is))

pub updated_stops : (c : Config) (i : ℕ) (e : Expr) (l : Loc) (t : Token) (te : List Token) (f : Frame) (fs : List Frame) (next : Token) (ts : List Token) → turn c t ≡ want t (f ∷ fs) → fits (wanted f) i e ≡ true → Spells (AnExpr i e) l (t ∷ te) next → is_target e ≡ false → bare_in e ≡ false →
    is_update f ≡ true → continues (wanted f) e next ≡ false → run c (t ∷ (te ++ next ∷ ts)) ≡ None
updated_stops c i e l t te f fs next ts begins fit de none bare_ is go = comes c i e l t te f fs next ts begins fit de bare_ ∙ ap (λ x. then_run x (λ d. run d ts)) (update_stops i e f fs l next is fit none go)

-- ---- in the head of a `for`

pub heads_in : (i : ℕ) (e : Expr) (n : ℕ) (w m : Loc) (fs : List Frame) (word : Token) → fits (WithoutIn n) i e ≡ true → is_word (codes "in") word ≡ true →
    have (InForm slot.For w (Expr_ (WithoutIn n)) (By slot.AfterTarget ∷ []) [] ∷ fs) (Some (AnExpr i e)) m word ≡ Some (Due slot.For w (each_rest any) (AnExpr i e ∷ IsIn ∷ []) word.loc fs)
heads_in i e n w m fs word fit q =
    subst (λ k. have (InForm slot.For w (Expr_ (WithoutIn n)) (By slot.AfterTarget ∷ []) [] ∷ fs) (Some (AnExpr i e)) m (remade word k) ≡ Some (Due slot.For w (each_rest any) (AnExpr i e ∷ IsIn ∷ []) word.loc fs)) (sym (kind_is (Word (codes "in")) word.kind q)) (cond-true (fits (WithoutIn n) i e) _ _ fit)

pub heads_of : (i : ℕ) (e : Expr) (n : ℕ) (w m : Loc) (fs : List Frame) (word : Token) → fits (WithoutIn n) i e ≡ true → is_word (codes "of") word ≡ true →
    have (InForm slot.For w (Expr_ (WithoutIn n)) (By slot.AfterTarget ∷ []) [] ∷ fs) (Some (AnExpr i e)) m word ≡ Some (Due slot.For w (each_rest assignment) (AnExpr i e ∷ IsOf ∷ []) word.loc fs)
heads_of i e n w m fs word fit q =
    subst (λ k. have (InForm slot.For w (Expr_ (WithoutIn n)) (By slot.AfterTarget ∷ []) [] ∷ fs) (Some (AnExpr i e)) m (remade word k) ≡ Some (Due slot.For w (each_rest assignment) (AnExpr i e ∷ IsOf ∷ []) word.loc fs)) (sym (kind_is (Word (codes "of")) word.kind q)) (cond-true (fits (WithoutIn n) i e) _ _ fit)

each_lost : (i : ℕ) (e : Expr) (f : Frame) (m : Loc) (fs : List Frame) (word : Token) → is_head f ≡ true → fits (wanted f) i e ≡ true → is_target e ≡ false → is_each word ≡ true → Lost (have (f ∷ fs) (Some (AnExpr i e)) m word)
each_lost i e (InForm slot.For w (Expr_ (WithoutIn n)) (By slot.AfterTarget ∷ []) []) m fs word is fit none each_ = either_of (is_word (codes "in") word) (is_word (codes "of") word) each_ by_in by_of
  where
    by_in : is_word (codes "in") word ≡ true → Lost (have (InForm slot.For w (Expr_ (WithoutIn n)) (By slot.AfterTarget ∷ []) [] ∷ fs) (Some (AnExpr i e)) m word)
    by_in q = lost_of _ (λ d h. lands Doomed (sym (heads_in i e n w m fs word fit q) ∙ h) (inr (inl (λ l qs. no_for_in i e none l qs))))

    by_of : is_word (codes "of") word ≡ true → Lost (have (InForm slot.For w (Expr_ (WithoutIn n)) (By slot.AfterTarget ∷ []) [] ∷ fs) (Some (AnExpr i e)) m word)
    by_of q = lost_of _ (λ d h. lands Doomed (sym (heads_of i e n w m fs word fit q) ∙ h) (inr (inl (λ l qs. no_for_of i e none l qs))))
each_lost i e f m fs word is fit none each_ = absurd (true≢false (sym is))

pub head_lost : (c : Config) (i : ℕ) (e : Expr) (l : Loc) (t : Token) (te : List Token) (f : Frame) (fs : List Frame) (word : Token) (ts : List Token) → turn c t ≡ want t (f ∷ fs) → fits (wanted f) i e ≡ true → Spells (AnExpr i e) l (t ∷ te) word → is_target e ≡ false → bare_in e ≡ false →
    is_head f ≡ true → is_each word ≡ true → Lost (run c (t ∷ (te ++ word ∷ ts)))
head_lost c i e l t te f fs word ts begins fit de none bare_ is each_ =
    subst Lost (sym (comes c i e l t te f fs word ts begins fit de bare_)) (lost_then (have (f ∷ fs) (Some (AnExpr i e)) l word) ts (each_lost i e f l fs word is fit none each_))
