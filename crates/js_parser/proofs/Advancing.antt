-- What comes after the arguments of a word, token by token: whatever stands in a text is what was asked for, or goes nowhere.
use Rattle.std.proofs.Common.{◌≡◌, ℕ, ◌<◌, inl, inr, Bool, true, false, not, ◌&&◌, List, [], ◌∷◌, ◌++◌, length, Option, Some, None, is_some, codes, if◌then◌else◌, refl, sym, ap, subst, ◌∙◌}
use Rattle.std.specs.Prelude.{◌||◌}
use Rattle.std.proofs.lemmas.Bool.{true≢false, and_parts}
use Rattle.js_terms.specs.declared.place.Loc.{Loc}
use Rattle.js_text.specs.Place.{Place}
use Rattle.js_text.specs.declared.goal.Goal.TheVariants as goal
use Rattle.js_text.specs.declared.punctuator.Punctuator.TheVariants as P
use Rattle.js_text.specs.Token.{Token}
use Rattle.js_text.specs.Token as T
use Rattle.js_text.specs.Lex.{next_token}
use Rattle.js_reading.specs.Kinds.{is_kind}
use Rattle.js_reading.specs.declared.form.Form.TheVariants as form
use Rattle.js_reading.specs.Productions.{is_mark, is_word}
use Rattle.js_reading.specs.Turns.{Config, Due, Have, Item, Start, Finished, turn, then_run, run, template_due, goal_of_place, braced}
use Rattle.js_reading.specs.Unsupported.{at_any_name}
use Rattle.js_reading.specs.declared.unsupported.Unsupported.{Unsupported}
use Rattle.js_reading.specs.declared.unsupported.Unsupported.TheVariants.{Async}
use Rattle.js_reading.specs.Found.{Find, Turns, when, found, ahead, opens_call, starts_at, argues, then_holds, arrow_comes, further}
use Rattle.js_reading.specs.Reads.{goal_of, continued, next_for, unless_braced, asked_for, Lexes, no_token, one_more, next_two, NoneFurther}
use Rattle.js_reading.proofs.finding.Coming.{or_two}
use Rattle.js_reading.proofs.goals.Finishing.{end_finishes}
use Rattle.js_reading.proofs.goals.ForGoals.{asked_stands, div_stands}
use Rattle.js_reading.proofs.sentences.KindsLemmas.{kind_is}
use Rattle.js_reading.proofs.sentences.Runs.{run_append}
use Rattle.js_reading.proofs.goals.Texts.{only_asked}
use Rattle.js_stack.specs.Reader.{height_of}
use Rattle.js_stack.specs.Sight.{callee}
use Rattle.js_parser.specs.Further.{Comes, ComesAt, GoesOn, Arguing, FoundFurther, FoundBeyond}
use Rattle.js_parser.specs.Turn.{Steps}
use Rattle.js_parser.proofs.Standing.{asked_advances, finished_height}

or_off : (x y : Bool) → x ≡ false → y ≡ false → (x || y) ≡ false
or_off x y h k = ap (λ b. b || y) h ∙ k

no_truth : (b : Bool) → (b ≡ true → ⊥) → b ≡ false
no_truth false h = refl
no_truth true h = absurd (h refl)

same_found : {x y : Token × Place} → Some x ≡ Some y → x ≡ y
same_found h = cc

same_config : {x y : Config} → Some x ≡ Some y → x ≡ y
same_config h = cc

-- ---- where the arguments are whole

pub argues_is : (l : Loc) (c : Config) → argues l c ≡ starts_at l (callee c)
argues_is l (Due form.Call w [] ps m fs) = refl
argues_is l (Due form.Call w (s ∷ ss) ps m fs) = refl
argues_is l (Due form.New w [] ps m fs) = refl
argues_is l (Due form.New w (s ∷ ss) ps m fs) = refl
argues_is l (Due f w ss ps m fs) = refl
argues_is l c = refl

-- there a `=>` that stands next is what is asked for
arrow_asked : (l : Loc) (c : Config) (here after : Place) (t : Token) → argues l c ≡ true → is_mark P.Arrow t ≡ true → next_for (goal_of t.kind) here ≡ Some (t, after) → asked_for (goal_of_place c) here ≡ Some (t, after)
arrow_asked l c here after t whole is h = by_place c whole
  where
    kind : t.kind ≡ T.Punctuator P.Arrow
    kind = kind_is (T.Punctuator P.Arrow) t.kind is

    next : next_token goal.Div here ≡ Some (t, after)
    next = subst (λ k. next_for (goal_of k) here ≡ Some (t, after)) kind h

    by_goal : (b : Bool) → asked_for (if b then goal.Template else goal.Div) here ≡ Some (t, after)
    by_goal true = ap (unless_braced here) next ∙ ap (λ k. if braced k then continued here (Some (t, after)) else Some (t, after)) kind
    by_goal false = next

    by_place : (d : Config) → argues l d ≡ true → asked_for (goal_of_place d) here ≡ Some (t, after)
    by_place (Due form.Call w [] ps m fs) q = by_goal (template_due fs)
    by_place (Due form.New w [] ps m fs) q = by_goal (template_due fs)
    by_place d q = absurd (true≢false (sym q))

-- ---- with a token that stands there

far_off : (l : Loc) (c : Config) (t : Token) (ts : List Token) → ((is_mark P.Arrow t && argues l c) ≡ true → ⊥) → ((d : Config) → turn c t ≡ Some d → arrow_comes l d ts ≡ false) → arrow_comes l c (t ∷ ts) ≡ false
far_off l c t ts here on = or_off (is_mark P.Arrow t && argues l c) (then_holds (turn c t) (λ d. arrow_comes l d ts)) (no_truth (is_mark P.Arrow t && argues l c) here) (by_turn (turn c t) on)
  where
    by_turn : (o : Option Config) → ((d : Config) → o ≡ Some d → arrow_comes l d ts ≡ false) → then_holds o (λ d. arrow_comes l d ts) ≡ false
    by_turn None k = refl
    by_turn (Some d) k = k d refl

-- what goes on there, or is a `=>` after the arguments, is what is asked for
abbrev Asks : Config → Place → Token → Place → Type 0
Asks c here t after = asked_for (goal_of_place c) here ≡ Some (t, after)

-- no token is asked for there, or one that goes nowhere: `=>` doesn't come
pub none_comes : (l : Loc) (c : Config) (here : Place) (ts : List Token) → run Start ts ≡ Some c → ((t : Token) (after : Place) → Asks c here t after → ((is_mark P.Arrow t && argues l c) ≡ true → ⊥) × (turn c t ≡ None)) → Comes false l c here
none_comes l c here ts ran none [] end d = refl
none_comes l c here ts ran none (u ∷ us) end (one_more {between = q} g d) =
    far_off l c u us (λ k. let a = and_parts (is_mark P.Arrow u) (argues l c) k in (none u q (arrow_asked l c here q u a.1 a.0 g)).0 k) (λ e k. clash (none u q (only_asked here q c e u ts ran g k)).1 k)
  where
    clash : {A : Type 0} {o : Option Config} {e : Config} → o ≡ None → o ≡ Some e → A
    clash {e = e} none_ some_ = let q : None ≡ Some e = sym none_ ∙ some_ in absurd cc

pub unasked_comes : (l : Loc) (c : Config) (here : Place) (ts : List Token) → run Start ts ≡ Some c → asked_for (goal_of_place c) here ≡ None → Comes false l c here
unasked_comes l c here ts ran none = none_comes l c here ts ran (λ t after h. no_asked (sym none ∙ h))
  where
    no_asked : {A : Type 0} {x : Token × Place} → None ≡ Some x → A
    no_asked q = absurd cc

pub refused_comes : (l : Loc) (c : Config) (here after : Place) (t : Token) (ts : List Token) → run Start ts ≡ Some c → Asks c here t after → (is_mark P.Arrow t && argues l c) ≡ false → turn c t ≡ None → Comes false l c here
refused_comes l c here after t ts ran asked test refused = none_comes l c here ts ran (λ u q h. by_same u (ap (λ (x : Token × Place). x.0) (same_found (sym asked ∙ h))))
  where
    by_same : (u : Token) → t ≡ u → ((is_mark P.Arrow u && argues l c) ≡ true → ⊥) × (turn c u ≡ None)
    by_same u e = (λ k. true≢false (sym k ∙ (ap (λ x. is_mark P.Arrow x && argues l c) (sym e) ∙ test)), ap (turn c) (sym e) ∙ refused)

-- it is `=>`, and the arguments are whole
pub arrow_there : (l : Loc) (c : Config) (here after : Place) (t : Token) → Asks c here t after → (is_mark P.Arrow t && argues l c) ≡ true → Comes true l c here
arrow_there l c here after t asked test = (t ∷ [], after, one_more (asked_stands (goal_of_place c) here (t, after) asked) no_token, ap (λ b. b || then_holds (turn c t) (λ d. arrow_comes l d [])) test)

-- it goes on
pub comes_on : (l : Loc) (c d : Config) (here after : Place) (t : Token) (ts : List Token) (comes : Bool) → run Start ts ≡ Some c → Asks c here t after → (is_mark P.Arrow t && argues l c) ≡ false → turn c t ≡ Some d → Comes comes l d after → Comes comes l c here
comes_on l c d here after t ts true ran asked test on (us, end, lexed, h) =
    (t ∷ us, end, one_more (asked_stands (goal_of_place c) here (t, after) asked) lexed, or_two (is_mark P.Arrow t && argues l c) (then_holds (turn c t) (λ e. arrow_comes l e us)) (ap (λ o. then_holds o (λ e. arrow_comes l e us)) on ∙ h))
comes_on l c d here after t ts false ran asked test on none = all
  where
    same_token : (u : Token) (q : Place) → Asks c here u q → (t ≡ u) × (after ≡ q)
    same_token u q h = let e = same_found (sym asked ∙ h) in (ap (λ (x : Token × Place). x.0) e, ap (λ (x : Token × Place). x.1) e)

    all : (us : List Token) (end : Place) → Lexes here us end → arrow_comes l c us ≡ false
    all [] end lexed = refl
    all (u ∷ us) end (one_more {between = q} g lexed) =
        far_off l c u us
        (λ k. let a = and_parts (is_mark P.Arrow u) (argues l c) k in let e = same_token u q (arrow_asked l c here q u a.1 a.0 g) in true≢false (sym k ∙ (ap (λ x. is_mark P.Arrow x && argues l c) (sym e.0) ∙ test)))
        (λ x k. let e = same_token u q (only_asked here q c x u ts ran g k) in
        let there = same_config (sym on ∙ (ap (turn c) e.0 ∙ k)) in
        subst (λ y. arrow_comes l y us ≡ false) there (none us end (subst (λ y. Lexes y us end) (sym e.1) lexed)))

-- ---- the loop

pub argues_first : (word opening : Token) (from : Place) (c : Config) → run Start (word ∷ opening ∷ []) ≡ Some c → Arguing word opening from c from
argues_first word opening from c ran = record { tokens = word ∷ opening ∷ []; ran = ran; back = λ comes h. subst (λ o. ComesAt comes word.loc o from) (sym ran) h }

pub argues_on : (word opening : Token) (from : Place) (c d : Config) (here after : Place) (t : Token) → Arguing word opening from c here → Asks c here t after → (is_mark P.Arrow t && argues word.loc c) ≡ false → turn c t ≡ Some d → Arguing word opening from d after
argues_on word opening from c d here after t a asked test on = record {
  tokens = a.tokens ++ t ∷ [];
  ran = run_append Start a.tokens (t ∷ []) ∙ ap (λ o. then_run o (λ x. run x (t ∷ []))) a.ran ∙ ap (λ o. then_run o (λ x. Some x)) on;
  back = λ comes h. a.back comes (comes_on word.loc c d here after t a.tokens comes a.ran asked test on h);
}

-- a file that is whole goes on with no token
pub finished_comes : (l : Loc) (c : Config) (here : Place) → is_some (height_of c) ≡ true → Comes false l c here
finished_comes l c here h us end lexed = by_tokens c us h
  where
    by_tokens : (d : Config) (us : List Token) → is_some (height_of d) ≡ true → arrow_comes l d us ≡ false
    by_tokens (Finished ss) [] k = refl
    by_tokens (Finished ss) (u ∷ us) k = or_off (is_mark P.Arrow u && false) false (no_truth (is_mark P.Arrow u && false) (λ q. true≢false (sym (and_parts (is_mark P.Arrow u) false q).1))) refl
    by_tokens (Due f w ss ps m fs) us k = absurd (true≢false (sym k))
    by_tokens (Have p m fs) us k = absurd (true≢false (sym k))
    by_tokens (Item fs) us k = absurd (true≢false (sym k))
    by_tokens Start us k = absurd (true≢false (sym k))

pub argues_smaller : (word opening : Token) (from : Place) (c d : Config) (here after : Place) (t : Token) → Arguing word opening from c here → Asks c here t after → turn c t ≡ Some d → is_some (height_of d) ≡ false → length after.after < length here.after
argues_smaller word opening from c d here after t a asked on going = elim (asked_advances (goal_of_place c) here after t asked) [
  | inl end ↦ absurd (true≢false (sym (finished_height d (end_finishes a.tokens t c d a.ran on end)) ∙ going))
  | inr less ↦ less
]

-- ---- what is found

-- where a name is due, and where no `(` stands on the line
named_none : (c : Config) (t : Token) (place : Place) → at_any_name c ≡ true → NoneFurther c t place
named_none c t place named [] end lexed = refl
named_none c t place named (o ∷ us) end lexed = ap (λ b. when (not b && (opens_call t o && then_holds (turn Start t) (λ d. arrow_comes t.loc d (o ∷ us)))) Async t.loc) named

pub further_named : (c : Config) (t : Token) (place : Place) → at_any_name c ≡ true → FoundFurther None c t place
further_named = named_none

unopened : (c : Config) (t o : Token) (us : List Token) → (opens_call t o ≡ true → then_holds (turn Start t) (λ d. arrow_comes t.loc d (o ∷ us)) ≡ false) → further c t (o ∷ us) ≡ None
unopened c t o us h = by_tests (not (at_any_name c)) (opens_call t o) (then_holds (turn Start t) (λ d. arrow_comes t.loc d (o ∷ us))) h
  where
    by_tests : (x y z : Bool) → (y ≡ true → z ≡ false) → when (x && (y && z)) Async t.loc ≡ None
    by_tests false y z k = refl
    by_tests true false z k = refl
    by_tests true true z k = ap (λ b. when b Async t.loc) (k refl)

opening_next : (t o : Token) (place after : Place) → opens_call t o ≡ true → next_for (goal_of o.kind) place ≡ Some (o, after) → next_token goal.Div place ≡ Some (o, after)
opening_next t o place after h g =
    let a = and_parts (is_word (codes "async") t) (is_mark P.OpenParenthesis o && not o.line_terminator_before) h in
    let b = and_parts (is_mark P.OpenParenthesis o) (not o.line_terminator_before) a.1 in
    subst (λ k. next_for (goal_of k) place ≡ Some (o, after)) (kind_is (T.Punctuator P.OpenParenthesis) o.kind b.0) g

pub further_unlexed : (c : Config) (t : Token) (place : Place) → next_token goal.Div place ≡ None → FoundFurther None c t place
further_unlexed c t place none [] end lexed = refl
further_unlexed c t place none (o ∷ us) end (one_more {between = q} g lexed) = unopened c t o us (λ h. no_token_there (sym none ∙ opening_next t o place q h g))
  where
    no_token_there : {A : Type 0} {x : Token × Place} → None ≡ Some x → A
    no_token_there e = absurd cc

pub further_unopened : (c : Config) (t o : Token) (place after : Place) → next_token goal.Div place ≡ Some (o, after) → opens_call t o ≡ false → FoundFurther None c t place
further_unopened c t o place after next shut [] end lexed = refl
further_unopened c t o place after next shut (u ∷ us) end (one_more {between = q} g lexed) =
    unopened c t u us (λ h. let e = ap (λ (x : Token × Place). x.0) (same_found (sym next ∙ opening_next t u place q h g)) in absurd (true≢false (sym h ∙ (ap (λ x. opens_call t x) (sym e) ∙ shut))))

-- after the word and `(` it is told by what comes there
pub further_none : (c : Config) (t o : Token) (place after : Place) → next_token goal.Div place ≡ Some (o, after) → ComesAt false t.loc (run Start (t ∷ o ∷ [])) after → FoundFurther None c t place
further_none c t o place after next none [] end lexed = refl
further_none c t o place after next none (u ∷ us) end (one_more {between = q} g lexed) = unopened c t u us (λ h. by_same u (same_found (sym next ∙ opening_next t u place q h g)) (opens h))
  where
    opens : opens_call t u ≡ true → is_mark P.Arrow u ≡ false
    opens h =
        let a = and_parts (is_word (codes "async") t) (is_mark P.OpenParenthesis u && not u.line_terminator_before) h in
        let b = and_parts (is_mark P.OpenParenthesis u) (not u.line_terminator_before) a.1 in
        ap (is_kind (T.Punctuator P.Arrow)) (kind_is (T.Punctuator P.OpenParenthesis) u.kind b.0)

    by_same : (v : Token) → (◌≡◌) {A = Token × Place} (o, after) (v, q) → is_mark P.Arrow v ≡ false → then_holds (turn Start t) (λ d. arrow_comes t.loc d (v ∷ us)) ≡ false
    by_same v e no_arrow = by_word (turn Start t) (subst (λ x. ComesAt false t.loc (run Start (t ∷ x ∷ [])) after) (ap (λ (x : Token × Place). x.0) e) none)
      where
        by_opening : (d : Config) (p : Option Config) → turn d v ≡ p → ComesAt false t.loc (then_run p (λ x. Some x)) after → arrow_comes t.loc d (v ∷ us) ≡ false
        by_opening d p e2 k =
            or_off (is_mark P.Arrow v && argues t.loc d) (then_holds (turn d v) (λ x. arrow_comes t.loc x us)) (ap (λ b. b && argues t.loc d) no_arrow)
            (ap (λ y. then_holds y (λ x. arrow_comes t.loc x us)) e2 ∙ by_place p k)
          where
            by_place : (y : Option Config) → ComesAt false t.loc (then_run y (λ x. Some x)) after → then_holds y (λ x. arrow_comes t.loc x us) ≡ false
            by_place None j = refl
            by_place (Some x) j = j us end (subst (λ y. Lexes y us end) (sym (ap (λ (y : Token × Place). y.1) e)) lexed)

        by_word : (y : Option Config) → ComesAt false t.loc (then_run y (λ d. run d (v ∷ []))) after → then_holds y (λ d. arrow_comes t.loc d (v ∷ us)) ≡ false
        by_word None k = refl
        by_word (Some d) k = by_opening d (turn d v) refl k

pub further_some : (c : Config) (t o : Token) (place after : Place) → at_any_name c ≡ false → opens_call t o ≡ true → next_token goal.Div place ≡ Some (o, after) → ComesAt true t.loc (run Start (t ∷ o ∷ [])) after → FoundFurther (Some (Async, t.loc)) c t place
further_some c t o place after unnamed opens next comes = by_word (turn Start t) refl comes
  where
    found_with : (us : List Token) (end : Place) → Lexes after us end → then_holds (turn Start t) (λ d. arrow_comes t.loc d (o ∷ us)) ≡ true → FoundFurther (Some (Async, t.loc)) c t place
    found_with us end lexed h = (o ∷ us, end, one_more (div_stands place (o, after) next) lexed, ap (λ b. when (not b && (opens_call t o && then_holds (turn Start t) (λ d. arrow_comes t.loc d (o ∷ us)))) Async t.loc) unnamed ∙ ap (λ b. when (b && then_holds (turn Start t) (λ d. arrow_comes t.loc d (o ∷ us))) Async t.loc) opens ∙ ap (λ b. when b Async t.loc) h)

    by_opening : (d : Config) → turn Start t ≡ Some d → (y : Option Config) → turn d o ≡ y → ComesAt true t.loc (then_run y (λ x. Some x)) after → FoundFurther (Some (Async, t.loc)) c t place
    by_opening d e None e2 k = absurd (true≢false k)
    by_opening d e (Some x) e2 k =
        found_with k.0 k.1 k.2 (ap (λ y. then_holds y (λ z. arrow_comes t.loc z (o ∷ k.0))) e ∙ or_two (is_mark P.Arrow o && argues t.loc d) (then_holds (turn d o) (λ z. arrow_comes t.loc z k.0)) (ap (λ y. then_holds y (λ z. arrow_comes t.loc z k.0)) e2 ∙ k.3))

    by_word : (y : Option Config) → turn Start t ≡ y → ComesAt true t.loc (then_run y (λ d. run d (o ∷ []))) after → FoundFurther (Some (Async, t.loc)) c t place
    by_word None e k = absurd (true≢false k)
    by_word (Some d) e k = by_opening d e (turn d o) refl k

-- ---- what a turn of the code says

pub goes : (taken : Bool) (before after : Config) (t : Token) (limit : ℕ) → Steps taken before after t limit → GoesOn taken before after t
goes true before after t limit steps = steps.0
goes false before after t limit steps = steps

pub not_begun : (word opening : Token) (from : Place) → turn Start word ≡ None → ComesAt false word.loc (run Start (word ∷ opening ∷ [])) from
not_begun word opening from none = subst (λ o. ComesAt false word.loc o from) (sym (ap (λ o. then_run o (λ d. run d (opening ∷ []))) none)) refl

pub not_opened : (word opening : Token) (from : Place) (d : Config) → turn Start word ≡ Some d → turn d opening ≡ None → ComesAt false word.loc (run Start (word ∷ opening ∷ [])) from
not_opened word opening from d begun none = subst (λ o. ComesAt false word.loc o from) (sym (ap (λ o. then_run o (λ x. run x (opening ∷ []))) begun ∙ ap (λ o. then_run o (λ x. Some x)) none)) refl

pub both_read : (word opening : Token) (d e : Config) → turn Start word ≡ Some d → turn d opening ≡ Some e → run Start (word ∷ opening ∷ []) ≡ Some e
both_read word opening d e begun opened = ap (λ o. then_run o (λ x. run x (opening ∷ []))) begun ∙ ap (λ o. then_run o (λ x. Some x)) opened

-- a token that goes on, or not, by what the code says of it
pub went : (taken : Bool) (before after : Config) (t : Token) → GoesOn taken before after t → taken ≡ true → turn before t ≡ Some after
went true before after t goes_ is = goes_
went false before after t goes_ is = absurd (true≢false (sym is))

pub stayed : (taken : Bool) (before after : Config) (t : Token) → GoesOn taken before after t → taken ≡ false → turn before t ≡ None
stayed false before after t goes_ is = goes_
stayed true before after t goes_ is = absurd (true≢false is)

-- ---- the first that is found

pub beyond_found : (o : Find) (turns : Turns) (c : Config) (t : Token) (place : Place) → is_some o ≡ true → o ≡ found turns c t → FoundBeyond o turns c t place
beyond_found (Some x) turns c t place is h = inl (sym h)
beyond_found None turns c t place is h = absurd (true≢false (sym is))

unfound : (o : Find) (turns : Turns) (c : Config) (t : Token) → is_some o ≡ false → o ≡ found turns c t → found turns c t ≡ None
unfound None turns c t isnt h = sym h
unfound (Some x) turns c t isnt h = absurd (true≢false isnt)

pub beyond_ahead : (o : Find) (x : Unsupported × Loc) (turns : Turns) (c : Config) (t : Token) (place : Place) → is_some o ≡ false → o ≡ found turns c t → Some x ≡ ahead turns c t (next_two place) → FoundBeyond (Some x) turns c t place
beyond_ahead o x turns c t place isnt h k = inr (unfound o turns c t isnt h, inl (sym k))

pub beyond_further : (o find : Find) (turns : Turns) (c : Config) (t : Token) (place : Place) → is_some o ≡ false → o ≡ found turns c t → None ≡ ahead turns c t (next_two place) → FoundFurther find c t place → FoundBeyond find turns c t place
beyond_further o None turns c t place isnt h k far = (unfound o turns c t isnt h, sym k, far)
beyond_further o (Some x) turns c t place isnt h k far = inr (unfound o turns c t isnt h, inr far)
