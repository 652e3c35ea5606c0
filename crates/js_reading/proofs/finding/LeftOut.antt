-- What a reader finds in a text is left out of it; where it finds nothing, the text has none up to there.
use Rattle.std.proofs.Common.{◌≡◌, ℕ, ◌+◌, ◌<◌, ◌^◌, Bool, true, false, not, ◌&&◌, ◌||◌, List, [], ◌∷◌, ◌++◌, length, Option, Some, None, codes, if◌then◌else◌, refl, sym, ap, subst, ◌∙◌, append_assoc, append-nil, arith}
use Rattle.std.specs.Option.{option_map}
use Rattle.std.specs.Str.{chars}
use Rattle.std.specs.Prelude.{encode_utf8_all}
use Rattle.std.proofs.lemmas.Bool.{true≢false, eq-eqb}
use Rattle.js_terms.specs.declared.place.Loc.{Loc}
use Rattle.js_terms.specs.declared.place.Pos.{Pos}
use Rattle.js_tree.specs.Plain.{File}
use Rattle.js_text.specs.Place.{Place}
use Rattle.js_text.specs.Position.{position_of}
use Rattle.js_text.specs.declared.goal.Goal.{Goal}
use Rattle.js_text.specs.declared.goal.Goal.TheVariants as goal
use Rattle.js_text.specs.declared.punctuator.Punctuator.{Punctuator}
use Rattle.js_text.specs.declared.punctuator.Punctuator.TheVariants as P
use Rattle.js_text.specs.Token.{Token, Kind}
use Rattle.js_text.specs.Token as T
use Rattle.js_text.specs.Lex.{moved, next_token, token_of, token_after, token_place, offset_of, characters_of}
use Rattle.js_reading.specs.Kinds.{is_kind}
use Rattle.js_reading.specs.Slots.{Key, BoundName}
use Rattle.js_reading.specs.Productions.{is_mark, is_class, is_proto_word}
use Rattle.js_reading.specs.Sentences.{Sentence}
use Rattle.js_reading.specs.Turns.{Config, turn, tree_of, is_for, goal_of_place}
use Rattle.js_reading.specs.Unsupported.{Unsupported, Async, Proto}
use Rattle.js_reading.specs.Found.{Find, or_else, is_free, is_key, at_object, first_of, twos, two, proto_key, three, three_ahead, three_over, aheads, ahead, further, Turns, found, Searched, Clean, same_start, BegunAt}
use Rattle.js_reading.specs.Reads.{goal_of, after_gap_of, continued, next_for, asked_for, Lexes, no_token, one_more, without_comments, start_of, Reads, Supported, LeftOutThere, Leads, one_met, two_met, next_two, NoneFurther}
use Rattle.js_reading.proofs.goals.Apart.{Onto, onto_same, onto_on, stands_for, onto_moved, length_append, starts_apart, text_apart}
use Rattle.js_reading.proofs.goals.Asked.{next_asked}
use Rattle.js_reading.proofs.finding.Finds.{found_begins, ahead_begins, further_begins}
use Rattle.js_reading.proofs.goals.ForGoals.{asked_stands, div_stands}
use Rattle.js_reading.proofs.finding.Found.{clean, clean_text}
use Rattle.js_reading.proofs.refusing.Refusing.{begins_dead}
use Rattle.js_reading.proofs.sentences.Shapes.{both_true}
use Rattle.js_reading.proofs.goals.Texts.{lexes_then, led_on, onward, Stops, no_tree}
use Rattle.js_reading.proofs.finding.Whole.{off_at}

-- ---- where a token starts

-- the place where it stands, for whichever goal
at_place : (g : Goal) (p : Place) (x : Token × Place) → next_token g p ≡ Some x → x.0.loc.start ≡ position_of (token_place g p)
at_place g p x h = by_found (token_of g (token_place g p).after) h
  where
    by_found : (o : Option (Kind × ℕ)) → option_map (λ found. (token_after g found.0 p (moved found.1 (token_place g p)), moved found.1 (token_place g p))) o ≡ Some x → x.0.loc.start ≡ position_of (token_place g p)
    by_found None q = absurd cc
    by_found (Some k) q = let same : (token_after g k.0 p (moved k.1 (token_place g p)), moved k.1 (token_place g p)) ≡ x = cc in ap (λ (y : Token × Place). y.0.loc.start) (sym same)

starts_there : (g : Goal) (p : Place) (x : Token × Place) → next_for g p ≡ Some x → x.0.loc.start ≡ position_of (token_place goal.Div p)
starts_there goal.Div p x h = at_place goal.Div p x h
starts_there goal.RegExp p x h = at_place goal.RegExp p x h
starts_there goal.Template p x h = by_brace (next_token goal.Div p) h
  where
    by_part : (brace : Token × Place) (o : Option (Token × Place)) → next_token goal.Template (token_place goal.Div p) ≡ o → option_map (after_gap_of brace.0) o ≡ Some x → x.0.loc.start ≡ position_of (token_place goal.Div p)
    by_part brace None e q = absurd cc
    by_part brace (Some part) e q =
        let same : after_gap_of brace.0 part ≡ x = cc in
        ap (λ (y : Token × Place). y.0.loc.start) (sym same) ∙ at_place goal.Template (token_place goal.Div p) part e
        ∙ ap (λ b. position_of (record { before = b; after = (token_place goal.Div p).after })) (append-nil (token_place goal.Div p).before)

    by_brace : (o : Option (Token × Place)) → continued p o ≡ Some x → x.0.loc.start ≡ position_of (token_place goal.Div p)
    by_brace None q = absurd cc
    by_brace (Some brace) q = by_part brace (next_token goal.Template (token_place goal.Div p)) refl q

-- ---- places of a text

lexes_onto : {p end : Place} {ts : List Token} → Lexes p ts end → Onto p end
lexes_onto {p = p} no_token = onto_same p
lexes_onto {p = p} (one_more {between = q} {token = t} h d) = let s = stands_for (goal_of t.kind) p (t, q) h in onto_on (onto_on s.onto s.on) (lexes_onto d)

onto_characters : {p q : Place} → Onto p q → characters_of q ≡ characters_of p
onto_characters {p = p} {q = q} o = ap (λ x. x ++ q.after) o.befores ∙ append_assoc p.before o.some q.after ∙ ap (λ x. p.before ++ x) (sym o.afters)

abbrev Cut : Place → List Token → List Token → Place → Type 0
Cut p ts us end = (q : Place) × Lexes p ts q × Lexes q us end

-- where the tokens after some of them stand
cut : {p end : Place} (ts us : List Token) {vs : List Token} → Lexes p vs end → vs ≡ ts ++ us → Cut p ts us end
cut {p = p} {end = end} [] us d e = (p, no_token, subst (λ x. Lexes p x end) e d)
cut (t ∷ ts) us no_token e = absurd cc
cut {p = p} {end = end} (t ∷ ts) us (one_more {between = q} {token = v} {tokens = vs} h d) e =
    let head : v ≡ t = cc in
    let rest : vs ≡ ts ++ us = cc in
    let r = cut ts us d rest in
    (r.0, one_more (subst (λ x. next_for (goal_of x.kind) p ≡ Some (x, q)) head h) r.1, r.2)

first_starts : {p end : Place} {t : Token} {us : List Token} → Lexes p (t ∷ us) end → t.loc.start ≡ position_of (token_place goal.Div p)
first_starts {p = p} {t = t} (one_more {between = q} h d) = starts_there (goal_of t.kind) p (t, q) h

-- ---- what begins a form in a text that has no tree

left_out : (text : List ℕ) (end : Place) (ts : List Token) (x : Unsupported × Loc) → Lexes (start_of text) ts end → BegunAt ts x → ((tree : File) → Reads text tree → ⊥) → LeftOutThere text x
left_out text end ts x d b none =
    let c = cut b.before (b.first ∷ b.others) d b.split in
    let o = onto_on (lexes_onto c.1) (onto_moved_over c.0) in
    record {
      place = token_place goal.Div c.0;
      within = onto_characters o;
      starts = sym (first_starts c.2) ∙ b.there;
      left_out = record {
        reached = record { tokens = b.before; place = c.0; lexed = c.1; there = refl };
        place = b.place;
        ran = b.ran;
        others = b.first ∷ b.others;
        end = end;
        lexed = c.2;
        begins = b.begins;
        none = none;
      };
    }
  where
    onto_moved_over : (p : Place) → Onto p (token_place goal.Div p)
    onto_moved_over p = onto_moved _ p

-- a tree's tokens don't go on with what begins a form
no_sentence : (ts : List Token) (x : Unsupported × Loc) (tree : File) → BegunAt ts x → Sentence tree ts → ⊥
no_sentence ts x tree b s = begins_dead x.0 b.before (b.first ∷ b.others) b.place b.ran b.begins.0 tree [] (subst (Sentence tree) (b.split ∙ sym (append-nil (b.before ++ b.first ∷ b.others))) s)

stops_at : (place after : Place) (c : Config) (t : Token) → asked_for (goal_of_place c) place ≡ Some (t, after) → turn c t ≡ None → Stops c place
stops_at place after c t h refused u p q =
    let e : Some (t, after) ≡ Some (u, p) = sym h ∙ q in
    let same : t ≡ u = ap (λ (o : Option (Token × Place)). elim o [ None ↦ t | Some z ↦ z.0 ]) e in
    subst (λ y. turn c y ≡ None) same refused

lexes_one : (place after : Place) (c : Config) (t : Token) → asked_for (goal_of_place c) place ≡ Some (t, after) → Lexes place (t ∷ []) after
lexes_one place after c t h = one_more (asked_stands (goal_of_place c) place (t, after) h) no_token

pub leaves_out : (text : List ℕ) (place after : Place) (c : Config) (turns : Turns) (t : Token) (x : Unsupported × Loc) (led : Leads text place c) → Searched led.tokens turns c → tree_of (Some c) ≡ None → length (chars text) < 2 ^ 30 →
    asked_for (goal_of_place c) place ≡ Some (t, after) → found turns c t ≡ Some x → LeftOutThere text x
leaves_out text place after c turns t x led s going small h q = left_out text after (led.tokens ++ t ∷ []) x (lexes_then led.lexed (lexes_one place after c t h)) (begun []) (by_turn (turn c t) refl)
  where
    begun : (us : List Token) → BegunAt (led.tokens ++ t ∷ us) x
    begun us = found_begins t us x s (text_apart text led.tokens place led.lexed small) q

    by_turn : (o : Option Config) → turn c t ≡ o → (tree : File) → Reads text tree → ⊥
    by_turn None refused = no_tree text place c led going (stops_at place after c t h refused)
    by_turn (Some d) read = λ tree reads.
        let on = onward text tree after d (led_on t led h read) reads in
        no_sentence (led.tokens ++ t ∷ on.others) x (without_comments tree) (begun on.others) (subst (Sentence (without_comments tree)) (append_assoc led.tokens (t ∷ []) on.others) on.sentence)

-- ---- the tokens ahead

abbrev Ends : Place → List Token → Type 0
Ends p ts = (end : Place) × Lexes p ts end

lexes_met : (p : Place) (o : Option (Token × Place)) → next_token goal.Div p ≡ o → Ends p (one_met o)
lexes_met p None h = (p, no_token)
lexes_met p (Some x) h = (x.1, one_more (div_stands p x h) no_token)

lexes_two : (p : Place) (o : Option (Token × Place)) → next_token goal.Div p ≡ o → Ends p (two_met o)
lexes_two p None h = (p, no_token)
lexes_two p (Some x) h = let r = lexes_met x.1 (next_token goal.Div x.1) refl in (r.0, one_more (div_stands p x h) r.1)

pub leaves_out_ahead : (text : List ℕ) (place after : Place) (c : Config) (turns : Turns) (t : Token) (x : Unsupported × Loc) (led : Leads text place c) → Searched led.tokens turns c → tree_of (Some c) ≡ None →
    asked_for (goal_of_place c) place ≡ Some (t, after) → turn c t ≡ None → found turns c t ≡ None → ahead turns c t (next_two after) ≡ Some x → LeftOutThere text x
leaves_out_ahead text place after c turns t x led s going h refused unfound q =
    let more = lexes_two after (next_token goal.Div after) refl in
    left_out text more.0 (led.tokens ++ t ∷ next_two after) x (lexes_then led.lexed (one_more (asked_stands (goal_of_place c) place (t, after) h) more.1)) (ahead_begins t (next_two after) x s unfound q)
    (no_tree text place c led going (stops_at place after c t h refused))

pub leaves_out_further : (text : List ℕ) (place after end : Place) (c : Config) (turns : Turns) (t : Token) (us : List Token) (x : Unsupported × Loc) (led : Leads text place c) → Searched led.tokens turns c → tree_of (Some c) ≡ None → length (chars text) < 2 ^ 30 →
    asked_for (goal_of_place c) place ≡ Some (t, after) → Lexes after us end → turn c t ≡ None → found turns c t ≡ None → further c t us ≡ Some x → LeftOutThere text x
leaves_out_further text place after end c turns t us x led s going small h d refused unfound q =
    let all = lexes_then led.lexed (one_more (asked_stands (goal_of_place c) place (t, after) h) d) in
    left_out text end (led.tokens ++ t ∷ us) x all (further_begins t us x s (text_apart text (led.tokens ++ t ∷ us) end all small) refused unfound q) (no_tree text place c led going (stops_at place after c t h refused))

-- what is no token for Div ends no form
other_mark : (k : Kind) → is_for goal.Div k ≡ false → (p : Punctuator) → is_kind (T.Punctuator p) k ≡ false
other_mark (T.RegularExpression w) h p = refl
other_mark (T.TemplateMiddle w) h p = refl
other_mark (T.TemplateTail w) h p = refl
other_mark k h p = absurd (true≢false h)

other_word : (k : Kind) → is_for goal.Div k ≡ false → (w : List ℕ) → is_kind (T.Word w) k ≡ false
other_word (T.RegularExpression v) h w = refl
other_word (T.TemplateMiddle v) h w = refl
other_word (T.TemplateTail v) h w = refl
other_word k h w = absurd (true≢false h)

abbrev of_kind : Token → Kind → Token
of_kind t k = record t { kind = k }

other_key : (t : Token) (k : Kind) → is_for goal.Div k ≡ false → is_class Key (of_kind t k) ≡ false
other_key t (T.RegularExpression v) h = refl
other_key t (T.TemplateMiddle v) h = refl
other_key t (T.TemplateTail v) h = refl
other_key t k h = absurd (true≢false h)

other_name : (t : Token) (k : Kind) → is_for goal.Div k ≡ false → is_class BoundName (of_kind t k) ≡ false
other_name t (T.RegularExpression v) h = refl
other_name t (T.TemplateMiddle v) h = refl
other_name t (T.TemplateTail v) h = refl
other_name t k h = absurd (true≢false h)

and_off : (a b : Bool) → b ≡ false → (a && b) ≡ false
and_off true b h = h
and_off false b h = refl

first_off : (a b : Bool) → a ≡ false → (a && b) ≡ false
first_off a b h = ap (λ x. x && b) h

or_off : (a b : Bool) → a ≡ false → b ≡ false → (a || b) ≡ false
or_off a b h k = ap (λ x. x || b) h ∙ k

-- none of these is found
data NoneOf : List Find → Type 0 where
  none_left : NoneOf []
  none_so : {b : Bool} {xs : List Find} (x : Unsupported × Loc) → b ≡ false → NoneOf xs → NoneOf ((if b then Some x else None) ∷ xs)
  none_first : {x : Find} {xs : List Find} → x ≡ None → NoneOf xs → NoneOf (x ∷ xs)

none_found : {xs : List Find} → NoneOf xs → first_of xs ≡ None
none_found none_left = refl
none_found (none_so {xs = xs} x h each) = ap (λ y. or_else (if y then Some x else None) (first_of xs)) h ∙ none_found each
none_found (none_first {xs = xs} h each) = ap (λ y. or_else y (first_of xs)) h ∙ none_found each

off : {b : Bool} (x : Unsupported × Loc) → b ≡ false → (if b then Some x else None) ≡ None
off x h = ap (λ y. if y then Some x else None) h

no_key : (n : Token) → is_for goal.Div n.kind ≡ false → is_key n ≡ false
no_key n h = or_off (is_class Key n) (is_mark P.OpenBracket n) (other_key n n.kind h) (other_mark n.kind h P.OpenBracket)

no_two : (c : Config) (t n : Token) → is_for goal.Div n.kind ≡ false → two c t n ≡ None
no_two c t n h = none_found each
  where
    each : NoneOf (twos c t n)
    each =
        none_so _ (and_off _ _ (other_mark n.kind h P.Dot))
        (none_so _ (and_off _ _ (first_off _ _ (other_word n.kind h (codes "function"))))
        (none_so _ (and_off _ _ (and_off _ _ (first_off _ _ (no_key n h))))
        (none_so _ (and_off _ _ (other_mark n.kind h P.Star))
        (none_so _ (and_off _ _ (and_off _ _ (no_key n h)))
        (none_so _ (and_off _ _ (and_off _ _ (other_mark n.kind h P.Assign)))
        none_left)))))

no_proto : (c : Config) (t n : Token) → is_for goal.Div n.kind ≡ false → proto_key c t n ≡ None
no_proto c t n h = off (Proto, t.loc) (and_off (is_proto_word t.kind) (at_object c && is_mark P.Colon n) (and_off (at_object c) (is_mark P.Colon n) (other_mark n.kind h P.Colon)))

no_named : (c : Config) (t n m : Token) → is_for goal.Div n.kind ≡ false → three c t n m ≡ None
no_named c t n m h =
    off (Async, t.loc) (and_off (is_free c t (codes "async")) (is_class BoundName n && (not n.line_terminator_before && is_mark P.Arrow m)) (first_off (is_class BoundName n) (not n.line_terminator_before && is_mark P.Arrow m) (other_name n n.kind h)))

no_arrow : (c : Config) (t n m : Token) → is_for goal.Div m.kind ≡ false → three c t n m ≡ None
no_arrow c t n m h =
    off (Async, t.loc) (and_off (is_free c t (codes "async")) (is_class BoundName n && (not n.line_terminator_before && is_mark P.Arrow m))
    (and_off (is_class BoundName n) (not n.line_terminator_before && is_mark P.Arrow m) (and_off (not n.line_terminator_before) (is_mark P.Arrow m) (other_mark m.kind h P.Arrow))))

no_over : (turns : Turns) (t n : Token) → is_for goal.Div n.kind ≡ false → three_over turns t n ≡ None
no_over [] t n h = refl
no_over (x ∷ turns) t n h = no_arrow x.0 x.1 t n h

no_three : (c : Config) (t n : Token) (ms : List Token) → is_for goal.Div n.kind ≡ false → three_ahead c t n ms ≡ None
no_three c t n [] h = refl
no_three c t n (m ∷ ms) h = no_named c t n m h

-- what stands there for a goal of its own is what is looked at, or none of it is found
div_next : (p q : Place) (n : Token) → next_for (goal_of n.kind) p ≡ Some (n, q) → is_for goal.Div n.kind ≡ true → next_token goal.Div p ≡ Some (n, q)
div_next p q n h is = next_asked goal.Div p (n, q) h is

three_met : (c : Config) (t n : Token) (p end : Place) (ms : List Token) → Lexes p ms end → three_ahead c t n (one_met (next_token goal.Div p)) ≡ None → three_ahead c t n ms ≡ None
three_met c t n p end [] d h = refl
three_met c t n p end (m ∷ ms) (one_more {between = q} g d) h = by_kind (is_for goal.Div m.kind) refl
  where
    by_kind : (b : Bool) → is_for goal.Div m.kind ≡ b → three c t n m ≡ None
    by_kind true is = subst (λ o. three_ahead c t n (one_met o) ≡ None) (div_next p q m g is) h
    by_kind false isnt = no_arrow c t n m isnt

none_ahead : (turns : Turns) (c : Config) (r : Token) (after end : Place) (us : List Token) → Lexes after us end → ahead turns c r (next_two after) ≡ None → ahead turns c r us ≡ None
none_ahead turns c r after end [] d h = refl
none_ahead turns c r after end (n ∷ us) (one_more {between = q} g d) h = by_kind (is_for goal.Div n.kind) refl
  where
    by_kind : (b : Bool) → is_for goal.Div n.kind ≡ b → first_of (aheads turns c r n us) ≡ None
    by_kind true is = none_found each
      where
        met : List Token
        met = one_met (next_token goal.Div q)

        k : first_of (aheads turns c r n met) ≡ None
        k = subst (λ o. ahead turns c r (two_met o) ≡ None) (div_next after q n g is) h

        each : NoneOf (aheads turns c r n us)
        each =
            none_first (off_at (aheads turns c r n met) 0 k)
            (none_first (three_met c r n q end us d (off_at (aheads turns c r n met) 1 k))
            (none_first (off_at (aheads turns c r n met) 2 k)
            (none_first (off_at (aheads turns c r n met) 3 k)
            none_left)))
    by_kind false isnt = none_found each
      where
        each : NoneOf (aheads turns c r n us)
        each = none_first (no_two c r n isnt) (none_first (no_three c r n us isnt) (none_first (no_over turns r n isnt) (none_first (no_proto c r n isnt) none_left)))

-- ---- nothing is found

pub supports_ended : (text : List ℕ) (place : Place) (c : Config) (turns : Turns) (led : Leads text place c) → Searched led.tokens turns c → asked_for (goal_of_place c) place ≡ None → Supported text (offset_of (token_place goal.Div place))
supports_ended text place c turns led s none = record {
  reached = record { tokens = led.tokens; place = place; lexed = led.lexed; there = refl };
  place = c;
  ran = led.ran;
  before = clean s;
  there = λ t after end others h d. nowhere (sym none ∙ h);
}
  where
    nowhere : {A : Type 0} {x : Token × Place} → None ≡ Some x → A
    nowhere h = absurd cc

pub supports_refused : (text : List ℕ) (place after : Place) (c : Config) (turns : Turns) (r : Token) (led : Leads text place c) → Searched led.tokens turns c →
    asked_for (goal_of_place c) place ≡ Some (r, after) → turn c r ≡ None → found turns c r ≡ None → ahead turns c r (next_two after) ≡ None → NoneFurther c r after → Supported text (offset_of (token_place goal.Div place))
supports_refused text place after c turns r led s h refused none none_ahead_ none_further = record {
  reached = record { tokens = led.tokens; place = place; lexed = led.lexed; there = refl };
  place = c;
  ran = led.ran;
  before = clean s;
  there = there;
}
  where
    there : (t : Token) (p end : Place) (others : List Token) → asked_for (goal_of_place c) place ≡ Some (t, p) → Lexes p others end → Clean (led.tokens ++ t ∷ others)
    there t p end others g d =
        let e : Some (r, after) ≡ Some (t, p) = sym h ∙ g in
        let same : r ≡ t = ap (λ (o : Option (Token × Place)). elim o [ None ↦ r | Some z ↦ z.0 ]) e in
        let here : after ≡ p = ap (λ (o : Option (Token × Place)). elim o [ None ↦ after | Some z ↦ z.1 ]) e in
        subst (λ x. Clean (led.tokens ++ x ∷ others)) same (let e = subst (λ x. Lexes x others end) (sym here) d in clean_text r others s refused none (none_ahead turns c r after end others e none_ahead_) (none_further others end e))

-- ---- places of one position

data Compared (p q : Place) : Type 0 where
  same : p.before ≡ q.before → Compared p q
  before : (c : ℕ) (cs : List ℕ) → q.before ≡ p.before ++ c ∷ cs → p.after ≡ c ∷ (cs ++ q.after) → Compared p q
  after : (c : ℕ) (cs : List ℕ) → p.before ≡ q.before ++ c ∷ cs → q.after ≡ c ∷ (cs ++ p.after) → Compared p q

compared : (b a d e : List ℕ) → b ++ a ≡ d ++ e → Compared (record { before = b; after = a }) (record { before = d; after = e })
compared [] a [] e h = same refl
compared [] a (c ∷ d) e h = before c d refl h
compared (c ∷ b) a [] e h = after c b refl (sym h)
compared (x ∷ b) a (y ∷ d) e h = more (compared b a d e rest)
  where
    rest : b ++ a ≡ d ++ e
    rest = let q : b ++ a ≡ d ++ e = cc in q

    head : x ≡ y
    head = let q : x ≡ y = cc in q

    more : Compared (record { before = b; after = a }) (record { before = d; after = e }) → Compared (record { before = x ∷ b; after = a }) (record { before = y ∷ d; after = e })
    more (same q) = same (ap (λ z. z ∷ b) head ∙ ap (λ z. y ∷ z) q)
    more (before c cs q r) = before c cs (ap (λ z. y ∷ z) q ∙ ap (λ z. z ∷ (b ++ c ∷ cs)) (sym head)) r
    more (after c cs q r) = after c cs (ap (λ z. x ∷ z) q ∙ ap (λ z. z ∷ (d ++ c ∷ cs)) head) r

abbrev loc_at : Pos → Loc
loc_at p = record { start = p; end = p }

same_itself : (l : Loc) → same_start l l ≡ true
same_itself l = both_true (eq-eqb l.start.line l.start.line refl) (eq-eqb l.start.column l.start.column refl)

-- a place further on has another position
farther : (text : List ℕ) (p q : Place) (c : ℕ) (cs : List ℕ) → characters_of q ≡ chars text → length (chars text) < 2 ^ 30 → q.before ≡ p.before ++ c ∷ cs → p.after ≡ c ∷ (cs ++ q.after) → position_of p ≡ position_of q → ⊥
farther text p q c cs within small befores afters is = true≢false (sym (same_itself (loc_at (position_of p))) ∙ apart)
  where
    low : length (p.before ++ c ∷ cs) < 2 ^ 30
    low =
        let whole : length q.before + length q.after ≡ length (chars text) = sym (length_append q.before q.after) ∙ ap length within in
        let first : length q.before ≡ length (p.before ++ c ∷ cs) = ap length befores in omega arith

    apart : same_start (loc_at (position_of p)) (loc_at (position_of p)) ≡ false
    apart =
        starts_apart p.before cs q.after c (loc_at (position_of p)) (loc_at (position_of p)) low (ap (λ x. position_of (record { before = p.before; after = x })) afters)
        (is ∙ ap (λ x. position_of (record { before = x; after = q.after })) befores)

pub one_place : (text : List ℕ) (p q : Place) → characters_of p ≡ chars text → characters_of q ≡ chars text → length (chars text) < 2 ^ 30 → position_of p ≡ position_of q → offset_of p ≡ offset_of q
one_place text p q within_p within_q small is = by_compared (compared p.before p.after q.before q.after (within_p ∙ sym within_q))
  where
    by_compared : Compared p q → offset_of p ≡ offset_of q
    by_compared (same h) = ap (λ b. length (encode_utf8_all b)) h
    by_compared (before c cs h k) = absurd (farther text p q c cs within_q small h k is)
    by_compared (after c cs h k) = absurd (farther text q p c cs within_p small h k (sym is))
