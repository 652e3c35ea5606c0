-- A literal that is found among the items of parentheses, where an arrow's body follows them, begins a form.
use Rattle.std.proofs.Common.{◌≡◌, Bool, true, false, not, List, [], ◌∷◌, ◌++◌, Option, Some, None, if◌then◌else◌, refl, sym, ap, subst, ◌∙◌, append_assoc, append-nil}
use Rattle.std.specs.Prelude.{nat_le}
use Rattle.std.specs.Option.{option_or}
use Rattle.std.proofs.lemmas.Bool.{true≢false, and_parts, cond-true, cond-false}
use Rattle.js_terms.specs.declared.place.Loc.{Loc}
use Rattle.js_tree.specs.Plain.{Expr, Exprs, no_expr, more_expr, push_exprs}
use Rattle.js_text.specs.Token.{Token, End}
use Rattle.js_text.specs.Token as T
use Rattle.js_text.specs.declared.punctuator.Punctuator.TheVariants as P
use Rattle.js_reading.specs.Spans.{first}
use Rattle.js_reading.specs.Slots.{Slot, Items_, By, Piece, TheExprs, Missing}
use Rattle.js_reading.specs.Slots as slot
use Rattle.js_reading.specs.Productions.{member, is_mark, slots, prefix}
use Rattle.js_reading.specs.Sentences
use Rattle.js_reading.specs.Sentences.{least, SpellsSlots, SpellsItems}
use Rattle.js_reading.specs.Turns.{place, Frame, InItems, Config, Due, Item, Start, begin_form, want_by, want, item, turn, then_run, run}
use Rattle.js_reading.specs.Unsupported
use Rattle.js_reading.specs.Unsupported.{Unsupported, BindingPattern, is_literal_pattern}
use Rattle.js_reading.specs.Found.{when, on_its_line, literal_loc, literal_item, before_body, parameter, BegunAt}
use Rattle.js_reading.proofs.sentences.Firsts.{remade}
use Rattle.js_reading.proofs.finding.Groups.{first_missing, arrow_first, arrow_or_not}
use Rattle.js_reading.proofs.finding.Keys.{no_key_read}
use Rattle.js_reading.proofs.sentences.KindsLemmas.{is_same}
use Rattle.js_reading.proofs.refusing.Parameters.{LiteralTokens, literal_tokens, literal_of, located_literal, no_end_there, past_item}
use Rattle.js_reading.proofs.sentences.Places.{opened, Reads, due}
use Rattle.js_reading.proofs.sentences.Runs.{nowhere, run_append}
use Rattle.js_reading.proofs.sentences.Shapes.{others, split}
use Rattle.js_reading.proofs.sentences.Sound.{reads_so}
use Rattle.js_reading.proofs.sentences.Standing.{AsExpr, AsStmt}

-- ---- the tokens of parentheses: `(`, items and `)`

data Enclosed (b : Bool) (xs : Exprs) : List Token → Type 0 where
  enclosed : {ts : List Token} (opening closing_ : Token) → opening.kind ≡ T.Punctuator P.OpenParenthesis → SpellsItems b xs ts closing_ → closing_.kind ≡ T.Punctuator P.CloseParenthesis → Enclosed b xs (opening ∷ (ts ++ closing_ ∷ []))

items_same : {x b : Bool} {ys xs : Exprs} {qs rs : List Piece} → TheExprs x ys ∷ qs ≡ TheExprs b xs ∷ rs → (x ≡ b) × (ys ≡ xs)
items_same h = (cc, cc)

rest_same : {p q : Piece} {ps qs : List Piece} → p ∷ ps ≡ q ∷ qs → ps ≡ qs
rest_same h = cc

-- those of slots that no arrow's body completes
slots_enclosed : {ps : List Piece} {l m : Loc} {ts : List Token} {next : Token} (b : Bool) (xs : Exprs) → SpellsSlots (slots slot.Parentheses) ps l m ts next → ps ≡ TheExprs b xs ∷ Missing ∷ [] → Enclosed b xs ts
slots_enclosed b xs (Sentences.sign opening is (Sentences.items {b = x} {xs = ys} {ts = tx} closing_ dxs is_closing (Sentences.passed k Sentences.done))) e =
    let same = items_same e in
    enclosed opening closing_ is (subst (λ z. SpellsItems z xs tx closing_) same.0 (subst (λ z. SpellsItems x z tx closing_) same.1 dxs)) is_closing
slots_enclosed b xs (Sentences.sign opening is (Sentences.items closing_ dxs is_closing (Sentences.chosen {qs = qs} {s = s} {rs = rs} {ps = ps} {l = l} {m = m} {us = us} {next = next} k d))) e =
    arrow_or_not (on_its_line (first us next)) (λ x y z. absurd (true≢false (sym (ap first_missing (rest_same e)) ∙ subst (λ v. first_missing (v ++ ps) ≡ false) x (arrow_first (subst (λ v. SpellsSlots v ps l m us next) (ap (λ v. v ∷ (rs ++ [])) (sym y) ∙ ap (λ v. slot.Sign (T.Punctuator P.Arrow) ∷ (v ++ [])) (sym z)) d))))) k

-- ---- the first literal among items

-- where items stand
abbrev pub frame_of : Loc → Exprs → Frame
frame_of w acc = InItems slot.Parentheses w P.CloseParenthesis (By slot.Arrow ∷ []) [] acc

literal_begins : {d : Config} {b : Bool} {e : Expr} {xs : Exprs} {ts : List Token} {closing_ : Token} {m : Loc} (w : Loc) (acc : Exprs) (fs : List Frame) (v : List Token) (c : Config) (arrow : Token) (us : List Token) → run Start v ≡ Some c → run Start (v ++ (ts ++ closing_ ∷ [])) ≡ Some d → ((t : Token) → turn c t ≡ item (frame_of w acc ∷ fs) t) → on_its_line arrow ≡ true →
    is_mark P.CloseParenthesis closing_ ≡ true → is_literal_pattern e ≡ true → SpellsItems b (more_expr e xs) ts closing_ → LiteralTokens m ts → BegunAt (v ++ (ts ++ closing_ ∷ arrow ∷ us)) (BindingPattern, m)
literal_begins {closing_ = closing_} w acc fs v c arrow us ran whole goes on is_closing is dxs (literal_tokens t ts at) =
    let a = and_parts (is_mark P.Arrow arrow) (not arrow.line_terminator_before) on in
    record {
      before = v;
      first = t;
      others = ts ++ closing_ ∷ arrow ∷ us;
      place = c;
      split = refl;
      ran = ran;
      begins = (
        Unsupported.parameter (frame_of w acc) fs closing_ arrow us (goes t ∙ cond-false (is_mark P.CloseParenthesis t) _ _ (no_end_there dxs)) refl dxs is is_closing a.0 (off arrow.line_terminator_before a.1),
        no_key_read t (ts ++ closing_ ∷ []) (ts ++ closing_ ∷ arrow ∷ us) whole,
      );
      there = at;
    }
  where
    off : (x : Bool) → not x ≡ true → x ≡ false
    off false h = refl
    off true h = absurd (true≢false (sym h))

-- so do those of an item with its comma
with_comma : {m : Loc} {ts : List Token} (us : List Token) → LiteralTokens m ts → LiteralTokens m (ts ++ us)
with_comma us (literal_tokens t ts at) = literal_tokens t (ts ++ us) at

tokens_at : {ts : List Token} {at m : Loc} (e : Expr) → literal_loc e ≡ Some at → literal_loc e ≡ Some m → LiteralTokens at ts → LiteralTokens m ts
tokens_at {ts = ts} {at = at} {m = m} e h k d = subst (λ l. LiteralTokens l ts) (same (sym h ∙ k)) d
  where
    same : Some at ≡ Some m → at ≡ m
    same q = cc

item_begins : {d : Config} {b : Bool} {xs : Exprs} {ts : List Token} {closing_ : Token} (m w : Loc) (acc : Exprs) (fs : List Frame) (v : List Token) (c : Config) (arrow : Token) (us : List Token) → run Start v ≡ Some c → run Start (v ++ (ts ++ closing_ ∷ [])) ≡ Some d → ((t : Token) → turn c t ≡ item (frame_of w acc ∷ fs) t) → on_its_line arrow ≡ true → is_mark P.CloseParenthesis closing_ ≡ true →
    SpellsItems b xs ts closing_ → literal_item xs ≡ Some m → BegunAt (v ++ (ts ++ closing_ ∷ arrow ∷ us)) (BindingPattern, m)
item_begins m w acc fs v c arrow us ran whole goes on is_closing Sentences.no_item h = absurd cc
item_begins {closing_ = closing_} m w acc fs v c arrow us ran whole goes on is_closing (Sentences.last_item {e = e} {ts = ts} ge de go) h = by_first (literal_loc e) refl h
  where
    by_first : (o : Option Loc) → literal_loc e ≡ o → option_or o None ≡ Some m → BegunAt (v ++ (ts ++ closing_ ∷ arrow ∷ us)) (BindingPattern, m)
    by_first None is q = absurd cc
    by_first (Some l) is q =
        let literal = located_literal e l is in
        let a = literal_of de literal in
        literal_begins w acc fs v c arrow us ran whole goes on is_closing literal (Sentences.last_item ge de go) (tokens_at e a.there (is ∙ q) a.tokens)
item_begins {b = b} {closing_ = closing_} m w acc fs v c arrow us ran whole goes on is_closing (Sentences.more_items {e = e} {xs = xs} {ts = te} {us = tx} comma ge de is_comma dxs) h =
    by_first (literal_loc e) refl (λ q. subst (λ y. BegunAt y (BindingPattern, m)) (along (arrow ∷ us)) (item_begins m w (push_exprs acc e) fs (v ++ (te ++ comma ∷ [])) (Item (frame_of w (push_exprs acc e) ∷ fs)) arrow us past (ap (λ y. run Start y) (along []) ∙ whole) (λ t. refl) on is_closing dxs q)) h
  where
    past : run Start (v ++ (te ++ comma ∷ [])) ≡ Some (Item (frame_of w (push_exprs acc e) ∷ fs))
    past =
        run_append Start v (te ++ comma ∷ []) ∙ ap (λ o. then_run o (λ d. run d (te ++ comma ∷ []))) ran ∙ ap (λ y. run c y) (split te comma []) ∙ ap (λ o. then_run o (λ d. run d (others te comma []))) (goes (first te comma))
        ∙ past_item comma slot.Parentheses w P.CloseParenthesis (By slot.Arrow ∷ []) [] acc fs ge de is_comma refl

    along : (vs : List Token) → (v ++ (te ++ comma ∷ [])) ++ (tx ++ closing_ ∷ vs) ≡ v ++ ((te ++ comma ∷ tx) ++ closing_ ∷ vs)
    along vs = append_assoc v (te ++ comma ∷ []) (tx ++ closing_ ∷ vs) ∙ ap (λ y. v ++ y) (append_assoc te (comma ∷ []) (tx ++ closing_ ∷ vs) ∙ sym (append_assoc te (comma ∷ tx) (closing_ ∷ vs)))

    by_first : (o : Option Loc) → literal_loc e ≡ o → (literal_item xs ≡ Some m → BegunAt (v ++ ((te ++ comma ∷ tx) ++ closing_ ∷ arrow ∷ us)) (BindingPattern, m)) → option_or o (literal_item xs) ≡ Some m → BegunAt (v ++ ((te ++ comma ∷ tx) ++ closing_ ∷ arrow ∷ us)) (BindingPattern, m)
    by_first None is further q = further q
    by_first (Some l) is further q =
        let literal = located_literal e l is in
        let a = literal_of de literal in
        literal_begins w acc fs v c arrow us ran whole goes on is_closing literal (Sentences.more_items comma ge de is_comma dxs) (with_comma (comma ∷ tx) (tokens_at e a.there (is ∙ q) a.tokens))

-- ---- parentheses that are whole

-- `(` leads to where items are due
opening_read : (c : Config) (u vs : List Token) (a : Token) (fs : List Frame) (d : Config) → run Start u ≡ Some c → turn c a ≡ want a fs → a.kind ≡ T.Punctuator P.OpenParenthesis → run Start (u ++ a ∷ vs) ≡ Some d →
    run Start (u ++ a ∷ []) ≡ Some (Due slot.Parentheses a.loc (Items_ P.CloseParenthesis ∷ By slot.Arrow ∷ []) [] a.loc fs)
opening_read c u vs a fs d ran goes is whole = by_level (nat_le (least (place fs)) member) refl
  where
    one : (o : Option Config) (xs : List Token) → turn c a ≡ o → run Start (u ++ a ∷ xs) ≡ then_run o (λ y. run y xs)
    one o xs e = run_append Start u (a ∷ xs) ∙ ap (λ x. then_run x (λ y. run y (a ∷ xs))) ran ∙ ap (λ x. then_run x (λ y. run y xs)) e

    pre : prefix a ≡ Some slot.Parentheses
    pre = subst (λ k. prefix (remade a k) ≡ Some slot.Parentheses) (sym is) refl

    told : turn c a ≡ (if nat_le (least (place fs)) member then begin_form slot.Parentheses a (slots slot.Parentheses) fs else None)
    told = goes ∙ ap (λ o. want_by o a fs) pre

    by_level : (x : Bool) → nat_le (least (place fs)) member ≡ x → run Start (u ++ a ∷ []) ≡ Some (Due slot.Parentheses a.loc (Items_ P.CloseParenthesis ∷ By slot.Arrow ∷ []) [] a.loc fs)
    by_level true e = one (Some (Due slot.Parentheses a.loc (Items_ P.CloseParenthesis ∷ By slot.Arrow ∷ []) [] a.loc fs)) [] (told ∙ cond-true (nat_le (least (place fs)) member) _ _ e)
    by_level false e = nowhere (sym (one None vs (told ∙ cond-false (nat_le (least (place fs)) member) _ _ e)) ∙ whole)

enclosed_begins : {b : Bool} {xs : Exprs} {vs : List Token} (m : Loc) (u : List Token) (c d : Config) (fs : List Frame) (arrow : Token) (us : List Token) → run Start u ≡ Some c → ((t : Token) (ts : List Token) → vs ≡ t ∷ ts → turn c t ≡ want t fs) → run Start (u ++ vs) ≡ Some d → on_its_line arrow ≡ true →
    Enclosed b xs vs → literal_item xs ≡ Some m → BegunAt ((u ++ vs) ++ arrow ∷ us) (BindingPattern, m)
enclosed_begins m u c d fs arrow us ran goes whole on (enclosed {ts = tx} opening closing_ is dxs is_closing) h =
    subst (λ y. BegunAt y (BindingPattern, m)) along
    (item_begins m opening.loc no_expr fs (u ++ opening ∷ []) (Due slot.Parentheses opening.loc (Items_ P.CloseParenthesis ∷ By slot.Arrow ∷ []) [] opening.loc fs) arrow us (opening_read c u (tx ++ closing_ ∷ []) opening fs d ran (goes opening (tx ++ closing_ ∷ []) refl) is whole) (ap (λ y. run Start y) (append_assoc u (opening ∷ []) (tx ++ closing_ ∷ [])) ∙ whole) (λ t. refl) on (is_same (T.Punctuator P.CloseParenthesis) closing_.kind is_closing) dxs h)
  where
    along : (u ++ opening ∷ []) ++ (tx ++ closing_ ∷ arrow ∷ us) ≡ (u ++ opening ∷ (tx ++ closing_ ∷ [])) ++ arrow ∷ us
    along =
        append_assoc u (opening ∷ []) (tx ++ closing_ ∷ arrow ∷ us) ∙ ap (λ y. u ++ opening ∷ y) (sym (append_assoc tx (closing_ ∷ []) (arrow ∷ us))) ∙ sym (append_assoc u (opening ∷ (tx ++ closing_ ∷ [])) (arrow ∷ us))

first_same : {t u : Token} {ts us : List Token} → t ∷ ts ≡ u ∷ us → t ≡ u
first_same h = cc

whole_begins : {b : Bool} {xs : Exprs} {w l : Loc} {fs : List Frame} {ts : List Token} (m : Loc) (arrow : Token) (us : List Token) (d : Config) → Reads (Due slot.Parentheses w (By slot.Arrow ∷ []) (TheExprs b xs ∷ []) l fs) ts → run Start ts ≡ Some d → on_its_line arrow ≡ true → literal_item xs ≡ Some m →
    BegunAt (ts ++ arrow ∷ us) (BindingPattern, m)
whole_begins m arrow us d (due (opened {k = AsStmt} b fr st kd tail)) ran on h = absurd (true≢false kd)
whole_begins {b = b} {xs = xs} {fs = fs} m arrow us d (due (opened {k = AsExpr} {u = u} {us = vs} a fr st kd tail)) ran on h =
    enclosed_begins m u st.0.0 d fs arrow us st.0.1 (λ t ts e. subst (λ y. turn st.0.0 y ≡ want y fs) (first_same e) st.0.2) ran on
    (subst (Enclosed b xs) (append-nil (a ∷ vs)) (slots_enclosed b xs (tail.parts refl tt (Sentences.passed {next = remade a End} refl Sentences.done)) refl)) h

pub parameter_begins : (ts : List Token) (c : Config) (t : Token) (us : List Token) (x : Unsupported × Loc) → run Start ts ≡ Some c → parameter c t ≡ Some x → BegunAt (ts ++ t ∷ us) x
parameter_begins ts (Due slot.Parentheses w (By slot.Arrow ∷ []) (TheExprs b xs ∷ []) l fs) t us x ran h = by_item (literal_item xs) refl h
  where
    by_line : (m : Loc) (y : Bool) → literal_item xs ≡ Some m → on_its_line t ≡ y → when y BindingPattern m ≡ Some x → BegunAt (ts ++ t ∷ us) x
    by_line m true is on q =
        let same : (BindingPattern, m) ≡ x = cc in
        subst (BegunAt (ts ++ t ∷ us)) same (whole_begins m t us (Due slot.Parentheses w (By slot.Arrow ∷ []) (TheExprs b xs ∷ []) l fs) (reads_so ts (Due slot.Parentheses w (By slot.Arrow ∷ []) (TheExprs b xs ∷ []) l fs) ran) ran on is)
    by_line m false is on q = absurd cc

    by_item : (o : Option Loc) → literal_item xs ≡ o → before_body o t ≡ Some x → BegunAt (ts ++ t ∷ us) x
    by_item None is q = absurd cc
    by_item (Some m) is q = by_line m (on_its_line t) is refl q
parameter_begins ts c t us x ran h = absurd cc
