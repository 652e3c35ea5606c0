-- `async` with arguments begins a form where `=>` is found after them: the tokens of a text stand apart, so that the name's location tells
-- which word it is.
use Rattle.std.proofs.Common.{◌≡◌, ℕ, ◌⊎◌, inl, inr, Bool, true, false, not, ◌&&◌, List, [], ◌∷◌, ◌++◌, Option, Some, None, codes, if◌then◌else◌, refl, sym, ap, subst, ◌∙◌, append_assoc, append-nil}
use Rattle.std.specs.Prelude.{nat_le, ◌||◌, ◌==◌}
use Rattle.std.proofs.lemmas.Bool.{true≢false, and_parts, cond-true, cond-false, eq-eqb, eqb-true}
use Rattle.std.proofs.lemmas.List.{append_cancel_left}
use Rattle.js_terms.specs.declared.place.Loc.{Loc}
use Rattle.js_tree.specs.Plain.{Expr, Exprs}
use Rattle.js_tree.specs.Plain as tree
use Rattle.js_text.specs.Token.{Token, Word}
use Rattle.js_text.specs.Token as T
use Rattle.js_reading.specs.Spans.{through}
use Rattle.js_text.specs.declared.punctuator.Punctuator.TheVariants as P
use Rattle.js_reading.specs.Kinds.{is_kind}
use Rattle.js_reading.specs.Slots.{Wanted, Level, WithoutIn, Callee, Slot, Expr_, By, Piece, AnExpr, TheExprs, Form}
use Rattle.js_reading.specs.Slots as slot
use Rattle.js_reading.specs.Productions.{call, member, is_mark, is_word, slots, prefix}
use Rattle.js_reading.specs.Sentences
use Rattle.js_reading.specs.Sentences.{grip, least, Spells, SpellsItems}
use Rattle.js_reading.specs.Turns.{place, inner, Frame, InForm, Config, Due, Start, begin_form, want_by, want, wanted, turn, then_run, run}
use Rattle.js_reading.specs.Unsupported
use Rattle.js_reading.specs.Unsupported.{Unsupported, Async, Stops, Begins, takes_call}
use Rattle.js_reading.specs.Found.{when, opens_call, asyncs, same_start, starts, named_callee, arrow_after, called, Turns, Searched, not_begun, searched, Apart, BegunAt}
use Rattle.js_reading.proofs.finding.Keys.{no_key_read}
use Rattle.js_reading.proofs.sentences.KindsLemmas.{is_same, kind_is}
use Rattle.js_reading.proofs.sentences.Runs.{nowhere, run_append}
use Rattle.js_reading.proofs.sentences.Shapes.{both_true}
use Rattle.js_reading.proofs.sentences.Standing.{When, Sort, AsExpr, AsStmt}
use Rattle.js_reading.proofs.sentences.Places.{Frames, in_file, in_stmts, in_expression, in_expr, in_stmt, in_items, opened, Reads, due}
use Rattle.js_reading.proofs.sentences.Sound.{reads_so}
use Rattle.js_reading.proofs.refusing.Callees.{Arguments, arguments, NewArguments, new_arguments, call_arguments, new_call}
use Rattle.js_reading.proofs.finding.Found.{searched_run, Compared, within, beyond, compared, head_same, tail_same}

-- ---- which words are kept

record Kept (l : Loc) (ts : List Token) : Type 0 where
  pub before : List Token
  pub word : Token
  pub opening : Token
  pub after : List Token
  pub are : ts ≡ before ++ word ∷ opening ∷ after
  pub is_call : opens_call word opening ≡ true
  pub there : same_start l word.loc ≡ true

kept_on : {l : Loc} {ts : List Token} (t : Token) → Kept l ts → Kept l (ts ++ t ∷ [])
kept_on t k = record { before = k.before; word = k.word; opening = k.opening; after = k.after ++ t ∷ []; are = ap (λ x. x ++ t ∷ []) k.are ∙ append_assoc k.before (k.word ∷ k.opening ∷ k.after) (t ∷ []); is_call = k.is_call; there = k.there }

or_parts : (x y : Bool) → (x || y) ≡ true → (x ≡ true) ⊎ (y ≡ true)
or_parts true y h = inl refl
or_parts false y h = inr h

kept_step : {ts : List Token} {turns : Turns} {c : Config} (l : Loc) (t : Token) → Searched ts turns c → (starts l (asyncs turns) ≡ true → Kept l ts) → starts l (asyncs ((c, t) ∷ turns)) ≡ true → Kept l (ts ++ t ∷ [])
kept_step l t not_begun rec h = absurd (true≢false (sym h))
kept_step l t (searched {ts = ts} {turns = turns} {c = c} y s none go) rec h = by_test (opens_call y t) refl h
  where
    by_side : opens_call y t ≡ true → (same_start l y.loc ≡ true) ⊎ (starts l (asyncs ((c, y) ∷ turns)) ≡ true) → Kept l ((ts ++ y ∷ []) ++ t ∷ [])
    by_side e (inl x) = record { before = ts; word = y; opening = t; after = []; are = append_assoc ts (y ∷ []) (t ∷ []); is_call = e; there = x }
    by_side e (inr x) = kept_on t (rec x)

    by_test : (b : Bool) → opens_call y t ≡ b → starts l (if b then y.loc ∷ asyncs ((c, y) ∷ turns) else asyncs ((c, y) ∷ turns)) ≡ true → Kept l ((ts ++ y ∷ []) ++ t ∷ [])
    by_test false e q = kept_on t (rec q)
    by_test true e q = by_side e (or_parts (same_start l y.loc) (starts l (asyncs ((c, y) ∷ turns))) q)

kept_from : {ts : List Token} {turns : Turns} {c : Config} (l : Loc) → Searched ts turns c → starts l (asyncs turns) ≡ true → Kept l ts
kept_from l not_begun h = absurd (true≢false (sym h))
kept_from l (searched t s none go) h = kept_step l t s (λ q. kept_from l s q) h

-- ---- one token at a location

pub record SameToken (t u : Token) (ts us : List Token) : Type 0 where
  pub is : t ≡ u
  pub after : ts ≡ us

pub same_word : {ts : List Token} (vs ws us xs : List Token) (t u : Token) → Apart ts → ts ≡ vs ++ t ∷ us → ts ≡ ws ++ u ∷ xs → is_kind T.End t.kind ≡ false → is_kind T.End u.kind ≡ false → same_start t.loc u.loc ≡ true → same_start u.loc t.loc ≡ true → SameToken t u us xs
same_word {ts = ts} vs ws us xs t u apart a b et eu h k = by_length (compared vs (t ∷ us) ws (u ∷ xs) (sym a ∙ b))
  where
    by_within : (zs : List Token) → vs ≡ ws ++ zs → SameToken t u us xs
    by_within [] e = let q : t ∷ us ≡ u ∷ xs = append_cancel_left ws (t ∷ us) (u ∷ xs) (ap (λ y. y ++ t ∷ us) (sym (e ∙ append-nil ws)) ∙ (sym a ∙ b)) in record { is = head_same q; after = tail_same q }
    by_within (z ∷ zs) e =
        let q : z ∷ (zs ++ t ∷ us) ≡ u ∷ xs = append_cancel_left ws (z ∷ (zs ++ t ∷ us)) (u ∷ xs) (sym (append_assoc ws (z ∷ zs) (t ∷ us)) ∙ ap (λ y. y ++ t ∷ us) (sym e) ∙ (sym a ∙ b)) in
        absurd (true≢false (sym k ∙ apart ws zs us u t (b ∙ ap (λ y. ws ++ y) (ap (λ y. u ∷ y) (sym (tail_same q)))) eu))

    by_length : Compared vs (t ∷ us) ws (u ∷ xs) → SameToken t u us xs
    by_length (within zs e) = by_within zs e
    by_length (beyond z zs e q) =
        absurd (true≢false (sym h ∙ apart vs zs xs t u (a ∙ ap (λ y. vs ++ y) (ap (λ y. t ∷ y) (tail_same q))) et))

-- ---- a name with arguments

grip_place : (f : Frame) (fs : List Frame) → nat_le (grip (place (f ∷ fs))) call ≡ true → nat_le (grip (wanted f)) call ≡ true
grip_place (InForm g w (Expr_ (Level n)) [] ps) fs h = by_place (place fs) h
  where
    by_place : (v : Wanted) → nat_le (grip (inner (Level n) [] v)) call ≡ true → nat_le n call ≡ true
    by_place (WithoutIn m) k = k
    by_place v k = k
grip_place (InForm g w (Expr_ v) ss ps) fs h = h
grip_place f fs h = h

takes_one : (f : Frame) → nat_le (grip (wanted f)) call ≡ true → takes_call f ≡ true
takes_one (InForm slot.New w (Expr_ Callee) (By slot.Arguments ∷ []) []) h = refl
takes_one f h = h

-- arguments that stand there, of a name that was begun in such frames
pub record Argued (m : Loc) (ts : List Token) : Type 0 where
  pub before : List Token
  pub after : List Token
  pub stand : Config
  pub top : Frame
  pub below : List Frame
  pub are : ts ≡ before ++ after
  pub ran : run Start before ≡ Some stand
  pub goes : (t : Token) (us : List Token) → after ≡ t ∷ us → turn stand t ≡ want t (top ∷ below)
  pub takes : takes_call top ≡ true
  pub spelled : Arguments m after

some_loc : {x y : Loc} → Some x ≡ Some y → x ≡ y
some_loc q = cc

first_of_list : {t u : Token} {ts us : List Token} → t ∷ ts ≡ u ∷ us → t ≡ u
first_of_list h = cc

abbrev pub is_some_list : List Frame → Bool
is_some_list [] = false
is_some_list (f ∷ fs) = true

some_frames : {k : Sort} {fs : List Frame} {u : List Token} {c : When} → Frames k fs u c → is_some_list fs ≡ true
some_frames (in_file d) = refl
some_frames (in_stmts ts b o d firsts) = refl
some_frames (in_expression b fr none) = refl
some_frames (in_expr o) = refl
some_frames (in_stmt o) = refl
some_frames (in_items ts b o items opens firsts) = refl

pub data NamedArguments (m : Loc) : List Piece → Type 0 where
  named_arguments : {i : ℕ} {v : List ℕ} {b : Bool} {xs : Exprs} → NamedArguments m (AnExpr i (tree.IdentifierReference (Some m) v) ∷ TheExprs b xs ∷ [])

pub named_view : (m : Loc) (ps : List Piece) → named_callee ps ≡ Some m → NamedArguments m ps
named_view m (AnExpr i (tree.IdentifierReference (Some n) v) ∷ TheExprs b xs ∷ []) h = subst (λ x. NamedArguments x (AnExpr i (tree.IdentifierReference (Some n) v) ∷ TheExprs b xs ∷ [])) (some_loc h) named_arguments
named_view m (AnExpr i (tree.IdentifierReference None v) ∷ TheExprs b xs ∷ []) h = absurd cc
named_view m ps h = absurd cc

pub argued_call : {ts : List Token} {w l : Loc} {ps : List Piece} {fs : List Frame} (m : Loc) (t : Token) → Reads (Due slot.Call w [] ps l fs) ts → NamedArguments m ps → Argued m ts
argued_call {fs = []} m t (due (opened b fr st kd tail)) h = absurd (true≢false (sym (some_frames fr)))
argued_call {fs = f ∷ fs} m t (due (opened {k = AsStmt} b fr st kd tail)) h = absurd (true≢false kd)
argued_call {w = w} {l = l} {fs = f ∷ fs} m t (due (opened {k = AsExpr} {u = u} {us = vs} a fr st kd tail)) (named_arguments {v = v} {xs = xs}) =
    record {
      before = u;
      after = a ∷ vs;
      stand = st.0.0;
      top = f;
      below = fs;
      are = refl;
      ran = st.0.1;
      goes = λ x us e. subst (λ y. turn st.0.0 y ≡ want y (f ∷ fs)) (first_of_list e) st.0.2;
      takes = takes_one f (grip_place f fs (st.2 refl));
      spelled = subst (Arguments m) (append-nil (a ∷ vs)) (call_arguments m (tail.spells {qs = []} {m = l} {ts = []} {next = t} {p = AnExpr call (tree.Call (Some (through w l)) (tree.IdentifierReference (Some m) v) xs)} tt tt Sentences.done refl) refl);
    }

-- `new` before a name with arguments leads to where the name is wanted
new_read : (c : Config) (u vs : List Token) (b : Token) (fs : List Frame) (d : Config) → run Start u ≡ Some c → turn c b ≡ want b fs → prefix b ≡ Some slot.New → run Start (u ++ b ∷ vs) ≡ Some d → run Start (u ++ b ∷ []) ≡ Some (Due slot.New b.loc (Expr_ Callee ∷ By slot.Arguments ∷ []) [] b.loc fs)
new_read c u vs b fs d ran goes pre whole = by_level (nat_le (least (place fs)) member) refl
  where
    one : (o : Option Config) (xs : List Token) → turn c b ≡ o → run Start (u ++ b ∷ xs) ≡ then_run o (λ y. run y xs)
    one o xs e = run_append Start u (b ∷ xs) ∙ ap (λ x. then_run x (λ y. run y (b ∷ xs))) ran ∙ ap (λ x. then_run x (λ y. run y xs)) e

    told : turn c b ≡ (if nat_le (least (place fs)) member then begin_form slot.New b (slots slot.New) fs else None)
    told = goes ∙ ap (λ o. want_by o b fs) pre

    by_level : (x : Bool) → nat_le (least (place fs)) member ≡ x → run Start (u ++ b ∷ []) ≡ Some (Due slot.New b.loc (Expr_ Callee ∷ By slot.Arguments ∷ []) [] b.loc fs)
    by_level true e = one (Some (Due slot.New b.loc (Expr_ Callee ∷ By slot.Arguments ∷ []) [] b.loc fs)) [] (told ∙ cond-true (nat_le (least (place fs)) member) _ _ e)
    by_level false e = nowhere (sym (one None vs (told ∙ cond-false (nat_le (least (place fs)) member) _ _ e)) ∙ whole)

argued_after : {fs : List Frame} (m : Loc) (c : Config) (u : List Token) (d : Config) {us : List Token} → NewArguments m us → run Start u ≡ Some c → ((b : Token) (vs : List Token) → us ≡ b ∷ vs → turn c b ≡ want b fs) → run Start (u ++ us) ≡ Some d → Argued m (u ++ us)
argued_after {fs = fs} m c u d (new_arguments {ts = vs} b pre given) ran goes whole =
    record {
      before = u ++ b ∷ [];
      after = vs;
      stand = Due slot.New b.loc (Expr_ Callee ∷ By slot.Arguments ∷ []) [] b.loc fs;
      top = InForm slot.New b.loc (Expr_ Callee) (By slot.Arguments ∷ []) [];
      below = fs;
      are = sym (append_assoc u (b ∷ []) vs);
      ran = new_read c u vs b fs d ran (goes b vs refl) pre whole;
      goes = λ t us e. refl;
      takes = refl;
      spelled = given;
    }

pub argued_new : {ts : List Token} {w l : Loc} {ps : List Piece} {fs : List Frame} (m : Loc) (t : Token) (d : Config) → Reads (Due slot.New w [] ps l fs) ts → run Start ts ≡ Some d → NamedArguments m ps → Argued m ts
argued_new m t d (due (opened {k = AsStmt} b fr st kd tail)) ran h = absurd (true≢false kd)
argued_new {w = w} {l = l} {fs = fs} m t d (due (opened {k = AsExpr} {u = u} {us = vs} a fr st kd tail)) ran (named_arguments {v = v} {xs = xs}) =
    argued_after {fs = fs} m st.0.0 u d (subst (NewArguments m) (append-nil (a ∷ vs)) (new_call m (tail.spells {qs = []} {m = l} {ts = []} {next = t} {p = AnExpr member (tree.New (Some (through w l)) (tree.IdentifierReference (Some m) v) xs)} tt tt Sentences.done refl) refl refl))
    st.0.1 (λ b us e. subst (λ y. turn st.0.0 y ≡ want y fs) (first_of_list e) st.0.2) ran

-- ---- and `=>` after it

pub mirrored : (l m : Loc) → same_start l m ≡ true → same_start m l ≡ true
mirrored l m h =
    let a = and_parts (l.start.line == m.start.line) (l.start.column == m.start.column) h in
    both_true (eq-eqb m.start.line l.start.line (sym (eqb-true l.start.line m.start.line a.0))) (eq-eqb m.start.column l.start.column (sym (eqb-true l.start.column m.start.column a.1)))

off : (b : Bool) → not b ≡ true → b ≡ false
off false h = refl
off true h = absurd (true≢false (sym h))

pub word_no_end : (t : Token) → is_word (codes "async") t ≡ true → is_kind T.End t.kind ≡ false
word_no_end t h = ap (is_kind T.End) (kind_is (Word (codes "async")) t.kind h)

from_argued : {ts : List Token} {c : Config} (m : Loc) (t : Token) (us : List Token) → run Start ts ≡ Some c → Argued m ts → Apart ts → Kept m ts → is_mark P.Arrow t ≡ true → BegunAt (ts ++ t ∷ us) (Async, m)
from_argued {ts = ts} m t us ran a apart k is_arrow = by_tokens a.spelled a.are a.goes
  where
    by_tokens : {after : List Token} → Arguments m after → ts ≡ a.before ++ after → ((x : Token) (xs : List Token) → after ≡ x ∷ xs → turn a.stand x ≡ want x (a.top ∷ a.below)) → BegunAt (ts ++ t ∷ us) (Async, m)
    by_tokens (arguments {tx = tx} tok opening closing_ at no_end is dxs is_closing) are goes =
        let start = subst (λ l. same_start l k.word.loc ≡ true) (sym at) k.there in
        let same = same_word a.before k.before (opening ∷ (tx ++ closing_ ∷ [])) (k.opening ∷ k.after) tok k.word apart are k.are no_end (word_no_end k.word (and_parts (is_word (codes "async") k.word) _ k.is_call).0) start (mirrored tok.loc k.word.loc start) in
        let opens = subst (λ x. opens_call tok x ≡ true) (sym (head_same same.after)) (subst (λ x. opens_call x k.opening ≡ true) (sym same.is) k.is_call) in
        let b = and_parts (is_word (codes "async") tok) (is_mark P.OpenParenthesis opening && not opening.line_terminator_before) opens in
        let d = and_parts (is_mark P.OpenParenthesis opening) (not opening.line_terminator_before) b.1 in
        record {
          before = a.before;
          first = tok;
          others = opening ∷ (tx ++ closing_ ∷ t ∷ us);
          place = a.stand;
          split = ap (λ x. x ++ t ∷ us) are ∙ append_assoc a.before (tok ∷ opening ∷ (tx ++ closing_ ∷ [])) (t ∷ us) ∙ ap (λ x. a.before ++ tok ∷ opening ∷ x) (append_assoc tx (closing_ ∷ []) (t ∷ us));
          ran = a.ran;
          begins = (Unsupported.at_once (Unsupported.async_arguments a.top a.below opening closing_ t us (goes tok (opening ∷ (tx ++ closing_ ∷ [])) refl) a.takes b.0 d.0 (off opening.line_terminator_before d.1) dxs (is_same (T.Punctuator P.CloseParenthesis) closing_.kind is_closing) is_arrow), no_key_read tok (opening ∷ (tx ++ closing_ ∷ [])) (opening ∷ (tx ++ closing_ ∷ t ∷ us)) (sym (ap (λ x. run Start x) are) ∙ ran));
          there = ap (λ (y : Loc). y.start) at;
        }

by_callee : {ts : List Token} {turns : Turns} {c : Config} (t : Token) (us : List Token) (x : Unsupported × Loc) (o : Option Loc) → Searched ts turns c → Apart ts → ((m : Loc) → o ≡ Some m → Argued m ts) → arrow_after turns o t ≡ Some x → BegunAt (ts ++ t ∷ us) x
by_callee t us x None s apart argued h = absurd cc
by_callee {ts = ts} {turns = turns} t us x (Some m) s apart argued h = by_test (is_mark P.Arrow t && starts m (asyncs turns)) refl h
  where
    the_same : Some (Async, m) ≡ Some x → (Async, m) ≡ x
    the_same q = cc

    by_test : (b : Bool) → (is_mark P.Arrow t && starts m (asyncs turns)) ≡ b → when b Async m ≡ Some x → BegunAt (ts ++ t ∷ us) x
    by_test true e q = let a = and_parts (is_mark P.Arrow t) (starts m (asyncs turns)) e in subst (BegunAt (ts ++ t ∷ us)) (the_same q) (from_argued m t us (searched_run s) (argued m refl) apart (kept_from m s a.1) a.0)
    by_test false e q = absurd cc

pub called_begins : {ts : List Token} {turns : Turns} (c : Config) (t : Token) (us : List Token) (x : Unsupported × Loc) → Searched ts turns c → Apart ts → called turns c t ≡ Some x → BegunAt (ts ++ t ∷ us) x
called_begins {ts = ts} (Due slot.Call w [] ps l fs) t us x s apart h = by_callee t us x (named_callee ps) s apart (λ m e. argued_call m t (reads_so ts (Due slot.Call w [] ps l fs) (searched_run s)) (named_view m ps e)) h
called_begins {ts = ts} (Due slot.New w [] ps l fs) t us x s apart h = by_callee t us x (named_callee ps) s apart (λ m e. argued_new m t (Due slot.New w [] ps l fs) (reads_so ts (Due slot.New w [] ps l fs) (searched_run s)) (searched_run s) (named_view m ps e)) h
called_begins c t us x s apart h = absurd cc
