-- A group that is found begins a form with its first token.
use Rattle.std.proofs.Common.{◌≡◌, ℕ, Bool, true, false, not, ◌&&◌, List, [], ◌∷◌, ◌++◌, Option, Some, None, if◌then◌else◌, refl, sym, ap, subst, ◌∙◌, append_assoc, append-nil}
use Rattle.std.specs.Prelude.{◌||◌}
use Rattle.std.proofs.lemmas.Bool.{true≢false, and_parts, cond-false}
use Rattle.js_terms.specs.declared.place.Loc.{Loc}
use Rattle.js_tree.specs.Plain.{Expr}
use Rattle.js_text.specs.Token.{Token}
use Rattle.js_reading.specs.Spans.{through}
use Rattle.js_text.specs.declared.punctuator.Punctuator.TheVariants as P
use Rattle.js_reading.specs.Slots.{Slot, By, Piece, AnExpr, Missing, Pass, Form}
use Rattle.js_reading.specs.Slots as slot
use Rattle.js_reading.specs.Productions.{is_mark, join}
use Rattle.js_reading.specs.Choices.{branch}
use Rattle.js_reading.specs.Makes.{build}
use Rattle.js_reading.specs.Sentences
use Rattle.js_reading.specs.Sentences.{fits, continues, Spells, SpellsSlots}
use Rattle.js_reading.specs.Turns.{Frame, Config, Due, Start, wanted, run}
use Rattle.js_reading.specs.Unsupported
use Rattle.js_reading.specs.Unsupported.{Unsupported, Begins, assigns, is_each, is_head, is_update, is_parenthesized_target, is_literal_pattern}
use Rattle.js_reading.specs.Found.{left_sides, left_side, on_its_line, group, BegunAt}
use Rattle.js_reading.proofs.finding.Keys.{no_key_read}
use Rattle.js_reading.proofs.levels.Makings.{is_first, is_join}
use Rattle.js_reading.proofs.sentences.Standing.{Any, AsExpr, AsStmt, Tail}
use Rattle.js_reading.proofs.sentences.Places.{opened, Reads, due, Led, bracketed}
use Rattle.js_reading.proofs.sentences.Sound.{reads_so}
use Rattle.js_reading.proofs.finding.Begun.{EachOf, none_left, where_so, holds_of}

off : (b : Bool) → not b ≡ true → b ≡ false
off false h = refl
off true h = absurd (true≢false (sym h))

-- a part that stands there, and was begun with its first token
side_begins : {d : Config} (u vs us : List Token) (b t : Token) (i : ℕ) (e : Expr) (l w : Loc) (f : Frame) (fs : List Frame) (x : Unsupported × Loc) → run Start (u ++ b ∷ vs) ≡ Some d → Led AsExpr (f ∷ fs) u b → b.loc ≡ w → Spells (AnExpr i e) l (b ∷ vs) t → left_side (Some (AnExpr i e)) w (f ∷ fs) t ≡ Some x →
    BegunAt ((u ++ b ∷ vs) ++ t ∷ us) x
side_begins u vs us b t i e l w f fs x ran led at de h = holds_of (BegunAt ((u ++ b ∷ vs) ++ t ∷ us)) (left_sides i e w f t) x each h
  where
    begun : (k : Unsupported) → Begins k led.0 (b ∷ (vs ++ t ∷ us)) → BegunAt ((u ++ b ∷ vs) ++ t ∷ us) (k, w)
    begun k d = record { before = u; first = b; others = vs ++ t ∷ us; place = led.0; split = append_assoc u (b ∷ vs) (t ∷ us); ran = led.1; begins = (d, no_key_read b vs (vs ++ t ∷ us) ran); there = ap (λ (y : Loc). y.start) at }

    each : EachOf (BegunAt ((u ++ b ∷ vs) ++ t ∷ us)) (left_sides i e w f t)
    each =
        where_so
        (λ q. let a = and_parts (is_parenthesized_target e) _ q in let c = and_parts (fits (wanted f) i e) (assigns (join t) && continues (wanted f) e t) a.1 in let d = and_parts (assigns (join t)) (continues (wanted f) e t) c.1 in
        begun Unsupported.ParenthesizedTarget (Unsupported.target_before f fs t us led.2 c.0 de a.0 d.0 d.1))
        (where_so
        (λ q. let a = and_parts (is_parenthesized_target e) _ q in let c = and_parts (fits (wanted f) i e) (is_head f && is_each t) a.1 in let d = and_parts (is_head f) (is_each t) c.1 in
        begun Unsupported.ParenthesizedTarget (Unsupported.target_in_head f fs t us led.2 c.0 de a.0 d.0 d.1))
        (where_so
        (λ q. let a = and_parts (is_parenthesized_target e) _ q in let c = and_parts (fits (wanted f) i e) (is_update f && not (continues (wanted f) e t)) a.1 in let d = and_parts (is_update f) (not (continues (wanted f) e t)) c.1 in
        begun Unsupported.ParenthesizedTarget (Unsupported.at_once (Unsupported.target_after f fs t us led.2 c.0 de a.0 d.0 (off (continues (wanted f) e t) d.1))))
        (where_so
        (λ q. let a = and_parts (is_literal_pattern e) _ q in let c = and_parts (fits (wanted f) i e) (is_mark P.Assign t && continues (wanted f) e t) a.1 in let d = and_parts (is_mark P.Assign t) (continues (wanted f) e t) c.1 in
        begun Unsupported.BindingPattern (Unsupported.literal f fs t us led.2 c.0 de a.0 d.0 d.1))
        (where_so
        (λ q. let a = and_parts (is_literal_pattern e) _ q in let c = and_parts (fits (wanted f) i e) (is_head f && is_each t) a.1 in let d = and_parts (is_head f) (is_each t) c.1 in
        begun Unsupported.BindingPattern (Unsupported.literal_in_head f fs t us led.2 c.0 de a.0 d.0 d.1))
        none_left))))

bracketed_first : (g : Form) → bracketed g ≡ true → (is_first g || is_join g) ≡ true
bracketed_first slot.Parentheses h = refl
bracketed_first slot.ArrayLiteral h = refl
bracketed_first slot.ObjectLiteral h = refl
bracketed_first g h = absurd (true≢false (sym h))

-- a production in brackets, which is whole
closed_begins : {g : Form} {w l : Loc} {ss : List Slot} {ps : List Piece} {fs : List Frame} {ts : List Token} (t : Token) (us : List Token) (x : Unsupported × Loc) (qs : List Piece) → run Start ts ≡ Some (Due g w ss ps l fs) → Reads (Due g w ss ps l fs) ts → bracketed g ≡ true → SpellsSlots ss qs l l [] t →
    left_side (build g (through w l) (ps ++ qs)) w fs t ≡ Some x → BegunAt (ts ++ t ∷ us) x
closed_begins {g = g} {w = w} {l = l} {ps = ps} {fs = []} {ts = ts} t us x qs ran r is dd h = none_there (build g (through w l) (ps ++ qs)) h
  where
    none_there : (o : Option Piece) → left_side o w [] t ≡ Some x → BegunAt (ts ++ t ∷ us) x
    none_there (Some (AnExpr i e)) k = absurd cc
    none_there o k = absurd cc
closed_begins {g = g} {w = w} {l = l} {ps = ps} {fs = f ∷ fs} t us x qs ran (due (opened {k = AsStmt} b fr st kd tail)) is dd h = absurd (true≢false (sym (bracketed_first g is) ∙ kd))
closed_begins {g = g} {w = w} {l = l} {ss = ss} {ps = ps} {fs = f ∷ fs} t us x qs ran (due (opened {k = AsExpr} {u = u} {us = vs} b fr st kd tail)) is dd h = by_made tail (build g (through w l) (ps ++ qs)) refl h
  where
    by_made : Tail AsExpr (f ∷ fs) Any g w ss ps l (b ∷ vs) → (o : Option Piece) → build g (through w l) (ps ++ qs) ≡ o → left_side o w (f ∷ fs) t ≡ Some x → BegunAt ((u ++ b ∷ vs) ++ t ∷ us) x
    by_made tail (Some (AnExpr i e)) made k = side_begins u vs us b t i e (through w l) w f fs x ran st.0 (st.1 is) (subst (λ y. Spells (AnExpr i e) (through w l) y t) (append-nil (b ∷ vs)) (tail.spells tt tt dd made)) k
    by_made tail o made k = absurd cc

not_arrow : (t : Token) → on_its_line t ≡ false → branch slot.Arrow t ≡ Pass (Missing ∷ [])
not_arrow t h = cond-false (on_its_line t) _ _ h

pub group_begins : (ts : List Token) (c : Config) (t : Token) (us : List Token) (x : Unsupported × Loc) → run Start ts ≡ Some c → group c t ≡ Some x → BegunAt (ts ++ t ∷ us) x
group_begins ts (Due slot.Parentheses w (By slot.Arrow ∷ []) ps l fs) t us x ran h = by_line (on_its_line t) refl h
  where
    by_line : (b : Bool) → on_its_line t ≡ b → (if b then None else left_side (build slot.Parentheses (through w l) (ps ++ Missing ∷ [])) w fs t) ≡ Some x → BegunAt (ts ++ t ∷ us) x
    by_line true is k = absurd cc
    by_line false is k = closed_begins t us x (Missing ∷ []) ran (reads_so ts (Due slot.Parentheses w (By slot.Arrow ∷ []) ps l fs) ran) refl (Sentences.passed (not_arrow t is) Sentences.done) k
group_begins ts (Due slot.ArrayLiteral w [] ps l fs) t us x ran h =
    closed_begins t us x [] ran (reads_so ts (Due slot.ArrayLiteral w [] ps l fs) ran) refl Sentences.done (ap (λ y. left_side (build slot.ArrayLiteral (through w l) y) w fs t) (append-nil ps) ∙ h)
group_begins ts (Due slot.ObjectLiteral w [] ps l fs) t us x ran h =
    closed_begins t us x [] ran (reads_so ts (Due slot.ObjectLiteral w [] ps l fs) ran) refl Sentences.done (ap (λ y. left_side (build slot.ObjectLiteral (through w l) y) w fs t) (append-nil ps) ∙ h)
group_begins ts c t us x ran h = absurd cc
