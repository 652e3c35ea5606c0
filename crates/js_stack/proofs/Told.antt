-- A production that a token tells begins with the token, or goes on with the expression before it.
use Rattle.std.proofs.Common.{◌≡◌, ℕ, Bool, true, false, List, [], ◌∷◌, Option, Some, None, if◌then◌else◌, refl, sym, subst}
use Rattle.std.specs.Prelude.{◌&&◌, ◌||◌}
use Rattle.std.proofs.lemmas.Bool.{true≢false}
use Rattle.js_terms.specs.declared.place.Loc.{Loc}
use Rattle.js_tree.specs.Plain.{Expr}
use Rattle.js_text.specs.Token.{Token}
use Rattle.js_reading.specs.Slots.{Slot, Sign, Expr_, AnExpr}
use Rattle.js_reading.specs.declared.form.Form.{Form}
use Rattle.js_reading.specs.declared.class.Class.TheVariants.{FirstText}
use Rattle.js_reading.specs.declared.form.Form.TheVariants as form
use Rattle.js_reading.specs.Productions.{slots, prefix, statement, join, find, prefixes, statements, joins, as_it_is, after_first, begins_with, on_line, same_line, piece_of}
use Rattle.js_reading.specs.Turns.{Frame, InForm, listing, Due, begin_form, take_second, texted, enter}
use Rattle.js_grammar.specs.View.{after_told}
use Rattle.js_stack.specs.Told.{is_template, sign_first, sign_second, is_headed, is_joined, headed_if, joined_if, lists}

abbrev pub all : (Form → Bool) → List Form → Bool
all p [] = true
all p (f ∷ fs) = if p f then all p fs else false

if_true : (b c : Bool) → (if b then c else false) ≡ true → (b ≡ true) × (c ≡ true)
if_true true c h = (refl, h)
if_true false c h = absurd (true≢false (sym h))

one_found : (p : Form → Bool) (b : Bool) (g f : Form) (others : Option Form) → p g ≡ true → (others ≡ Some f → p f ≡ true) → (if b then Some g else others) ≡ Some f → p f ≡ true
one_found p true g f others h go q = let e : g ≡ f = cc in subst (λ x. p x ≡ true) e h
one_found p false g f others h go q = go q

-- what holds of each production of a list holds of one that is found there
found_holds : (p : Form → Bool) (part : List Slot → List Slot) (fs : List Form) (t : Token) (f : Form) → all p fs ≡ true → find part fs t ≡ Some f → p f ≡ true
found_holds p part [] t f h q = absurd cc
found_holds p part (g ∷ gs) t f h q = let r = if_true (p g) (all p gs) h in one_found p (begins_with (part (slots g)) t) g f (find part gs t) r.0 (found_holds p part gs t f r.1) q

pub prefix_headed : (t : Token) (f : Form) → prefix t ≡ Some f → is_headed f ≡ true
prefix_headed t f h = found_holds is_headed as_it_is prefixes t f refl h

pub statement_headed : (t : Token) (f : Form) → statement t ≡ Some f → is_headed f ≡ true
statement_headed t f h = found_holds is_headed as_it_is statements t f refl h

kept : (b : Bool) (g f : Form) → (if b then None else Some g) ≡ Some f → Some g ≡ Some f
kept true g f h = absurd cc
kept false g f h = h

on_line_found : (t : Token) (o : Option Form) (f : Form) → on_line t o ≡ Some f → o ≡ Some f
on_line_found t None f h = absurd cc
on_line_found t (Some g) f h = kept (same_line g && t.line_terminator_before) g f h

pub join_joined : (t : Token) (f : Form) → join t ≡ Some f → is_joined f ≡ true
join_joined t f h = found_holds is_joined after_first joins t f refl (on_line_found t (find after_first joins t) f h)

by_sign : (ss : List Slot) (f : Form) (t : Token) (fs : List Frame) → sign_first ss ≡ true → begin_form f t ss fs ≡ Some (Due f t.loc (after_told ss) [] t.loc fs)
by_sign (Sign k ∷ ss) f t fs h = refl
by_sign ss f t fs h = absurd (true≢false (sym h))

or_right : (b c : Bool) → b ≡ false → (b || c) ≡ true → c ≡ true
or_right false c h q = q
or_right true c h q = absurd (true≢false h)

pub begins_sign : (f : Form) (t : Token) (fs : List Frame) → is_headed f ≡ true → is_template f ≡ false → begin_form f t (slots f) fs ≡ Some (Due f t.loc (after_told (slots f)) [] t.loc fs)
begins_sign f t fs h q = by_sign (slots f) f t fs (or_right (is_template f) (sign_first (slots f)) q h)

pub begins_template : (f : Form) (t : Token) (fs : List Frame) → is_template f ≡ true → begin_form f t (slots f) fs ≡ texted (piece_of FirstText t.kind t.loc) (λ p. enter f t.loc (after_told (slots f)) (p ∷ []) t.loc fs)
begins_template form.Template t fs h = refl
begins_template f t fs h = absurd (true≢false (sym h))

by_second : (ss : List Slot) (f : Form) (i : ℕ) (e : Expr) (l : Loc) (fs : List Frame) (t : Token) → sign_second ss ≡ true → take_second f i e l fs t (after_first ss) ≡ Some (Due f l (after_told ss) (AnExpr i e ∷ []) t.loc fs)
by_second (Expr_ n ∷ Sign k ∷ ss) f i e l fs t h = refl
by_second ss f i e l fs t h = absurd (true≢false (sym h))

pub takes_second : (f : Form) (i : ℕ) (e : Expr) (l : Loc) (fs : List Frame) (t : Token) → is_joined f ≡ true → take_second f i e l fs t (after_first (slots f)) ≡ Some (Due f l (after_told (slots f)) (AnExpr i e ∷ []) t.loc fs)
takes_second f i e l fs t h = by_second (slots f) f i e l fs t h

prefix_if : (t : Token) (o : Option Form) → prefix t ≡ o → headed_if o ≡ true
prefix_if t None h = refl
prefix_if t (Some f) h = prefix_headed t f h

pub prefix_told : (t : Token) → headed_if (prefix t) ≡ true
prefix_told t = prefix_if t (prefix t) refl

statement_if : (t : Token) (o : Option Form) → statement t ≡ o → headed_if o ≡ true
statement_if t None h = refl
statement_if t (Some f) h = statement_headed t f h

pub statement_told : (t : Token) → headed_if (statement t) ≡ true
statement_told t = statement_if t (statement t) refl

join_if : (t : Token) (o : Option Form) → join t ≡ o → joined_if o ≡ true
join_if t None h = refl
join_if t (Some f) h = join_joined t f h

pub join_told : (t : Token) → joined_if (join t) ≡ true
join_told t = join_if t (join t) refl

pub lists_is : (f : Frame) (fs : List Frame) → listing (f ∷ fs) ≡ lists f
lists_is (InForm f w s ss ps) fs = refl
lists_is f fs = refl
