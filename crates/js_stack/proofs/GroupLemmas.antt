-- What a group that is whole begins is told by its parts, and by the frame round it.
use Rattle.std.proofs.Common.{◌≡◌, ℕ, Bool, true, false, List, [], ◌∷◌, ◌++◌, length, Option, Some, None, is_some, if◌then◌else◌, refl, sym, ap, ◌∙◌, arith}
use Rattle.std.specs.Prelude.{◌==◌, ◌&&◌, ◌||◌, not, nat_le}
use Rattle.std.specs.Option.{option_map}
use Rattle.std.proofs.lemmas.Bool.{ne_eqb}
use Rattle.js_terms.specs.declared.place.Loc.{Loc}
use Rattle.js_tree.specs.Plain.{Expr, Exprs, no_expr, more_expr, Properties}
use Rattle.js_tree.specs.Plain as tree
use Rattle.js_tree.specs.Tree.{plain_exprs}
use Rattle.js_tree.specs.declared.tree.Expr as tree_code
use Rattle.js_text.specs.Token.{Token}
use Rattle.js_text.specs.declared.punctuator.Punctuator.TheVariants as P
use Rattle.js_reading.specs.Spans.{through}
use Rattle.js_reading.specs.declared.choice.Choice.TheVariants as choice
use Rattle.js_reading.specs.declared.form.Form.{Form}
use Rattle.js_reading.specs.declared.form.Form.TheVariants as form
use Rattle.js_reading.specs.Slots.{Wanted, Level, WithoutIn, Callee, Piece, AnExpr, TheStmts, TheExprs, APlace, Missing, Expr_}
use Rattle.js_reading.specs.Slots as plain
use Rattle.js_reading.specs.Productions.{primary, member, is_mark, join, strength, wants}
use Rattle.js_reading.specs.Makes.{arrow_of, bare_in, build, comma_of, concise, last_level, loc_of, object_of, params_of}
use Rattle.js_reading.specs.Sentences.{bans, continues, fits, grip, stands_for}
use Rattle.js_reading.specs.Turns.{Due, Frame, InForm, wanted}
use Rattle.js_reading.specs.declared.unsupported.Unsupported.{Unsupported}
use Rattle.js_reading.specs.declared.unsupported.Unsupported.TheVariants.{ParenthesizedTarget, BindingPattern}
use Rattle.js_reading.specs.Unsupported.{assigns, is_each, is_head, is_update}
use Rattle.js_reading.specs.Found.{Find, when, or_else, on_its_line, left_side, group}
use Rattle.js_grammar.specs.declared.slot.Slot.{Slot}
use Rattle.js_grammar.specs.declared.slot.Slot.TheVariants as slot
use Rattle.js_grammar.specs.View.{plain_slot, plain_slots}
use Rattle.js_build.specs.Objects.{all_properties}
use Rattle.js_stack.specs.declared.production.Frame as code
use Rattle.js_stack.specs.declared.objects.Awaits.TheVariants as awaits
use Rattle.js_stack.specs.Groups.{after_target, after_target_next, arrow_left, arrow_next, found_at, goes_on, head_by, holds_target, is_items, no_exprs, site_in, site_of, takes, takes_pattern, takes_target, target_within, target, array, object, update_by}
use Rattle.js_stack.specs.Left.{first_slot}
use Rattle.js_stack.specs.Objects.{ends}
use Rattle.js_stack.specs.Stack.{first_frame}
use Rattle.js_stack.specs.View.{plain_frame, frames}
use Rattle.js_stack.proofs.ObjectLemmas.{object_is}

-- ---- frames

pub head_is : (f : Frame) → is_head f ≡ head_by f
head_is (InForm form.For w (Expr_ (WithoutIn n)) (plain.By choice.AfterTarget ∷ []) []) = refl
head_is (InForm form.For w (Expr_ (WithoutIn n)) (plain.By choice.AfterTarget ∷ []) (p ∷ ps)) = refl
head_is (InForm form.For w (Expr_ (WithoutIn n)) (plain.By choice.AfterTarget ∷ s ∷ ss) ps) = refl
head_is (InForm form.For w (Expr_ (WithoutIn n)) (plain.By c ∷ ss) ps) = refl
head_is (InForm form.For w (Expr_ (WithoutIn n)) (s ∷ ss) ps) = refl
head_is (InForm form.For w (Expr_ (WithoutIn n)) [] ps) = refl
head_is (InForm form.For w (Expr_ n) ss ps) = refl
head_is (InForm form.For w s ss ps) = refl
head_is (InForm f w (Expr_ (WithoutIn n)) ss ps) = refl
head_is (InForm f w (Expr_ n) ss ps) = refl
head_is (InForm f w s ss ps) = refl
head_is f = refl

pub update_is : (f : Frame) → is_update f ≡ update_by f
update_is (InForm (form.PrefixUpdate o) w (Expr_ n) [] []) = refl
update_is (InForm (form.PrefixUpdate o) w (Expr_ n) [] (p ∷ ps)) = refl
update_is (InForm (form.PrefixUpdate o) w (Expr_ n) (s ∷ ss) ps) = refl
update_is (InForm (form.PrefixUpdate o) w s ss ps) = refl
update_is (InForm f w (Expr_ n) ss ps) = refl
update_is (InForm f w s ss ps) = refl
update_is f = refl

-- ---- slots that are left

not_one : (s r : Slot) (ss : List Slot) → false ≡ (length (s ∷ r ∷ ss) == 1)
not_one s r ss = sym (ne_eqb (length (s ∷ r ∷ ss)) 1 (omega arith))

more_after_target : (s r : Slot) (ss : List Slot) → after_target (plain_slots (s ∷ r ∷ ss)) ≡ after_target_next (Some (plain_slot s)) false
more_after_target (slot.By choice.AfterTarget) r ss = refl
more_after_target (slot.By c) r ss = refl
more_after_target s r ss = refl

pub after_target_is : (ss : List Slot) → after_target (plain_slots ss) ≡ after_target_next (option_map plain_slot (first_slot ss)) (length ss == 1)
after_target_is [] = refl
after_target_is (slot.By choice.AfterTarget ∷ []) = refl
after_target_is (slot.By c ∷ []) = refl
after_target_is (s ∷ []) = refl
after_target_is (s ∷ r ∷ ss) = more_after_target s r ss ∙ ap (after_target_next (Some (plain_slot s))) (not_one s r ss)

more_arrow : (s r : Slot) (ss : List Slot) → arrow_left (plain_slots (s ∷ r ∷ ss)) ≡ arrow_next (Some (plain_slot s)) false
more_arrow (slot.By choice.Arrow) r ss = refl
more_arrow (slot.By c) r ss = refl
more_arrow s r ss = refl

pub arrow_is : (ss : List Slot) → arrow_left (plain_slots ss) ≡ arrow_next (option_map plain_slot (first_slot ss)) (length ss == 1)
arrow_is [] = refl
arrow_is (slot.By choice.Arrow ∷ []) = refl
arrow_is (slot.By c ∷ []) = refl
arrow_is (s ∷ []) = refl
arrow_is (s ∷ r ∷ ss) = more_arrow s r ss ∙ ap (arrow_next (Some (plain_slot s))) (not_one s r ss)

pub no_exprs_is : (xs : List tree_code.Expr) → no_exprs (plain_exprs xs) ≡ (length xs == 0)
no_exprs_is [] = refl
no_exprs_is (x ∷ xs) = sym (ne_eqb (length (x ∷ xs)) 0 (omega arith))

-- ---- what a place asks of what stands in brackets

fits_same : (w : Wanted) (i : ℕ) (e : Expr) → bare_in e ≡ false → fits w i e ≡ takes w i
fits_same (Level n) i e h = refl
fits_same (WithoutIn n) i e h = ap (λ b. nat_le n i && not b) h
fits_same Callee i e h = refl

continues_same : (w : Wanted) (e : Expr) (t : Token) → last_level e ≡ primary → continues w e t ≡ goes_on w t
continues_same w e t h =
    ap (λ n. not (bans w t) && ((nat_le 1 (stands_for t.kind) && nat_le (stands_for t.kind) n) || (nat_le 1 (strength (join t)) && (nat_le (grip w) (strength (join t)) && nat_le (wants (join t)) n)))) h

-- ---- the finds of a left side, together

abbrev pub targets : (p f a c h e u : Bool) → Loc → Find
targets p f a c h e u w =
    or_else (when (p && (f && (a && c))) ParenthesizedTarget w) (or_else (when (p && (f && (h && e))) ParenthesizedTarget w) (or_else (when (p && (f && (u && not c))) ParenthesizedTarget w) None))

abbrev pub patterns : (f a c h e : Bool) → Loc → Find
patterns f a c h e w = or_else (when (f && (a && c)) BindingPattern w) (or_else (when (f && (h && e)) BindingPattern w) None)

three : (p f x y z : Bool) (u : Unsupported) (w : Loc) →
    or_else (when (p && (f && x)) u w) (or_else (when (p && (f && y)) u w) (or_else (when (p && (f && z)) u w) None)) ≡ when ((f && ((x || y) || z)) && p) u w
three true true true y z u w = refl
three true true false true z u w = refl
three true true false false true u w = refl
three true true false false false u w = refl
three true false x y z u w = refl
three false true true y z u w = refl
three false true false true z u w = refl
three false true false false true u w = refl
three false true false false false u w = refl
three false false x y z u w = refl

two : (f x y : Bool) (u : Unsupported) (w : Loc) → or_else (when (f && x) u w) (or_else (when (f && y) u w) None) ≡ when (f && (x || y)) u w
two true true y u w = refl
two true false true u w = refl
two true false false u w = refl
two false x y u w = refl

left_target : (m : Option Loc) (x : Expr) (w : Loc) (f : Frame) (fs : List Frame) (t : Token) →
    left_side (Some (AnExpr member (tree.Parenthesized m x))) w (f ∷ fs) t ≡ when (takes_target (site_of f) t && target_within x) ParenthesizedTarget w
left_target m x w f fs t =
    let e : Expr = tree.Parenthesized m x in
    ap (λ b. targets (target_within x) b (assigns (join t)) (continues (wanted f) e t) (is_head f) (is_each t) (is_update f) w) (fits_same (wanted f) member e refl)
    ∙ (ap (λ b. targets (target_within x) (takes (wanted f) member) (assigns (join t)) b (is_head f) (is_each t) (is_update f) w) (continues_same (wanted f) e t refl)
    ∙ three (target_within x) (takes (wanted f) member) (assigns (join t) && goes_on (wanted f) t) (is_head f && is_each t) (is_update f && not (goes_on (wanted f) t)) ParenthesizedTarget w)

left_array : (m : Option Loc) (xs : Exprs) (w : Loc) (f : Frame) (fs : List Frame) (t : Token) →
    left_side (Some (AnExpr primary (tree.ArrayLiteral m xs))) w (f ∷ fs) t ≡ when (takes_pattern (site_of f) t) BindingPattern w
left_array m xs w f fs t =
    let e : Expr = tree.ArrayLiteral m xs in
    ap (λ b. patterns b (is_mark P.Assign t) (continues (wanted f) e t) (is_head f) (is_each t) w) (fits_same (wanted f) primary e refl)
    ∙ (ap (λ b. patterns (takes (wanted f) primary) (is_mark P.Assign t) b (is_head f) (is_each t) w) (continues_same (wanted f) e t refl)
    ∙ two (takes (wanted f) primary) (is_mark P.Assign t && goes_on (wanted f) t) (is_head f && is_each t) BindingPattern w)

left_object : (m : Option Loc) (xs : Properties) (w : Loc) (f : Frame) (fs : List Frame) (t : Token) →
    left_side (Some (AnExpr primary (tree.ObjectLiteral m xs))) w (f ∷ fs) t ≡ when (takes_pattern (site_of f) t) BindingPattern w
left_object m xs w f fs t =
    let e : Expr = tree.ObjectLiteral m xs in
    ap (λ b. patterns b (is_mark P.Assign t) (continues (wanted f) e t) (is_head f) (is_each t) w) (fits_same (wanted f) primary e refl)
    ∙ (ap (λ b. patterns (takes (wanted f) primary) (is_mark P.Assign t) b (is_head f) (is_each t) w) (continues_same (wanted f) e t refl)
    ∙ two (takes (wanted f) primary) (is_mark P.Assign t && goes_on (wanted f) t) (is_head f && is_each t) BindingPattern w)

-- ---- choices that fail

none_when : (b : Bool) (u : Unsupported) (w : Loc) → None ≡ when (b && false) u w
none_when true u w = refl
none_when false u w = refl

when_true : (b : Bool) (u : Unsupported) (w : Loc) → when b u w ≡ when (b && true) u w
when_true true u w = refl
when_true false u w = refl

left_none : (p : Option Piece) (w : Loc) (t : Token) → left_side p w [] t ≡ None
left_none None w t = refl
left_none (Some (AnExpr i e)) w t = refl
left_none (Some p) w t = refl

-- ---- parentheses

comma_none : (o : Option Loc) (e x : Expr) (es : Exprs) → target_within (comma_of loc_of (tree.Comma o e x) es) ≡ false
comma_none o e x no_expr = refl
comma_none o e x (more_expr y es) = comma_none _ (tree.Comma o e x) y es

comma_more : (e x : Expr) (es : Exprs) → target_within (comma_of loc_of e (more_expr x es)) ≡ false
comma_more e x es = comma_none _ e x es

no_arrow : (l : Loc) (xs : Option tree.Params) → arrow_of l xs None ≡ None
no_arrow l None = refl
no_arrow l (Some xs) = refl

no_body : (p : Piece) (ps : List Piece) → concise (p ∷ (ps ++ Missing ∷ [])) ≡ None
no_body (AnExpr i e) [] = refl
no_body (AnExpr i e) (q ∷ ps) = refl
no_body (APlace l) [] = refl
no_body (APlace l) (TheStmts ss ∷ []) = refl
no_body (APlace l) (TheStmts ss ∷ APlace m ∷ []) = refl
no_body (APlace l) (TheStmts ss ∷ APlace m ∷ q ∷ ps) = refl
no_body (APlace l) (TheStmts ss ∷ q ∷ ps) = refl
no_body (APlace l) (q ∷ ps) = refl
no_body p ps = refl

longer : (m : Loc) (b : Bool) (xs : Exprs) (p q : Piece) (ps : List Piece) → build form.Parentheses m (TheExprs b xs ∷ p ∷ q ∷ ps) ≡ arrow_of m (params_of xs) (concise (p ∷ q ∷ ps))
longer m true xs p q ps = refl
longer m false no_expr p q ps = refl
longer m false (more_expr e es) Missing q ps = refl
longer m false (more_expr e es) p q ps = refl

longer_missing : (m : Loc) (b : Bool) (xs : Exprs) (p : Piece) (ps : List Piece) → build form.Parentheses m (TheExprs b xs ∷ p ∷ (ps ++ Missing ∷ [])) ≡ arrow_of m (params_of xs) (concise (p ∷ (ps ++ Missing ∷ [])))
longer_missing m b xs p [] = longer m b xs p Missing []
longer_missing m b xs p (q ∷ ps) = longer m b xs p q (ps ++ Missing ∷ [])

longer_none : (m : Loc) (b : Bool) (xs : Exprs) (p : Piece) (ps : List Piece) → build form.Parentheses m (TheExprs b xs ∷ p ∷ (ps ++ Missing ∷ [])) ≡ None
longer_none m b xs p ps = longer_missing m b xs p ps ∙ (ap (arrow_of m (params_of xs)) (no_body p ps) ∙ no_arrow m (params_of xs))

parentheses_made : (m w : Loc) (ps : List Piece) (f : Frame) (fs : List Frame) (t : Token) →
    left_side (build form.Parentheses m (ps ++ Missing ∷ [])) w (f ∷ fs) t ≡ when (takes_target (site_of f) t && holds_target ps) ParenthesizedTarget w
parentheses_made m w [] f fs t = none_when (takes_target (site_of f) t) ParenthesizedTarget w
parentheses_made m w (TheExprs true xs ∷ []) f fs t = ap (λ o. left_side o w (f ∷ fs) t) (no_arrow m (params_of xs)) ∙ none_when (takes_target (site_of f) t) ParenthesizedTarget w
parentheses_made m w (TheExprs false no_expr ∷ []) f fs t = none_when (takes_target (site_of f) t) ParenthesizedTarget w
parentheses_made m w (TheExprs false (more_expr e no_expr) ∷ []) f fs t = left_target (Some m) e w f fs t
parentheses_made m w (TheExprs false (more_expr e (more_expr x es)) ∷ []) f fs t =
    left_target (Some m) (comma_of loc_of e (more_expr x es)) w f fs t ∙ ap (λ b. when (takes_target (site_of f) t && b) ParenthesizedTarget w) (comma_more e x es)
parentheses_made m w (TheExprs b xs ∷ p ∷ ps) f fs t =
    ap (λ o. left_side o w (f ∷ fs) t) (longer_none m b xs p ps)
    ∙ none_when (takes_target (site_of f) t) ParenthesizedTarget w
parentheses_made m w (p ∷ []) f fs t = none_when (takes_target (site_of f) t) ParenthesizedTarget w
parentheses_made m w (p ∷ q ∷ ps) f fs t = none_when (takes_target (site_of f) t) ParenthesizedTarget w

unless_line : (line takes_it holds : Bool) (found : Find) (w : Loc) → found ≡ when (takes_it && holds) ParenthesizedTarget w →
    (if line then None else found) ≡ when (((takes_it && true) && not line) && holds) ParenthesizedTarget w
unless_line true true holds found w h = refl
unless_line true false holds found w h = refl
unless_line false true holds found w h = h
unless_line false false holds found w h = h

no_target : (a b c : Bool) (w : Loc) → None ≡ when (((a && false) && b) && c) ParenthesizedTarget w
no_target true b c w = refl
no_target false b c w = refl

parentheses_is : (w : Loc) (ss : List plain.Slot) (ps : List Piece) (l : Loc) (f : Frame) (fs : List Frame) (t : Token) → group (Due form.Parentheses w ss ps l (f ∷ fs)) t ≡ when (target (site_of f) ss ps t) ParenthesizedTarget w
parentheses_is w [] ps l f fs t = no_target (takes_target (site_of f) t) _ _ w
parentheses_is w (plain.By choice.Arrow ∷ []) ps l f fs t = unless_line (on_its_line t) (takes_target (site_of f) t) (holds_target ps) _ w (parentheses_made (through w l) w ps f fs t)
parentheses_is w (plain.By choice.Arrow ∷ s ∷ ss) ps l f fs t = no_target (takes_target (site_of f) t) _ _ w
parentheses_is w (plain.By c ∷ ss) ps l f fs t = no_target (takes_target (site_of f) t) _ _ w
parentheses_is w (s ∷ ss) ps l f fs t = no_target (takes_target (site_of f) t) _ _ w

-- ---- arrays and objects

no_pattern : (a b : Bool) (w : Loc) → None ≡ when ((a && false) && b) BindingPattern w
no_pattern true b w = refl
no_pattern false b w = refl

pattern_if : (a b : Bool) (found : Find) (w : Loc) → found ≡ when (a && b) BindingPattern w → found ≡ when ((a && true) && b) BindingPattern w
pattern_if true b found w h = h
pattern_if false b found w h = h

array_made : (m w : Loc) (ps : List Piece) (f : Frame) (fs : List Frame) (t : Token) → left_side (build form.ArrayLiteral m ps) w (f ∷ fs) t ≡ when (takes_pattern (site_of f) t && is_items ps) BindingPattern w
array_made m w [] f fs t = none_when (takes_pattern (site_of f) t) BindingPattern w
array_made m w (TheExprs b xs ∷ []) f fs t = left_array (Some m) xs w f fs t ∙ when_true (takes_pattern (site_of f) t) BindingPattern w
array_made m w (TheExprs b xs ∷ p ∷ ps) f fs t = none_when (takes_pattern (site_of f) t) BindingPattern w
array_made m w (p ∷ ps) f fs t = none_when (takes_pattern (site_of f) t) BindingPattern w

array_is : (w : Loc) (ss : List plain.Slot) (ps : List Piece) (l : Loc) (f : Frame) (fs : List Frame) (t : Token) → group (Due form.ArrayLiteral w ss ps l (f ∷ fs)) t ≡ when (array (site_of f) ss ps t) BindingPattern w
array_is w [] ps l f fs t = pattern_if (takes_pattern (site_of f) t) (is_items ps) _ w (array_made (through w l) w ps f fs t)
array_is w (s ∷ ss) ps l f fs t = no_pattern (takes_pattern (site_of f) t) (is_items ps) w

object_with : (m w : Loc) (o : Option Properties) (f : Frame) (fs : List Frame) (t : Token) → left_side (object_of m o) w (f ∷ fs) t ≡ when (takes_pattern (site_of f) t && is_some o) BindingPattern w
object_with m w None f fs t = none_when (takes_pattern (site_of f) t) BindingPattern w
object_with m w (Some xs) f fs t = left_object (Some m) xs w f fs t ∙ when_true (takes_pattern (site_of f) t) BindingPattern w

object_made : (m w : Loc) (ps : List Piece) (f : Frame) (fs : List Frame) (t : Token) → left_side (build form.ObjectLiteral m ps) w (f ∷ fs) t ≡ when (takes_pattern (site_of f) t && ends awaits.Key ps) BindingPattern w
unfolding all_properties
object_made m w ps f fs t = object_with m w (all_properties ps) f fs t ∙ ap (λ b. when (takes_pattern (site_of f) t && b) BindingPattern w) (object_is ps)

object_there : (w : Loc) (ss : List plain.Slot) (ps : List Piece) (l : Loc) (f : Frame) (fs : List Frame) (t : Token) → group (Due form.ObjectLiteral w ss ps l (f ∷ fs)) t ≡ when (object (site_of f) ss ps t) BindingPattern w
object_there w [] ps l f fs t = pattern_if (takes_pattern (site_of f) t) (ends awaits.Key ps) _ w (object_made (through w l) w ps f fs t)
object_there w (s ∷ ss) ps l f fs t = no_pattern (takes_pattern (site_of f) t) (ends awaits.Key ps) w

-- ---- all of them

no_frame : (b : Bool) (o : Option Piece) (w : Loc) (t : Token) → (if b then None else left_side o w [] t) ≡ None
no_frame true o w t = refl
no_frame false o w t = left_none o w t

pub group_is : (f : Form) (w : Loc) (ss : List plain.Slot) (ps : List Piece) (l : Loc) (xs : List code.Frame) (t : Token) → group (Due f w ss ps l (frames xs)) t ≡ found_at (site_in (first_frame xs)) f w ss ps t
group_is form.Parentheses w (plain.By choice.Arrow ∷ []) ps l [] t = no_frame (on_its_line t) _ w t
group_is form.Parentheses w (plain.By choice.Arrow ∷ s ∷ ss) ps l [] t = refl
group_is form.Parentheses w (plain.By c ∷ ss) ps l [] t = refl
group_is form.Parentheses w (s ∷ ss) ps l [] t = refl
group_is form.Parentheses w [] ps l [] t = refl
group_is form.ArrayLiteral w [] ps l [] t = left_none _ w t
group_is form.ArrayLiteral w (s ∷ ss) ps l [] t = refl
group_is form.ObjectLiteral w [] ps l [] t = left_none _ w t
group_is form.ObjectLiteral w (s ∷ ss) ps l [] t = refl
group_is form.Parentheses w ss ps l (x ∷ xs) t = parentheses_is w ss ps l (plain_frame x) (frames xs) t
group_is form.ArrayLiteral w ss ps l (x ∷ xs) t = array_is w ss ps l (plain_frame x) (frames xs) t
group_is form.ObjectLiteral w ss ps l (x ∷ xs) t = object_there w ss ps l (plain_frame x) (frames xs) t
group_is f w ss ps l [] t = refl
group_is f w ss ps l (x ∷ xs) t = refl
