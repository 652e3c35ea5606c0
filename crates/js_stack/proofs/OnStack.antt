-- One more frame on the stack, and what the frames come to.
use Rattle.std.proofs.Common.{◌≡◌, ℕ, ◌+◌, max, Bool, true, false, List, [], ◌∷◌, ◌++◌, length, Option, Some, None, Result, IfOk, refl, sym, ap, subst, ◌∙◌, arith}
use Rattle.std.specs.Prelude.{◌==◌}
use Rattle.std.specs.Option.{SomeIff, ok_or}
use Rattle.std.proofs.lemmas.Bool.{ne_eqb}
use Rattle.std.proofs.lemmas.List.{reverse-append}
use Rattle.js_reading.specs.Slots.{Wanted, Slot, Expr_, Level, WithoutIn, By}
use Rattle.js_reading.specs.declared.choice.Choice.TheVariants as choice
use Rattle.js_reading.specs.Turns.{Frame, InForm, InExpression, InStmts, InFile, InItems, inner, place, template_due}
use Rattle.js_reading.specs.Open.{lift, up}
use Rattle.js_reading.specs.Unsupported.{in_function}
use Rattle.js_stack.specs.declared.stack.Counts.{Counts}
use Rattle.js_stack.specs.declared.stack.Held.{Held}
use Rattle.js_stack.specs.Stack.{deeper, depth, higher, inner_of, place_over, template_over, function_over, template_slots, template_next, no_slot, Counted, Over, frames_of, counted, stack_of, is_counted, first_frame}
use Rattle.js_grammar.specs.declared.slot.Slot as code
use Rattle.js_grammar.specs.View.{plain_slot, plain_slots}
use Rattle.js_stack.specs.Left.{first_slot}
use Rattle.js_stack.specs.View.{plain_frame, frames}

pub stack_empty : stack_of [] ≡ []
unfolding stack_of
stack_empty = refl

pub counted_empty : is_counted []
unfolding is_counted
counted_empty = tt

pub stack_push : (hs : List Held) (h : Held) → stack_of (hs ++ h ∷ []) ≡ h.frame ∷ stack_of hs
unfolding stack_of
stack_push hs h = ap frames_of (reverse-append hs (h ∷ []))

pub counted_push : (hs : List Held) (h : Held) → Counted h.outside (frames (stack_of hs)) → is_counted hs → is_counted (hs ++ h ∷ [])
unfolding stack_of is_counted
counted_push hs h d c = subst counted (sym (reverse-append hs (h ∷ []))) (d, c)

pub counted_pop : (hs : List Held) (h : Held) → is_counted (hs ++ h ∷ []) → Counted h.outside (frames (stack_of hs)) × is_counted hs
unfolding stack_of is_counted
counted_pop hs h c = subst counted (reverse-append hs (h ∷ [])) c

pub popped : (old left : List Held) (h : Held) → old ≡ left ++ h ∷ [] → is_counted old → Counted h.outside (frames (stack_of left)) × is_counted left
popped old left h e c = counted_pop left h (subst is_counted e c)

-- the innermost frame is that of the last that is held
pub innermost_none : (hs : List Held) → length hs ≡ 0 → first_frame (stack_of hs) ≡ None
innermost_none [] e = ap first_frame stack_empty
innermost_none (h ∷ hs) e = absurd (omega arith)

-- a part's height is added to the levels of the frames
pub up_is : (fs : List Frame) (h : ℕ) → up fs h ≡ max (up fs 0) (h + depth fs)
up_is [] h = omega arith
up_is (InFile xs ∷ fs) h = omega arith
up_is (InForm f w s ss ps ∷ fs) h =
    let one = up_is fs (lift (InForm f w s ss ps) h) in
    let two = up_is fs (lift (InForm f w s ss ps) 0) in
    omega (arith, one, two)
up_is (InExpression w ∷ fs) h =
    let one = up_is fs (h + 1) in
    let two = up_is fs 1 in
    omega (arith, one, two)
up_is (InStmts f w ss ps xs ∷ fs) h =
    let one = up_is fs (lift (InStmts f w ss ps xs) h) in
    let two = up_is fs (lift (InStmts f w ss ps xs) 0) in
    omega (arith, one, two)
up_is (InItems f w p ss ps xs ∷ fs) h =
    let one = up_is fs (lift (InItems f w p ss ps xs) h) in
    let two = up_is fs (lift (InItems f w p ss ps xs) 0) in
    omega (arith, one, two)

up_push : (f : Frame) (fs : List Frame) → up (f ∷ fs) 0 ≡ higher f (depth fs) (up fs 0)
up_push (InFile xs) fs = omega arith
up_push (InForm f w s ss ps) fs = up_is fs (lift (InForm f w s ss ps) 0)
up_push (InExpression w) fs = up_is fs (lift (InExpression w) 0)
up_push (InStmts f w ss ps xs) fs = up_is fs (lift (InStmts f w ss ps xs) 0)
up_push (InItems f w p ss ps xs) fs = up_is fs (lift (InItems f w p ss ps xs) 0)

template_push : (f : Frame) (fs : List Frame) → template_due (f ∷ fs) ≡ template_over f (template_due fs)
template_push (InForm f w (Expr_ n) [] ps) fs = refl
template_push (InForm f w (Expr_ n) (By choice.Arguments ∷ []) ps) fs = refl
template_push (InForm f w (Expr_ n) (By choice.Arguments ∷ s ∷ ss) ps) fs = refl
template_push (InForm f w (Expr_ n) (By c ∷ ss) ps) fs = refl
template_push (InForm f w (Expr_ n) (s ∷ ss) ps) fs = refl
template_push (InForm f w s ss ps) fs = refl
template_push (InExpression w) fs = refl
template_push (InStmts f w ss ps xs) fs = refl
template_push (InFile xs) fs = refl
template_push (InItems f w p ss ps xs) fs = refl

inner_is : (w : Wanted) (ss : List Slot) (v : Wanted) → inner w ss v ≡ inner_of w (no_slot ss) v
inner_is (Level m) [] (WithoutIn n) = refl
inner_is (Level m) [] v = refl
inner_is (Level m) (s ∷ ss) (WithoutIn n) = refl
inner_is (Level m) (s ∷ ss) v = refl
inner_is w ss v = refl

place_push : (f : Frame) (fs : List Frame) → place (f ∷ fs) ≡ place_over f (place fs)
place_push (InForm f w (Expr_ n) ss ps) fs = inner_is n ss (place fs)
place_push (InForm f w s ss ps) fs = refl
place_push (InExpression w) fs = refl
place_push (InStmts f w ss ps xs) fs = refl
place_push (InFile xs) fs = refl
place_push (InItems f w p ss ps xs) fs = refl

function_push : (f : Frame) (fs : List Frame) → in_function (f ∷ fs) ≡ function_over f (in_function fs)
function_push (InForm f w s ss ps) fs = refl
function_push (InExpression w) fs = refl
function_push (InStmts f w ss ps xs) fs = refl
function_push (InFile xs) fs = refl
function_push (InItems f w p ss ps xs) fs = refl

higher_same : (f : Frame) (a b n m : ℕ) → a ≡ b → n ≡ m → higher f a n ≡ higher f b m
higher_same f a b n m p q = ap (λ x. higher f x n) p ∙ ap (λ x. higher f b x) q

-- what is kept over frames is kept of all
pub counts_over : (c d : Counts) (f : Frame) (fs : List Frame) → Counted c fs → Over c f d → Counted d (f ∷ fs)
counts_over c d f fs k o = (
  o.0 ∙ ap (deeper f) k.0,
  o.1 ∙ (higher_same f c.depth (depth fs) c.least (up fs 0) k.0 k.1 ∙ sym (up_push f fs)),
  o.2 ∙ (ap (place_over f) k.2 ∙ sym (place_push f fs)),
  o.3 ∙ (ap (template_over f) k.3 ∙ sym (template_push f fs)),
  o.4 ∙ (ap (function_over f) k.4 ∙ sym (function_push f fs)),
)

pub pushed : (hs more : List Held) (h : Held) (d : Counts) → more ≡ hs ++ h ∷ [] → Counted h.outside (frames (stack_of hs)) → is_counted hs → Over h.outside (plain_frame h.frame) d → Counted d (frames (stack_of more)) × is_counted more
pushed hs more h d e k c o =
    let s : stack_of more ≡ h.frame ∷ stack_of hs = ap stack_of e ∙ stack_push hs h in
    (subst (λ fs. Counted d (frames fs)) (sym s) (counts_over h.outside d (plain_frame h.frame) (frames (stack_of hs)) k o), subst is_counted (sym e) (counted_push hs h k c))

-- what is asked of the slots that are left
pub no_slot_is : (ss : List code.Slot) → no_slot (plain_slots ss) ≡ (length ss == 0)
no_slot_is [] = refl
no_slot_is (s ∷ ss) = sym (ne_eqb (length (s ∷ ss)) 0 (omega arith))

pub template_none : (ss : List code.Slot) (outside : Bool) → first_slot ss ≡ None → template_slots (plain_slots ss) outside ≡ outside
template_none [] outside h = refl
template_none (s ∷ ss) outside h = absurd cc

pub template_some : (ss : List code.Slot) (s : code.Slot) (outside : Bool) → first_slot ss ≡ Some s → template_slots (plain_slots ss) outside ≡ template_next (plain_slot s) (length ss == 1) outside
template_some [] s outside h = absurd cc
template_some (r ∷ []) s outside h = let e : r ≡ s = cc in ap (λ x. template_next (plain_slot x) true outside) e
template_some (r ∷ q ∷ ss) s outside h =
    let e : r ≡ s = cc in
    ap (λ x. template_next (plain_slot x) false outside) e ∙ ap (λ b. template_next (plain_slot s) b outside) (sym (ne_eqb (length (r ∷ q ∷ ss)) 1 (omega arith)))

-- a sum is there where it fits
pub sum_if : {E : Type 0} (why : E) (r : Result ℕ E) (o : Option ℕ) (P : Type 0) (n : ℕ) → r ≡ ok_or o why → SomeIff o P n → IfOk r (λ both. both ≡ n)
sum_if why r None P n e h = subst (λ x. IfOk x (λ both. both ≡ n)) (sym e) tt
sum_if why r (Some x) P n e h = subst (λ x. IfOk x (λ both. both ≡ n)) (sym e) h.1

pub ruleset stack_rules = (stack_empty, counted_empty, stack_push)
