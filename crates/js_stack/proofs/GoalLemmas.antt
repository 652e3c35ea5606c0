-- What is asked of the slots that are left, by the next of them.
use Rattle.std.proofs.Common.{◌≡◌, true, false, List, [], ◌∷◌, length, Some, None, refl, sym, ap, ◌∙◌, arith}
use Rattle.std.specs.Prelude.{◌==◌, ◌&&◌}
use Rattle.std.proofs.lemmas.Bool.{ne_eqb}
use Rattle.js_reading.specs.declared.choice.Choice.TheVariants as choice
use Rattle.js_reading.specs.declared.form.Form.{Form}
use Rattle.js_reading.specs.declared.form.Form.TheVariants as form
use Rattle.js_reading.specs.Slots as plain
use Rattle.js_reading.specs.Turns.{is_over, is_braced_arrow}
use Rattle.js_grammar.specs.declared.slot.Slot.{Slot}
use Rattle.js_grammar.specs.View.{plain_slot, plain_slots}
use Rattle.js_stack.specs.Left.{first_slot}
use Rattle.js_stack.specs.Goal.{over_next, place_next, is_arrow}

pub over_none : (ss : List Slot) → first_slot ss ≡ None → is_over (plain_slots ss) ≡ true
over_none [] h = refl
over_none (s ∷ ss) h = absurd cc

last_over : (s : plain.Slot) → is_over (s ∷ []) ≡ over_next s true
last_over plain.Place_ = refl
last_over (plain.By choice.Arrow) = refl
last_over (plain.By c) = refl
last_over s = refl

more_over : (s r : plain.Slot) (ss : List plain.Slot) → is_over (s ∷ r ∷ ss) ≡ over_next s false
more_over plain.Place_ r ss = refl
more_over (plain.By choice.Arrow) r ss = refl
more_over (plain.By c) r ss = refl
more_over s r ss = refl

not_one : (s r : Slot) (ss : List Slot) → false ≡ (length (s ∷ r ∷ ss) == 1)
not_one s r ss = sym (ne_eqb (length (s ∷ r ∷ ss)) 1 (omega arith))

pub over_some : (ss : List Slot) (s : Slot) → first_slot ss ≡ Some s → is_over (plain_slots ss) ≡ over_next (plain_slot s) (length ss == 1)
over_some [] s h = absurd cc
over_some (r ∷ []) s h = let e : r ≡ s = cc in last_over (plain_slot r) ∙ ap (λ x. over_next (plain_slot x) true) e
over_some (r ∷ q ∷ ss) s h =
    let e : r ≡ s = cc in
    more_over (plain_slot r) (plain_slot q) (plain_slots ss) ∙ (ap (λ x. over_next (plain_slot x) false) e ∙ ap (λ b. over_next (plain_slot s) b) (not_one r q ss))

pub braced_none : (f : Form) (ss : List Slot) → first_slot ss ≡ None → is_braced_arrow f (plain_slots ss) ≡ false
braced_none form.Parentheses [] h = refl
braced_none form.ArrowOfName [] h = refl
braced_none f [] h = refl
braced_none f (s ∷ ss) h = absurd cc

last_braced : (f : Form) (s : plain.Slot) → is_braced_arrow f (s ∷ []) ≡ (is_arrow f && place_next s true)
last_braced form.Parentheses plain.Place_ = refl
last_braced form.ArrowOfName plain.Place_ = refl
last_braced form.Parentheses s = refl
last_braced form.ArrowOfName s = refl
last_braced f s = refl

more_braced : (f : Form) (s r : plain.Slot) (ss : List plain.Slot) → is_braced_arrow f (s ∷ r ∷ ss) ≡ (is_arrow f && place_next s false)
more_braced form.Parentheses plain.Place_ r ss = refl
more_braced form.ArrowOfName plain.Place_ r ss = refl
more_braced form.Parentheses s r ss = refl
more_braced form.ArrowOfName s r ss = refl
more_braced f s r ss = refl

pub braced_some : (f : Form) (ss : List Slot) (s : Slot) → first_slot ss ≡ Some s → is_braced_arrow f (plain_slots ss) ≡ (is_arrow f && place_next (plain_slot s) (length ss == 1))
braced_some f [] s h = absurd cc
braced_some f (r ∷ []) s h = let e : r ≡ s = cc in last_braced f (plain_slot r) ∙ ap (λ x. is_arrow f && place_next (plain_slot x) true) e
braced_some f (r ∷ q ∷ ss) s h =
    let e : r ≡ s = cc in
    more_braced f (plain_slot r) (plain_slot q) (plain_slots ss) ∙ (ap (λ x. is_arrow f && place_next (plain_slot x) false) e ∙ ap (λ b. is_arrow f && place_next (plain_slot s) b) (not_one r q ss))
