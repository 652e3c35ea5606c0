-- A pattern among the parameters of an arrow is told by the form, the slots that are left and the parts.
use Rattle.std.proofs.Common.{◌≡◌, Bool, true, false, List, [], ◌∷◌, Option, Some, None, if◌then◌else◌, refl}
use Rattle.js_terms.specs.declared.place.Loc.{Loc}
use Rattle.js_text.specs.Token.{Token}
use Rattle.js_reading.specs.declared.choice.Choice.TheVariants as choice
use Rattle.js_reading.specs.declared.form.Form.{Form}
use Rattle.js_reading.specs.declared.form.Form.TheVariants as form
use Rattle.js_reading.specs.declared.unsupported.Unsupported.TheVariants.{BindingPattern}
use Rattle.js_reading.specs.Slots.{Slot, Piece, TheExprs}
use Rattle.js_reading.specs.Slots as plain
use Rattle.js_reading.specs.Turns.{Due, Frame}
use Rattle.js_reading.specs.Found.{Find, when, literal_item, before_body, on_its_line, parameter}
use Rattle.js_stack.specs.Parameters.{parameter_in}

neither : (b : Bool) → (◌≡◌) {A = Find} (if b then None else None) None
neither true = refl
neither false = refl

once : (o : Option Loc) (t : Token) → (if on_its_line t then before_body o t else None) ≡ before_body o t
once None t = neither (on_its_line t)
once (Some l) t = elim (on_its_line t) as (λ b. (if b then when b BindingPattern l else None) ≡ when b BindingPattern l) [ true ↦ refl | false ↦ refl ]

pub parameter_is : (f : Form) (w : Loc) (ss : List Slot) (ps : List Piece) (l : Loc) (fs : List Frame) (t : Token) → parameter_in f ss ps t ≡ parameter (Due f w ss ps l fs) t
parameter_is form.Parentheses w (plain.By choice.Arrow ∷ []) (TheExprs b xs ∷ []) l fs t = once (literal_item xs) t
parameter_is form.Parentheses w (plain.By choice.Arrow ∷ []) (TheExprs b xs ∷ p ∷ ps) l fs t = neither (on_its_line t)
parameter_is form.Parentheses w (plain.By choice.Arrow ∷ []) [] l fs t = neither (on_its_line t)
parameter_is form.Parentheses w (plain.By choice.Arrow ∷ []) (p ∷ []) l fs t = neither (on_its_line t)
parameter_is form.Parentheses w (plain.By choice.Arrow ∷ []) (p ∷ q ∷ ps) l fs t = neither (on_its_line t)
parameter_is form.Parentheses w (plain.By choice.Arrow ∷ s ∷ ss) ps l fs t = refl
parameter_is form.Parentheses w [] ps l fs t = refl
parameter_is form.Parentheses w (plain.By c ∷ ss) ps l fs t = refl
parameter_is form.Parentheses w (s ∷ ss) ps l fs t = refl
parameter_is f w ss ps l fs t = refl
