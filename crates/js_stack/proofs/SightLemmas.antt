-- What a place says of the next token, by the next of the slots that are left.
use Rattle.std.proofs.Common.{◌≡◌, false, List, [], ◌∷◌, length, Some, refl, sym, ap, ◌∙◌, arith}
use Rattle.std.specs.Prelude.{◌==◌, ◌&&◌}
use Rattle.std.specs.Option.{option_map}
use Rattle.std.proofs.lemmas.Bool.{ne_eqb}
use Rattle.js_terms.specs.declared.place.Loc.{Loc}
use Rattle.js_tree.specs.Plain as tree
use Rattle.js_text.specs.Token.{Token}
use Rattle.js_reading.specs.declared.class.Class.TheVariants as class
use Rattle.js_reading.specs.declared.choice.Choice.TheVariants as choice
use Rattle.js_reading.specs.declared.form.Form.{Form}
use Rattle.js_reading.specs.declared.form.Form.TheVariants as form
use Rattle.js_reading.specs.Slots as plain
use Rattle.js_reading.specs.Turns.{Config, Due, Item, Frame, InItems}
use Rattle.js_reading.specs.Unsupported.{at_property, at_any_name, at_bound_name, at_item, operand_over}
use Rattle.js_reading.specs.Found.{Turns, at_object, called, arrow_after, named_callee}
use Rattle.js_grammar.specs.declared.slot.Slot.{Slot}
use Rattle.js_grammar.specs.declared.slot.Slot.TheVariants as slot
use Rattle.js_grammar.specs.View.{plain_slot, plain_slots}
use Rattle.js_stack.specs.declared.production.Frame as code
use Rattle.js_stack.specs.Left.{first_slot}
use Rattle.js_stack.specs.Stack.{first_frame}
use Rattle.js_stack.specs.View.{plain_frame, frames}
use Rattle.js_stack.specs.Sight.{callee, is_array, is_object, property_next, any_name_next, bound_name_next, items_next, tight_next, is_array_frame, array_in, named_by, due_callee}

-- ---- where slots of a production are left

pub property_is : (f : Form) (w : Loc) (ss : List Slot) (ps : List plain.Piece) (l : Loc) (fs : List Frame) → at_property (Due f w (plain_slots ss) ps l fs) ≡ property_next (option_map plain_slot (first_slot ss))
property_is f w [] ps l fs = refl
property_is f w (slot.By choice.Properties ∷ ss) ps l fs = refl
property_is f w (slot.By c ∷ ss) ps l fs = refl
property_is f w (s ∷ ss) ps l fs = refl

pub any_name_is : (f : Form) (w : Loc) (ss : List Slot) (ps : List plain.Piece) (l : Loc) (fs : List Frame) → at_any_name (Due f w (plain_slots ss) ps l fs) ≡ any_name_next (option_map plain_slot (first_slot ss))
any_name_is f w [] ps l fs = refl
any_name_is f w (slot.Text class.AnyName ∷ ss) ps l fs = refl
any_name_is f w (slot.Text c ∷ ss) ps l fs = refl
any_name_is f w (slot.By choice.Properties ∷ ss) ps l fs = refl
any_name_is f w (slot.By c ∷ ss) ps l fs = refl
any_name_is f w (s ∷ ss) ps l fs = refl

pub object_is : (f : Form) (w : Loc) (ss : List Slot) (ps : List plain.Piece) (l : Loc) (fs : List Frame) → at_object (Due f w (plain_slots ss) ps l fs) ≡ (is_object f && property_next (option_map plain_slot (first_slot ss)))
object_is form.ObjectLiteral w [] ps l fs = refl
object_is form.ObjectLiteral w (slot.By choice.Properties ∷ ss) ps l fs = refl
object_is form.ObjectLiteral w (slot.By c ∷ ss) ps l fs = refl
object_is form.ObjectLiteral w (s ∷ ss) ps l fs = refl
object_is f w ss ps l fs = refl

pub bound_name_is : (f : Form) (w : Loc) (ss : List Slot) (ps : List plain.Piece) (l : Loc) (fs : List Frame) → at_bound_name (Due f w (plain_slots ss) ps l fs) ≡ bound_name_next (option_map plain_slot (first_slot ss))
bound_name_is f w [] ps l fs = refl
bound_name_is f w (slot.Text class.BoundName ∷ ss) ps l fs = refl
bound_name_is f w (slot.Text c ∷ ss) ps l fs = refl
bound_name_is f w (slot.By choice.FunctionName ∷ ss) ps l fs = refl
bound_name_is f w (slot.By choice.Parameters ∷ ss) ps l fs = refl
bound_name_is f w (slot.By c ∷ ss) ps l fs = refl
bound_name_is f w (s ∷ ss) ps l fs = refl

pub item_is : (f : Form) (w : Loc) (ss : List Slot) (ps : List plain.Piece) (l : Loc) (fs : List Frame) → at_item (Due f w (plain_slots ss) ps l fs) ≡ (is_array f && items_next (option_map plain_slot (first_slot ss)))
item_is form.ArrayLiteral w [] ps l fs = refl
item_is form.ArrayLiteral w (slot.Items p ∷ ss) ps l fs = refl
item_is form.ArrayLiteral w (s ∷ ss) ps l fs = refl
item_is f w ss ps l fs = refl

item_on : (f : Frame) (fs : List Frame) → at_item (Item (f ∷ fs)) ≡ is_array_frame f
item_on (InItems form.ArrayLiteral w p ss ps xs) fs = refl
item_on (InItems f w p ss ps xs) fs = refl
item_on f fs = refl

pub item_in : (xs : List code.Frame) → at_item (Item (frames xs)) ≡ array_in (first_frame xs)
item_in [] = refl
item_in (x ∷ xs) = item_on (plain_frame x) (frames xs)

not_one : (s r : Slot) (ss : List Slot) → false ≡ (length (s ∷ r ∷ ss) == 1)
not_one s r ss = sym (ne_eqb (length (s ∷ r ∷ ss)) 1 (omega arith))

more_tight : (f : Form) (s r : Slot) (ss : List Slot) → operand_over f (plain_slots (s ∷ r ∷ ss)) ≡ tight_next f (Some (plain_slot s)) false
more_tight f slot.Place r ss = refl
more_tight f (slot.By choice.Arrow) r ss = refl
more_tight f (slot.By c) r ss = refl
more_tight f s r ss = refl

pub tight_is : (f : Form) (ss : List Slot) → operand_over f (plain_slots ss) ≡ tight_next f (option_map plain_slot (first_slot ss)) (length ss == 1)
tight_is f [] = refl
tight_is f (slot.Place ∷ []) = refl
tight_is f (slot.By choice.Arrow ∷ []) = refl
tight_is f (slot.By c ∷ []) = refl
tight_is f (s ∷ []) = refl
tight_is f (s ∷ r ∷ ss) = more_tight f s r ss ∙ ap (tight_next f (Some (plain_slot s))) (not_one s r ss)

pub ruleset due_rules = (property_is, any_name_is, object_is, bound_name_is, item_is)

-- ---- the name whose arguments are whole

pub named_is : (ps : List plain.Piece) → named_callee ps ≡ named_by ps
named_is [] = refl
named_is (plain.AnExpr i (tree.IdentifierReference l w) ∷ []) = refl
named_is (plain.AnExpr i (tree.IdentifierReference l w) ∷ plain.TheExprs b xs ∷ []) = refl
named_is (plain.AnExpr i (tree.IdentifierReference l w) ∷ plain.TheExprs b xs ∷ p ∷ ps) = refl
named_is (plain.AnExpr i (tree.IdentifierReference l w) ∷ q ∷ ps) = refl
named_is (plain.AnExpr i e ∷ []) = refl
named_is (plain.AnExpr i e ∷ plain.TheExprs b xs ∷ []) = refl
named_is (plain.AnExpr i e ∷ plain.TheExprs b xs ∷ p ∷ ps) = refl
named_is (plain.AnExpr i e ∷ q ∷ ps) = refl
named_is (p ∷ []) = refl
named_is (p ∷ plain.TheExprs b xs ∷ []) = refl
named_is (p ∷ plain.TheExprs b xs ∷ q ∷ ps) = refl
named_is (p ∷ q ∷ ps) = refl

pub callee_is : (f : Form) (w : Loc) (ss : List plain.Slot) (ps : List plain.Piece) (l : Loc) (fs : List Frame) → callee (Due f w ss ps l fs) ≡ due_callee f ss ps
callee_is form.Call w [] ps l fs = refl
callee_is form.Call w (s ∷ ss) ps l fs = refl
callee_is form.New w [] ps l fs = refl
callee_is form.New w (s ∷ ss) ps l fs = refl
callee_is f w ss ps l fs = refl

-- ---- what is found by it

pub called_is : (turns : Turns) (c : Config) (t : Token) → called turns c t ≡ arrow_after turns (callee c) t
called_is turns (Due form.Call w [] ps l fs) t = refl
called_is turns (Due form.Call w (s ∷ ss) ps l fs) t = refl
called_is turns (Due form.New w [] ps l fs) t = refl
called_is turns (Due form.New w (s ∷ ss) ps l fs) t = refl
called_is turns (Due f w ss ps l fs) t = refl
called_is turns c t = refl
