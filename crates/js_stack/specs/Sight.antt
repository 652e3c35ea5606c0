-- What a reader says of the place before the next token, for finding the forms that are left out.
use Rattle.std.specs.Prelude.{◌≡◌, Bool, true, false, ◌&&◌, List, [], ◌∷◌, Option, Some, None, if◌then◌else◌}
use Rattle.js_terms.specs.declared.place.Loc.{Loc}
use Rattle.js_tree.specs.Plain.{Expr}
use Rattle.js_tree.specs.Plain as tree
use Rattle.js_reading.specs.declared.choice.Choice.TheVariants as choice
use Rattle.js_reading.specs.declared.class.Class.TheVariants as class
use Rattle.js_reading.specs.declared.form.Form.{Form}
use Rattle.js_reading.specs.declared.form.Form.TheVariants as form
use Rattle.js_reading.specs.Slots.{Slot, Text, Items_, Place_, By, Piece, AnExpr}
use Rattle.js_reading.specs.Turns.{Config, Due, Frame, InItems}
use Rattle.js_reading.specs.Unsupported.{at_property, at_any_name, at_bound_name, at_item, after_tight, is_operand, is_parentheses}
use Rattle.js_reading.specs.Found.{at_object, named_callee}
use Rattle.js_stack.specs.declared.sight.Sight.{Sight}
use Rattle.js_stack.specs.Groups.{is_items}
use Rattle.js_stack.specs.Stack.{no_slot}
use Rattle.js_stack.specs.declared.production.Frame as code
use Rattle.js_stack.specs.View.{plain_frame}

-- a reader sees what the place is
abbrev pub Sees : Sight → Config → Type 0
Sees s c =
    (s.at_any_name ≡ at_any_name c) × (s.at_property ≡ at_property c) × (s.at_object ≡ at_object c) × (s.at_bound_name ≡ at_bound_name c) × (s.at_item ≡ at_item c) × (s.after_tight ≡ after_tight c)

-- the name whose arguments are whole
abbrev pub callee : Config → Option Loc
callee (Due form.Call w [] ps l fs) = named_callee ps
callee (Due form.New w [] ps l fs) = named_callee ps
callee c = None

-- the same where slots of a production are left
abbrev pub SeesDue : Sight → Form → List Slot → Type 0
SeesDue s f ss = (w : Loc) (ps : List Piece) (l : Loc) (fs : List Frame) → Sees s (Due f w ss ps l fs)

-- and elsewhere
abbrev pub elsewhere : Bool → Bool → Sight
elsewhere item tight = record { at_any_name = false; at_property = false; at_object = false; at_bound_name = false; at_item = item; after_tight = tight }

-- ---- the same by the next of the slots that are left

abbrev pub is_array : Form → Bool
is_array form.ArrayLiteral = true
is_array f = false

abbrev pub is_object : Form → Bool
is_object form.ObjectLiteral = true
is_object f = false

abbrev pub is_call : Form → Bool
is_call form.Call = true
is_call form.New = true
is_call f = false

abbrev pub property_next : Option Slot → Bool
property_next (Some (By choice.Properties)) = true
property_next s = false

abbrev pub any_name_next : Option Slot → Bool
any_name_next (Some (Text class.AnyName)) = true
any_name_next s = property_next s

abbrev pub bound_name_next : Option Slot → Bool
bound_name_next (Some (Text class.BoundName)) = true
bound_name_next (Some (By choice.FunctionName)) = true
bound_name_next (Some (By choice.Parameters)) = true
bound_name_next s = false

abbrev pub items_next : Option Slot → Bool
items_next (Some (Items_ p)) = true
items_next s = false

-- an operand may end before these slots
abbrev pub tight_next : Form → Option Slot → Bool → Bool
tight_next f None is_last = is_operand f
tight_next f (Some Place_) is_last = is_last && is_operand f
tight_next f (Some (By choice.Arrow)) is_last = is_last && is_parentheses f
tight_next f s is_last = false

-- a frame of an array's items
abbrev pub is_array_frame : Frame → Bool
is_array_frame (InItems f w p ss ps xs) = is_array f
is_array_frame f = false

abbrev pub array_in : Option code.Frame → Bool
array_in None = false
array_in (Some x) = is_array_frame (plain_frame x)

-- where an expression is a name
abbrev pub name_at : Expr → Option Loc
name_at (tree.IdentifierReference l w) = l
name_at e = None

abbrev pub name_of : Piece → Option Loc
name_of (AnExpr i e) = name_at e
name_of p = None

abbrev pub named_by : List Piece → Option Loc
named_by [] = None
named_by (p ∷ ps) = if is_items ps then name_of p else None

abbrev pub due_callee : Form → List Slot → List Piece → Option Loc
due_callee f ss ps = if is_call f && no_slot ss then named_callee ps else None
