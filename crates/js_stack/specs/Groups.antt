-- A group in brackets that is whole, and what it begins with the next token.
use Rattle.std.specs.Prelude.{ℕ, Bool, true, false, not, ◌&&◌, ◌||◌, List, [], ◌∷◌, Option, Some, None}
use Rattle.js_terms.specs.declared.place.Loc.{Loc}
use Rattle.js_tree.specs.Plain.{Expr, Exprs, no_expr, more_expr}
use Rattle.js_tree.specs.Plain as tree
use Rattle.js_text.specs.Token.{Token}
use Rattle.js_text.specs.declared.punctuator.Punctuator.TheVariants as P
use Rattle.js_reading.specs.declared.choice.Choice.TheVariants as choice
use Rattle.js_reading.specs.declared.form.Form.{Form}
use Rattle.js_reading.specs.declared.form.Form.TheVariants as form
use Rattle.js_reading.specs.declared.unsupported.Unsupported.TheVariants.{ParenthesizedTarget, BindingPattern}
use Rattle.js_reading.specs.Slots.{Wanted, WithoutIn, Slot, Expr_, By, Piece, TheExprs}
use Rattle.js_reading.specs.Productions.{primary, member, is_mark, join}
use Rattle.js_reading.specs.Makes.{is_target}
use Rattle.js_reading.specs.Sentences.{fits, continues}
use Rattle.js_reading.specs.Turns.{Frame, InForm, wanted}
use Rattle.js_reading.specs.Unsupported.{assigns, is_each, is_head, is_update, is_parenthesized_target}
use Rattle.js_reading.specs.Found.{Find, when, on_its_line}
use Rattle.js_grammar.specs.View.{plain_wanted}
use Rattle.js_stack.specs.declared.groups.Around.{Around}
use Rattle.js_stack.specs.declared.production.Frame as code
use Rattle.js_stack.specs.declared.objects.Awaits.TheVariants as awaits
use Rattle.js_stack.specs.Objects.{ends}
use Rattle.js_stack.specs.Own.{no_part}
use Rattle.js_stack.specs.Stack.{no_slot}
use Rattle.js_stack.specs.View.{plain_frame}

-- ---- what the frame round a group is: what it asks of an expression, and whether it is the head of a `for` or an update's

pub record Site : Type 0 where
  pub asks : Wanted
  pub heads : Bool
  pub updates : Bool

abbrev pub plain_around : Around → Site
plain_around a = record { asks = plain_wanted a.wanted; heads = a.is_head; updates = a.is_update }

abbrev pub site_of : Frame → Site
site_of f = record { asks = wanted f; heads = is_head f; updates = is_update f }

abbrev pub site_in : Option code.Frame → Option Site
site_in None = None
site_in (Some x) = Some (site_of (plain_frame x))

-- the same by the production's parts

abbrev pub is_for : Form → Bool
is_for form.For = true
is_for f = false

abbrev pub after_target : List Slot → Bool
after_target (By choice.AfterTarget ∷ []) = true
after_target ss = false

abbrev pub is_first_of_for : Form → List Slot → List Piece → Bool
is_first_of_for f ss ps = (is_for f && after_target ss) && no_part ps

abbrev pub after_target_next : Option Slot → Bool → Bool
after_target_next (Some (By choice.AfterTarget)) is_last = is_last
after_target_next s is_last = false

abbrev pub head_by : Frame → Bool
head_by (InForm f w (Expr_ (WithoutIn n)) ss ps) = is_first_of_for f ss ps
head_by f = false

abbrev pub is_prefix_update : Form → Bool
is_prefix_update (form.PrefixUpdate o) = true
is_prefix_update f = false

abbrev pub update_by : Frame → Bool
update_by (InForm f w (Expr_ n) ss ps) = (is_prefix_update f && no_slot ss) && no_part ps
update_by f = false

-- ---- by the token: what stands in brackets has no bare `in` and ends with a primary expression, and a place asks the same of all that does

abbrev pub bracketed : Expr
bracketed = tree.ArrayLiteral None no_expr

abbrev pub takes : Wanted → ℕ → Bool
takes w i = fits w i bracketed

abbrev pub goes_on : Wanted → Token → Bool
goes_on w t = continues w bracketed t

abbrev pub takes_target : Site → Token → Bool
takes_target s t = takes s.asks member && (((assigns (join t) && goes_on s.asks t) || (s.heads && is_each t)) || (s.updates && not (goes_on s.asks t)))

abbrev pub takes_pattern : Site → Token → Bool
takes_pattern s t = takes s.asks primary && ((is_mark P.Assign t && goes_on s.asks t) || (s.heads && is_each t))

-- ---- by the slots that are left and the parts

-- no arrow has followed the parentheses yet
abbrev pub arrow_left : List Slot → Bool
arrow_left (By choice.Arrow ∷ []) = true
arrow_left ss = false

abbrev pub arrow_next : Option Slot → Bool → Bool
arrow_next (Some (By choice.Arrow)) is_last = is_last
arrow_next s is_last = false

-- a target, or one in parentheses
abbrev pub target_within : Expr → Bool
target_within e = is_target e || is_parenthesized_target e

abbrev pub no_exprs : Exprs → Bool
no_exprs no_expr = true
no_exprs xs = false

abbrev pub sole_target : Exprs → Bool
sole_target no_expr = false
sole_target (more_expr e xs) = no_exprs xs && target_within e

abbrev pub holds_sole : Piece → Bool
holds_sole (TheExprs trailing xs) = not trailing && sole_target xs
holds_sole p = false

abbrev pub holds_target : List Piece → Bool
holds_target [] = false
holds_target (p ∷ ps) = no_part ps && holds_sole p

-- items, and nothing else
abbrev pub has_items : Piece → Bool
has_items (TheExprs trailing xs) = true
has_items p = false

abbrev pub is_items : List Piece → Bool
is_items [] = false
is_items (p ∷ ps) = has_items p && no_part ps

-- ---- what is found

abbrev pub target : Site → List Slot → List Piece → Token → Bool
target s ss ps t = ((takes_target s t && arrow_left ss) && not (on_its_line t)) && holds_target ps

abbrev pub array : Site → List Slot → List Piece → Token → Bool
array s ss ps t = (takes_pattern s t && no_slot ss) && is_items ps

abbrev pub object : Site → List Slot → List Piece → Token → Bool
object s ss ps t = (takes_pattern s t && no_slot ss) && ends awaits.Key ps

abbrev pub found_in : Site → Form → Loc → List Slot → List Piece → Token → Find
found_in s form.Parentheses w ss ps t = when (target s ss ps t) ParenthesizedTarget w
found_in s form.ArrayLiteral w ss ps t = when (array s ss ps t) BindingPattern w
found_in s form.ObjectLiteral w ss ps t = when (object s ss ps t) BindingPattern w
found_in s f w ss ps t = None

abbrev pub found_at : Option Site → Form → Loc → List Slot → List Piece → Token → Find
found_at None f w ss ps t = None
found_at (Some s) f w ss ps t = found_in s f w ss ps t
