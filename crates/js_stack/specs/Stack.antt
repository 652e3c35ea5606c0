-- The stack of frames, and what is kept of them together.
use Rattle.std.specs.Prelude.{◌≡◌, ◌+◌, max, ℕ, Bool, true, false, ◌&&◌, ◌||◌, List, [], ◌∷◌, Option, Some, None, reverse, if◌then◌else◌}
use Rattle.js_tree.specs.Height.{height_stmts}
use Rattle.js_reading.specs.Slots.{Wanted, Level, WithoutIn, Slot, Expr_, By}
use Rattle.js_reading.specs.declared.choice.Choice.TheVariants as choice
use Rattle.js_reading.specs.Turns.{Frame, InForm, InStmts, InFile, InItems, place, template_due}
use Rattle.js_reading.specs.Open.{lift, up}
use Rattle.js_reading.specs.Unsupported.{in_own, is_function, in_function}
use Rattle.js_stack.specs.declared.production.Frame as code
use Rattle.js_stack.specs.declared.stack.Counts.{Counts}
use Rattle.js_stack.specs.declared.stack.Held.{Held}
use Rattle.js_reading.specs.Level.{any, assignment}
use Rattle.js_grammar.specs.View.{plain_wanted}
use Rattle.js_stack.specs.View.{frames}

-- how many levels the frames add above a missing part: none but the file's stands outside a file
abbrev pub deeper : Frame → ℕ → ℕ
deeper (InFile xs) n = 0
deeper f n = n + 1

abbrev pub depth : List Frame → ℕ
depth [] = 0
depth (f ∷ fs) = deeper f (depth fs)

-- the least height that they come to, by the levels and the least height of those outside
abbrev pub higher : Frame → ℕ → ℕ → ℕ
higher (InFile xs) n least = height_stmts xs
higher f n least = max least (lift f 0 + n)

abbrev pub no_slot : List Slot → Bool
no_slot [] = true
no_slot ss = false

-- the place of an expression on top of the frames, by that of those outside
abbrev pub inner_of : Wanted → Bool → Wanted → Wanted
inner_of (Level m) is_last (WithoutIn n) = if is_last then WithoutIn m else Level m
inner_of w is_last v = w

abbrev pub place_over : Frame → Wanted → Wanted
place_over (InForm f w (Expr_ n) ss ps) v = inner_of n (no_slot ss) v
place_over (InItems f w p ss ps xs) v = Level assignment
place_over f v = Level any

-- whether the innermost open part is the expression of a template
abbrev pub template_next : Slot → Bool → Bool → Bool
template_next (By choice.Arguments) is_last outside = is_last && outside
template_next (By choice.TemplateRest) is_last outside = true
template_next s is_last outside = false

abbrev pub template_slots : List Slot → Bool → Bool
template_slots [] outside = outside
template_slots (s ∷ ss) outside = template_next s (no_slot ss) outside

abbrev pub template_over : Frame → Bool → Bool
template_over (InForm f w (Expr_ n) ss ps) outside = template_slots ss outside
template_over f outside = false

-- whether the frames stand in a function that is no arrow
abbrev pub function_over : Frame → Bool → Bool
function_over (InForm f w s ss ps) outside = in_own (is_function f) ps || outside
function_over (InStmts f w ss ps xs) outside = in_own (is_function f) ps || outside
function_over (InItems f w p ss ps xs) outside = in_own (is_function f) ps || outside
function_over f outside = outside

-- what is kept of frames
abbrev pub Counted : Counts → List Frame → Type 0
Counted c fs = (c.depth ≡ depth fs) × (c.least ≡ up fs 0) × (plain_wanted c.place ≡ place fs) × (c.in_template ≡ template_due fs) × (c.in_function ≡ in_function fs)

-- the same with one frame more, from what was kept before
abbrev pub Over : Counts → Frame → Counts → Type 0
Over c f d = (d.depth ≡ deeper f c.depth) × (d.least ≡ higher f c.depth c.least) × (plain_wanted d.place ≡ place_over f (plain_wanted c.place)) × (d.in_template ≡ template_over f c.in_template) × (d.in_function ≡ function_over f c.in_function)

abbrev pub frames_of : List Held → List code.Frame
frames_of [] = []
frames_of (h ∷ hs) = h.frame ∷ frames_of hs

-- each frame is kept with the counts of those outside it
abbrev pub counted : List Held → Type 0
counted [] = Unit {0}
counted (h ∷ hs) = Counted h.outside (frames (frames_of hs)) × counted hs

-- the innermost frame is the last of the vector
unfoldable pub stack_of : List Held → List code.Frame
stack_of hs = frames_of (reverse hs)

unfoldable pub is_counted : List Held → Type 0
is_counted hs = counted (reverse hs)

abbrev pub first_frame : List code.Frame → Option code.Frame
first_frame [] = None
first_frame (x ∷ xs) = Some x
