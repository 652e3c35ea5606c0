-- What is known of a production that a token tells.
use Rattle.std.specs.Prelude.{Bool, true, false, ◌||◌, List, ◌∷◌, Option, Some, None}
use Rattle.js_reading.specs.Slots.{Slot, Sign, Expr_}
use Rattle.js_reading.specs.declared.form.Form.{Form}
use Rattle.js_reading.specs.declared.form.Form.TheVariants as form
use Rattle.js_reading.specs.Productions.{slots}
use Rattle.js_reading.specs.Turns.{Frame, InForm}

abbrev pub is_template : Form → Bool
is_template form.Template = true
is_template f = false

abbrev pub sign_first : List Slot → Bool
sign_first (Sign k ∷ ss) = true
sign_first ss = false

abbrev pub sign_second : List Slot → Bool
sign_second (Expr_ n ∷ Sign k ∷ ss) = true
sign_second ss = false

-- it begins with a token
abbrev pub is_headed : Form → Bool
is_headed f = is_template f || sign_first (slots f)

-- it goes on with an expression
abbrev pub is_joined : Form → Bool
is_joined f = sign_second (slots f)

-- the same where there is one
abbrev pub headed_if : Option Form → Bool
headed_if None = true
headed_if (Some f) = is_headed f

abbrev pub joined_if : Option Form → Bool
joined_if None = true
joined_if (Some f) = is_joined f

-- a declaration may stand on top of this frame (14)
abbrev pub lists : Frame → Bool
lists (InForm f w s ss ps) = false
lists f = true
