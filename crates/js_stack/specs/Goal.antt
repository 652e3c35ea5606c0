-- What the goal of the next token depends on, where slots of a production are left.
use Rattle.std.specs.Prelude.{Bool, true, false, ◌&&◌, List, if◌then◌else◌}
use Rattle.js_text.specs.declared.goal.Goal.{Goal}
use Rattle.js_text.specs.declared.goal.Goal.TheVariants as goal
use Rattle.js_reading.specs.declared.choice.Choice.TheVariants as choice
use Rattle.js_reading.specs.declared.form.Form.{Form}
use Rattle.js_reading.specs.declared.form.Form.TheVariants as form
use Rattle.js_reading.specs.Slots.{Slot, Place_, By}
use Rattle.js_reading.specs.Turns.{Frame, is_braced_arrow, makes_expression, is_over, after_arrow, after_expression}

abbrev pub is_prefix : Form → Bool
is_prefix form.Parentheses = true
is_prefix form.ArrayLiteral = true
is_prefix form.ObjectLiteral = true
is_prefix form.Template = true
is_prefix form.FunctionExpression = true
is_prefix form.New = true
is_prefix f = false

abbrev pub over_next : Slot → Bool → Bool
over_next Place_ is_last = is_last
over_next (By choice.Arrow) is_last = is_last
over_next s is_last = false

abbrev pub place_next : Slot → Bool → Bool
place_next Place_ is_last = is_last
place_next s is_last = false

abbrev pub is_arrow : Form → Bool
is_arrow form.Parentheses = true
is_arrow form.ArrowOfName = true
is_arrow f = false

abbrev pub due_goal : Form → List Slot → List Frame → Goal
due_goal f ss fs = if is_braced_arrow f ss then after_arrow fs else (if makes_expression f && is_over ss then after_expression fs else goal.RegExp)
