-- What becomes of a part in the frame that it stands in, and of a part that has been made.
use Rattle.std.specs.Prelude.{List, Option}
use Rattle.js_terms.specs.declared.place.Loc.{Loc}
use Rattle.js_tree.specs.Tree.{plain_expr, plain_stmt}
use Rattle.js_text.specs.Token.{Token}
use Rattle.js_reading.specs.Productions.{join}
use Rattle.js_reading.specs.Turns.{Frame, Config, have, leave, left, shift}
use Rattle.js_build.specs.declared.operand.Body.{Body}
use Rattle.js_build.specs.declared.operand.Operand.{Operand}

-- an expression in a frame that the token does not go on with, and a statement
abbrev pub leaves : Frame → Operand → Loc → List Frame → Token → Option Config
leaves f x l fs t = leave f x.level (plain_expr x.tree) l fs t (λ p m. have fs p m t)

abbrev pub left_by : Frame → Body → Loc → List Frame → Token → Option Config
left_by f s l fs t = left f (plain_stmt s.tree) l fs t (λ p m. have fs p m t)

-- an expression that it goes on with
abbrev pub shifted : Operand → Loc → List Frame → Token → Option Config
shifted x l fs t = shift (join t) x.level (plain_expr x.tree) l fs t
