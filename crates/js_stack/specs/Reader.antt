-- What a reader says.
use Rattle.std.specs.Prelude.{◌≡◌, ℕ, List, [], Option, Some, None, Result, Ok, Err}
use Rattle.js_tree.specs.Plain.{Stmts}
use Rattle.js_tree.specs.Tree.{plain_stmts}
use Rattle.js_tree.specs.Height.{height_stmts}
use Rattle.js_build.specs.declared.operand.Statements.{Statements}
use Rattle.js_text.specs.Token.{Token}
use Rattle.js_reading.specs.Turns.{Config, Item, Finished, turn}
use Rattle.js_stack.specs.declared.production.Frame.{Frame}
use Rattle.js_stack.specs.declared.production.Place.{Place}
use Rattle.js_stack.specs.declared.refused.Refusal.{Refusal}
use Rattle.js_stack.specs.declared.refused.Refusal.TheVariants as why
use Rattle.js_stack.specs.View.{config, frames}

-- where the grammar's machine stands
abbrev pub machine : Place × List Frame → Config
machine reader = config reader.0 (frames reader.1)

-- the machine takes the token, or it goes nowhere; after a refusal it stands where it takes no token
abbrev pub Takes : {U : Type 0} → Result U Refusal → Config → Config → Token → Type 0
Takes (Ok u) before after t = turn before t ≡ Some after
Takes (Err why.Syntax) before after t = (turn before t ≡ None) × (after ≡ Item [])
Takes (Err why.Memory) before after t = after ≡ Item []

-- the statements that a file has been read as
abbrev pub ended : Config → Option Stmts
ended (Finished ss) = Some ss
ended c = None

-- how high they are
abbrev pub height_of : Config → Option ℕ
height_of (Finished ss) = Some (height_stmts ss)
height_of c = None

abbrev pub statements_of : Statements → Stmts
statements_of ss = plain_stmts ss.items
