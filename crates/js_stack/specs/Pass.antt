-- What one slot's turn says.
use Rattle.std.specs.Prelude.{◌≡◌, ℕ, List, ◌++◌, if◌then◌else◌, Option, Some, None, Result, Ok, Err, length}
use Rattle.js_terms.specs.declared.place.Loc.{Loc}
use Rattle.js_text.specs.Token.{Token}
use Rattle.js_reading.specs.declared.choice.Choice.{Choice}
use Rattle.js_reading.specs.declared.form.Form.{Form}
use Rattle.js_reading.specs.Slots.{Slot, Piece, Branch}
use Rattle.js_reading.specs.Turns.{Frame, Config, choose, leads, place, take}
use Rattle.js_grammar.specs.View.{plain_slots}
use Rattle.js_build.specs.View.{plain_pieces}
use Rattle.js_stack.specs.declared.production.Passed.{Passed}
use Rattle.js_stack.specs.declared.production.Passed.TheVariants as to
use Rattle.js_stack.specs.declared.refused.Refusal.{Refusal}
use Rattle.js_stack.specs.declared.refused.Refusal.TheVariants as why
use Rattle.js_stack.specs.View.{config, passed}

-- due is where the machine goes from the slots before; where a slot is passed, the frames stay, and n slots are left
abbrev pub Passes : Result Passed Refusal → List Frame → List Frame → Option Config → Loc → Token → ℕ → Type 0
Passes (Ok (to.To place)) fs gs due l t n = due ≡ Some (config place gs)
Passes (Ok (to.On p)) fs gs due l t n = (due ≡ passed p.form p.start (plain_slots p.left) (plain_pieces p.parts) l fs t) × (gs ≡ fs) × (length p.left ≡ n)
Passes (Err why.Memory) fs gs due l t n = Unit {0}
Passes (Err why.Syntax) fs gs due l t n = due ≡ None

-- what becomes of a production's slots by what was chosen
abbrev pub chosen : Branch → Choice → Form → Loc → List Slot → List Piece → Loc → List Frame → Token → Option Config
chosen b c f w ss ps l fs t = choose b (λ qs. passed f w ss (ps ++ qs) l fs t) (λ qs s rs. if leads (place fs) c then take f w s (rs ++ ss) (ps ++ qs) fs t else None)
