-- What is made that is neither an expression nor a statement goes nowhere.
use Rattle.std.proofs.Common.{◌≡◌, Bool, true, false, List, [], ◌∷◌, Some, None, refl}
use Rattle.std.proofs.lemmas.Bool.{true≢false}
use Rattle.js_terms.specs.declared.place.Loc.{Loc}
use Rattle.js_text.specs.Token.{Token}
use Rattle.js_reading.specs.Slots.{Piece, AnExpr, AStmt}
use Rattle.js_reading.specs.Turns.{Frame}
use Rattle.js_stack.specs.View.{made}

pub made_none : (l : Loc) (fs : List Frame) (t : Token) → made None l fs t ≡ None
made_none l [] t = refl
made_none l (f ∷ fs) t = refl

abbrev pub is_part : Piece → Bool
is_part (AnExpr i e) = true
is_part (AStmt s) = true
is_part p = false

pub made_other : (p : Piece) (l : Loc) (fs : List Frame) (t : Token) → is_part p ≡ false → made (Some p) l fs t ≡ None
made_other (AnExpr i e) l fs t h = absurd (true≢false h)
made_other (AStmt s) l fs t h = absurd (true≢false h)
made_other p l [] t h = refl
made_other p l (f ∷ fs) t h = refl
