-- What `build` makes of the pieces of jumps, by their label.
use Rattle.std.proofs.Common.{◌≡◌, List, [], ◌∷◌, Option, Some, None, refl}
use Rattle.js_terms.specs.declared.place.Loc.{Loc}
use Rattle.js_terms.specs.declared.words.Identifier.{Identifier}
use Rattle.js_tree.specs.Plain.{Stmt}
use Rattle.js_tree.specs.Plain as tree
use Rattle.js_reading.specs.Slots.{Piece, AStmt, AWord, Missing}
use Rattle.js_reading.specs.declared.form.Form.TheVariants as form
use Rattle.js_reading.specs.Makes.{build}
use Rattle.js_build.specs.Labels.{label_of}
use Rattle.js_build.specs.Shapes.{if_over, none_left}

abbrev pub of_label : Option (Option Identifier) → (Option Identifier → Stmt) → Option Piece
of_label None make = None
of_label (Some x) make = Some (AStmt (make x))

pub continue_form : (l : Loc) (ps : List Piece) → build form.Continue l ps ≡ of_label (label_of ps) (λ x. tree.Continue (Some l) x)
continue_form l [] = refl
continue_form l (Missing ∷ []) = refl
continue_form l (Missing ∷ p ∷ ps) = refl
continue_form l (AWord w m ∷ []) = refl
continue_form l (AWord w m ∷ p ∷ ps) = refl
continue_form l (p ∷ ps) = refl

pub break_form : (l : Loc) (ps : List Piece) → build form.Break l ps ≡ of_label (label_of ps) (λ x. tree.Break (Some l) x)
break_form l [] = refl
break_form l (Missing ∷ []) = refl
break_form l (Missing ∷ p ∷ ps) = refl
break_form l (AWord w m ∷ []) = refl
break_form l (AWord w m ∷ p ∷ ps) = refl
break_form l (p ∷ ps) = refl

pub empty_form : (l : Loc) (ps : List Piece) → build form.Empty l ps ≡ if_over (none_left ps) (AStmt (tree.Empty (Some l)))
empty_form l [] = refl
empty_form l (p ∷ ps) = refl

pub debugger_form : (l : Loc) (ps : List Piece) → build form.Debugger l ps ≡ if_over (none_left ps) (AStmt (tree.Debugger (Some l)))
debugger_form l [] = refl
debugger_form l (p ∷ ps) = refl
