-- What `build` makes of the pieces of `try`, after the parameter of its `catch`.
use Rattle.std.proofs.Common.{◌≡◌, ℕ, List, [], ◌∷◌, Option, Some, None, refl}
use Rattle.js_terms.specs.declared.place.Loc.{Loc}
use Rattle.js_tree.specs.Plain.{MaybePattern, Stmts, none_pattern, some_pattern}
use Rattle.js_tree.specs.Plain as tree
use Rattle.js_reading.specs.Slots.{Piece, AStmt, AWord, TheStmts, Missing}
use Rattle.js_reading.specs.declared.form.Form.TheVariants as form
use Rattle.js_reading.specs.Makes.{bound, build}
use Rattle.js_build.specs.Shapes.{first_stmts, if_over, none_left}
use Rattle.js_build.specs.Tries.{handled_of, last_of}

pub try_missing : (l : Loc) (b : Stmts) (ps : List Piece) → build form.Try l (TheStmts b ∷ Missing ∷ ps) ≡ handled_of l b none_pattern ps
try_missing l b [] = refl
try_missing l b (TheStmts c ∷ []) = refl
try_missing l b (TheStmts c ∷ Missing ∷ []) = refl
try_missing l b (TheStmts c ∷ Missing ∷ p ∷ ps) = refl
try_missing l b (TheStmts c ∷ TheStmts f ∷ []) = refl
try_missing l b (TheStmts c ∷ TheStmts f ∷ p ∷ ps) = refl
try_missing l b (TheStmts c ∷ p ∷ ps) = refl
try_missing l b (p ∷ ps) = refl

pub try_word : (l : Loc) (b : Stmts) (w : List ℕ) (m : Loc) (ps : List Piece) → build form.Try l (TheStmts b ∷ AWord w m ∷ ps) ≡ handled_of l b (some_pattern (bound w m)) ps
try_word l b w m [] = refl
try_word l b w m (TheStmts c ∷ []) = refl
try_word l b w m (TheStmts c ∷ Missing ∷ []) = refl
try_word l b w m (TheStmts c ∷ Missing ∷ p ∷ ps) = refl
try_word l b w m (TheStmts c ∷ TheStmts f ∷ []) = refl
try_word l b w m (TheStmts c ∷ TheStmts f ∷ p ∷ ps) = refl
try_word l b w m (TheStmts c ∷ p ∷ ps) = refl
try_word l b w m (p ∷ ps) = refl

pub try_finally : (l : Loc) (b f : Stmts) (ps : List Piece) → build form.Try l (TheStmts b ∷ TheStmts f ∷ ps) ≡ if_over (none_left ps) (AStmt (tree.TryFinally (Some l) b f))
try_finally l b f [] = refl
try_finally l b f (p ∷ ps) = refl

pub ruleset try_rules = (try_missing, try_word, try_finally)

-- by the statements of the `catch`
abbrev pub handled_last : Loc → Stmts → MaybePattern → Stmts → Option (Option Stmts) → Option Piece
handled_last l b p c None = None
handled_last l b p c (Some None) = Some (AStmt (tree.TryCatch (Some l) b (tree.MakeCatch p c)))
handled_last l b p c (Some (Some f)) = Some (AStmt (tree.TryCatchFinally (Some l) b (tree.MakeCatch p c) f))

abbrev pub handled_after : Loc → Stmts → MaybePattern → Option (Stmts × List Piece) → Option Piece
handled_after l b p None = None
handled_after l b p (Some x) = handled_last l b p x.0 (last_of x.1)

pub handled_form : (l : Loc) (b : Stmts) (x : MaybePattern) (ps : List Piece) → handled_of l b x ps ≡ handled_after l b x (first_stmts ps)
handled_form l b x [] = refl
handled_form l b x (TheStmts c ∷ []) = refl
handled_form l b x (TheStmts c ∷ Missing ∷ []) = refl
handled_form l b x (TheStmts c ∷ Missing ∷ p ∷ ps) = refl
handled_form l b x (TheStmts c ∷ TheStmts f ∷ []) = refl
handled_form l b x (TheStmts c ∷ TheStmts f ∷ p ∷ ps) = refl
handled_form l b x (TheStmts c ∷ p ∷ ps) = refl
handled_form l b x (p ∷ ps) = refl

-- by its block
abbrev pub try_after : Loc → Option (Stmts × List Piece) → Option Piece
try_after l None = None
try_after l (Some x) = build form.Try l (TheStmts x.0 ∷ x.1)

pub try_form : (l : Loc) (ps : List Piece) → build form.Try l ps ≡ try_after l (first_stmts ps)
try_form l [] = refl
try_form l (TheStmts b ∷ ps) = refl
try_form l (p ∷ ps) = refl
