-- What is made, where the pieces are read another way, or the node is known as another.
use Rattle.std.proofs.Common.{◌≡◌, ℕ, Option, Result, subst, sym}
use Rattle.std.specs.declared.alloc.AllocError.{AllocError}
use Rattle.js_tree.specs.Plain.{Expr, Stmt}
use Rattle.js_reading.specs.Slots.{Piece}
use Rattle.js_build.specs.declared.piece.Piece as code
use Rattle.js_build.specs.View.{Makes, MakesExpr, MakesStmt}

pub makes_as : (result : Result (Option code.Piece) AllocError) {given due : Option Piece} → due ≡ given → Makes result given → Makes result due
makes_as result is made = subst (λ o. Makes result o) (sym is) made

pub makes_expr : (result : Result (Option code.Piece) AllocError) (level : ℕ) {given due : Expr} → given ≡ due → MakesExpr result level given → MakesExpr result level due
makes_expr result level is made = subst (λ e. MakesExpr result level e) is made

pub makes_stmt : (result : Result (Option code.Piece) AllocError) {given due : Stmt} → given ≡ due → MakesStmt result given → MakesStmt result due
makes_stmt result is made = subst (λ s. MakesStmt result s) is made
