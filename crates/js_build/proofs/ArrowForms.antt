-- What `build` makes of the pieces of an arrow function of a name.
use Rattle.std.proofs.Common.{◌≡◌, ℕ, Bool, true, false, List, [], ◌∷◌, Option, Some, None, refl, sym, ap, ◌∙◌}
use Rattle.js_terms.specs.declared.place.Loc.{Loc}
use Rattle.js_tree.specs.Plain.{Expr, no_expr, more_expr}
use Rattle.js_tree.specs.Plain as tree
use Rattle.js_reading.specs.Slots.{Piece, AnExpr}
use Rattle.js_reading.specs.declared.form.Form.TheVariants as form
use Rattle.js_reading.specs.Makes.{arrow_of, build, concise, params_of}
use Rattle.js_build.specs.NameTests.{is_name}
use Rattle.js_build.specs.Shapes.{first_expr}

abbrev pub of_name : Loc → Bool → Expr → List Piece → Option Piece
of_name l true e ps = arrow_of l (params_of (more_expr e no_expr)) (concise ps)
of_name l false e ps = None

abbrev pub after_name : Loc → Option ((ℕ × Expr) × List Piece) → Option Piece
after_name l None = None
after_name l (Some (x, ps)) = of_name l (is_name x.1) x.1 ps

pub arrow_of_name_form : (l : Loc) (ps : List Piece) → build form.ArrowOfName l ps ≡ after_name l (first_expr ps)
arrow_of_name_form l [] = refl
arrow_of_name_form l (AnExpr i (tree.IdentifierReference m w) ∷ ps) = refl
arrow_of_name_form l (AnExpr i e ∷ ps) = refl
arrow_of_name_form l (p ∷ ps) = refl

-- the same by what is taken of the pieces

pub name_missing : (l : Loc) (ps : List Piece) → None ≡ first_expr ps → build form.ArrowOfName l ps ≡ None
name_missing l ps taken = arrow_of_name_form l ps ∙ ap (after_name l) (sym taken)

pub no_name : (l : Loc) (ps rest : List Piece) (x : ℕ × Expr) → Some (x, rest) ≡ first_expr ps → is_name x.1 ≡ false → build form.ArrowOfName l ps ≡ None
no_name l ps rest x taken is = arrow_of_name_form l ps ∙ ap (after_name l) (sym taken) ∙ ap (λ b. of_name l b x.1 rest) is

pub a_name : (l : Loc) (ps rest : List Piece) (x : ℕ × Expr) → Some (x, rest) ≡ first_expr ps → is_name x.1 ≡ true → build form.ArrowOfName l ps ≡ arrow_of l (params_of (more_expr x.1 no_expr)) (concise rest)
a_name l ps rest x taken is = arrow_of_name_form l ps ∙ ap (after_name l) (sym taken) ∙ ap (λ b. of_name l b x.1 rest) is
