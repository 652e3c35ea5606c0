-- Declarators that are read from the front.
use Rattle.std.specs.Prelude.{ℕ, Bool, true, false, List, [], ◌∷◌, Option, Some, None}
use Rattle.js_terms.specs.declared.place.Loc.{Loc}
use Rattle.js_tree.specs.Plain.{Expr, Declarators, no_declarator, more_declarator}
use Rattle.js_tree.specs.Plain as tree
use Rattle.js_tree.specs.Tree.{plain_declarator, plain_declarators}
use Rattle.js_reading.specs.Spans.{through}
use Rattle.js_reading.specs.Slots.{AWord}
use Rattle.js_reading.specs.Slots as slot
use Rattle.js_reading.specs.Makes.{bound, one_more_declarator}
use Rattle.js_build.specs.declared.lists.MadeDeclarator.{MadeDeclarator}
use Rattle.js_build.specs.declared.lists.MadeDeclarators.{MadeDeclarators}
use Rattle.js_build.specs.declared.piece.Piece.{Piece}
use Rattle.js_build.specs.declared.piece.Piece.TheVariants as p
use Rattle.js_build.specs.View.{plain_piece}

abbrev pub declarator_with : List ℕ → Loc → Option (Expr × Loc) → tree.Declarator
declarator_with w l None = tree.MakeDeclarator (Some l) (bound w l) tree.none_expr
declarator_with w l (Some x) = tree.MakeDeclarator (Some (through l x.1)) (bound w l) (tree.some_expr x.0)

-- an initializer is wanting (14.3.1)
abbrev pub refuses : Bool → Option (Expr × Loc) → Bool
refuses strict None = strict
refuses strict (Some x) = false

abbrev pub is_word : Option Piece → Bool
is_word (Some (p.Word w l)) = true
is_word x = false

-- declarators and the pieces after them, which begin with no name
abbrev pub settled : Option (Declarators × List slot.Piece) → Option (Declarators × List slot.Piece)
settled None = None
settled (Some (ds, [])) = Some (ds, [])
settled (Some (ds, AWord w l ∷ ps)) = None
settled (Some (ds, q ∷ ps)) = Some (ds, q ∷ ps)

-- declarators before others
abbrev pub front : Declarators → Option (Declarators × List slot.Piece) → Option (Declarators × List slot.Piece)
front no_declarator o = o
front (more_declarator d ds) o = one_more_declarator d (front ds o)

-- a piece that was taken, before the others
abbrev pub cons_if : Option Piece → List slot.Piece → List slot.Piece
cons_if None ps = []
cons_if (Some x) ps = plain_piece x ∷ ps

abbrev pub declared_view : Option (MadeDeclarators × Option Piece) → List slot.Piece → Option (Declarators × List slot.Piece)
declared_view None ps = None
declared_view (Some x) ps = Some (plain_declarators x.0.items, cons_if x.1 ps)

-- one declarator, by what stands after its name, and the pieces after it
abbrev pub unless_refused : Bool → List ℕ → Loc → Option (Expr × Loc) × List slot.Piece → Option (tree.Declarator × List slot.Piece)
unless_refused true w l x = None
unless_refused false w l x = Some (declarator_with w l x.0, x.1)

abbrev pub one_declared : Bool → List ℕ → Loc → Option (Option (Expr × Loc) × List slot.Piece) → Option (tree.Declarator × List slot.Piece)
one_declared strict w l None = None
one_declared strict w l (Some x) = unless_refused (refuses strict x.0) w l x

abbrev pub one_view : Option MadeDeclarator → List slot.Piece → Option (tree.Declarator × List slot.Piece)
one_view None ps = None
one_view (Some x) ps = Some (plain_declarator x.tree, ps)
