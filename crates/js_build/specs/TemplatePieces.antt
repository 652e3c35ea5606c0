-- The pieces of a template, read from the front.
use Rattle.std.specs.Prelude.{List, ◌∷◌, Option, Some, None}
use Rattle.js_terms.specs.declared.words.Spelled.{Spelled}
use Rattle.js_tree.specs.Plain as tree
use Rattle.js_tree.specs.Tree.{plain_template_part}
use Rattle.js_reading.specs.Slots.{Piece, AnExpr, AText}
use Rattle.js_build.specs.declared.lists.MadePart.{MadePart}

-- the text that is first, and the pieces after it
abbrev pub first_text : List Piece → Option (Spelled × List Piece)
first_text (AText s ∷ ps) = Some (s, ps)
first_text ps = None

abbrev pub text_taken : Option Spelled → List Piece → Option (Spelled × List Piece)
text_taken None ps = None
text_taken (Some s) ps = Some (s, ps)

-- the substitution that begins with a piece, by the text after it
abbrev pub part_of : Piece → Option (Spelled × List Piece) → Option (tree.TemplatePart × List Piece)
part_of (AnExpr i e) (Some x) = Some (tree.MakeTemplatePart e x.0, x.1)
part_of p x = None

abbrev pub part_view : Option MadePart → List Piece → Option (tree.TemplatePart × List Piece)
part_view None ps = None
part_view (Some x) ps = Some (plain_template_part x.tree, ps)
