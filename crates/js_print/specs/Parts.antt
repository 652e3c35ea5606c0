-- Parts of the tree and of `Neat`, for the code's steps.
use Rattle.std.specs.Prelude.{ℕ, Bool, false, List, [], ◌∷◌, ◌++◌, Option, codes}
use Rattle.js_terms.specs.declared.place.Loc.{Loc}
use Rattle.js_tree.specs.Plain.{Param, MakeParam, Declarator, MakeDeclarator, MaybeExpr, none_expr, some_expr, TemplatePart, MakeTemplatePart, TemplateParts}
use Rattle.js_spelling.specs.Written.{Written}
use Rattle.js_layout.specs.Tokens.{word, token, first_part, expr_tokens, parts_tokens}
use Rattle.js_text.specs.Token.{Kind}
use Rattle.js_layout.specs.Neat.{neat_expr, neat_initializer}

abbrev pub neat_param : Param → Param
neat_param (MakeParam l x e) = MakeParam l x (neat_initializer false e)

abbrev pub neat_declarator : Bool → Declarator → Declarator
neat_declarator head (MakeDeclarator l x e) = MakeDeclarator l x (neat_initializer head e)

-- what a clause of a `switch` begins with
abbrev pub test_tokens : Option Loc → MaybeExpr → List Written
test_tokens l none_expr = word l (codes "default") ∷ []
test_tokens l (some_expr e) = word l (codes "case") ∷ expr_tokens e

-- a substitution of a template, and the text after it as a token of a kind
abbrev pub part_tokens : (List ℕ → Kind) → Option Loc → TemplatePart → List Written
part_tokens kind l (MakeTemplatePart e s) = expr_tokens (neat_expr e) ++ token l (kind s.spelling) ∷ []

-- a template
abbrev pub template_tokens : Option Loc → List ℕ → TemplateParts → List Written
template_tokens l w parts = token l (first_part parts w) ∷ parts_tokens l parts
