-- The map of a small file, written out: a variable with an initializer, and an `if` without an `else`.
use Rattle.std.proofs.Common.{◌≡◌, ℕ, List, [], ◌∷◌, Some, None, refl, codes}
use Rattle.std.specs.Fmt.{digits}
use Rattle.json.specs.Print.{escape_byte}
use Rattle.cov_object.specs.Json.{json_text}
use Rattle.js_terms.specs.declared.operators.VariableKind.TheVariants as variable
use Rattle.js_terms.specs.declared.place.Loc.{Loc}
use Rattle.js_terms.specs.declared.place.Pos.{Pos}
use Rattle.js_tree.specs.Plain.{Expr, IdentifierReference, NumericLiteral, Call, no_expr, more_expr, VariableDeclaration, Expression, If, none_stmt, some_expr, no_stmt, more_stmt, MakeDeclarator, no_declarator, more_declarator, BindingIdentifier, File, MakeFile}
use Rattle.js_terms.specs.declared.construct.BranchKind.TheVariants as branch_kind
use Rattle.js_terms.specs.declared.construct.Construct.TheVariants as construct
use Rattle.js_walk.specs.Constructs.{constructs_file}
use Rattle.cov_maps.specs.Zero.{zero_file}

abbrev on_line_1 : ℕ → Pos
on_line_1 column = record { line = 1; column = column }

abbrev part : ℕ → ℕ → Loc
part start end = record { start = on_line_1 start; end = on_line_1 end }

abbrev number : ℕ → ℕ → List ℕ → Expr
number start end digits = NumericLiteral (Some (part start end)) digits

-- `var x = 0; if (x) print(1);`
abbrev pub tree : File
tree = MakeFile
    (more_stmt (VariableDeclaration (Some (part 0 10)) variable.Var (more_declarator (MakeDeclarator (Some (part 4 9)) (BindingIdentifier (Some (part 4 5)) (codes "x")) (some_expr (number 8 9 (codes "0")))) no_declarator))
    (more_stmt (If (Some (part 11 27)) (IdentifierReference (Some (part 15 16)) (codes "x"))
    (Expression (Some (part 18 27)) (Call (Some (part 18 26)) (IdentifierReference (Some (part 18 23)) (codes "print")) (more_expr (number 24 25 (codes "1")) no_expr)))
    none_stmt)
    no_stmt)) []

-- what is counted in it
pub counted_sample : constructs_file tree ≡ construct.Statement (part 8 9) ∷ construct.Statement (part 11 27) ∷ construct.Branch branch_kind.If (part 11 27) (Some (part 11 27) ∷ None ∷ []) ∷ construct.Statement (part 18 27) ∷ []
counted_sample = refl

-- its map, as it is written
pub sample : json_text (zero_file (codes "a.js") (codes "H") (constructs_file tree) ∷ [])
    ≡ codes "{\"a.js\":{\"b\":{\"0\":[0,0]},\"branchMap\":{\"0\":{\"loc\":{\"end\":{\"column\":27,\"line\":1},\"start\":{\"column\":11,\"line\":1}},\"locations\":[{\"end\":{\"column\":27,\"line\":1},\"start\":{\"column\":11,\"line\":1}},{\"end\":{},\"start\":{}}],\"type\":\"if\"}},\"f\":{},\"fnMap\":{},\"hash\":\"H\",\"path\":\"a.js\",\"s\":{\"0\":0,\"1\":0,\"2\":0},\"statementMap\":{\"0\":{\"end\":{\"column\":9,\"line\":1},\"start\":{\"column\":8,\"line\":1}},\"1\":{\"end\":{\"column\":27,\"line\":1},\"start\":{\"column\":11,\"line\":1}},\"2\":{\"end\":{\"column\":27,\"line\":1},\"start\":{\"column\":18,\"line\":1}}}}}"
unfolding escape_byte digits
sample = refl
