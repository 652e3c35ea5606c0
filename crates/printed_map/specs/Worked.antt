-- A worked map: `a; b();` is printed on two lines.
use Rattle.std.specs.Prelude.{◌≡◌, ℕ, [], Option, Some, codes}
use Rattle.js_terms.specs.declared.place.Loc.{Loc}
use Rattle.js_tree.specs.Plain as tree
use Rattle.js_tree.specs.Plain.{File, MakeFile, no_stmt, more_stmt, no_expr}
use Rattle.source_map.specs.Write.{mappings_text}
use Rattle.printed_map.specs.Marked.{marked}

abbrev span : ℕ → ℕ → Option Loc
span from to = Some (record { start = record { line = 1; column = from }; end = record { line = 1; column = to } })

abbrev file : File
file = MakeFile
    (more_stmt (tree.Expression (span 0 2) (tree.IdentifierReference (span 0 1) (codes "a")))
    (more_stmt (tree.Expression (span 3 7) (tree.Call (span 3 6) (tree.IdentifierReference (span 3 4) (codes "b")) no_expr)) no_stmt)) []

abbrev pub WorkedMap : Type 0
WorkedMap = mappings_text (marked (codes "a.js") file).segments ≡ codes "AAAA;AAAG"
