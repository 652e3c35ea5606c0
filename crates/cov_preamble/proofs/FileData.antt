-- The members of a file's data, in the order of their keys.
use Rattle.std.proofs.Common.{◌≡◌, ℕ, List, [], ◌∷◌, Option, Some, None, refl}
use Rattle.std.specs.Prelude.{codes}
use Rattle.serde_json.specs.Data.{string, object}
use Rattle.js_tree.specs.Plain.{ObjectLiteral, no_property}
use Rattle.cov_object.specs.declared.file.FileCoverage.{FileCoverage}
use Rattle.cov_object.specs.declared.file.StatementCoverage.{StatementCoverage}
use Rattle.cov_object.specs.declared.file.FunctionCoverage.{FunctionCoverage}
use Rattle.cov_object.specs.Json as json
use Rattle.cov_rewritten.specs.Preamble.{literal}
use Rattle.cov_preamble.specs.Pieces.{with_text, with_things, with_hash, with_source_map, with_file}

pub file_literal : (file : FileCoverage) → literal (json.file_data file) ≡ ObjectLiteral None (with_file file no_property)
file_literal file = by file.input_source_map file.hash
  where
    by : (map hash : Option (List ℕ)) →
        literal (object (json.with_source_map map (json.with_hash hash (json.by_key (
        (codes "path", string file.path)
        ∷ (codes "statementMap", json.statements_data file.statements)
        ∷ (codes "s", json.statement_counts_data file.statements)
        ∷ (codes "fnMap", json.functions_data file.functions)
        ∷ (codes "f", json.function_counts_data file.functions)
        ∷ (codes "branchMap", json.branches_data file.branches)
        ∷ (codes "b", json.branch_counts_data file.branches)
        ∷ [])))))
        ≡ ObjectLiteral None
        (with_things (λ (statement : StatementCoverage). json.count_data statement.count) (λ (statement : StatementCoverage). json.location_data statement.location) (codes "s") (codes "statementMap") file.statements
        (with_text (codes "path") file.path
        (with_source_map map
        (with_hash hash
        (with_things (λ (function : FunctionCoverage). json.count_data function.count) json.function_data (codes "f") (codes "fnMap") file.functions
        (with_things json.path_counts_data json.branch_data (codes "b") (codes "branchMap") file.branches no_property))))))
    by None None = refl
    by None (Some hash) = refl
    by (Some text) None = refl
    by (Some text) (Some hash) = refl
