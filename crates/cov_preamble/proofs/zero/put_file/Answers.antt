-- The members, put one after the other.
use Rattle.std.proofs.Common.{◌≡◌, ℕ, List, codes}
use Rattle.js_tree.specs.Tree.{plain_properties}
use Rattle.js_tree.specs.Plain.{Properties}
use Rattle.cov_object.specs.Branch.{BranchCoverage}
use Rattle.cov_object.specs.Json as json
use Rattle.cov_object.specs.declared.file.FileCoverage.{FileCoverage}
use Rattle.cov_object.specs.declared.file.FunctionCoverage.{FunctionCoverage}
use Rattle.cov_object.specs.declared.file.StatementCoverage.{StatementCoverage}
use Rattle.cov_preamble.specs.Pieces.{with_text, with_things, with_hash, with_source_map, with_file}
use Rattle.cov_preamble.proofs.zero.put_file.Goals as goal

in_order : (file : FileCoverage) (old first second third kept fourth last : Properties) (branches : List (ℕ × BranchCoverage)) (functions : List (ℕ × FunctionCoverage)) (path : List ℕ) (statements : List (ℕ × StatementCoverage)) →
    first ≡ with_things json.path_counts_data json.branch_data (codes "b") (codes "branchMap") branches old → branches ≡ file.branches →
    second ≡ with_things (λ (function : FunctionCoverage). json.count_data function.count) json.function_data (codes "f") (codes "fnMap") functions first → functions ≡ file.functions →
    third ≡ with_hash file.hash second →
    kept ≡ with_source_map file.input_source_map third →
    fourth ≡ with_text (codes "path") path kept → path ≡ file.path →
    last ≡ with_things (λ (statement : StatementCoverage). json.count_data statement.count) (λ (statement : StatementCoverage). json.location_data statement.location) (codes "s") (codes "statementMap") statements fourth → statements ≡ file.statements →
    last ≡ with_file file old
in_order file old first second third kept fourth last branches functions path statements b bs f fs h m p ps s ss = cc

pub returns : goal.returns
returns c =
    in_order c.args.zero.now (plain_properties c.args.members.now) (plain_properties c.put_things.new.members) (plain_properties c.put_things-2.new.members) (plain_properties c.put_hash.new.members) (plain_properties c.put_source_map.new.members) (plain_properties c.put_text.new.members) (plain_properties c.put_things-3.new.members)
    c.as_slice.result.now c.as_slice-2.result.now c.as_str.result.now c.as_slice-3.result.now
    c.in_ok-put_things.ensures c.as_slice.ensures.value c.in_ok-put_things-2.ensures c.as_slice-2.ensures.value c.in_ok-put_hash.ensures c.in_ok-put_source_map.ensures c.in_ok-put_text.ensures c.as_str.ensures c.in_ok-put_things-3.ensures c.as_slice-3.ensures.value
