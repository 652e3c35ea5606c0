use Rattle.std.proofs.Common.{Some, ap, ◌∙◌}
use Rattle.json.specs.Json.{parse_map, value}
use Rattle.cov_object.specs.Read as spec
use Rattle.cov_object.specs.SourceMapText.{most_depth}
use Rattle.cov_object.specs.private.ByMember.{value_kept, path_counts_of, maps_with}
use Rattle.cov_object.proofs.JsonValue.{data_of}
use Rattle.cov_object.proofs.ByMember.{mapped, left-some, with_statement_map, with_statement_counts, with_function_map, with_function_counts, with_branch_map, with_branch_counts, with-statementMap, with-s, with-fnMap, with-f, with-branchMap, with-b, with-other}
use Rattle.cov_object.proofs.by_member.next_map.Goals as goal

pub returns-in_ok-entries-in-statementMap-clause-ok : goal.returns-in_ok-entries-in-statementMap-clause-ok
returns-in_ok-entries-in-statementMap-clause-ok c =
    let name = c.args.name.now in
    let maps = c.args.maps.now in
    mapped (value_kept spec.statement_of) (with_statement_map maps) (λ d. maps_with name d maps)
    (data_of (value most_depth) c.args.reader.now) _ _ (with-statementMap name maps c.in-statementMap.is) c.in_ok-entries-in-statementMap.ensures.ok

pub returns-in_ok-entries-in-s-clause-ok : goal.returns-in_ok-entries-in-s-clause-ok
returns-in_ok-entries-in-s-clause-ok c =
    let name = c.args.name.now in
    let maps = c.args.maps.now in
    mapped (value_kept spec.count_of) (with_statement_counts maps) (λ d. maps_with name d maps)
    (data_of (value most_depth) c.args.reader.now) _ _ (with-s name maps c.in-s.is) c.in_ok-entries-in-s.ensures.ok

pub returns-in_ok-entries-in-fnMap-clause-ok : goal.returns-in_ok-entries-in-fnMap-clause-ok
returns-in_ok-entries-in-fnMap-clause-ok c =
    let name = c.args.name.now in
    let maps = c.args.maps.now in
    mapped (value_kept spec.function_of) (with_function_map maps) (λ d. maps_with name d maps)
    (data_of (value most_depth) c.args.reader.now) _ _ (with-fnMap name maps c.in-fnMap.is) c.in_ok-entries-in-fnMap.ensures.ok

pub returns-in_ok-entries-in-f-clause-ok : goal.returns-in_ok-entries-in-f-clause-ok
returns-in_ok-entries-in-f-clause-ok c =
    let name = c.args.name.now in
    let maps = c.args.maps.now in
    mapped (value_kept spec.count_of) (with_function_counts maps) (λ d. maps_with name d maps)
    (data_of (value most_depth) c.args.reader.now) _ _ (with-f name maps c.in-f.is) c.in_ok-entries-in-f.ensures.ok

pub returns-in_ok-entries-in-branchMap-clause-ok : goal.returns-in_ok-entries-in-branchMap-clause-ok
returns-in_ok-entries-in-branchMap-clause-ok c =
    let name = c.args.name.now in
    let maps = c.args.maps.now in
    mapped (value_kept spec.branch_of) (with_branch_map maps) (λ d. maps_with name d maps)
    (data_of (value most_depth) c.args.reader.now) _ _ (with-branchMap name maps c.in-branchMap.is) c.in_ok-entries-in-branchMap.ensures.ok

pub returns-in_ok-entries-in-b-clause-ok : goal.returns-in_ok-entries-in-b-clause-ok
returns-in_ok-entries-in-b-clause-ok c =
    let name = c.args.name.now in
    let maps = c.args.maps.now in
    mapped (value_kept path_counts_of) (with_branch_counts maps) (λ d. maps_with name d maps)
    (data_of (value most_depth) c.args.reader.now) _ _ (with-b name maps c.in-b.is) c.in_ok-entries-in-b.ensures.ok

pub returns-in_ok-skip_value-in_default-clause-ok : goal.returns-in_ok-skip_value-in_default-clause-ok
returns-in_ok-skip_value-in_default-clause-ok c =
    let name = c.args.name.now in
    let maps = c.args.maps.now in
    let other = c.in_default in
    let read = left-some (data_of (value most_depth) c.args.reader.now) c.skip_value.new.reader c.in_ok-skip_value-in_default.ensures.ok in
    ap (parse_map (λ d. maps_with name d maps)) read.1
    ∙ ap (λ m. Some (m, c.skip_value.new.reader)) (with-other name maps other.not-statementMap other.not-s other.not-fnMap other.not-f other.not-branchMap other.not-b read.0)
