use Rattle.std.proofs.Common.{◌≡◌, ◌-◌, ◌∙◌, length, take, drop, nat_lt, true, ap, sym, subst, rules}
use Rattle.std.specs.Prelude.{nat_le}
use Rattle.std.specs.List.Sorted.{IsPartitionPoint}
use Rattle.std.proofs.lemmas.List.Sorted.{IsPartitionPoint-from_clause, IsPartitionedBy-ltb, IsPartitionedBy-leb}
use Rattle.source_map.specs.private.Order.{AreByColumn}
use Rattle.source_map.proofs.SearchLemmas.{lines_rise, order_drop, rest_is, line_is, by_column}
use Rattle.source_map.proofs.search.on_line.Goals as goal

pub returns-clause-line : goal.returns-clause-line
returns-clause-line c =
    let line = c.args.line in
    let all = c.args.segments.now in
    let first = c.partition_point-first.result in
    let start = IsPartitionPoint-from_clause (λ segment. nat_lt segment.line line) all first c.partition_point-first.ensures.partitioned
    (IsPartitionedBy-ltb (λ segment. segment.line) all line (lines_rise all c.requires)) (λ a r f k. search rules) in
    let rest = take (length all - first) (drop first all) in
    let same : rest ≡ drop first all = rest_is first all in
    let stop = IsPartitionPoint-from_clause (λ segment. nat_le segment.line line) rest c.partition_point-end.result c.partition_point-end.ensures.partitioned
    (IsPartitionedBy-leb (λ segment. segment.line) rest line (subst (λ xs. Rattle.std.specs.List.Sorted.IsNonDecreasingBy (λ segment. segment.line) xs) (sym same) (lines_rise (drop first all) (order_drop first all c.requires)))) (λ a r f k. search rules) in
    ap (take c.partition_point-end.result) same
    ∙ line_is line all first c.partition_point-end.result start (subst (λ xs. IsPartitionPoint (λ segment. nat_le segment.line line ≡ true) (λ segment. nat_le segment.line line ≡ Rattle.std.proofs.Common.false) xs c.partition_point-end.result) same stop)

pub returns-clause-columns : goal.returns-clause-columns
returns-clause-columns c = subst AreByColumn (sym (returns-clause-line c)) (by_column c.args.line c.args.segments.now c.requires)
