use Rattle.cov_remap.proofs.EachKind.{for_statements, for_functions, for_branches}
use Rattle.cov_remap.proofs.Once.{are_kept, are_merged, are_remapped_once}
use Rattle.cov_remap.proofs.laws.whole_way.Goals as goal

pub returns-clause-remapped : goal.returns-clause-remapped
returns-clause-remapped c =
    let key = c.each_key.ensures in
    let path = c.each_path.ensures in
    let s = for_statements key.summed key.keys path.by_path path.merged_again in
    let f = for_functions key.summed key.keys path.by_path path.merged_again in
    let b = for_branches key.summed key.keys path.by_path path.merged_again in
    (s.remapped, f.remapped, b.remapped)

pub returns-clause-runs : goal.returns-clause-runs
returns-clause-runs c =
    let key = c.each_key.ensures in
    let path = c.each_path.ensures in
    let s = for_statements key.summed key.keys path.by_path path.merged_again in
    let f = for_functions key.summed key.keys path.by_path path.merged_again in
    let b = for_branches key.summed key.keys path.by_path path.merged_again in
    (s.runs, f.runs, b.runs)

pub returns-clause-order : goal.returns-clause-order
returns-clause-order c =
    let key = c.each_key.ensures in
    let path = c.each_path.ensures in
    let s = for_statements key.summed key.keys path.by_path path.merged_again in
    let f = for_functions key.summed key.keys path.by_path path.merged_again in
    let b = for_branches key.summed key.keys path.by_path path.merged_again in
    (s.order, f.order, b.order)

pub returns-clause-early : goal.returns-clause-early
returns-clause-early c =
    let key = c.each_key.ensures in
    let path = c.each_path.ensures in
    let s = for_statements key.summed key.keys path.by_path path.merged_again in
    let f = for_functions key.summed key.keys path.by_path path.merged_again in
    let b = for_branches key.summed key.keys path.by_path path.merged_again in
    (s.early, f.early, b.early)

pub returns-clause-kept : goal.returns-clause-kept
returns-clause-kept c = are_kept c.each_path.ensures.by_path c.each_path.ensures.merged_again

pub returns-clause-merged : goal.returns-clause-merged
returns-clause-merged c = are_merged c.each_path.ensures.by_path c.each_path.ensures.merged_again

pub returns-clause-once : goal.returns-clause-once
returns-clause-once c = are_remapped_once c.each_path.ensures.by_path c.each_path.ensures.merged_again
