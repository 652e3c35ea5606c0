use Rattle.std.proofs.Common.{rules}
use Rattle.source_map.specs.Map.{is_before}
use Rattle.std.proofs.lemmas.List.Sorted.{answers_always}
use Rattle.source_map.proofs.SortLemmas.{before_order, sort-is}
use Rattle.source_map.proofs.sort.in_order.Goals as goal

pub returns : goal.returns
returns c =
    sort-is c.args.segments.items c.sort_by.new.self.items
    (c.in_ok-sort_by.ensures.sorted is_before before_order (answers_always _ _ _ (λ f a r f' k. search rules)))
    (c.in_ok-sort_by.ensures.stable is_before before_order (answers_always _ _ _ (λ f a r f' k. search rules)))
