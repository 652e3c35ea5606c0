use Rattle.std.proofs.Common.{◌++◌, decimal, ap, ◌∙◌}
use Rattle.cov_object.proofs.PlaceLemmas.{place-written}
use Rattle.cov_object.proofs.place.push_place.Goals as goal

pub returns : goal.returns
returns c =
    place-written c.args.place _ _ _ _ _ _
    c.in_ok-extend_from_slice.ensures.items c.in_ok-push_column.ensures c.in_ok-extend_from_slice-2.ensures.items
    (c.in_ok-push_digits.ensures ∙ ap (λ line. c.extend_from_slice-2.new.self.items ++ decimal line) (c.from.ensures ∙ c.get.ensures.value))
    c.in_ok-push.ensures.items
