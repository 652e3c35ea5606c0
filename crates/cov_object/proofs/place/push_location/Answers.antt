use Rattle.cov_object.proofs.PlaceLemmas.{location-written}
use Rattle.cov_object.proofs.place.push_location.Goals as goal

pub returns : goal.returns
returns c =
    location-written c.args.location _ _ _ _ _ _
    c.in_ok-extend_from_slice.ensures.items c.in_ok-push_position.ensures c.in_ok-extend_from_slice-2.ensures.items c.in_ok-push_position-2.ensures c.in_ok-push.ensures.items
