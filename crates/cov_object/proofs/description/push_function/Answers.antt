use Rattle.cov_object.proofs.PlaceLemmas.{function-written}
use Rattle.cov_object.proofs.description.push_function.Goals as goal

pub returns : goal.returns
returns c =
    function-written c.args.function.now c.as_str.result.now _ _ _ _ _ _ _ _ c.as_str.ensures
    c.in_ok-extend_from_slice.ensures.items c.in_ok-push_location.ensures c.in_ok-extend_from_slice-2.ensures.items c.in_ok-push_location-2.ensures
    c.in_ok-extend_from_slice-3.ensures.items c.in_ok-push_string.ensures c.in_ok-push.ensures.items
