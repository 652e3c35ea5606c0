use Rattle.cov_object.proofs.PlaceLemmas.{branch-written}
use Rattle.cov_object.proofs.description.push_branch.Goals as goal

pub returns : goal.returns
returns c =
    branch-written c.args.branch.now c.kind.result.now c.location.result c.paths.result.now _ _ _ _ _ _ _ _ c.kind.ensures c.location.ensures c.paths.ensures.paths
    c.in_ok-extend_from_slice.ensures.items c.in_ok-push_location.ensures c.in_ok-extend_from_slice-2.ensures.items c.in_ok-push_path_locations.ensures
    c.in_ok-extend_from_slice-3.ensures.items c.in_ok-push_string.ensures c.in_ok-push.ensures.items
