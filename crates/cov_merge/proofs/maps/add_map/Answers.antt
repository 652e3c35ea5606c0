use Rattle.std.proofs.Common.{◌≡◌, map, fold, ap, ◌∙◌}
use Rattle.std.proofs.lemmas.Iterator.Consumers.{YieldsList-from_rest, YieldsList-end}
use Rattle.cov_merge.specs.Maps.{with_file}
use Rattle.cov_merge.specs.private.Groups.{groups_of}
use Rattle.cov_merge.proofs.maps.add_map.Goals as goal

pub returns : goal.returns
returns c =
    let all : map (λ file. file.now) c.loop-file.yielded ≡ c.args.map.now =
    (YieldsList-end (YieldsList-from_rest {s = c.into_iter-file-iterator.result} c.args.map.now cc) c.loop-file.yielded c.loop-file.file-iterator c.loop-file.yielded_by c.next.result c.next.new.self c.in-None.is c.next.ensures.steps).0 in
    c.loop-file.invariant ∙ ap (fold with_file (groups_of c.args.groups.now.entries)) all
