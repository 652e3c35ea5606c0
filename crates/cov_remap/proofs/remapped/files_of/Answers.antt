use Rattle.std.proofs.Common.{◌≡◌, map, ◌∙◌}
use Rattle.std.proofs.lemmas.Iterator.Consumers.{YieldsList-from_rest, YieldsList-end}
use Rattle.cov_remap.proofs.remapped.files_of.Goals as goal

pub returns : goal.returns
returns c =
    let all : map (λ file. file.now) c.loop-file.yielded ≡ c.args.map.now =
    (YieldsList-end (YieldsList-from_rest {s = c.into_iter-file-iterator.result} c.args.map.now cc) c.loop-file.yielded c.loop-file.file-iterator c.loop-file.yielded_by c.next.result c.next.new.self c.in-None.is c.next.ensures.steps).0 in
    c.loop-file.invariant ∙ all
