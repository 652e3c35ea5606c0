use Rattle.std.proofs.Common.{◌≡◌, ◌<◌, sym, ap, ◌∙◌, length, map, take, set, get_or, arith, rules}
use Rattle.cov_object.specs.declared.file.PathCoverage.{PathCoverage}
use Rattle.cov_merge.specs.Sums.{running}
use Rattle.cov_merge.proofs.SumsLemmas.{plus_first, plus-next, plus-all, plus-cut, take-short}
use Rattle.cov_merge.proofs.sums.add_paths.Goals as goal

pub loop-place-preserved : goal.loop-place-preserved
loop-place-preserved c =
    let place = c.loop-place.place in
    let paths = c.args.paths.now in
    let sums = take (length paths) c.args.sums.now.items in
    let short = take-short (length paths) c.args.sums.now.items in
    let long : c.len-place-end.result ≡ length sums = search rules in
    let on : place < c.len-place-end.result = search rules in
    let below : place < length sums = omega arith in
    let within : place < length paths = omega arith in
    ap (λ some. set some place c.running.result) c.loop-place.invariant
    ∙ ap (set (plus_first place sums (map (λ path. path.count) paths)) place) c.running.ensures
    ∙ ap (λ (path : PathCoverage). set (plus_first place sums (map (λ path. path.count) paths)) place (running c.index.result.now path.count)) (sym c.index-paths-place.is)
    ∙ plus-next place sums paths c.index.result.now c.index-paths-place.result below within
    (c.index.ensures ∙ ap (λ some. get_or some place c.index.result.now) c.loop-place.invariant) c.index-paths-place.is

pub returns : goal.returns
returns c =
    let paths = c.args.paths.now in
    let sums = take (length paths) c.args.sums.now.items in
    let long : c.len-place-end.result ≡ length sums = search rules in
    let all : c.loop-place.place ≡ length sums = omega (arith, c.loop-place-test.false, c.loop-place.auto.place-end) in
    c.loop-place.invariant
    ∙ ap (λ n. plus_first n sums (map (λ path. path.count) paths)) all
    ∙ plus-all sums paths (take-short (length paths) c.args.sums.now.items)
    ∙ plus-cut c.args.sums.now.items paths
