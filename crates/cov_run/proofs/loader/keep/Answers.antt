-- The source is one of the sources, or one too many.
use Rattle.std.proofs.Common.{◌≡◌, ◌<◌, ◌≤◌, ◌++◌, ◌∷◌, [], length, map, string_bytes, ap, ◌∙◌, arith}
use Rattle.std.proofs.lemmas.Result.{err_from_is_err_and}
use Rattle.js_tree.specs.Tree.{plain_file}
use Rattle.cov_sources.specs.declared.source.Source.{Source}
use Rattle.cov_run.specs.Asked.{with_file, with_specifiers}
use Rattle.cov_run.specs.Loaded.{most, source_of, wanting}
use Rattle.cov_run.proofs.Loading.{goes_on, is_source, stops_full}
use Rattle.cov_run.proofs.loader.keep.Goals as goal

pub returns-then-len-ge-MOST_SOURCES-clause-fault : goal.returns-then-len-ge-MOST_SOURCES-clause-fault
returns-then-len-ge-MOST_SOURCES-clause-fault c =
    let full : most ≤ length c.args.sources.now.items = omega (arith, c.args.sources.now.ok.0, c.len.ensures, c.if-len-ge-MOST_SOURCES.true) in
    stops_full (map string_bytes c.args.exclude.now) c.args.path c.args.bytes.items c.args.sources.now.items c.args.queue.now (plain_file c.args.tree) c.requires.accepted c.requires.only c.args.input full

pub returns-in_err-ask_all-clause-fault : goal.returns-in_err-ask_all-clause-fault
returns-in_err-ask_all-clause-fault c = let p = err_from_is_err_and c.from_residual.result c.from_residual.ensures.1 in rw (p.1, p.2) (λ told holds has. wanting)

pub returns-in_err-push-clause-fault : goal.returns-in_err-push-clause-fault
returns-in_err-push-clause-fault c =
    let p = err_from_is_err_and c.from_residual-in_err-push.result c.from_residual-in_err-push.ensures.1 in rw (p.1, p.2) (λ told holds has. wanting)

pub returns-clause-goes : goal.returns-clause-goes
returns-clause-goes c =
    let exclude = map string_bytes c.args.exclude.now in
    let room : length c.args.sources.now.items < most = omega (arith, c.args.sources.now.ok.0, c.len.ensures, c.if-len-ge-MOST_SOURCES.false) in
    let put : c.push.new.self.items ≡ c.args.sources.now.items ++ source_of exclude c.args.path c.args.bytes.items c.args.input ∷ [] =
    c.in_ok-push.ensures.items
    ∙ ap (λ (source : Source). c.args.sources.now.items ++ source ∷ [])
    (is_source exclude c.args.path c.args.bytes.items c.args.input c.from_vec.result c.as_str-2.result.now c.is_counted-counted.result c.from_vec.ensures c.as_str-2.ensures c.is_counted-counted.ensures) in
    let asked : c.ask_all.new.self ≡ with_file c.args.path (plain_file c.args.tree) c.args.queue.now =
    c.in_ok-ask_all.ensures
    ∙ ap (λ from. with_specifiers from c.args.queue.now c.requires_.result.now) c.as_str.ensures
    ∙ ap (with_specifiers c.args.path c.args.queue.now) c.requires_.ensures in
    goes_on exclude c.args.path c.args.bytes.items c.args.sources.now.items c.args.queue.now (plain_file c.args.tree) c.requires.accepted c.requires.only c.args.input
    c.push.new.self.items c.ask_all.new.self room put asked
