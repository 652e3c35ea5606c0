-- The sources are those that the file is loaded from, and their run is its answer.
use Rattle.std.proofs.Common.{◌≡◌, map, string_bytes, Global, subst, rules}
use Rattle.cov_run.specs.Loaded.{Loaded}
use Rattle.std.specs.Prelude.{Ok, Err}
use Rattle.cov_run.proofs.OneSession.{refuses_none, some_loaded}
use Rattle.cov_commands.specs.Source.{uncounted}
use Rattle.cov_commands.proofs.Answered.{run_answer, wants}
use Rattle.cov_words.specs.declared.command.SourceTask.TheVariants.{Run}
use Rattle.cov_commands.proofs.run.run.Goals as goal

pub counted-requires-clause-some : goal.counted-requires-clause-some
counted-requires-clause-some g c = some_loaded (g.S.Store.held c.args.store.now) c.args.path.now _ c.in-Ok-load.sources.items c.in-Ok-load.ensures.sources

pub counted-requires-clause-accepted : goal.counted-requires-clause-accepted
counted-requires-clause-accepted g c = λ path because. refuses_none (g.S.Store.held c.args.store.now) c.args.path.now _ c.in-Ok-load.sources.items c.in-Ok-load.ensures.sources path because

pub returns-in-Ok-counted-clause-comes : goal.returns-in-Ok-counted-clause-comes
returns-in-Ok-counted-clause-comes g c = λ out.
    let left = c.in-Ok-counted.ensures in
    let same : map (string_bytes {Z = Global}) c.as_slice.result.now ≡ c.args.exclude.now = search rules in
    run_answer c.args.path.now (g.S.Store.held c.args.store.now) (subst (λ patterns. Loaded (g.S.Store.held c.args.store.now) c.args.path.now patterns (Ok c.in-Ok-load.sources.items)) same c.in-Ok-load.ensures.sources) left.1 left.2

pub returns-in-Ok-load-clause-comes : goal.returns-in-Ok-load-clause-comes
returns-in-Ok-load-clause-comes g c = λ out. wants c.args.path.now (g.S.Store.held c.args.store.now) (Run c.args.turns out c.args.exclude.now)

pub returns-in_default-clause-comes : goal.returns-in_default-clause-comes
returns-in_default-clause-comes g c = λ out. wants c.args.path.now (g.S.Store.held c.args.store.now) (Run c.args.turns out c.args.exclude.now)

pub returns-clause-comes : goal.returns-clause-comes
returns-clause-comes g c = λ out.
    let same : map (string_bytes {Z = Global}) c.as_slice.result.now ≡ c.args.exclude.now = search rules in
    uncounted (subst (λ patterns. Loaded (g.S.Store.held c.args.store.now) c.args.path.now patterns (Err c.in-Err.fault)) same c.in-Err.ensures.fault)
