use Rattle.std.proofs.Common.{◌≡◌, Ok, Err, IfOk, subst, rules}
use Rattle.cov_sim.specs.Headline.{HavePaths, HaveTexts, Simulates}
use Rattle.cov_sim.specs.Instrumented.{AreInstrumented}
use Rattle.cov_sim.proofs.instrumenting.instrument_all.Goals as goal

pub returns-clause-simulates : goal.returns-clause-simulates
returns-clause-simulates c =
    let same : c.as_slice-slice.result.now ≡ c.args.sources.now.items = search rules in
    let kept = subst HaveTexts same c.look_at_inputs.ensures in
    elim c.all_of.result as (λ r. IfOk r (λ list. AreInstrumented c.args.sources.now.items list.items) → IfOk r (λ list. HavePaths c.args.sources.now.items → Simulates c.args.sources.now.items list.items)) [
      | Ok list ↦ λ texts paths. c.simulating.ensures _ list.items paths kept texts
      | Err fault ↦ λ none. tt
    ] (subst (λ sources. IfOk c.all_of.result (λ list. AreInstrumented sources list.items)) same c.all_of.ensures.texts)
