use Rattle.std.proofs.Common.{take, sym, subst}
use Rattle.std.proofs.lemmas.List.{take_all}
use Rattle.cov_sim.specs.Headline.{HaveTexts}
use Rattle.cov_sim.proofs.Lists.{taken, texts_push}
use Rattle.cov_sim.proofs.instrumenting.look_at_inputs.Goals as goal

pub loop-source-init : goal.loop-source-init
loop-source-init c = tt

pub loop-source-preserved : goal.loop-source-preserved
loop-source-preserved c =
    let l = c.loop-source in
    let source = c.source-item.result in
    subst HaveTexts (sym (taken c.args.sources.now l.source-index source c.loop-source-test.true c.source-item.is))
    (texts_push (take l.source-index c.args.sources.now) source l.invariant c.look_at_input.ensures)

pub returns : goal.returns
returns c =
    let l = c.loop-source in
    subst HaveTexts (take_all l.source-index c.args.sources.now c.loop-source-test.false) l.invariant
