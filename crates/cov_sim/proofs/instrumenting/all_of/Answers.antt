use Rattle.std.proofs.Common.{◌+◌, take, drop, IfOk, IfErr, sym, subst, rules}
use Rattle.std.proofs.lemmas.List.{take_all}
use Rattle.js_tree.specs.Tree.{plain_file}
use Rattle.js_scopes.specs.Accepted.{Accepted}
use Rattle.cov_sources.specs.Refused.{IsRefused}
use Rattle.cov_sim.specs.Instrumented.{with_text, AreInstrumented, none}
use Rattle.cov_sim.proofs.Lists.{one_more, taken, all_accepted, split_at}
use Rattle.cov_sim.proofs.instrumenting.all_of.Goals as goal

pub loop-source-init : goal.loop-source-init
loop-source-init c = subst (λ list. AreInstrumented (take 0 c.args.sources.now) list) (sym c.new-list.ensures.items) none

pub loop-source-preserved : goal.loop-source-preserved
loop-source-preserved c =
    let l = c.loop-source in
    let source = c.source-item.result in
    let accepted : Accepted source.bytes (plain_file c.in-Ok.file) = subst (λ answer. IfOk answer (λ file. Accepted source.bytes (plain_file file))) c.in-Ok.is c.in_ok-file.ensures.accepted in
    let more = one_more source (plain_file c.in-Ok.file) c.in_ok-text-in-Ok.text l.invariant accepted c.in_ok-text-in-Ok.ensures in
    subst (λ list. AreInstrumented (take (l.source-index + 1) c.args.sources.now) list) (sym c.in_ok-add-in-Ok.ensures)
    (subst (λ sources. AreInstrumented sources (with_text source c.in_ok-text-in-Ok.text l.list.items)) (sym (taken c.args.sources.now l.source-index source c.loop-source-test.true c.source-item.is)) more)

pub returns-in-Err-clause-refused : goal.returns-in-Err-clause-refused
returns-in-Err-clause-refused c = λ other.
    let l = c.loop-source in
    let source = c.source-item.result in
    let refused : IsRefused c.in-Err.why source.bytes = subst (λ answer. IfErr answer (λ why. IsRefused why source.bytes)) c.in-Err.is c.in_ok-file.ensures.refused in record {
      before = take l.source-index c.args.sources.now;
      source = source;
      after = drop (l.source-index + 1) c.args.sources.now;
      split = split_at c.args.sources.now l.source-index source c.loop-source-test.true c.source-item.is;
      accepted = all_accepted l.invariant;
      here = search rules;
      refused = refused;
      no_source = subst (λ answer. IfErr answer (λ why. (tree : _) → Accepted source.bytes tree → ⊥)) c.in-Err.is c.in_ok-file.ensures.no_source;
    }

pub returns : goal.returns
returns c =
    let l = c.loop-source in
    record { texts = subst (λ sources. AreInstrumented sources l.list.items) (take_all l.source-index c.args.sources.now c.loop-source-test.false) l.invariant; refused = tt }
