use Rattle.std.proofs.Common.{◌≡◌, ◌+◌, take, drop, map, IfOk, IfErr, [], ◌∷◌, ◌++◌, sym, subst, rules}
use Rattle.std.specs.List.{AllZip}
use Rattle.std.proofs.lemmas.List.{map-append, take_all}
use Rattle.js_tree.specs.Plain as plain
use Rattle.js_meaning.specs.Program as program
use Rattle.js_scopes.specs.Accepted.{Accepted}
use Rattle.cov_sources.specs.Refused.{IsRefused}
use Rattle.cov_sim.proofs.Lists.{taken, split_at}
use Rattle.cov_run.specs.Session.{IsCounting}
use Rattle.cov_run.proofs.Counting.{are_accepted}
use Rattle.cov_run.proofs.Sources.{both_zip}
use Rattle.cov_run.proofs.sessions.files_of.Goals as goal

pub loop-source-init : goal.loop-source-init
loop-source-init c = subst (λ files. AllZip IsCounting (take 0 c.args.sources.now) (map program.source_of files)) (sym c.new-files.ensures) tt

pub loop-source-preserved : goal.loop-source-preserved
loop-source-preserved c =
    let l = c.loop-source in
    let source = c.source-item.result in
    let file = c.in-Ok.file in
    let here : IsCounting source (program.source_of file) = subst (λ answer. IfOk answer (λ file. IsCounting source (program.source_of file))) c.in-Ok.is c.in_ok-file.ensures.file in
    let pushed : c.push.new.self ≡ l.files ++ file ∷ [] = search rules in
    let more = both_zip IsCounting (take l.source-index c.args.sources.now) (map program.source_of l.files) source (program.source_of file) l.invariant here in
    subst (λ files. AllZip IsCounting (take (l.source-index + 1) c.args.sources.now) (map program.source_of files)) (sym pushed)
    (subst (λ sources. AllZip IsCounting sources (map program.source_of (l.files ++ file ∷ []))) (sym (taken c.args.sources.now l.source-index source c.loop-source-test.true c.source-item.is))
    (subst (λ files. AllZip IsCounting (take l.source-index c.args.sources.now ++ source ∷ []) files) (sym (map-append program.source_of l.files (file ∷ []))) more))

pub returns-in-Err-clause-fault : goal.returns-in-Err-clause-fault
returns-in-Err-clause-fault c =
    let l = c.loop-source in
    let source = c.source-item.result in
    let refused : IsRefused c.in-Err.why source.bytes = subst (λ answer. IfErr answer (λ why. IsRefused why source.bytes)) c.in-Err.is c.in_ok-file.ensures.refused in record {
      before = take l.source-index c.args.sources.now;
      source = source;
      after = drop (l.source-index + 1) c.args.sources.now;
      split = split_at c.args.sources.now l.source-index source c.loop-source-test.true c.source-item.is;
      accepted = are_accepted (take l.source-index c.args.sources.now) (map program.source_of l.files) l.invariant;
      here = search rules;
      refused = refused;
      no_source = subst (λ answer. IfErr answer (λ why. (tree : plain.File) → Accepted source.bytes tree → ⊥)) c.in-Err.is c.in_ok-file.ensures.no_source;
    }

pub returns-clause-files : goal.returns-clause-files
returns-clause-files c =
    let l = c.loop-source in
    subst (λ sources. AllZip IsCounting sources (map program.source_of l.files)) (take_all l.source-index c.args.sources.now c.loop-source-test.false) l.invariant
