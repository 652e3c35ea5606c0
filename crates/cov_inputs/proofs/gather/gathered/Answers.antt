-- Each file is the next of those that are named.
use Rattle.std.proofs.Common.{◌≡◌, ◌∙◌, ◌++◌, ◌∷◌, [], ◌+◌, get_or, take, drop, sym, ap, subst, arith, take-append-drop}
use Rattle.std.specs.Prelude.{Ok, Err}
use Rattle.std.proofs.lemmas.List.{at_drop_more, take_more}
use Rattle.cov_inputs.specs.Inputs.{HaveSums, IsCause}
use Rattle.cov_inputs.specs.private.Answer.{AnswersAt}
use Rattle.cov_inputs.proofs.Steps.{goes_on, stops}
use Rattle.cov_inputs.proofs.gather.gathered.Goals as goal

pub returns-in-Err-clause-fault : goal.returns-in-Err-clause-fault
returns-in-Err-clause-fault g c =
    let files = c.args.files.now in
    let i = c.loop-file.file-index in
    let item = c.file-item.result in
    let path : c.as_str.result.now ≡ get_or files i item = c.as_str.ensures ∙ c.file-item.is in
    let all : take i files ++ c.as_str.result.now ∷ drop (i + 1) files ≡ files =
    ap (λ p. take i files ++ p ∷ drop (i + 1) files) path ∙ sym (at_drop_more (λ rest. take i files ++ rest) files i item c.loop-file-test.true) ∙ take-append-drop i files in
    subst (λ names. IsCause (g.S.Store.held c.args.store.now) names c.in-Err.fault) all
    (stops (g.S.Store.held c.args.store.now) (take i files) (drop (i + 1) files) c.as_str.result.now c.loop-file.sums c.in-Err.fault c.loop-file.invariant.have
    (subst (λ held. AnswersAt held c.loop-file.sums c.as_str.result.now (Err c.in-Err.fault)) c.loop-file.invariant.held c.in-Err.ensures.answers))

pub loop-file-preserved : goal.loop-file-preserved
loop-file-preserved g c = record {
  have =
      let files = c.args.files.now in
      let i = c.loop-file.file-index in
      let item = c.file-item.result in
      let path : c.as_str.result.now ≡ get_or files i item = c.as_str.ensures ∙ c.file-item.is in
      subst (λ names. HaveSums (g.S.Store.held c.args.store.now) names c.in-Ok.next)
      (ap (λ p. take i files ++ p ∷ []) path ∙ sym (take_more files i item c.loop-file-test.true))
      (goes_on (g.S.Store.held c.args.store.now) (take i files) c.as_str.result.now c.loop-file.sums c.in-Ok.next c.loop-file.invariant.have
      (subst (λ held. AnswersAt held c.loop-file.sums c.as_str.result.now (Ok c.in-Ok.next)) c.loop-file.invariant.held c.in-Ok.ensures.answers));
  again = c.in-Ok.ensures.merged;
  later = omega (arith, c.in-Ok.ensures.later, c.loop-file.invariant.later);
  held = c.in-Ok.ensures.unchanged ∙ c.loop-file.invariant.held;
  puts = c.in-Ok.ensures.puts ∙ c.loop-file.invariant.puts;
}
