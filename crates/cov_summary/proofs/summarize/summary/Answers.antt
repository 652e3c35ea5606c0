use Rattle.std.proofs.Common.{◌≡◌, ℕ, List, ◌++◌, ◌∷◌, [], map, fold, sym, ap, ◌∙◌, subst}
use Rattle.std.specs.List.{All}
use Rattle.std.proofs.lemmas.Iterator.Consumers.{YieldsList-from_rest, YieldsList-end}
use Rattle.cov_summary.specs.declared.sums.FileSums.{FileSums}
use Rattle.cov_summary.specs.declared.sums.Summary.{Summary}
use Rattle.cov_summary.specs.declared.sums.Sums.{Sums}
use Rattle.cov_summary.specs.Sums.{with_file, no_sums, file_sums, AreExact}
use Rattle.cov_summary.proofs.Exact.{exact-all, exact-each, fold-more, now_more, map-more}
use Rattle.cov_summary.proofs.summarize.summary.Goals as goal

abbrev summed : Sums → List FileSums → Summary
summed total files = record { total = total; files = files }

abbrev beside : List ℕ → Sums → FileSums
beside path sums = record { path = path; sums = sums }

pub loop-file-preserved : goal.loop-file-preserved
loop-file-preserved c =
    let so_far = c.loop-file.invariant in
    let files = map (λ file. file.now) c.loop-file.yielded in
    let file = c.in-Some.file.now in
    let made : beside c.in_ok-from_str.field-0 c.in_ok-file_sums.field-0 ≡ file_sums file =
    ap (λ path. beside path c.in_ok-file_sums.field-0) (c.in_ok-from_str.ensures ∙ c.as_str.ensures) ∙ ap (beside file.path) c.in_ok-file_sums.ensures.value in
    let more = now_more c.loop-file.yielded c.in-Some.file in
    record {
      total = c.in_ok-total.ensures ∙ ap (λ total. with_file total file) so_far.total ∙ sym (fold-more no_sums files file) ∙ ap (fold with_file no_sums) (sym more);
      files = c.in_ok-push.ensures.ok ∙ ap (λ sums. c.loop-file.files ++ sums ∷ []) made ∙ ap (λ all. all ++ file_sums file ∷ []) so_far.files
          ∙ sym (map-more file_sums files file) ∙ ap (map file_sums) (sym more);
    }

-- all files have come
pub all : (c : goal.In-None) → map (λ file. file.now) c.loop-file.yielded ≡ c.args.map.now
all c =
    (YieldsList-end (YieldsList-from_rest {s = c.into_iter-file-iterator.result} c.args.map.now cc) c.loop-file.yielded c.loop-file.file-iterator c.loop-file.yielded_by c.next.result c.next.new.self c.in-None.is c.next.ensures.steps).0

pub returns-clause-value : goal.returns-clause-value
returns-clause-value c =
    ap (λ (total : Sums). summed total c.loop-file.files) (c.loop-file.invariant.total ∙ ap (fold with_file no_sums) (all c))
    ∙ ap (summed (fold with_file no_sums c.args.map.now)) (c.loop-file.invariant.files ∙ ap (map file_sums) (all c))

pub returns-clause-exact : goal.returns-clause-exact
returns-clause-exact c = subst AreExact (sym (c.loop-file.invariant.total ∙ ap (fold with_file no_sums) (all c))) (exact-all c.args.map.now)

pub returns-clause-exact_each : goal.returns-clause-exact_each
returns-clause-exact_each c = subst (All (λ file. AreExact file.sums)) (sym (c.loop-file.invariant.files ∙ ap (map file_sums) (all c))) (exact-each c.args.map.now)
