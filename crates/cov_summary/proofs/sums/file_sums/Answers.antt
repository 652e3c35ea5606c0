use Rattle.std.proofs.Common.{sym, ap, ◌∙◌, subst}
use Rattle.std.proofs.lemmas.Result.{IfOk-weaker}
use Rattle.cov_summary.specs.Sums.{with_file, AreExact}
use Rattle.cov_summary.proofs.Exact.{exact-own}
use Rattle.cov_summary.proofs.sums.file_sums.Goals as goal

pub returns-clause-exact : goal.returns-clause-exact
returns-clause-exact c = IfOk-weaker c.with_file.result _ _ (λ sums e. subst AreExact (sym (e ∙ ap (λ none. with_file none c.args.file.now) c.none.ensures)) (exact-own c.args.file.now)) c.with_file.ensures
