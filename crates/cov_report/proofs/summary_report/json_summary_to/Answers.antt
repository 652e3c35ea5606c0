-- What stands before the files, the files, and what stands after them.
use Rattle.std.proofs.Common.{◌≡◌, ◌∙◌, ◌++◌, OnOk, map, ap, subst, codes}
use Rattle.std.specs.List.{flat_map}
use Rattle.cov_base.specs.Sink.{after_more, TakesPrefix}
use Rattle.cov_summary.specs.Sums.{file_sums}
use Rattle.cov_report.specs.JsonSummary.{file_text, json_summary_text}
use Rattle.cov_report.proofs.Texts.{summary_is}
use Rattle.cov_report.proofs.summary_report.json_summary_to.Given.{Over}
use Rattle.cov_report.proofs.summary_report.json_summary_to.Goals as goal

whole : (g : Over) (c : goal.After-drop-start-2 g) → c.deref.result.now ++ (flat_map (λ file. file_text (file_sums file)) (map (λ file. file.now) c.as_slice.result.now) ++ codes "}\n") ≡ json_summary_text c.args.map.now
whole g c = summary_is c.args.map.now (map (λ file. file.now) c.as_slice.result.now) c.deref.result.now (c.deref.ensures.value ∙ c.in_ok-start.ensures) (ap (map (λ file. file.now)) c.as_slice.ensures.value ∙ c.in_ok-files.ensures.files)

pub returns-clause-all : goal.returns-clause-all
returns-clause-all g c = subst (λ text. OnOk c.put_report.result (g.S.Sink.taken c.put_report.new.sink ≡ after_more (g.S.Sink.taken c.args.sink.now) text)) (whole g c) c.put_report.ensures.all

pub returns-clause-prefix : goal.returns-clause-prefix
returns-clause-prefix g c = subst (TakesPrefix (g.S.Sink.taken c.args.sink.now) (g.S.Sink.taken c.put_report.new.sink)) (whole g c) c.put_report.ensures.prefix
