-- What stands before the files, the files, and what stands after them.
use Rattle.std.proofs.Common.{◌∙◌, map, ap, subst}
use Rattle.cov_base.specs.Sink.{TakesPrefix}
use Rattle.cov_report.proofs.Texts.{table_is}
use Rattle.cov_report.proofs.table.text_to.Goals as goal

pub returns-clause-prefix : goal.returns-clause-prefix
returns-clause-prefix g c =
    subst (TakesPrefix (g.S.Sink.taken c.args.sink.now) (g.S.Sink.taken c.put_report.new.sink))
    (table_is c.args.map.now (map (λ file. file.now) c.as_slice.result.now) c.width_of-width.result c.deref.result.now c.deref-2.result.now c.width_of-width.ensures
    (c.deref.ensures.value ∙ c.in_ok-start.ensures) (ap (map (λ file. file.now)) c.as_slice.ensures.value ∙ c.in_ok-files.ensures.files) (c.deref-2.ensures.value ∙ c.in_ok-end.ensures))
    c.put_report.ensures.prefix
