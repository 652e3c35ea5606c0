-- The first file and the others are all.
use Rattle.std.proofs.Common.{◌≡◌, ◌++◌, ◌∷◌, [], OnOk, subst}
use Rattle.cov_base.specs.Sink.{after_more, TakesPrefix}
use Rattle.cov_object.specs.Json.{json_text}
use Rattle.cov_report.proofs.Texts.{first_and_others}
use Rattle.cov_report.proofs.json_report.put_files.Goals as goal

pub returns-in-len1-up-clause-all : goal.returns-in-len1-up-clause-all
returns-in-len1-up-clause-all g c =
    subst (λ files. OnOk c.put_members.result (g.S.Sink.taken c.put_members.new.sink ≡ after_more (g.S.Sink.taken c.args.sink.now) (json_text files ++ 10 ∷ [])))
    (first_and_others c.args.files.now c.first-item.result c.in-len1-up.len_at_least c.first-item.is) c.put_members.ensures.all

pub returns-in-len1-up-clause-prefix : goal.returns-in-len1-up-clause-prefix
returns-in-len1-up-clause-prefix g c =
    subst (λ files. TakesPrefix (g.S.Sink.taken c.args.sink.now) (g.S.Sink.taken c.put_members.new.sink) (json_text files ++ 10 ∷ []))
    (first_and_others c.args.files.now c.first-item.result c.in-len1-up.len_at_least c.first-item.is) c.put_members.ensures.prefix
