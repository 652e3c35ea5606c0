-- What stands before the other files, these, and what stands after them.
use Rattle.std.proofs.Common.{◌≡◌, ◌∙◌, ◌++◌, ◌∷◌, [], true, OnOk, map, subst}
use Rattle.std.specs.List.{flat_map}
use Rattle.cov_base.specs.Sink.{after_more, TakesPrefix}
use Rattle.cov_object.specs.Json.{file_member, json_text}
use Rattle.cov_report.proofs.Texts.{json_is}
use Rattle.cov_report.proofs.json_report.put_members.Given.{Over}
use Rattle.cov_report.proofs.json_report.put_members.Goals as goal

whole : (g : Over) (c : goal.After-drop-start g) →
    c.deref.result.now ++ (flat_map (file_member true) (map (λ file. file.now) c.args.others.now) ++ 125 ∷ 10 ∷ []) ≡ json_text (c.args.first.now ∷ map (λ file. file.now) c.args.others.now) ++ 10 ∷ []
whole g c = json_is c.args.first.now (map (λ file. file.now) c.args.others.now) c.deref.result.now (c.deref.ensures.value ∙ c.in_ok-start.ensures) c.requires

pub returns-clause-all : goal.returns-clause-all
returns-clause-all g c = subst (λ text. OnOk c.put_report.result (g.S.Sink.taken c.put_report.new.sink ≡ after_more (g.S.Sink.taken c.args.sink.now) text)) (whole g c) c.put_report.ensures.all

pub returns-clause-prefix : goal.returns-clause-prefix
returns-clause-prefix g c = subst (TakesPrefix (g.S.Sink.taken c.args.sink.now) (g.S.Sink.taken c.put_report.new.sink)) (whole g c) c.put_report.ensures.prefix
