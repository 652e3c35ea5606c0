use Rattle.std.proofs.Common.{ap, ◌∙◌}
use Rattle.std.proofs.lemmas.Result.{IfOk-weaker}
use Rattle.serde_json.specs.View.{view}
use Rattle.cov_object.specs.private.ByMember.{file_told}
use Rattle.cov_object.proofs.ByMember.{file-told}
use Rattle.cov_object.proofs.by_file.answer_of.Goals as goal

pub returns : goal.returns
returns c =
    IfOk-weaker c.answer_of_parts.result _ _
    (λ answer told. told ∙ ap (file_told c.args.key.now) c.in_ok-parts.ensures ∙ file-told c.args.key.now (view c.args.value.now))
    c.answer_of_parts.ensures
