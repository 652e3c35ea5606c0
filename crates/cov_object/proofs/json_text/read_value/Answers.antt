use Rattle.std.proofs.Common.{◌≡◌, ◌∙◌, IfOk, ap, subst}
use Rattle.std.specs.Option.{option_map}
use Rattle.serde_json.specs.Read.{read}
use Rattle.serde_json.specs.View.{view}
use Rattle.cov_object.proofs.ReadFiles.{json_of-text, json_of-none}
use Rattle.cov_object.proofs.json_text.read_value.Goals as goal

pub returns-in-Ok : goal.returns-in-Ok
returns-in-Ok c =
    let same : c.in-Ok.text.now ≡ c.args.bytes.now = c.in-Ok.ensures.cases.0 in
    subst (λ value. IfOk c.text_value.result (λ found. option_map view found ≡ value)) (ap read same ∙ json_of-text c.args.bytes.now c.in-Ok.ensures.cases.1) c.text_value.ensures

pub returns-in-Err : goal.returns-in-Err
returns-in-Err c = json_of-none c.args.bytes.now (λ text. absurd (c.in-Err.ensures.cases.0 text))
