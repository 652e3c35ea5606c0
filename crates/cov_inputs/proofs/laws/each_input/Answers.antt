use Rattle.cov_remap.specs.Sent.{sending_statements, sending_functions, sending_branches}
use Rattle.cov_inputs.proofs.Told.{has_told}
use Rattle.cov_inputs.proofs.laws.each_input.Goals as goal

pub returns : goal.returns
returns c =
    let law = c.whole_way.ensures in
    (has_told law.kept law.once sending_statements law.runs.0, has_told law.kept law.once sending_functions law.runs.1, has_told law.kept law.once sending_branches law.runs.2)
