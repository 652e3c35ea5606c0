use Rattle.std.proofs.Common.{◌∙◌, ℕ, Vec, Global, ap, sym}
use Rattle.cov_commands.proofs.LineLemmas.{line-Going}
use Rattle.cov_commands.proofs.line.going_line.Goals as goal

pub returns : goal.returns
returns c = ap (λ (bytes : Vec ℕ Global). bytes.items) c.into_bytes.ensures.value ∙ c.in_ok-format.ensures.ok ∙ sym (line-Going c.args.turns)
