use Rattle.std.proofs.Common.{◌∙◌, ℕ, Vec, Global, ap, sym}
use Rattle.cov_commands.proofs.LineLemmas.{line-NotUtf8}
use Rattle.cov_commands.proofs.line.not_utf8_line.Goals as goal

pub returns : goal.returns
returns c = ap (λ (bytes : Vec ℕ Global). bytes.items) c.into_bytes.ensures.value ∙ c.in_ok-format.ensures.ok ∙ sym (line-NotUtf8 c.args.path.now c.args.at)
