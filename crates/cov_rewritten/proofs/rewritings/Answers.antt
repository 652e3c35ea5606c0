use Rattle.cov_rewritten.proofs.DecimalKeys.{decimal_key}
use Rattle.cov_rewritten.proofs.JsonStrings.{json_string_is}
use Rattle.cov_rewritten.proofs.Laws.{keeps_printable, keeps_low, keeps_functions, first_functions}
use Rattle.cov_rewritten.proofs.Again.{rewrites_well}
use Rattle.cov_rewritten.proofs.Rules.{keeps_rules}
use Rattle.cov_rewritten.proofs.SameRules.{same_breaks_alike}
use Rattle.cov_rewritten.proofs.Values.{value_is, stands_low}
use Rattle.cov_rewritten.proofs.rewritings.Goals as goal

pub returns : goal.returns
returns c = record { rules = keeps_rules; printable = keeps_printable; low = keeps_low; functions = keeps_functions; first = first_functions; alike = same_breaks_alike; texts = json_string_is; values = value_is; keys = decimal_key; stands_low = stands_low; well = rewrites_well }
