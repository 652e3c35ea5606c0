use Rattle.cov_merge.specs.Kinds.{statements, functions, branches}
use Rattle.cov_merge.proofs.LawsLemmas.{is_summed, has_their_keys, has_each_once, sums_alone}
use Rattle.cov_merge.proofs.KindsLemmas.{statements_sound, functions_sound, branches_sound}
use Rattle.cov_merge.proofs.laws.each_key.Goals as goal

pub returns-clause-summed : goal.returns-clause-summed
returns-clause-summed c = (is_summed statements statements_sound, is_summed functions functions_sound, is_summed branches branches_sound)

pub returns-clause-keys : goal.returns-clause-keys
returns-clause-keys c = (has_their_keys statements statements_sound, has_their_keys functions functions_sound, has_their_keys branches branches_sound)

pub returns-clause-once : goal.returns-clause-once
returns-clause-once c = (has_each_once statements statements_sound, has_each_once functions functions_sound, has_each_once branches branches_sound)

pub returns-clause-alone : goal.returns-clause-alone
returns-clause-alone c = (sums_alone statements statements_sound, sums_alone functions functions_sound, sums_alone branches branches_sound)
