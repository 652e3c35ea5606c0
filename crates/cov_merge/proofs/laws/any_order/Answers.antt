use Rattle.cov_merge.specs.Kinds.{statements, functions, branches}
use Rattle.cov_merge.proofs.LawsLemmas.{is_order_free}
use Rattle.cov_merge.proofs.KindsLemmas.{statements_sound, functions_sound, branches_sound, statements_grouped, functions_grouped, branches_grouped, statements_again, functions_again, branches_again}
use Rattle.cov_merge.proofs.laws.any_order.Goals as goal

pub returns-clause-order : goal.returns-clause-order
returns-clause-order c = (is_order_free statements statements_sound, is_order_free functions functions_sound, is_order_free branches branches_sound)

pub returns-clause-grouping : goal.returns-clause-grouping
returns-clause-grouping c = (statements_grouped, functions_grouped, branches_grouped)

pub returns-clause-left_to_right : goal.returns-clause-left_to_right
returns-clause-left_to_right c = (statements_again, functions_again, branches_again)
