use Rattle.cov_merge.proofs.MapsLemmas.{are_by_path, are_merged_once}
use Rattle.cov_merge.proofs.laws.each_path.Goals as goal

pub returns-clause-by_path : goal.returns-clause-by_path
returns-clause-by_path c = are_by_path

pub returns-clause-merged_again : goal.returns-clause-merged_again
returns-clause-merged_again c = are_merged_once
