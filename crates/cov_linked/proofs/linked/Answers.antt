use Rattle.cov_linked.proofs.Files.{links_any_numbers, links_rewritten}
use Rattle.cov_linked.proofs.Pieces.{links_preamble, links_counters}
use Rattle.cov_linked.proofs.linked.Goals as goal

pub returns-clause-numbers : goal.returns-clause-numbers
returns-clause-numbers c = links_any_numbers

pub returns-clause-rewritten : goal.returns-clause-rewritten
returns-clause-rewritten c = links_rewritten

pub returns-clause-preamble : goal.returns-clause-preamble
returns-clause-preamble c = links_preamble

pub returns-clause-counters : goal.returns-clause-counters
returns-clause-counters c = links_counters
