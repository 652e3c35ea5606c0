use Rattle.cov_words.proofs.LawsLemmas.{maps_file, exec_file, exec_turns, no_turns, one_file, run_file, run_excluding, instrument_file, merge_file, report_file, check_files, v8_file, other_name}
use Rattle.cov_words.proofs.Within.{asks_within}
use Rattle.cov_words.proofs.laws.plain_words.Goals as goal

pub returns-clause-maps_file : goal.returns-clause-maps_file
returns-clause-maps_file c = maps_file

pub returns-clause-exec_file : goal.returns-clause-exec_file
returns-clause-exec_file c = exec_file

pub returns-clause-exec_turns : goal.returns-clause-exec_turns
returns-clause-exec_turns c = exec_turns

pub returns-clause-no_turns : goal.returns-clause-no_turns
returns-clause-no_turns c = no_turns

pub returns-clause-one_file : goal.returns-clause-one_file
returns-clause-one_file c = one_file

pub returns-clause-run_file : goal.returns-clause-run_file
returns-clause-run_file c = run_file

pub returns-clause-run_excluding : goal.returns-clause-run_excluding
returns-clause-run_excluding c = run_excluding

pub returns-clause-v8_file : goal.returns-clause-v8_file
returns-clause-v8_file c = v8_file

pub returns-clause-other_name : goal.returns-clause-other_name
returns-clause-other_name c = other_name

pub returns-clause-instrument_file : goal.returns-clause-instrument_file
returns-clause-instrument_file c = instrument_file

pub returns-clause-merge_file : goal.returns-clause-merge_file
returns-clause-merge_file c = merge_file

pub returns-clause-report_file : goal.returns-clause-report_file
returns-clause-report_file c = report_file

pub returns-clause-check_files : goal.returns-clause-check_files
returns-clause-check_files c = check_files

pub returns-clause-asks_within : goal.returns-clause-asks_within
returns-clause-asks_within c = asks_within
