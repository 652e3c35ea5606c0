use Rattle.js_meaning.proofs.Worked.{one_line, one_branch, nested_loop, second_file, computed_method, labelled_loop, not_hoisted, default_once, falls_through, chain}
use Rattle.js_meaning.proofs.rows.worked_rows.Goals as goal

pub returns-clause-one_line : goal.returns-clause-one_line
returns-clause-one_line c = one_line

pub returns-clause-one_branch : goal.returns-clause-one_branch
returns-clause-one_branch c = one_branch

pub returns-clause-nested_loop : goal.returns-clause-nested_loop
returns-clause-nested_loop c = nested_loop

pub returns-clause-second_file : goal.returns-clause-second_file
returns-clause-second_file c = second_file

pub returns-clause-computed_method : goal.returns-clause-computed_method
returns-clause-computed_method c = computed_method

pub returns-clause-labelled_loop : goal.returns-clause-labelled_loop
returns-clause-labelled_loop c = labelled_loop

pub returns-clause-not_hoisted : goal.returns-clause-not_hoisted
returns-clause-not_hoisted c = not_hoisted

pub returns-clause-default_once : goal.returns-clause-default_once
returns-clause-default_once c = default_once

pub returns-clause-falls_through : goal.returns-clause-falls_through
returns-clause-falls_through c = falls_through

pub returns-clause-chain : goal.returns-clause-chain
returns-clause-chain c = chain
