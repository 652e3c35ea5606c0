use Rattle.js_value.proofs.LookupLemmas.{looked_up, looked_out, finds_again, assign_shows, get_none, put_new, put_old, grown_more}
use Rattle.js_value.proofs.IndexLemmas.{index_read, keys_differ, element_got}
use Rattle.js_value.proofs.lookups.lookups_hold.Goals as goal

pub returns-clause-up : goal.returns-clause-up
returns-clause-up c = looked_up

pub returns-clause-out : goal.returns-clause-out
returns-clause-out c = looked_out

pub returns-clause-again : goal.returns-clause-again
returns-clause-again c = finds_again

pub returns-clause-assigned : goal.returns-clause-assigned
returns-clause-assigned c = assign_shows

pub returns-clause-none : goal.returns-clause-none
returns-clause-none c = get_none

pub returns-clause-new : goal.returns-clause-new
returns-clause-new c = put_new

pub returns-clause-old : goal.returns-clause-old
returns-clause-old c = put_old

pub returns-clause-grown : goal.returns-clause-grown
returns-clause-grown c = grown_more

pub returns-clause-index : goal.returns-clause-index
returns-clause-index c = index_read

pub returns-clause-indices : goal.returns-clause-indices
returns-clause-indices c = keys_differ

pub returns-clause-element : goal.returns-clause-element
returns-clause-element c = element_got
