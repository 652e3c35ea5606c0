-- The members so far.
use Rattle.std.proofs.Common.{◌≡◌}
use Rattle.js_tree.specs.Tree.{plain_properties}
use Rattle.cov_object.specs.private.Order.{members_of}
use Rattle.cov_object.proofs.OrderLemmas.{by_bytes}
use Rattle.cov_rewritten.specs.Preamble.{literal_members}
use Rattle.cov_preamble.proofs.zero.all_descriptions.Given as goal

abbrev pub invariant-loop-id : goal.invariant-loop-id
invariant-loop-id g l = plain_properties l.members ≡ literal_members (members_of g.T.Told.description (by_bytes l.yielded))
