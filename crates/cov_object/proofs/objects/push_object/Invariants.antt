-- With the members that are left, the text is the whole.
use Rattle.std.proofs.Common.{◌≡◌, ◌++◌, drop, nat_lt}
use Rattle.serde_json.specs.Data.{object}
use Rattle.serde_json.specs.Written.{compact_text, members_text}
use Rattle.cov_object.specs.private.Order.{members_of}
use Rattle.cov_object.proofs.OrderLemmas.{by_bytes}
use Rattle.cov_object.proofs.objects.push_object.Given as goal

abbrev pub invariant-loop-place : goal.invariant-loop-place
invariant-loop-place g l =
    l.out.items ++ members_text (nat_lt 0 l.place) (members_of (g.T.Counted.json l.part) (by_bytes (drop l.place l.sorted)))
    ≡ l.fn.out.items ++ compact_text (object (members_of (g.T.Counted.json l.part) (by_bytes l.sorted)))
