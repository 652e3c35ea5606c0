-- With the things that are left put in, the map has all.
use Rattle.std.proofs.Common.{◌≡◌, fold, drop}
use Rattle.cov_object.specs.private.Order.{put_in, in_key_order}
use Rattle.cov_object.proofs.OrderLemmas.{by_bytes}
use Rattle.cov_preamble.proofs.zero.in_digit_order.Given as goal

abbrev pub invariant-loop-id : goal.invariant-loop-id
invariant-loop-id g l = fold put_in (by_bytes l.sorted.entries) (drop l.id-index l.things) ≡ in_key_order l.things
