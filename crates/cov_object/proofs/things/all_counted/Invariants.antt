-- The things that were counted, before those that are left, are all.
use Rattle.std.proofs.Common.{◌≡◌, ◌≤◌, drop, length}
use Rattle.std.specs.Vec.Iter.{into_iter_items, into_iter_len}
use Rattle.cov_object.specs.Read as spec
use Rattle.cov_object.proofs.ReadLemmas.{before}
use Rattle.cov_object.proofs.things.all_counted.Given as goal

abbrev pub invariant-loop-id : goal.invariant-loop-id
invariant-loop-id g l = record {
  rest : before l.counted.items (spec.all_counted g.T.Described.counted (into_iter_items l.id-iterator) (drop l.place l.counts))
      ≡ spec.all_counted g.T.Described.counted l.fn.things.items l.counts;
  many : into_iter_len l.id-iterator ≡ length (into_iter_items l.id-iterator);
  within : l.place ≤ length l.counts;
}
