-- All are formed where those that are left are.
use Rattle.std.proofs.Common.{drop}
use Rattle.cov_object.specs.private.Formed.{EachThing}
use Rattle.cov_object.proofs.formed.look_at_things.Given as goal

abbrev pub invariant-loop-id : goal.invariant-loop-id
invariant-loop-id g l = EachThing g.T.Formed.formed (drop l._id-index l.things) → EachThing g.T.Formed.formed l.things
