-- Each turn puts one part more.
use Rattle.std.proofs.Common.{◌++◌, take, arith}
use Rattle.cov_base.specs.Pieces.{held_of}
use Rattle.cov_base.proofs.Moved.{prefix_none, put_cut, put_more}
use Rattle.cov_base.proofs.Taken.{split-more}
use Rattle.cov_base.proofs.pieces.Pieces.put.Goals as goal

pub returns-in_err-make_room-clause-prefix : goal.returns-in_err-make_room-clause-prefix
returns-in_err-make_room-clause-prefix g c =
    let so_far = c.loop-rest.invariant.1 in
    put_cut (held_of c.args.self.now) c.args.bytes.now c.loop-rest.invariant.0 c.loop-rest.rest.now (held_of c.loop-rest.self) _ _ _ so_far.split so_far.moved c.make_room.ensures.prefix

pub returns-in_err-extend_from_slice-clause-prefix : goal.returns-in_err-extend_from_slice-clause-prefix
returns-in_err-extend_from_slice-clause-prefix g c =
    let so_far = c.loop-rest.invariant.1 in
    put_cut (held_of c.args.self.now) c.args.bytes.now c.loop-rest.invariant.0 c.loop-rest.rest.now (held_of c.loop-rest.self) _ _ _ so_far.split so_far.moved c.make_room.ensures.prefix

pub loop-rest-preserved : goal.loop-rest-preserved
loop-rest-preserved g c =
    let so_far = c.loop-rest.invariant.1 in
    let done = c.loop-rest.invariant.0 in
    let some = take c.min-count.result c.loop-rest.rest.now in (
      done ++ some,
      record {
        split = split-more done c.loop-rest.rest.now _ c.min-count.result so_far.split;
        moved = put_more (held_of c.args.self.now) c.args.bytes.now done c.loop-rest.rest.now (held_of c.loop-rest.self) (g.S.Sink.taken c.args.sink.now) (g.S.Sink.taken c.loop-rest.sink) (g.S.Sink.taken c.make_room.new.sink)
            so_far.split so_far.moved c.make_room.new.held.items some c.extend_from_slice.new.self.items c.in_ok-make_room.ensures.moved c.in_ok-extend_from_slice.ensures.items;
        later = omega (arith, so_far.later, c.make_room.ensures.cause.later);
      },
    )

pub returns-clause-prefix : goal.returns-clause-prefix
returns-clause-prefix g c =
    let so_far = c.loop-rest.invariant.1 in
    put_cut (held_of c.args.self.now) c.args.bytes.now c.loop-rest.invariant.0 c.loop-rest.rest.now (held_of c.loop-rest.self) _ _ _ so_far.split so_far.moved (prefix_none _ _)
