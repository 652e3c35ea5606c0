use Rattle.js_code.proofs.Reading.{push_holds, push_kept}
use Rattle.js_code.proofs.compiling.push.Goals as goal

pub invariant_of-code : goal.invariant_of-code
invariant_of-code c =
    let h = push_holds c.args.code.now c.code.inside.nodes c.code.inside.functions c.code.inside.wanting c.code.view_is c.push.new.self c.args.node c.in-Ok.ensures.ok
    c.if-code.false c.code.invariant.0 c.code.invariant.1 c.requires.below c.requires.scope in
    (h.0, h.1, c.code.invariant.2)

pub returns-in-Ok : goal.returns-in-Ok
returns-in-Ok c =
    push_kept c.args.code.now c.code.inside.nodes c.code.inside.functions c.code.inside.wanting c.code.view_is c.push.new.self c.args.node c.len-place.result c.in-Ok.ensures.ok
    c.len-place.ensures c.code.invariant.0 c.requires.below
