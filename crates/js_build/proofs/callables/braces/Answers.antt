use Rattle.std.proofs.Common.{◌∙◌, sym, ap, arith}
use Rattle.js_tree.specs.Tree.{plain_stmts}
use Rattle.js_build.specs.View.{plain_pieces}
use Rattle.js_build.proofs.CallableLaws.{braces_after, braces_first, closed}
use Rattle.js_build.proofs.callables.braces.Goals as goal

pub returns-in-None-clause-read : goal.returns-in-None-clause-read
returns-in-None-clause-read c = sym (braces_first (plain_pieces c.args.pieces.now) ∙ ap braces_after (sym c.in-None.ensures.read))

pub returns-in-None-take_place-clause-read : goal.returns-in-None-take_place-clause-read
returns-in-None-take_place-clause-read c = sym (braces_first (plain_pieces c.args.pieces.now) ∙ (ap braces_after (sym c.in-Some.ensures.read) ∙ ap (closed (plain_stmts c.in-Some.statements.items)) (sym c.in-None-take_place.ensures.read)))

pub returns-in-Some-take_place-clause-read : goal.returns-in-Some-take_place-clause-read
returns-in-Some-take_place-clause-read c = sym (braces_first (plain_pieces c.args.pieces.now) ∙ (ap braces_after (sym c.in-Some.ensures.read) ∙ ap (closed (plain_stmts c.in-Some.statements.items)) (sym c.in-Some-take_place.ensures.read)))

pub returns-in-None-clause-shorter : goal.returns-in-None-clause-shorter
returns-in-None-clause-shorter c = c.in-None.ensures.shorter

pub returns-in-None-take_place-clause-shorter : goal.returns-in-None-take_place-clause-shorter
returns-in-None-take_place-clause-shorter c = omega (arith, c.in-Some.ensures.shorter, c.in-None-take_place.ensures.shorter)

pub returns-in-Some-take_place-clause-shorter : goal.returns-in-Some-take_place-clause-shorter
returns-in-Some-take_place-clause-shorter c = omega (arith, c.in-Some.ensures.shorter, c.in-Some-take_place.ensures.shorter)
