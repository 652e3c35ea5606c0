use Rattle.std.proofs.Common.{◌∙◌, sym, ap}
use Rattle.js_tree.specs.Tree.{plain_expr}
use Rattle.js_build.specs.View.{plain_pieces}
use Rattle.js_build.proofs.CallableLaws.{initializer_after, initializer_first, with_end}
use Rattle.js_build.proofs.callables.initializer_after.Goals as goal

pub returns-in-None-clause-read : goal.returns-in-None-clause-read
returns-in-None-clause-read c = sym (initializer_first c.args.next (plain_pieces c.args.pieces.now) ∙ ap (λ m. initializer_after m (plain_pieces c.args.pieces.now)) (sym c.in-None.ensures))

pub returns-in-Some-None-clause-read : goal.returns-in-Some-None-clause-read
returns-in-Some-None-clause-read c = sym (initializer_first c.args.next (plain_pieces c.args.pieces.now) ∙ ap (λ m. initializer_after m (plain_pieces c.args.pieces.now)) (sym (rw c.in-Some-None.field-0-is at c.in-Some-None.ensures)))

pub returns-in-None-take_place-clause-read : goal.returns-in-None-take_place-clause-read
returns-in-None-take_place-clause-read c = sym (initializer_first c.args.next (plain_pieces c.args.pieces.now) ∙ (ap (λ m. initializer_after m (plain_pieces c.args.pieces.now)) (sym (rw c.in-Some-Some.field-0-is at c.in-Some-Some.ensures)) ∙ ap (with_end (plain_expr c.in-Some-Some.value.tree)) (sym c.in-None-take_place.ensures.read)))

pub returns-in-Some-clause-read : goal.returns-in-Some-clause-read
returns-in-Some-clause-read c = sym (initializer_first c.args.next (plain_pieces c.args.pieces.now) ∙ (ap (λ m. initializer_after m (plain_pieces c.args.pieces.now)) (sym (rw c.in-Some-Some.field-0-is at c.in-Some-Some.ensures)) ∙ ap (with_end (plain_expr c.in-Some-Some.value.tree)) (sym c.in-Some.ensures.read)))

pub returns-in-None-take_place-clause-shorter : goal.returns-in-None-take_place-clause-shorter
returns-in-None-take_place-clause-shorter c = c.in-None-take_place.ensures.shorter

pub returns-in-Some-clause-shorter : goal.returns-in-Some-clause-shorter
returns-in-Some-clause-shorter c = c.in-Some.ensures.shorter
