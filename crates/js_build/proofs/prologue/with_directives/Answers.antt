use Rattle.std.proofs.Common.{◌≡◌, ◌∙◌, ◌&&◌, true, sym, ap}
use Rattle.js_tree.specs.Height.{height_stmts}
use Rattle.js_tree.specs.Plain.{push_stmts}
use Rattle.js_tree.specs.Tree.{plain_stmt, plain_stmts}
use Rattle.js_tree.proofs.Equations.{stmts_push}
use Rattle.js_reading.specs.Makes as makes
use Rattle.js_reading.proofs.heights.Heights.{directives_same}
use Rattle.js_build.specs.Prologue.{directed_of, is_string_statement}
use Rattle.js_build.proofs.Directives.{and_true, and_false, directive_turn, directives_end, joined, rest}
use Rattle.js_build.proofs.prologue.with_directives.Goals.{then-prologue, else-prologue}
use Rattle.js_build.proofs.prologue.with_directives.Goals as goal

pub each-init : goal.each-init
each-init c = ap (λ items. joined (plain_stmts items) (rest true (plain_stmts c.new-left.result))) c.new-items.ensures ∙ ap (λ left. makes.with_directives (plain_stmts left)) (c.new-left.ensures ∙ c.into_vec.ensures)

pub each-preserved : goal.each-preserved
each-preserved c =
    let s = plain_stmt c.in-Some.statement in
    let xs = plain_stmts c.each.items in
    let after = plain_stmts c.next.new.self in
    let may : c.if-prologue.prologue ≡ c.each.prologue && is_string_statement s = elim c.if-prologue.branch [
      | then-prologue w ↦ and_true _ _ _ w.if-prologue.true (w.prologue-is ∙ w.may_direct-prologue.ensures)
      | else-prologue w ↦ and_false _ _ _ w.if-prologue.false (w.prologue-is ∙ w.if-prologue.false)
    ] in
    let made : plain_stmt c.in_ok-directed-in-Some.field-0 ≡ directed_of (c.each.prologue && is_string_statement s) s = c.in_ok-directed-in-Some.ensures ∙ ap (λ b. directed_of b s) may in
    let pushed : plain_stmts c.push.new.self ≡ push_stmts xs (plain_stmt c.in_ok-directed-in-Some.field-0) = ap plain_stmts c.in_ok-push-in-Some.ensures.ok ∙ stmts_push c.each.items c.in_ok-directed-in-Some.field-0 in
    ap (λ ys. joined ys (rest c.if-prologue.prologue after)) pushed
    ∙ ap (λ b. joined (push_stmts xs (plain_stmt c.in_ok-directed-in-Some.field-0)) (rest b after)) may
    ∙ directive_turn c.each.prologue xs (plain_stmt c.in_ok-directed-in-Some.field-0) s after (makes.with_directives (plain_stmts c.args.statements.items)) made (sym (ap (λ left. joined xs (rest c.each.prologue (plain_stmts left))) c.in-Some.ensures.next) ∙ c.each.invariant)

pub invariant_of-result : goal.invariant_of-result
invariant_of-result c =
    let made : plain_stmts c.each.items ≡ makes.with_directives (plain_stmts c.args.statements.items) = directives_end c.each.prologue (plain_stmts c.each.items) (plain_stmts c.each.left) (makes.with_directives (plain_stmts c.args.statements.items)) (ap plain_stmts c.in-None.ensures.next) c.each.invariant in
    record { height_exact = c.args.statements.height_exact ∙ sym (ap height_stmts made ∙ directives_same (plain_stmts c.args.statements.items)) }

pub returns : goal.returns
returns c = directives_end c.each.prologue (plain_stmts c.each.items) (plain_stmts c.each.left) (makes.with_directives (plain_stmts c.args.statements.items)) (ap plain_stmts c.in-None.ensures.next) c.each.invariant
