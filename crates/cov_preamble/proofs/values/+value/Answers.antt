use Rattle.std.proofs.Common.{[], ◌∷◌, ◌++◌, None, sym, ap, ◌∙◌, append_assoc, append-nil}
use Rattle.serde_json.specs.View.{view, members_view}
use Rattle.js_tree.specs.Plain.{ObjectLiteral}
use Rattle.js_tree.specs.Tree.{plain_expr, plain_exprs, plain_properties}
use Rattle.js_tree.proofs.Equations.{exprs_push}
use Rattle.cov_rewritten.specs.Preamble.{literal_members}
use Rattle.cov_preamble.proofs.Members.{element_more}
use Rattle.cov_preamble.proofs.Entries.{Entry, entry_more}
use Rattle.cov_preamble.proofs.values.+value.Goals as goal

pub values-loop-item-preserved : goal.values-loop-item-preserved
values-loop-item-preserved t c =
    element_more view c.args.items.now c.loop-item.item-index c.item-item.result (plain_exprs c.loop-item.list) (plain_exprs c.push.new.self) (plain_expr c.in_ok-spelled.spelled)
    c.loop-item-test.true c.item-item.is c.loop-item.invariant (ap plain_exprs c.in_ok-push.ensures.ok ∙ exprs_push c.loop-item.list c.in_ok-spelled.spelled) c.in_ok-spelled.ensures

pub members_of-loop-key-preserved : goal.members_of-loop-key-preserved
members_of-loop-key-preserved t c =
    let l = c.loop-key in
    let e : Entry = (c.in-Some.key.now, c.in-Some.entry.now) in
    let done = l.invariant.0 in (
      done ++ e ∷ [],
      append_assoc done (e ∷ []) c.next.new.self ∙ ap (λ es. done ++ es) (sym c.in-Some.ensures.steps) ∙ l.invariant.1,
      entry_more done e (plain_properties l.members) (plain_properties c.put.new.members) c.as_str.result.now (plain_expr c.in_ok-spelled.spelled)
          l.invariant.2 c.in_ok-put.ensures c.as_str.ensures.value c.in_ok-spelled.ensures,
    )

pub members_of-returns : goal.members_of-returns
members_of-returns t c =
    let l = c.loop-key in
    let all = sym (append-nil l.invariant.0) ∙ ap (λ es. l.invariant.0 ++ es) (sym c.in-None.ensures.steps.0) ∙ l.invariant.1 in
    c.object.ensures ∙ ap (ObjectLiteral None) (l.invariant.2 ∙ ap (λ es. literal_members (members_view es)) all)
