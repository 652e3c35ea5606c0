use Rattle.std.proofs.Common.{◌≡◌, ◌∙◌, false, length, sym, ap, arith}
use Rattle.js_tree.specs.Height.{height_cases}
use Rattle.js_tree.specs.Plain.{push_cases}
use Rattle.js_tree.specs.Tree.{plain_case, plain_cases}
use Rattle.js_tree.proofs.Equations.{cases_push}
use Rattle.js_reading.specs.Makes.{cases_of}
use Rattle.js_build.specs.View.{plain_piece, plain_pieces}
use Rattle.js_build.proofs.ListLaws.{cases_all, cases_end, front_cases, max_push_cases}
use Rattle.js_build.proofs.Turns.{case_fails, case_refused, case_turn}
use Rattle.js_build.proofs.switches.cases.Goals as goal

pub each-preserved : goal.each-preserved
each-preserved c =
    let read = rw c.in-Some-2.is at c.in_ok-read_case-in-Some-place_of.ensures.read in
    let turn = case_turn c.each.defaulted c.in-Some-2.with_default (plain_cases c.each.items) (plain_case c.in-Some-2.made.tree) c.in-Some-place_of.opening (plain_piece c.in-Some.next) (plain_pieces c.next.new.self) (plain_pieces c.each.pieces) (plain_pieces c.read_case.new.pieces) _ (ap plain_pieces c.in-Some.ensures.next) c.in-Some-place_of.ensures read c.each.invariant.made in
    let pushed : plain_cases c.push.new.self ≡ push_cases (plain_cases c.each.items) (plain_case c.in-Some-2.made.tree) = ap plain_cases c.in_ok-push-in-Some-2.ensures.ok ∙ cases_push c.each.items c.in-Some-2.made.tree in
    let highest = ap height_cases pushed ∙ max_push_cases (plain_cases c.each.items) (plain_case c.in-Some-2.made.tree) in
    record {
      made = ap (λ cs. front_cases cs (cases_of c.in-Some-2.with_default (plain_pieces c.read_case.new.pieces))) pushed ∙ turn;
      high = omega (arith, highest, c.max-height.ensures, c.each.invariant.high, c.in-Some-2.made.height_exact);
    }

pub returns-in-None : goal.returns-in-None
returns-in-None c = sym (cases_all (plain_cases c.each.items)) ∙ (ap (front_cases (plain_cases c.each.items)) (sym (ap (λ ps. cases_of c.each.defaulted (plain_pieces ps)) c.in-None.ensures.next ∙ cases_end c.each.defaulted)) ∙ c.each.invariant.made)

pub returns-in-None-place_of : goal.returns-in-None-place_of
returns-in-None-place_of c = case_fails c.each.defaulted (plain_cases c.each.items) (plain_piece c.in-Some.next) (plain_pieces c.next.new.self) (plain_pieces c.each.pieces) _ (ap plain_pieces c.in-Some.ensures.next) c.in-None-place_of.ensures c.each.invariant.made

pub returns-in-None-2 : goal.returns-in-None-2
returns-in-None-2 c =
    let read = rw c.in-None-2.is at c.in_ok-read_case-in-Some-place_of.ensures.read in
    case_refused c.each.defaulted (plain_cases c.each.items) c.in-Some-place_of.opening (plain_piece c.in-Some.next) (plain_pieces c.next.new.self) (plain_pieces c.each.pieces) _ (ap plain_pieces c.in-Some.ensures.next) c.in-Some-place_of.ensures read c.each.invariant.made

pub each-init : goal.each-init
each-init c = record {
  made = ap (λ xs. front_cases (plain_cases xs) (cases_of false (plain_pieces c.args.pieces.now))) c.new-items.ensures;
  high = sym (ap (λ xs. height_cases (plain_cases xs)) c.new-items.ensures);
}

pub each-smaller : goal.each-smaller
each-smaller c = omega (arith, ap length c.in-Some.ensures.next, c.in_ok-read_case-in-Some-place_of.ensures.shorter)

pub invariant_of-result : goal.invariant_of-result
invariant_of-result c = record { height_exact = c.each.invariant.high }
