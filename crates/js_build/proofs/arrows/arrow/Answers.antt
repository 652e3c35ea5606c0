use Rattle.std.proofs.Common.{Some, ◌∙◌, sym, ap}
use Rattle.std.specs.Option.{option_map}
use Rattle.js_tree.specs.Tree.{plain_exprs}
use Rattle.js_reading.specs.Makes.{arrow_of, params_of}
use Rattle.js_build.specs.Callables.{concise_view}
use Rattle.js_build.proofs.ArrowLaws.{arrow_without}
use Rattle.js_build.proofs.MadeAs.{makes_as}
use Rattle.js_build.proofs.arrows.arrow.Goals as goal

pub returns-in-None : goal.returns-in-None
returns-in-None c = makes_as c.nothing.result (ap (λ b. arrow_of c.args.place (params_of (plain_exprs c.args.list.items)) (option_map concise_view b)) c.in-None.is ∙ arrow_without c.args.place (params_of (plain_exprs c.args.list.items))) c.nothing.ensures

pub returns-in-None-2 : goal.returns-in-None-2
returns-in-None-2 c = makes_as c.nothing-in-None-2.result (ap (λ b. arrow_of c.args.place (params_of (plain_exprs c.args.list.items)) (option_map concise_view b)) c.in-Some.is ∙ ap (λ ps. arrow_of c.args.place ps (Some (concise_view c.in-Some.body))) (sym (rw c.in-None-2.is at c.in_ok-into_params-in-Some.ensures))) c.nothing-in-None-2.ensures

pub returns-in-Some-2 : goal.returns-in-Some-2
returns-in-Some-2 c = makes_as c.arrow_node.result (ap (λ b. arrow_of c.args.place (params_of (plain_exprs c.args.list.items)) (option_map concise_view b)) c.in-Some.is ∙ ap (λ ps. arrow_of c.args.place ps (Some (concise_view c.in-Some.body))) (sym (rw c.in-Some-2.is at c.in_ok-into_params-in-Some.ensures))) c.arrow_node.ensures
