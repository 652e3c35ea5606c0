use Rattle.std.proofs.Common.{◌∙◌, sym, ap}
use Rattle.js_reading.specs.Makes.{template_of}
use Rattle.js_build.specs.View.{plain_pieces}
use Rattle.js_build.proofs.MadeAs.{makes_as}
use Rattle.js_build.proofs.TemplateLaws.{template_after, template_form}
use Rattle.js_build.proofs.templates.template.Goals as goal

pub returns-in-None : goal.returns-in-None
returns-in-None c = makes_as c.nothing.result (template_form c.args.place (plain_pieces c.args.pieces) ∙ ap (template_after c.args.place) (sym c.in-None.ensures.read)) c.nothing.ensures

pub returns-in-None-2 : goal.returns-in-None-2
returns-in-None-2 c = makes_as c.nothing-in-None-2.result (template_form c.args.place (plain_pieces c.args.pieces) ∙ (ap (template_after c.args.place) (sym c.in-Some.ensures.read) ∙ ap (template_of c.args.place c.in-Some.first) (sym (rw c.in-None-2.is at c.in_ok-parts-in-Some.ensures)))) c.nothing-in-None-2.ensures

pub returns : goal.returns
returns c = makes_as c.template_node.result (template_form c.args.place (plain_pieces c.args.pieces) ∙ (ap (template_after c.args.place) (sym c.in-Some.ensures.read) ∙ ap (template_of c.args.place c.in-Some.first) (sym (rw c.in-Some-2.is at c.in_ok-parts-in-Some.ensures)))) c.template_node.ensures
