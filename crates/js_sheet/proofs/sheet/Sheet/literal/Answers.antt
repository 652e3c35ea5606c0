use Rattle.std.proofs.Common.{false, refl}
use Rattle.js_text.specs.Token as T
use Rattle.js_sheet.proofs.Standing.{puts_spelled}
use Rattle.js_sheet.proofs.sheet.Sheet.literal.Goals as goal

pub returns-clause-string : goal.returns-clause-string
returns-clause-string g c = puts_spelled c.args.place (T.StringLiteral c.args.spelling.now) false c.args.spelling.now refl c.put.ensures

pub returns-clause-whole : goal.returns-clause-whole
returns-clause-whole g c = puts_spelled c.args.place (T.NoSubstitutionTemplate c.args.spelling.now) false c.args.spelling.now refl c.put.ensures

pub returns-clause-head : goal.returns-clause-head
returns-clause-head g c = puts_spelled c.args.place (T.TemplateHead c.args.spelling.now) false c.args.spelling.now refl c.put.ensures

pub returns-clause-middle : goal.returns-clause-middle
returns-clause-middle g c = puts_spelled c.args.place (T.TemplateMiddle c.args.spelling.now) false c.args.spelling.now refl c.put.ensures

pub returns-clause-tail : goal.returns-clause-tail
returns-clause-tail g c = puts_spelled c.args.place (T.TemplateTail c.args.spelling.now) false c.args.spelling.now refl c.put.ensures
