use Rattle.std.proofs.Common.{rules}
use Rattle.js_parser.proofs.ask.is_braced.Goals as goal

pub returns-in_default : goal.returns-in_default
returns-in_default c = search rules

pub returns-in-TemplateMiddle : goal.returns-in-TemplateMiddle
returns-in-TemplateMiddle c = search rules

pub returns-in-Punctuator-CloseBrace : goal.returns-in-Punctuator-CloseBrace
returns-in-Punctuator-CloseBrace c = search rules
