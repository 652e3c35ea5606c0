use Rattle.std.proofs.Common.{◌≡◌, IfOk, OnErr, None, Some, subst, sym}
use Rattle.js_lexer.specs.Token.{plain_token}
use Rattle.js_reading.specs.Reads.{asked_for}
use Rattle.js_parser.proofs.ask.ask.Goals as goal

pub returns-in-Template-clause-token : goal.returns-in-Template-clause-token
returns-in-Template-clause-token c = subst (λ g. IfOk c.next_in_template.result (λ token. asked_for g c.args.lexer.now ≡ Some (plain_token token, c.next_in_template.new.lexer))) (sym c.in-Template.is) c.next_in_template.ensures.token

pub returns-in-Template-clause-fault : goal.returns-in-Template-clause-fault
returns-in-Template-clause-fault c = subst (λ g. OnErr c.next_in_template.result (asked_for g c.args.lexer.now ≡ None)) (sym c.in-Template.is) c.next_in_template.ensures.fault
