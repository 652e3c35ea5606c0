use Rattle.std.proofs.Common.{ap, ◌∙◌}
use Rattle.std.specs.Option.{option_or}
use Rattle.js_lexer.specs.Token.{plain_token}
use Rattle.js_parser.proofs.Searching.{finds_refused}
use Rattle.js_parser.proofs.search.found_refused.Goals as goal

pub returns : goal.returns
returns c = λ before d remembers saw.
    c.or-7.ensures
    ∙ (ap (λ x. option_or x c.args.seen.parameter) c.or-6.ensures
    ∙ (ap (λ x. option_or (option_or x c.in_ok-proto_back.field-0) c.args.seen.parameter) c.or-5.ensures
    ∙ (ap (λ x. option_or (option_or (option_or x c.called.result) c.in_ok-proto_back.field-0) c.args.seen.parameter) c.or-4.ensures
    ∙ (ap (λ x. option_or (option_or (option_or (option_or x c.this_outside.result) c.called.result) c.in_ok-proto_back.field-0) c.args.seen.parameter) c.or-3.ensures
    ∙ (ap (λ x. option_or (option_or (option_or (option_or (option_or x c.args.seen.group) c.this_outside.result) c.called.result) c.in_ok-proto_back.field-0) c.args.seen.parameter) c.or-2.ensures
    ∙ (ap (λ x. option_or (option_or (option_or (option_or (option_or (option_or x c.one.result) c.args.seen.group) c.this_outside.result) c.called.result) c.in_ok-proto_back.field-0) c.args.seen.parameter) c.or.ensures
    ∙ finds_refused before d (plain_token c.args.token) saw.3 (c.in_ok-two_back.ensures before remembers) (c.in_ok-three_back.ensures before remembers) (c.one.ensures d saw.0) saw.1 (c.this_outside.ensures d saw.0 saw.4) (c.called.ensures before remembers) (c.in_ok-proto_back.ensures before remembers) saw.2))))))
