use Rattle.std.proofs.Common.{ap, ◌∙◌}
use Rattle.std.specs.Option.{option_or}
use Rattle.js_lexer.specs.Token.{plain_token}
use Rattle.js_parser.proofs.Searching.{finds_read}
use Rattle.js_parser.proofs.search.found_read.Goals as goal

pub returns : goal.returns
returns c = λ ts before d e remembers saw searched turned.
    c.or-3.ensures
    ∙ (ap (λ x. option_or x c.args.seen.parameter) c.or-2.ensures
    ∙ (ap (λ x. option_or (option_or x c.in_ok-proto_back.field-0) c.args.seen.parameter) c.or.ensures
    ∙ finds_read (plain_token c.args.token) searched turned saw.1 (c.this_outside.ensures d saw.0 saw.4) (c.in_ok-proto_back.ensures before remembers) saw.2))
