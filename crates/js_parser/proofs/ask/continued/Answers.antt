use Rattle.std.proofs.Common.{◌∙◌, ap, sym}
use Rattle.std.specs.Option.{option_map}
use Rattle.js_text.specs.Lex.{next_token}
use Rattle.js_text.specs.declared.goal.Goal.TheVariants as lexed
use Rattle.js_lexer.specs.Token.{plain_token}
use Rattle.js_reading.specs.Reads.{after_gap_of}
use Rattle.js_parser.proofs.ask.continued.Goals as goal

pub returns-clause-token : goal.returns-clause-token
returns-clause-token c = ap (λ place. option_map (after_gap_of (plain_token c.args.brace)) (next_token lexed.Template place)) (sym c.pass_gap.ensures) ∙ ap (option_map (after_gap_of (plain_token c.args.brace))) c.in_ok-part.ensures.token
