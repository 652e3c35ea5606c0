use Rattle.js_lexer.proofs.Lex.{lex_once}
use Rattle.js_lexer.proofs.Table.{longest_punctuator-longest}
use Rattle.js_lexer.proofs.laws.one_token.Goals as goal

pub returns-clause-one : goal.returns-clause-one
returns-clause-one c = λ goal text at one other h k. lex_once goal text at one other h k

pub returns-clause-longest : goal.returns-clause-longest
returns-clause-longest c = λ characters found other h b. longest_punctuator-longest found other characters h b
