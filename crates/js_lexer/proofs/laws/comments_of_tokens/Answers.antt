use Rattle.js_lexer.proofs.CommentPlaces.{comments-of_token, comments-start}
use Rattle.js_lexer.proofs.laws.comments_of_tokens.Goals as goal

pub returns-clause-same : goal.returns-clause-same
returns-clause-same c = λ goal place after token next h. comments-of_token goal place after token next h

pub returns-clause-start : goal.returns-clause-start
returns-clause-start c = λ text goal place after token utf8 whole h. comments-start text goal place after token utf8 whole h
