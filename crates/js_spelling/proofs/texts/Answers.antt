use Rattle.js_spelling.proofs.texts.Goals as goal
use Rattle.js_spelling.proofs.Again.{is_text, reads_tokens_again}
use Rattle.js_spelling.proofs.Ones.{has_tokens}
use Rattle.js_spelling.proofs.Sentences.{sentences_stand}

pub returns-clause-text : goal.returns-clause-text
returns-clause-text c = is_text

pub returns-clause-again : goal.returns-clause-again
returns-clause-again c = reads_tokens_again

pub returns-clause-stand : goal.returns-clause-stand
returns-clause-stand c = sentences_stand

pub returns-clause-tokens : goal.returns-clause-tokens
returns-clause-tokens c = has_tokens
