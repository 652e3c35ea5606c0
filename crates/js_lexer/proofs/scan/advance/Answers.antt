-- The cursor moved over the character that follows, or there was none.
use Rattle.js_lexer.proofs.Steps.{advanced-rest, advanced-text, advanced-onward}
use Rattle.js_lexer.proofs.scan.advance.Goals as goal

pub returns-clause-rest : goal.returns-clause-rest
returns-clause-rest c = advanced-rest _ _ c.bump.result c.bump.ensures.after c.bump.ensures.end c.bump.ensures.unchanged

pub returns-clause-text : goal.returns-clause-text
returns-clause-text c = advanced-text _ _ c.bump.result c.bump.ensures.after c.bump.ensures.before c.bump.ensures.unchanged

pub returns-clause-onward : goal.returns-clause-onward
returns-clause-onward c = advanced-onward c.args.cursor.now c.bump.new.self (advanced-rest c.args.cursor.now c.bump.new.self c.bump.result c.bump.ensures.after c.bump.ensures.end c.bump.ensures.unchanged)
