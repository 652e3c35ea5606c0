-- What the call says is whether one of the bytes is a backslash.
use Rattle.std.proofs.Common.{rules, tests}
use Rattle.std.proofs.lemmas.Iterator.{YieldsList-from_slice}
use Rattle.std.proofs.lemmas.Iterator.Search.{any_from_yields_List}
use Rattle.js_text.specs.Identifier.{is_backslash}
use Rattle.js_lexer.proofs.word.has_backslash.Goals as goal

pub returns : goal.returns
returns c = any_from_yields_List is_backslash _ _ _ c.any.ensures.ran (YieldsList-from_slice c.args.text.now cc) (λ x b q k. search (rules, tests))
