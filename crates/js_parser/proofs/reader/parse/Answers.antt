-- Each turn leads on, and the exits are those of a text with a tree and of one without.
use Rattle.std.proofs.Common.{is_some, sym, ap, subst, arith}
use Rattle.std.proofs.lemmas.Result.{err_from_is_err_and}
use Rattle.js_tree.specs.Tree.{plain_file}
use Rattle.js_lexer.specs.Token.{plain_token}
use Rattle.js_stack.specs.Reader.{machine, height_of}
use Rattle.js_parser.specs.Refused.{RefusesText}
use Rattle.js_parser.specs.Turn.{Stands}
use Rattle.js_parser.proofs.Standing.{at_first, smaller, memory_text, file_read, file_only, file_low, ok_then, err_then}
use Rattle.js_parser.proofs.reader.parse.Goals as goal

pub tokens-init : goal.tokens-init
tokens-init c = (
  at_first c.args.text.now c.new-lexer.result (machine c.new-reader.result) c.new-comments.result c.new-recent.result c.new-lexer.ensures.before c.new-lexer.ensures.after c.new-reader.ensures c.new-comments.ensures c.new-recent.ensures,
  ap (λ x. is_some (height_of x)) c.new-reader.ensures,
)

pub turn-requires-clause-stands : goal.turn-requires-clause-stands
turn-requires-clause-stands c = subst (λ s. Stands s c.tokens.lexer (machine c.tokens.reader) c.tokens.comments c.tokens.recent) (sym c.as_str-source.ensures) c.tokens.invariant.0

pub turn-requires-clause-going : goal.turn-requires-clause-going
turn-requires-clause-going c = c.tokens.invariant.1

pub tokens-preserved : goal.tokens-preserved
tokens-preserved c = (
  subst (λ s. Stands s c.turn.new.lexer (machine c.turn.new.reader) c.turn.new.kept c.turn.new.recent) c.as_str-source.ensures c.in_ok-turn.ensures.stands,
  grind (arith, c.height.ensures, c.is_some.ensures, c.if-is_some.ensures, c.if-is_some.false),
)

pub tokens-smaller : goal.tokens-smaller
tokens-smaller c =
    smaller c.args.text.now c.tokens.lexer c.turn.new.lexer (machine c.tokens.reader) (machine c.turn.new.reader) c.tokens.comments c.tokens.recent (plain_token c.in_ok-turn.field-0) c.tokens.invariant.0
    c.in_ok-turn.ensures.asked c.in_ok-turn.ensures.turned (grind (arith, c.height.ensures, c.is_some.ensures, c.if-is_some.ensures, c.if-is_some.false))

pub returns-in_err-turn-clause-refused : goal.returns-in_err-turn-clause-refused
returns-in_err-turn-clause-refused c =
    let p = err_from_is_err_and c.from_residual.result c.from_residual.ensures.1 in
    rw (p.1, p.2)
    (subst (λ s. RefusesText c.in_err-turn.field-0.0 s c.args.limits.height) c.as_str-source.ensures c.in_err-turn.ensures.refused)

pub returns-clause-tree : goal.returns-clause-tree
returns-clause-tree c =
    let s = subst (λ s. Stands s c.turn.new.lexer (machine c.turn.new.reader) c.turn.new.kept c.turn.new.recent) c.as_str-source.ensures c.in_ok-turn.ensures.stands in
    ok_then c.file.result _ _ c.file.ensures.file (λ file h. file_read c.args.text.now c.turn.new.lexer (machine c.turn.new.reader) c.turn.new.kept c.turn.new.recent (plain_file file) s h)

pub returns-clause-only : goal.returns-clause-only
returns-clause-only c =
    let s = subst (λ s. Stands s c.turn.new.lexer (machine c.turn.new.reader) c.turn.new.kept c.turn.new.recent) c.as_str-source.ensures c.in_ok-turn.ensures.stands in
    ok_then c.file.result _ _ c.file.ensures.file (λ file h. file_only c.args.text.now c.turn.new.lexer (machine c.turn.new.reader) c.turn.new.kept c.turn.new.recent (plain_file file) s h)

pub returns-clause-within : goal.returns-clause-within
returns-clause-within c = ok_then c.file.result _ _ c.file.ensures.file (λ file h. file_low (machine c.turn.new.reader) c.turn.new.kept (plain_file file) c.args.limits.height c.in_ok-turn.ensures.low h)

pub returns-clause-refused : goal.returns-clause-refused
returns-clause-refused c =
    let s = subst (λ s. Stands s c.turn.new.lexer (machine c.turn.new.reader) c.turn.new.kept c.turn.new.recent) c.as_str-source.ensures c.in_ok-turn.ensures.stands in
    err_then c.file.result _ _ _ c.file.ensures.refused_at c.file.ensures.refused (λ r there is. memory_text c.args.text.now c.turn.new.lexer (machine c.turn.new.reader) c.turn.new.kept c.turn.new.recent r c.args.limits.height s there is)
