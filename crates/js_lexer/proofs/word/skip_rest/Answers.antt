-- Each turn moves over a run of characters and an escape.
use Rattle.std.proofs.Common.{◌∙◌, arith}
use Rattle.js_lexer.proofs.Words.{identifier-ends, identifier-turn}
use Rattle.js_lexer.proofs.word.skip_rest.Goals as goal

pub returns-then-not-skip_escaped-clause-rest : goal.returns-then-not-skip_escaped-clause-rest
returns-then-not-skip_escaped-clause-rest c =
    identifier-ends c.loop.cursor c.skip.new.cursor c.skip_escaped.new.cursor c.skip.ensures.rest c.if-not-skip_escaped.ensures.rest
    (c.skip_escaped.ensures.unmoved c.if-not-skip_escaped.true)
    ∙ c.loop.invariant.rest

pub loop-preserved : goal.loop-preserved
loop-preserved c = record {
  rest = identifier-turn c.loop.cursor c.skip.new.cursor c.skip_escaped.new.cursor c.skip.ensures.rest c.if-not-skip_escaped.ensures.rest
      c.skip_escaped.ensures.text (c.skip_escaped.ensures.shorter c.if-not-skip_escaped.false)
      ∙ c.loop.invariant.rest;
  text = c.skip_escaped.ensures.text ∙ c.skip.ensures.text ∙ c.loop.invariant.text;
  onward = omega (arith, c.skip_escaped.ensures.onward, c.skip.ensures.onward, c.loop.invariant.onward);
}
