-- Each turn moves over one character of the string, or over an escape.
use Rattle.std.proofs.Common.{sym, ◌∙◌, arith}
use Rattle.std.proofs.lemmas.Bool.{ne_eqb}
use Rattle.js_lexer.proofs.Steps.{shorter}
use Rattle.js_lexer.proofs.Literals.{string-ends, string-breaks, string-step, string-refused}
use Rattle.js_lexer.proofs.literal.skip_string.Goals as goal

pub returns-then-ends_line-clause-rest : goal.returns-then-ends_line-clause-rest
returns-then-ends_line-clause-rest c =
    sym c.loop-next.invariant.rest
    ∙ string-breaks c.args.quote c.loop-next.cursor.after c.in-Some.next (sym c.peek.ensures ∙ c.in-Some.is) (ne_eqb _ _ c.if-next-quote.false) (sym c.ends_line.ensures ∙ c.if-ends_line.true)

pub returns-then-not-skip_escape-clause-rest : goal.returns-then-not-skip_escape-clause-rest
returns-then-not-skip_escape-clause-rest c =
    sym c.loop-next.invariant.rest
    ∙ string-refused c.args.quote c.loop-next.cursor.after c.in-Some.next (sym c.peek.ensures ∙ c.in-Some.is) (ne_eqb _ _ c.if-next-quote.false) (sym c.ends_line.ensures ∙ c.if-ends_line.false)
    c.advance-in-Some.new.cursor.after c.advance-in-Some.ensures.rest c.if-not-skip_escape.ensures.rest

pub loop-next-smaller : goal.loop-next-smaller
loop-next-smaller c =
    omega (arith, shorter c.loop-next.cursor.after c.advance-in-Some.new.cursor.after c.in-Some.next (sym c.peek.ensures ∙ c.in-Some.is) c.advance-in-Some.ensures.rest, c.skip_escape.ensures.onward)

pub loop-next-preserved : goal.loop-next-preserved
loop-next-preserved c = record {
  rest = sym (string-step c.args.quote c.loop-next.cursor.after c.in-Some.next (sym c.peek.ensures ∙ c.in-Some.is) (ne_eqb _ _ c.if-next-quote.false) (sym c.ends_line.ensures ∙ c.if-ends_line.false)
      c.advance-in-Some.new.cursor c.skip_escape.new.cursor c.advance-in-Some.ensures.rest c.if-not-skip_escape.ensures.rest c.skip_escape.ensures.text c.skip_escape.ensures.onward)
      ∙ c.loop-next.invariant.rest;
  text = c.skip_escape.ensures.text ∙ c.advance-in-Some.ensures.text ∙ c.loop-next.invariant.text;
  onward = omega (arith, c.skip_escape.ensures.onward, c.advance-in-Some.ensures.onward, c.loop-next.invariant.onward);
}

pub returns-clause-rest : goal.returns-clause-rest
returns-clause-rest c = sym c.loop-next.invariant.rest ∙ string-ends c.args.quote c.loop-next.cursor.after (sym c.peek.ensures ∙ c.in_default.is)
