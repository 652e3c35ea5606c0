-- Each turn moves over one character of the line.
use Rattle.std.proofs.Common.{sym, ap, ◌∙◌, arith}
use Rattle.js_text.specs.Comment.{single_line_rest}
use Rattle.js_lexer.proofs.Steps.{single_line-step, single_line-stop, single_line-end, shorter}
use Rattle.js_lexer.proofs.comment.skip_single_line.Goals as goal

pub loop-next-preserved : goal.loop-next-preserved
loop-next-preserved c = record {
  rest = ap single_line_rest c.advance.ensures.rest
      ∙ sym (single_line-step c.loop-next.cursor.after c.in-Some.next (sym c.peek.ensures ∙ c.in-Some.is) (sym c.is_line_terminator.ensures ∙ c.if-is_line_terminator.false))
      ∙ c.loop-next.invariant.rest;
  text = c.advance.ensures.text ∙ c.loop-next.invariant.text;
  onward = omega (arith, c.advance.ensures.onward, c.loop-next.invariant.onward);
}

pub loop-next-smaller : goal.loop-next-smaller
loop-next-smaller c = shorter c.loop-next.cursor.after c.advance.new.cursor.after c.in-Some.next (sym c.peek.ensures ∙ c.in-Some.is) c.advance.ensures.rest

pub returns-then-is_line_terminator-clause-rest : goal.returns-then-is_line_terminator-clause-rest
returns-then-is_line_terminator-clause-rest c =
    sym (single_line-stop c.loop-next.cursor.after c.in-Some.next (sym c.peek.ensures ∙ c.in-Some.is) (sym c.is_line_terminator.ensures ∙ c.if-is_line_terminator.true))
    ∙ c.loop-next.invariant.rest

pub returns-in_default-clause-rest : goal.returns-in_default-clause-rest
returns-in_default-clause-rest c = sym (single_line-end c.loop-next.cursor.after (sym c.peek.ensures ∙ c.in_default.is)) ∙ c.loop-next.invariant.rest
