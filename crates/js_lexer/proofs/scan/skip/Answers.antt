-- Each turn moves over the next character of the run, and the run ends where the loop does.
use Rattle.std.proofs.Common.{sym, ap, ◌∙◌, arith}
use Rattle.js_lexer.specs.private.Class.{test_of}
use Rattle.js_text.specs.Lex.{past}
use Rattle.js_lexer.proofs.Steps.{past-step, past-stop, past-end, shorter}
use Rattle.js_lexer.proofs.scan.skip.Goals as goal

pub loop-next-preserved : goal.loop-next-preserved
loop-next-preserved c = record {
  rest = ap (past (test_of c.args.class)) c.advance.ensures.rest
      ∙ sym (past-step (test_of c.args.class) c.loop-next.cursor.after c.in-Some.next (sym c.peek.ensures ∙ c.in-Some.is) (sym c.holds.ensures ∙ c.if-not-holds.false))
      ∙ c.loop-next.invariant.rest;
  text = c.advance.ensures.text ∙ c.loop-next.invariant.text;
  onward = omega (arith, c.advance.ensures.onward, c.loop-next.invariant.onward);
}

pub loop-next-smaller : goal.loop-next-smaller
loop-next-smaller c = shorter c.loop-next.cursor.after c.advance.new.cursor.after c.in-Some.next (sym c.peek.ensures ∙ c.in-Some.is) c.advance.ensures.rest

pub returns-then-not-holds-clause-rest : goal.returns-then-not-holds-clause-rest
returns-then-not-holds-clause-rest c =
    sym (past-stop (test_of c.args.class) c.loop-next.cursor.after c.in-Some.next (sym c.peek.ensures ∙ c.in-Some.is) (sym c.holds.ensures ∙ c.if-not-holds.true))
    ∙ c.loop-next.invariant.rest

pub returns-in_default-clause-rest : goal.returns-in_default-clause-rest
returns-in_default-clause-rest c = sym (past-end (test_of c.args.class) c.loop-next.cursor.after (sym c.peek.ensures ∙ c.in_default.is)) ∙ c.loop-next.invariant.rest
