-- Each turn moves over one character of the template, or over an escape.
use Rattle.std.proofs.Common.{sym, ◌∙◌, arith}
use Rattle.std.proofs.lemmas.Bool.{ne_eqb}
use Rattle.js_lexer.proofs.Steps.{shorter}
use Rattle.js_lexer.proofs.Literals.{template-ends, template-step, template-refused}
use Rattle.js_lexer.proofs.literal.skip_template.Goals as goal

pub returns-then-not-skip_escape-clause-rest : goal.returns-then-not-skip_escape-clause-rest
returns-then-not-skip_escape-clause-rest c =
    sym c.loop-next.invariant.rest
    ∙ template-refused c.loop-next.cursor.after c.in-Some.next (sym c.peek.ensures ∙ c.in-Some.is) (ne_eqb _ _ c.if-next-eq96.false)
    c.advance.new.cursor.after c.advance.ensures.rest (sym c.opens_substitution.ensures ∙ c.if-opens_substitution.false) c.if-not-skip_escape.ensures.rest

pub loop-next-smaller : goal.loop-next-smaller
loop-next-smaller c =
    omega (arith, shorter c.loop-next.cursor.after c.advance.new.cursor.after c.in-Some.next (sym c.peek.ensures ∙ c.in-Some.is) c.advance.ensures.rest, c.skip_escape.ensures.onward)

pub loop-next-preserved : goal.loop-next-preserved
loop-next-preserved c = record {
  rest = sym (template-step c.loop-next.cursor.after c.in-Some.next (sym c.peek.ensures ∙ c.in-Some.is) (ne_eqb _ _ c.if-next-eq96.false)
      c.advance.new.cursor c.skip_escape.new.cursor c.advance.ensures.rest (sym c.opens_substitution.ensures ∙ c.if-opens_substitution.false)
      c.if-not-skip_escape.ensures.rest c.skip_escape.ensures.text c.skip_escape.ensures.onward)
      ∙ c.loop-next.invariant.rest;
  text = c.skip_escape.ensures.text ∙ c.advance.ensures.text ∙ c.loop-next.invariant.text;
  onward = omega (arith, c.skip_escape.ensures.onward, c.advance.ensures.onward, c.loop-next.invariant.onward);
}

pub returns-clause-rest : goal.returns-clause-rest
returns-clause-rest c = sym c.loop-next.invariant.rest ∙ template-ends c.loop-next.cursor.after (sym c.peek.ensures ∙ c.in_default.is)
