-- Each turn puts one character of the name.
use Rattle.std.proofs.Common.{ap, sym, ◌∙◌, arith}
use Rattle.js_text.specs.Identifier.{decoded}
use Rattle.js_lexer.proofs.Steps.{shorter, none_is}
use Rattle.js_lexer.proofs.Values.{decoded-step, decoded-none, name-more, name-end}
use Rattle.js_lexer.proofs.units.name_of.Goals as goal

pub loop-next-smaller : goal.loop-next-smaller
loop-next-smaller c =
    omega (arith, shorter c.loop-next.cursor.after c.advance.new.cursor.after c.in-Some.next (sym c.peek.ensures ∙ c.in-Some.is) c.advance.ensures.rest, c.decoded_character.ensures.onward)

pub loop-next-preserved : goal.loop-next-preserved
loop-next-preserved c =
    let step = decoded-step c.loop-next.cursor.after c.in-Some.next c.in-Some-decoded_character.character (sym c.peek.ensures ∙ c.in-Some.is)
    c.advance.new.cursor c.decoded_character.new.cursor c.advance.ensures.rest c.in-Some-decoded_character.ensures.value c.decoded_character.ensures.text c.decoded_character.ensures.onward in
    name-more _ _ _ c.loop-next.cursor.after c.decoded_character.new.cursor.after c.in-Some-decoded_character.character step
    c.in_ok-push-in-Some-decoded_character.ensures.bytes c.loop-next.invariant

pub returns-in-None : goal.returns-in-None
returns-in-None c =
    c.from_string.ensures
    ∙ name-end _ _ c.loop-next.cursor.after
    (decoded-none c.loop-next.cursor.after c.in-Some.next (sym c.peek.ensures ∙ c.in-Some.is) c.advance.new.cursor.after c.advance.ensures.rest c.in-None.ensures.value)
    c.loop-next.invariant

pub returns : goal.returns
returns c =
    c.from_string-2.ensures
    ∙ name-end _ _ c.loop-next.cursor.after (ap (decoded 0) (none_is c.loop-next.cursor.after (sym c.peek.ensures ∙ c.in_default.is))) c.loop-next.invariant
