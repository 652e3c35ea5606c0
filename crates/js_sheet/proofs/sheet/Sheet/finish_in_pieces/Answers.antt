use Rattle.std.proofs.lemmas.Result.{on_ok_weaker}
use Rattle.js_sheet.proofs.Standing.{keeps_at, told, told_last}
use Rattle.js_sheet.proofs.sheet.Sheet.finish_in_pieces.Goals as goal

pub returns-in-Some : goal.returns-in-Some
returns-in-Some g c = λ start s h.
    let there = c.end.ensures.turns.stands start s h in (tt, there.prefix, told c.in-Some.is there)

pub returns-in-None : goal.returns-in-None
returns-in-None g c = λ start s h.
    let there = c.end.ensures.turns.stands start s h in
    let keeps = keeps_at c.in-None.is there in (
      on_ok_weaker c.finish.result (λ all. all start.taken _ s.marks keeps) c.finish.ensures.all,
      c.finish.ensures.prefix start.taken _ s.marks keeps,
      told_last there c.finish.ensures.cause,
    )
