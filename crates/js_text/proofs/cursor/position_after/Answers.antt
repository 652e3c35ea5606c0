use Rattle.std.proofs.Common.{sym, ◌∙◌}
use Rattle.js_text.proofs.Position.{position_of-step_end, position_of-step_more, utf16_units-cases}
use Rattle.js_text.proofs.cursor.position_after.Goals as goal

pub returns-then-ends_line : goal.returns-then-ends_line
returns-then-ends_line c = λ before known.
    position_of-step_end c.args.position _ before _ c.args.character (sym c.ends_line.ensures ∙ c.if-ends_line.true) known c.saturating_add.ensures

pub returns-else-ends_line : goal.returns-else-ends_line
returns-else-ends_line c = λ before known.
    let units = utf16_units-cases c.args.character c.len_utf16.result c.len_utf16.ensures.bmp c.len_utf16.ensures.surrogate_pair in
    position_of-step_more c.args.position _ _ before _ c.args.character (sym c.ends_line.ensures ∙ c.if-ends_line.false) known units c.saturating_add-else-ends_line.ensures
