use Rattle.std.proofs.Common.{ap, ◌∙◌, Err}
use Rattle.js_machine.proofs.shown.primitive_text.Goals as goal

pub unreachable-requires : goal.unreachable-requires
unreachable-requires c = c.requires c.in-Err-Refuse.field-0-0
    ((c.to_text.ensures.refused c.in-Err-Refuse.field-0-0).0 (c.in-Err-Refuse.is ∙ ap Err c.in-Err-Refuse.field-0-is))
