use Rattle.std.proofs.Common.{not, sym, ap, ◌∙◌, arith}
use Rattle.js_text.proofs.Position.{begins_with_line_feed-chars}
use Rattle.js_text.proofs.cursor.ends_line.Goals as goal

pub returns-in-13 : goal.returns-in-13
returns-in-13 c =
    let first = c.starts_with.ensures.byte (omega arith) (omega arith) (λ w o h. h) in
    rw c.in-13.is (ap not (first ∙ sym (begins_with_line_feed-chars c.args.rest.now c.utf8.rest)))
