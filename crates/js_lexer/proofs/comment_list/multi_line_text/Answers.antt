-- What was moved over is what the comment says.
use Rattle.std.proofs.Common.{encode_utf8_all, ap, ◌∙◌}
use Rattle.js_text.specs.Place.{Place}
use Rattle.js_lexer.specs.private.Close.{close_from}
use Rattle.js_lexer.proofs.CommentTexts.{multi-text}
use Rattle.js_lexer.proofs.comment_list.multi_line_text.Goals as goal

pub returns : goal.returns
returns c =
    let start = c.args.start.now in
    let end = c.skip_to_close.new.cursor.after in
    c.between.ensures.bytes ∙ ap encode_utf8_all (multi-text start.after end (c.skip_to_close.ensures.rest ∙ ap (λ (p : Place). close_from p.after) c.again-end.ensures))
