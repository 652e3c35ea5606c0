-- What was moved over is what the comment says.
use Rattle.std.proofs.Common.{encode_utf8_all, ap, ◌∙◌}
use Rattle.js_text.specs.Place.{Place}
use Rattle.js_text.specs.Comment.{single_line_rest}
use Rattle.js_lexer.proofs.CommentTexts.{single-text}
use Rattle.js_lexer.proofs.comment_list.single_line_text.Goals as goal

pub returns : goal.returns
returns c =
    let start = c.args.start.now in
    let end = c.skip_single_line.new.cursor.after in
    c.between.ensures.bytes ∙ ap encode_utf8_all (single-text start.after end (c.skip_single_line.ensures.rest ∙ ap (λ (p : Place). single_line_rest p.after) c.again-end.ensures))
