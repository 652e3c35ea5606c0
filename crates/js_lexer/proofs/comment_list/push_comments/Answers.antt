-- Each turn puts one comment more at the end.
use Rattle.std.proofs.Common.{◌++◌, [], ◌∷◌, sym, ap, ◌∙◌, append-nil}
use Rattle.js_text.specs.Place.{Place}
use Rattle.js_text.specs.Gap.{comment_of}
use Rattle.js_lexer.proofs.CommentTexts.{turn-found, last-found}
use Rattle.js_lexer.proofs.comment_list.push_comments.Goals as goal

pub returns-then-not-skip_comment : goal.returns-then-not-skip_comment
returns-then-not-skip_comment c =
    sym (append-nil c.loop-start.found)
    ∙ ap (λ xs. c.loop-start.found ++ xs) (sym (last-found c.args.next c.loop-start.cursor c.skip.new.cursor c.skip.ensures.rest c.if-not-skip_comment.ensures.rest))
    ∙ c.loop-start.invariant

pub loop-start-preserved : goal.loop-start-preserved
loop-start-preserved c =
    turn-found c.args.next c.loop-start.cursor c.skip.new.cursor c.skip_comment.new.cursor c.loop-start.found c.push_comment.new.found c.skip.ensures.rest
    c.if-not-skip_comment.ensures.rest c.skip_comment.ensures.text (c.skip_comment.ensures.shorter c.if-not-skip_comment.false)
    (c.in_ok-push_comment.ensures ∙ ap (λ (p : Place). c.loop-start.found ++ comment_of c.args.next p.after ∷ []) c.again-start.ensures)
    ∙ c.loop-start.invariant
