-- Each turn moves over a run of white space and a comment.
use Rattle.std.proofs.Common.{◌∙◌, arith}
use Rattle.js_lexer.proofs.Gaps.{turn-rest, turn-comments, last-rest, last-comments}
use Rattle.js_lexer.proofs.gap.skip_comments.Goals as goal

pub returns-then-not-skip_comment-clause-rest : goal.returns-then-not-skip_comment-clause-rest
returns-then-not-skip_comment-clause-rest c =
    last-rest c.loop-comments.cursor c.skip.new.cursor c.skip_comment.new.cursor c.skip.ensures.rest c.if-not-skip_comment.ensures.rest
    (c.skip_comment.ensures.unmoved c.if-not-skip_comment.true)
    ∙ c.loop-comments.invariant.rest

pub returns-then-not-skip_comment-clause-comments : goal.returns-then-not-skip_comment-clause-comments
returns-then-not-skip_comment-clause-comments c = λ whole text le.
    last-comments whole c.loop-comments.cursor c.skip.new.cursor c.loop-comments.comments c.skip.ensures.rest c.if-not-skip_comment.ensures.rest
    ∙ c.loop-comments.invariant.comments whole text le

pub loop-comments-preserved : goal.loop-comments-preserved
loop-comments-preserved c = record {
  rest = turn-rest c.loop-comments.cursor c.skip.new.cursor c.skip_comment.new.cursor c.skip.ensures.rest c.if-not-skip_comment.ensures.rest c.skip_comment.ensures.text
      (c.skip_comment.ensures.shorter c.if-not-skip_comment.false)
      ∙ c.loop-comments.invariant.rest;
  text = c.skip_comment.ensures.text ∙ c.skip.ensures.text ∙ c.loop-comments.invariant.text;
  onward = omega (arith, c.skip_comment.ensures.onward, c.skip.ensures.onward, c.loop-comments.invariant.onward);
  comments = λ whole text le.
      turn-comments whole c.loop-comments.cursor c.skip.new.cursor c.skip_comment.new.cursor c.loop-comments.comments c.at-start.result c.at.result c.through.result
      c.skip.ensures.rest c.if-not-skip_comment.ensures.rest (c.skip.ensures.text ∙ c.loop-comments.invariant.text ∙ text) c.skip_comment.ensures.text
      (omega (arith, c.skip.ensures.onward, c.loop-comments.invariant.onward, le)) (c.skip_comment.ensures.shorter c.if-not-skip_comment.false)
      c.at-start.ensures c.at.ensures c.through.ensures
      ∙ c.loop-comments.invariant.comments whole text le;
}
