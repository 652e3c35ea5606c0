-- The comments of the place, with the hashbang comment or without.
use Rattle.std.proofs.Common.{◌++◌, [], ◌∷◌, chars, ap, ◌∙◌}
use Rattle.js_text.specs.Place.{Place}
use Rattle.js_text.specs.Gap.{comment_of}
use Rattle.js_lexer.proofs.CommentTexts.{all_of, with-hashbang, without-hashbang}
use Rattle.js_lexer.proofs.comment_list.comments.Goals as goal
use Rattle.js_lexer.proofs.comment_list.comments.Goals.{then-is_hashbang+in_ok-push_comment, else-is_hashbang}

pub returns : goal.returns
returns c =
    let next = c.args.next in
    let cs = c.new-cursor.result.after in
    let rest = c.new-cursor.ensures.after ∙ ap chars c.text_from.ensures in
    elim c.if-is_hashbang.branch [
      | then-is_hashbang+in_ok-push_comment w ↦
          with-hashbang next c.args.text.now cs c.args.span.start c.is_hashbang.result _ c.utf8.text c.requires rest c.is_hashbang.ensures w.if-is_hashbang.true
          (c.in_ok-push_comments.ensures
          ∙ ap (λ xs. xs ++ all_of next c.if-is_hashbang.cursor.after) (w.found-is ∙ w.in_ok-push_comment.ensures ∙ ap (λ xs. xs ++ comment_of next cs ∷ []) c.new-found.ensures)
          ∙ ap (λ xs. comment_of next cs ∷ all_of next xs) (ap (λ (p : Place). p.after) w.cursor-is ∙ w.skip_single_line.ensures.rest))
      | else-is_hashbang w ↦
          without-hashbang next c.args.text.now cs c.args.span.start c.is_hashbang.result _ c.utf8.text c.requires rest c.is_hashbang.ensures w.if-is_hashbang.false
          (c.in_ok-push_comments.ensures
          ∙ ap (λ xs. xs ++ all_of next c.if-is_hashbang.cursor.after) (w.found-is ∙ c.new-found.ensures)
          ∙ ap (λ (p : Place). all_of next p.after) w.cursor-is)
    ]
