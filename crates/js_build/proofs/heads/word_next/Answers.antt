use Rattle.std.proofs.Common.{◌≡◌, ◌∙◌, ◌∷◌, None, ap, rules}
use Rattle.js_build.specs.Fors.{first_word}
use Rattle.js_build.specs.View.{plain_piece, plain_pieces}
use Rattle.js_build.proofs.heads.word_next.Goals as goal

pub returns-in-Some-Word-clause-word : goal.returns-in-Some-Word-clause-word
returns-in-Some-Word-clause-word c = ap (λ ps. first_word (plain_pieces ps)) (c.in-Some-Word.ensures.next ∙ ap (λ p. p ∷ c.next.new.self) c.in-Some-Word.field-0-is)

pub returns-in-None-clause-same : goal.returns-in-None-clause-same
returns-in-None-clause-same c = ap plain_pieces c.in-None.ensures.next

pub returns-in-None-clause-other : goal.returns-in-None-clause-other
returns-in-None-clause-other c = ap (λ ps. first_word (plain_pieces ps)) c.in-None.ensures.next

pub returns-in-Some : goal.returns-in-Some
returns-in-Some c =
    let other : first_word (plain_piece c.in-Some.other ∷ plain_pieces c.next.new.self) ≡ None = search rules in
    record { word = tt; same = ap plain_pieces c.in-Some.ensures.next; other = ap (λ ps. first_word (plain_pieces ps)) c.in-Some.ensures.next ∙ other }
