-- What the token leaves is put after the parts, where it is one of the class.
use Rattle.std.proofs.Common.{◌∷◌, ◌++◌, [], ap, sym, ◌∙◌}
use Rattle.js_reading.specs.Turns.{enter, texted}
use Rattle.js_grammar.specs.View.{plain_slots}
use Rattle.js_build.specs.View.{plain_pieces}
use Rattle.js_build.specs.Leaves.{piece_if}
use Rattle.js_stack.specs.View.{frames}
use Rattle.js_stack.proofs.PartsLemmas.{pieces_push}
use Rattle.js_stack.proofs.take.take_text.Goals as goal

pub returns-in-None : goal.returns-in-None
returns-in-None c =
    let p = c.args.production in
    ap (λ piece. texted piece (λ q. enter p.form p.start (plain_slots p.left) (plain_pieces p.parts ++ q ∷ []) c.args.token.loc (frames c.args.stack.now))) (sym c.in_ok-piece_of.ensures ∙ ap piece_if c.in-None.is)

pub returns-in_ok-push-in-Some : goal.returns-in_ok-push-in-Some
returns-in_ok-push-in-Some c =
    let p = c.args.production in
    ap (λ piece. texted piece (λ q. enter p.form p.start (plain_slots p.left) (plain_pieces p.parts ++ q ∷ []) c.args.token.loc (frames c.args.stack.now))) (sym c.in_ok-piece_of.ensures ∙ ap piece_if c.in-Some.is)
    ∙ ap (λ ps. enter p.form p.start (plain_slots p.left) ps c.args.token.loc (frames c.args.stack.now)) (sym (ap plain_pieces c.in_ok-push-in-Some.ensures ∙ pieces_push p.parts c.in-Some.text))
