-- The text up to a later place is what the move takes.
use Rattle.std.proofs.Common.{◌≡◌, ◌-◌, ◌++◌, length, take, chars, encode_utf8_all, ap, sym, ◌∙◌, arith, length-append}
use Rattle.std.proofs.Math.Seq.{take-append_seam}
use Rattle.std.proofs.lemmas.Str.{chars-append}
use Rattle.js_lexer.proofs.Places.{front-of}
use Rattle.js_lexer.proofs.Onward.{onward-moved}
use Rattle.js_lexer.proofs.scan.between.Goals as goal

pub front-requires : goal.front-requires
front-requires c =
    let start = c.args.start.now in
    let end = c.args.end.now in
    let n = length start.after - length end.after in
    (encode_utf8_all (take n start.after), front-of _ _ start end n c.rest.ensures.bytes c.rest-2.ensures.bytes (onward-moved start end c.requires.text c.requires.onward))

pub returns-clause-bytes : goal.returns-clause-bytes
returns-clause-bytes c =
    let start = c.args.start.now in
    let end = c.args.end.now in
    let n = length start.after - length end.after in
    c.front.ensures (encode_utf8_all (take n start.after)) (front-of _ _ start end n c.rest.ensures.bytes c.rest-2.ensures.bytes (onward-moved start end c.requires.text c.requires.onward))

pub returns-clause-characters : goal.returns-clause-characters
returns-clause-characters c =
    let start = c.args.start.now in
    let end = c.args.end.now in
    let n = length start.after - length end.after in
    let cut = front-of _ _ start end n c.rest.ensures.bytes c.rest-2.ensures.bytes (onward-moved start end c.requires.text c.requires.onward) in
    let bytes : c.front.result.now ≡ encode_utf8_all (take n start.after) = c.front.ensures (encode_utf8_all (take n start.after)) cut in
    let whole : c.rest.result.now ≡ c.front.result.now ++ c.rest-2.result.now = cut ∙ ap (λ bs. bs ++ c.rest-2.result.now) (sym bytes) in
    let split : start.after ≡ chars c.front.result.now ++ end.after =
    sym c.rest.ensures.characters ∙ ap chars whole ∙ chars-append c.front.result.now c.rest-2.result.now c.front.utf8
    ∙ ap (λ cs. chars c.front.result.now ++ cs) c.rest-2.ensures.characters in
    let count : n ≡ length (chars c.front.result.now) = omega (arith, ap length split, length-append (chars c.front.result.now) end.after) in
    sym (ap (take n) split ∙ ap (λ k. take k (chars c.front.result.now ++ end.after)) count ∙ take-append_seam (chars c.front.result.now) end.after)
