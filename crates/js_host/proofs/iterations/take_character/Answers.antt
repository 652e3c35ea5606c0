use Rattle.std.proofs.Common.{◌≡◌, ◌+◌, ◌-◌, Some, take, drop, sym, ap, ◌∙◌, arith}
use Rattle.js_value.specs.Iterations.{taken, Characters}
use Rattle.js_value.specs.Realm.{text}
use Rattle.js_host.specs.private.Met.{size_of}
use Rattle.std.proofs.lemmas.List.{drop-drop}
use Rattle.js_host.proofs.IterationLemmas.{character_is}
use Rattle.js_host.proofs.iterations.take_character.Goals as goal

pub returns : goal.returns
returns c =
    let us = c.args.units in
    let next = c.args.next in
    let size = c.size_of_character-size.result in
    let is : size ≡ size_of (drop next us) = c.size_of_character-size.ensures.size ∙ ap (λ u. size_of (drop next u)) c.as_slice.ensures in
    let width : next + size - next ≡ size = omega arith in
    let first : c.in_ok-character.character ≡ take size (drop next us) =
    c.in_ok-character.ensures ∙ ap (λ n. take n (drop next c.as_slice-2.result.now)) width ∙ ap (λ u. take size (drop next u)) c.as_slice-2.ensures in
    character_is (drop next us) size is c.if-size-eq0.false
    ∙ ap (λ us'. Some (taken (text us') (Characters (drop size (drop next us))))) (sym first)
    ∙ ap (λ us'. Some (taken (text c.in_ok-character.character) (Characters us'))) (drop-drop size next us)
