use Rattle.std.proofs.Common.{◌≡◌, ◌∙◌, ◌∷◌, None, ap, rules}
use Rattle.js_build.specs.Fors.{first_each}
use Rattle.js_build.specs.View.{plain_piece, plain_pieces}
use Rattle.js_build.proofs.fors.each_next.Goals as goal

pub returns-in-Some-In-clause-each : goal.returns-in-Some-In-clause-each
returns-in-Some-In-clause-each c = ap (λ ps. first_each (plain_pieces ps)) (c.in-Some-In.ensures.next ∙ ap (λ p. p ∷ c.next.new.self) c.in-Some-In.field-0-is)

pub returns-in-Some-Of-clause-each : goal.returns-in-Some-Of-clause-each
returns-in-Some-Of-clause-each c = ap (λ ps. first_each (plain_pieces ps)) (c.in-Some-Of.ensures.next ∙ ap (λ p. p ∷ c.next.new.self) c.in-Some-Of.field-0-is)

pub returns-in-None-clause-same : goal.returns-in-None-clause-same
returns-in-None-clause-same c = ap plain_pieces c.in-None.ensures.next

pub returns-in-None-clause-other : goal.returns-in-None-clause-other
returns-in-None-clause-other c = ap (λ ps. first_each (plain_pieces ps)) c.in-None.ensures.next

pub returns-in-Some : goal.returns-in-Some
returns-in-Some c =
    let other : first_each (plain_piece c.in-Some.other ∷ plain_pieces c.next.new.self) ≡ None = search rules in
    record { each = tt; same = ap plain_pieces c.in-Some.ensures.next; other = ap (λ ps. first_each (plain_pieces ps)) c.in-Some.ensures.next ∙ other }
