use Rattle.std.proofs.Common.{Ok, length, take, drop, ◌-◌, ap, sym, ◌∙◌, arith, w64}
use Rattle.std.proofs.lemmas.Int.{to_z-of_z}
use Rattle.js_value.specs.OnData.{place_in}
use Rattle.js_data.proofs.Steps.{place_here, place_on}
use Rattle.js_data.proofs.search.place_in.Goals as goal

pub returns-in-Ok : goal.returns-in-Ok
returns-in-Ok c =
    ap Ok (sym c.loop-left.invariant ∙ place_here c.loop-left.at c.args.search.now c.loop-left.left.now (sym c.if-starts_with.ensures.value)
    ∙ sym (to_z-of_z w64 c.in-Ok.place (rw c.in-Ok.ensures.1 c.in-Ok.ensures.0) ∙ c.in-Ok.ensures.1))

pub loop-left-preserved : goal.loop-left-preserved
loop-left-preserved c =
    let us = c.loop-left.left.now in
    ap (λ n. place_in n c.args.search.now (take (length us - 1) (drop 1 us))) c.in-Some.ensures.1
    ∙ sym (place_on c.loop-left.at c.args.search.now us (omega arith) (sym c.if-starts_with.ensures.value)) ∙ c.loop-left.invariant
