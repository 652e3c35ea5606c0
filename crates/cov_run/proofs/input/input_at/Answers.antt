-- What is held beside the file is its map, or isn't.
use Rattle.std.proofs.Common.{◌≡◌, Some, ◌∙◌, subst}
use Rattle.cov_run.specs.Loaded.{Holds, map_in}
use Rattle.cov_run.specs.private.Step.{IsMapFault}
use Rattle.std.specs.Prelude.{Ok, IfErr, IfOk}
use Rattle.cov_run.proofs.Inputs.{nothing_there, is_input, no_input}
use Rattle.cov_run.proofs.Loading.{holds_bytes, holds_none}
use Rattle.cov_run.proofs.input.input_at.Goals as goal

pub returns-in-Ok-Some-clause-input : goal.returns-in-Ok-Some-clause-input
returns-in-Ok-Some-clause-input g c =
    let told = g.S.Store.held c.args.store.now in
    let place = c.as_str.result.now in
    let holds = holds_bytes told place c.in-Ok-Some.field-0 c.in-Ok-Some.bytes c.in-Ok-Some.ensures.value c.in-Ok-Some.field-0-is in
    is_input told c.args.path.now place (c.as_str.ensures ∙ c.in_ok-place.ensures) c.in-Ok-Some.bytes.items holds c.input_in.result
    (subst (λ bytes. IfOk c.input_in.result (λ input. map_in (Some bytes) ≡ Ok input)) c.as_slice.ensures.value c.input_in.ensures.input) c.input_in.ensures.texts

pub returns-in-Ok-Some-clause-fault : goal.returns-in-Ok-Some-clause-fault
returns-in-Ok-Some-clause-fault g c =
    let told = g.S.Store.held c.args.store.now in
    let place = c.in_ok-place.place in
    let holds = subst (λ p. Holds told p (Some c.in-Ok-Some.bytes.items)) c.as_str.ensures
    (holds_bytes told c.as_str.result.now c.in-Ok-Some.field-0 c.in-Ok-Some.bytes c.in-Ok-Some.ensures.value c.in-Ok-Some.field-0-is) in
    no_input told c.args.path.now place c.in_ok-place.ensures c.in-Ok-Some.bytes.items holds c.input_in.result
    (subst (λ bytes. IfErr c.input_in.result (λ why. IsMapFault why place bytes)) c.as_slice.ensures.value c.input_in.ensures.fault)

pub returns-in-Ok-None-clause-input : goal.returns-in-Ok-None-clause-input
returns-in-Ok-None-clause-input g c =
    let told = g.S.Store.held c.args.store.now in
    let place = c.as_str.result.now in
    nothing_there told c.args.path.now place (c.as_str.ensures ∙ c.in_ok-place.ensures)
    (holds_none told place c.in-Ok-None.field-0 c.in-Ok-None.ensures.value c.in-Ok-None.field-0-is)
