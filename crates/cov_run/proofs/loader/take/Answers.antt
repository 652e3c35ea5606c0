-- The file is one of the sources, or why it isn't.
use Rattle.std.proofs.Common.{◌≡◌, ◌∙◌, map, string_bytes, subst}
use Rattle.js_tree.specs.Tree.{plain_file}
use Rattle.js_scopes.specs.Accepted.{Accepted}
use Rattle.cov_sources.specs.Refused.{HasOnly}
use Rattle.cov_run.specs.Loaded.{HasInput}
use Rattle.cov_run.specs.declared.fault.LoadFault.TheVariants.{ReadFault}
use Rattle.cov_run.specs.private.Step.{IsFileFault, IsInputFault}
use Rattle.cov_run.proofs.Loading.{stops_file, stops_map, goes_with, stops_with, same_fault}
use Rattle.cov_run.proofs.loader.take.Goals as goal

pub returns-in-Err-clause-fault : goal.returns-in-Err-clause-fault
returns-in-Err-clause-fault g c =
    stops_file (g.S.Store.held c.args.store.now) (map string_bytes c.args.exclude.now) c.args.path c.args.bytes.items c.args.sources.now.items c.args.queue.now c.in-Err.fault
    (subst (IsFileFault c.in-Err.fault c.args.path) c.as_slice.ensures.value c.in-Err.ensures.fault)

pub returns-in-Err-input_at-clause-fault : goal.returns-in-Err-input_at-clause-fault
returns-in-Err-input_at-clause-fault g c =
    let told = g.S.Store.held c.args.store.now in
    let tree = plain_file c.in-Ok.tree in
    let place : c.as_str.result.now ≡ c.args.path = c.as_str.ensures ∙ c.in-Ok.ensures.path in
    stops_map (map string_bytes c.args.exclude.now) c.args.path c.args.bytes.items c.args.sources.now.items c.args.queue.now tree
    (subst (λ bytes. Accepted bytes tree) c.as_slice.ensures.value c.in-Ok.ensures.accepted) (subst (λ bytes. HasOnly bytes tree) c.as_slice.ensures.value c.in-Ok.ensures.only)
    told c.in-Err-input_at.fault (subst (IsInputFault told c.in-Err-input_at.fault) place c.in-Err-input_at.ensures.fault)

pub returns-in-Err-input_at-clause-failed : goal.returns-in-Err-input_at-clause-failed
returns-in-Err-input_at-clause-failed g c = λ at is. (c.args.store.now, c.in-Err-input_at.ensures.failed at (same_fault c.in-Err-input_at.fault (ReadFault at) is))

pub keep-requires-clause-accepted : goal.keep-requires-clause-accepted
keep-requires-clause-accepted g c = subst (λ bytes. Accepted bytes (plain_file c.in-Ok.tree)) c.as_slice.ensures.value c.in-Ok.ensures.accepted

pub keep-requires-clause-only : goal.keep-requires-clause-only
keep-requires-clause-only g c = subst (λ bytes. HasOnly bytes (plain_file c.in-Ok.tree)) c.as_slice.ensures.value c.in-Ok.ensures.only

pub returns-in-Ok-input_at-clause-goes : goal.returns-in-Ok-input_at-clause-goes
returns-in-Ok-input_at-clause-goes g c =
    let told = g.S.Store.held c.args.store.now in
    let place : c.as_str.result.now ≡ c.args.path = c.as_str.ensures ∙ c.in-Ok.ensures.path in
    goes_with told (map string_bytes c.args.exclude.now) c.args.path c.in-Ok.path c.args.bytes.items c.in-Ok-input_at.input c.args.sources.now.items c.args.queue.now c.in-Ok.ensures.path
    (subst (λ path. HasInput told path c.in-Ok-input_at.input) place c.in-Ok-input_at.ensures.input) c.keep.result c.keep.new.sources.items c.keep.new.queue c.keep.ensures.goes

pub returns-in-Ok-input_at-clause-fault : goal.returns-in-Ok-input_at-clause-fault
returns-in-Ok-input_at-clause-fault g c =
    let told = g.S.Store.held c.args.store.now in
    let place : c.as_str.result.now ≡ c.args.path = c.as_str.ensures ∙ c.in-Ok.ensures.path in
    stops_with told (map string_bytes c.args.exclude.now) c.args.path c.in-Ok.path c.args.bytes.items c.in-Ok-input_at.input c.args.sources.now.items c.args.queue.now c.in-Ok.ensures.path
    (subst (λ path. HasInput told path c.in-Ok-input_at.input) place c.in-Ok-input_at.ensures.input) c.keep.result c.keep.ensures.fault
