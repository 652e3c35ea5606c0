use Rattle.std.proofs.Common.{◌≡◌, ap, ◌∙◌}
use Rattle.std.proofs.lemmas.Result.{IfOk-weaker}
use Rattle.js_value.specs.declared.built_in.Place.TheVariants as place
use Rattle.js_value.specs.Objects.{own}
use Rattle.js_value.specs.Realm.{number_of}
use Rattle.js_heap.specs.Heap.{heap_of}
use Rattle.js_coverage.specs.Coverage.{coverage_name, property_within}
use Rattle.js_coverage.proofs.coverage.coverage_data.Goals as goal

pub returns-in-Some : goal.returns-in-Some
returns-in-Some c =
    let h = heap_of c.args.heap.now in
    let key : c.in_ok-name.name ≡ coverage_name = c.in_ok-name.ensures ∙ c.in_ok-from_slice.ensures.items in
    let found = c.in-Some.ensures ∙ ap (λ o. own h o c.in_ok-name.name) c.object_at.ensures ∙ ap (own h (number_of place.Global)) key in
    IfOk-weaker c.value_data.result _ _ (λ tree is. is ∙ ap (property_within c.args.levels h) found) c.value_data.ensures
