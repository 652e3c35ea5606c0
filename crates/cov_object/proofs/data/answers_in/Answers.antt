use Rattle.std.proofs.Common.{◌≡◌, ◌++◌, ◌∷◌, [], map, take, string_bytes, arith, sym, ap, ◌∙◌, rules}
use Rattle.std.proofs.lemmas.List.{take_all}
use Rattle.serde_json.specs.View.{view}
use Rattle.cov_object.specs.Data.{value_of, member_of, property_depth}
use Rattle.cov_object.specs.Json.{by_key}
use Rattle.cov_object.specs.Read.{file_of}
use Rattle.cov_object.specs.private.ByFile.{answers, answered}
use Rattle.cov_object.proofs.ByFile.{answered-put}
use Rattle.cov_object.proofs.DataForms.{member_made, depth_made, deepest-holds, map-taken, by_key-more}
use Rattle.cov_object.proofs.data.answers_in.Goals as goal

pub answer_of-requires : goal.answer_of-requires
answer_of-requires c =
    let l = c.loop-property in
    let property = c.property-item.result in
    let held = deepest-holds property_depth c.args.properties.now l.property-index property c.loop-property-test.true c.property-item.is in
    let own = depth_made property in
    omega (arith, held, own, c.in_ok-value.ensures.nests, c.requires)

pub loop-property-preserved : goal.loop-property-preserved
loop-property-preserved c =
    let l = c.loop-property in
    let property = c.property-item.result in
    let key = c.in_ok-key.key in
    let value = c.in_ok-value.value in
    let answer = c.in_ok-answer.answer in
    let before = by_key (map member_of (take l.property-index c.args.properties.now)) in
    let copied : string_bytes key ≡ property.key = search rules in
    let made : member_of property ≡ (string_bytes key, view value) =
    member_made property ∙ ap (λ k. (k, value_of property.value)) (sym copied) ∙ ap (λ d. (string_bytes key, d)) (sym c.in_ok-value.ensures.value) in
    let told : answer ≡ file_of (string_bytes key) (view value) = search rules in
    ap (λ ms. answers (by_key ms)) (map-taken member_of c.args.properties.now l.property-index property c.loop-property-test.true c.property-item.is)
    ∙ ap (λ m. answers (by_key (map member_of (take l.property-index c.args.properties.now) ++ m ∷ []))) made
    ∙ ap answers (by_key-more (map member_of (take l.property-index c.args.properties.now)) (string_bytes key) (view value))
    ∙ answered-put l.found.entries key answer (view value) before l.invariant told
    ∙ ap answered (sym c.in_ok-insert.ensures.entries)

pub returns : goal.returns
returns c =
    let l = c.loop-property in
    sym (ap (λ ps. answers (by_key (map member_of ps))) (sym (take_all l.property-index c.args.properties.now c.loop-property-test.false)) ∙ l.invariant)
