use Rattle.std.proofs.Common.{◌≡◌, to_z, of_z, w64, ◌++◌, ◌∷◌, [], suc, map, take, string_bytes, arith, sym, ap, ◌∙◌, rules}
use Rattle.std.proofs.lemmas.Int.{to_z-of_z}
use Rattle.std.proofs.lemmas.List.{map-append}
use Rattle.items.specs.declared.data.Data.TheVariants as tree
use Rattle.serde_json.specs.Data.{null, boolean, number, string, array, object, put, depth, items_depth, members_depth}
use Rattle.serde_json.specs.declared.value.Value.{the_lemmas}
use Rattle.serde_json.specs.declared.value.Value as json
use Rattle.serde_json.specs.Find.{of_integer}
use Rattle.serde_json.specs.Number.{num_of}
use Rattle.serde_json.specs.View.{view, items_view, members_view, items_of}
use Rattle.serde_json.proofs.Views.{view-Array, view-Object, members_view-insert_entry}
use Rattle.cov_object.specs.Data.{value_of, member_of, deepest, depth_of, property_depth}
use Rattle.cov_object.specs.Json.{by_key}
use Rattle.cov_object.proofs.DataForms.{value_null, value_boolean, value_number, value_string, value_array, value_object, member_made, depth_array, depth_object, depth_made, deepest-taken, map-taken, items_depth-more, put-depth, by_key-more}
use Rattle.cov_object.proofs.data.+value.Goals as goal

pub values_of-loop-item-preserved : goal.values_of-loop-item-preserved
values_of-loop-item-preserved t c =
    let l = c.loop-item in
    let item = c.item-item.result in
    let value = c.in_ok-value_of.field-0 in
    let pushed : map view c.push.new.self.items ≡ map view l.values.items ++ view value ∷ [] = ap (map view) c.in_ok-push.ensures.items ∙ map-append view l.values.items (value ∷ []) in
    let more = deepest-taken depth_of c.args.items.now l.item-index item c.loop-item-test.true c.item-item.is in
    let deep : items_depth (items_view c.push.new.self.items) ≡ _ = ap (λ ds. items_depth (items_of ds)) pushed ∙ items_depth-more (map view l.values.items) (view value) in
    let within = c.in_ok-value_of.ensures.nests in (
      pushed
          ∙ ap (λ ds. ds ++ view value ∷ []) l.invariant.0
          ∙ ap (λ d. map value_of (take l.item-index c.args.items.now) ++ d ∷ []) c.in_ok-value_of.ensures.value
          ∙ sym (map-taken value_of c.args.items.now l.item-index item c.loop-item-test.true c.item-item.is),
      omega (arith, deep, more, within, l.invariant.1),
    )

pub members_of-loop-property-preserved : goal.members_of-loop-property-preserved
members_of-loop-property-preserved t c =
    let l = c.loop-property in
    let property = c.property-item.result in
    let key = c.in_ok-key.key in
    let value = c.in_ok-value.value in
    let copied : string_bytes key ≡ property.key = search rules in
    let made : member_of property ≡ (string_bytes key, view value) =
    member_made property ∙ ap (λ k. (k, value_of property.value)) (sym copied) ∙ ap (λ d. (string_bytes key, d)) (sym c.in_ok-value.ensures.value) in
    let put_in : members_view c.insert.new.self.entries ≡ put (string_bytes key) (view value) (members_view l.members.entries) =
    ap members_view c.in_ok-insert.ensures.entries ∙ members_view-insert_entry l.members.entries key value in
    let more = deepest-taken property_depth c.args.properties.now l.property-index property c.loop-property-test.true c.property-item.is in
    let deep = put-depth (string_bytes key) (view value) (members_view l.members.entries) in
    let own : property_depth property ≡ depth_of property.value = depth_made property in
    let deeper : members_depth (members_view c.insert.new.self.entries) ≡ _ = ap members_depth put_in in
    let within = c.in_ok-value.ensures.nests in (
      put_in
          ∙ ap (put (string_bytes key) (view value)) l.invariant.0
          ∙ sym (by_key-more (map member_of (take l.property-index c.args.properties.now)) (string_bytes key) (view value))
          ∙ ap (λ m. by_key (map member_of (take l.property-index c.args.properties.now) ++ m ∷ [])) (sym made)
          ∙ ap by_key (sym (map-taken member_of c.args.properties.now l.property-index property c.loop-property-test.true c.property-item.is)),
      omega (arith, deep, deeper, own, more, within, l.invariant.1),
    )

pub value_of-returns-in-Null-clause-value : goal.value_of-returns-in-Null-clause-value
value_of-returns-in-Null-clause-value t c =
    let is : c.args.tree.now ≡ tree.Null = search rules in
    let seen : view json.Null ≡ null = search (rules, the_lemmas) in
    seen ∙ sym (ap value_of is ∙ value_null)

pub value_of-returns-in-Boolean-clause-value : goal.value_of-returns-in-Boolean-clause-value
value_of-returns-in-Boolean-clause-value t c =
    let is : c.args.tree.now ≡ tree.Boolean c.in-Boolean.truth = search rules in
    let seen : view (json.Bool c.in-Boolean.truth) ≡ boolean c.in-Boolean.truth = search (rules, the_lemmas) in
    seen ∙ sym (ap value_of is ∙ value_boolean c.in-Boolean.truth)

pub value_of-returns-in-Number-clause-value : goal.value_of-returns-in-Number-clause-value
value_of-returns-in-Number-clause-value t c =
    let is : c.args.tree.now ≡ tree.Number c.in-Number.n = search rules in
    let seen : view (json.Number c.from.result) ≡ number (num_of c.from.result.n) = search (rules, the_lemmas) in
    let held : to_z w64 (of_z w64 c.in-Number.n) ≡ c.in-Number.n = to_z-of_z w64 c.in-Number.n (search rules) in
    seen ∙ ap number c.from.ensures ∙ ap (λ n. number (of_integer n)) held ∙ sym (ap value_of is ∙ value_number c.in-Number.n)

pub value_of-returns-in_ok-from_str-in-String-clause-value : goal.value_of-returns-in_ok-from_str-in-String-clause-value
value_of-returns-in_ok-from_str-in-String-clause-value t c =
    let text = c.in_ok-from_str-in-String.field-0 in
    let is : c.args.tree.now ≡ tree.String c.as_str.result.now = search rules in
    let seen : view (json.String text) ≡ string (string_bytes text) = search (rules, the_lemmas) in
    let copied : string_bytes text ≡ c.as_str.result.now = search rules in
    seen ∙ ap string copied ∙ sym (ap value_of is ∙ value_string c.as_str.result.now)

pub value_of-returns-in_ok-values_of-in-Array-clause-nests : goal.value_of-returns-in_ok-values_of-in-Array-clause-nests
value_of-returns-in_ok-values_of-in-Array-clause-nests t c =
    let is : c.args.tree.now ≡ tree.Array c.as_slice.result.now = search rules in
    let own : depth_of c.args.tree.now ≡ suc (deepest (map depth_of c.as_slice.result.now)) = ap depth_of is ∙ depth_array c.as_slice.result.now in
    let whole : depth (view _) ≡ _ = ap depth (view-Array c.in_ok-values_of-in-Array.field-0) in
    let within = c.in_ok-values_of-in-Array.ensures.nest in
    omega (arith, own, whole, within)

pub value_of-returns-in_ok-values_of-in-Array-clause-value : goal.value_of-returns-in_ok-values_of-in-Array-clause-value
value_of-returns-in_ok-values_of-in-Array-clause-value t c =
    let is : c.args.tree.now ≡ tree.Array c.as_slice.result.now = search rules in
    view-Array c.in_ok-values_of-in-Array.field-0
    ∙ ap array c.in_ok-values_of-in-Array.ensures.values
    ∙ sym (ap value_of is ∙ value_array c.as_slice.result.now)

pub value_of-returns-in_ok-members_of-in-Object-clause-nests : goal.value_of-returns-in_ok-members_of-in-Object-clause-nests
value_of-returns-in_ok-members_of-in-Object-clause-nests t c =
    let is : c.args.tree.now ≡ tree.Object c.as_slice-in-Object.result.now = search rules in
    let own : depth_of c.args.tree.now ≡ suc (deepest (map property_depth c.as_slice-in-Object.result.now)) = ap depth_of is ∙ depth_object c.as_slice-in-Object.result.now in
    let whole : depth (view _) ≡ _ = ap depth (view-Object c.in_ok-members_of-in-Object.field-0) in
    let within = c.in_ok-members_of-in-Object.ensures.nest in
    omega (arith, own, whole, within)

pub value_of-returns-in_ok-members_of-in-Object-clause-value : goal.value_of-returns-in_ok-members_of-in-Object-clause-value
value_of-returns-in_ok-members_of-in-Object-clause-value t c =
    let is : c.args.tree.now ≡ tree.Object c.as_slice-in-Object.result.now = search rules in
    view-Object c.in_ok-members_of-in-Object.field-0
    ∙ ap object c.in_ok-members_of-in-Object.ensures.members
    ∙ sym (ap value_of is ∙ value_object c.as_slice-in-Object.result.now)
