use Rattle.std.proofs.Common.{Bool, Some, None, if◌then◌else◌, ◌∙◌, sym, ap}
use Rattle.js_tree.specs.Plain as tree
use Rattle.js_tree.specs.Tree.{plain_property_key}
use Rattle.js_tree.proofs.Equations.{property_key_name_key, property_key_string_key, property_key_number_key, property_key_computed_key}
use Rattle.js_reading.specs.Kinds.{is_keyword}
use Rattle.js_build.specs.Objects.{shorthand_of}
use Rattle.js_build.proofs.PropertyNodes.{shorthand_tree, shorthand_high}
use Rattle.js_build.proofs.objects.shorthand.Goals as goal

pub returns-then-is_keyword : goal.returns-then-is_keyword
returns-then-is_keyword c =
    let l = c.args.place in
    let w = c.in-NameKey.name in
    sym (ap (λ k. shorthand_of (plain_property_key k) l) c.in-NameKey.is ∙ ap (λ k. shorthand_of k l) (property_key_name_key w)
    ∙ ap (λ (b : Bool). if b then None else Some (tree.Shorthand (Some l) w)) (sym (c.if-is_keyword.ensures ∙ ap is_keyword c.as_str.ensures)))

pub returns-in-NameKey : goal.returns-in-NameKey
returns-in-NameKey c =
    let l = c.args.place in
    let w = c.in-NameKey.name in
    ap Some (shorthand_tree w (Some l))
    ∙ sym (ap (λ k. shorthand_of (plain_property_key k) l) c.in-NameKey.is ∙ ap (λ k. shorthand_of k l) (property_key_name_key w)
    ∙ ap (λ (b : Bool). if b then None else Some (tree.Shorthand (Some l) w)) (sym (c.if-is_keyword.ensures ∙ ap is_keyword c.as_str.ensures)))

pub invariant_of-result : goal.invariant_of-result
invariant_of-result c = record { height_exact = sym (shorthand_high c.in-NameKey.name (Some c.args.place)) }

pub returns-in-StringKey : goal.returns-in-StringKey
returns-in-StringKey c = sym (ap (λ k. shorthand_of (plain_property_key k) c.args.place) c.in-StringKey.is ∙ ap (λ k. shorthand_of k c.args.place) (property_key_string_key c.in-StringKey.field-0))

pub returns-in-NumberKey : goal.returns-in-NumberKey
returns-in-NumberKey c = sym (ap (λ k. shorthand_of (plain_property_key k) c.args.place) c.in-NumberKey.is ∙ ap (λ k. shorthand_of k c.args.place) (property_key_number_key c.in-NumberKey.field-0))

pub returns : goal.returns
returns c = sym (ap (λ k. shorthand_of (plain_property_key k) c.args.place) c.in-ComputedKey.is ∙ ap (λ k. shorthand_of k c.args.place) (property_key_computed_key c.in-ComputedKey.field-0))
