use Rattle.std.proofs.Common.{◌∙◌, sym, ap}
use Rattle.std.specs.Prelude.{codes}
use Rattle.std.specs.Str.{bytes_eq}
use Rattle.js_tree.specs.Plain as tree
use Rattle.js_tree.specs.Tree.{plain_property_key}
use Rattle.js_tree.proofs.Equations.{property_key_name_key, property_key_string_key, property_key_number_key, property_key_computed_key}
use Rattle.js_reading.specs.Makes.{is_proto}
use Rattle.js_build.proofs.objects.is_proto.Goals as goal

pub returns-in-NameKey : goal.returns-in-NameKey
returns-in-NameKey c = c.eq.ensures ∙ ap (λ w. is_proto (tree.NameKey w)) c.as_str.ensures ∙ sym (ap (λ k. is_proto (plain_property_key k)) c.in-NameKey.is ∙ ap is_proto (property_key_name_key c.in-NameKey.name))

pub returns-in-StringKey : goal.returns-in-StringKey
returns-in-StringKey c = c.is_proto_string.ensures ∙ ap (λ u. bytes_eq u (codes "__proto__")) c.as_slice.ensures ∙ sym (ap (λ k. is_proto (plain_property_key k)) c.in-StringKey.is ∙ ap is_proto (property_key_string_key c.in-StringKey.string))

pub returns-in-NumberKey : goal.returns-in-NumberKey
returns-in-NumberKey c = sym (ap (λ k. is_proto (plain_property_key k)) c.in-NumberKey.is ∙ ap is_proto (property_key_number_key c.in-NumberKey.field-0))

pub returns-in-ComputedKey : goal.returns-in-ComputedKey
returns-in-ComputedKey c = sym (ap (λ k. is_proto (plain_property_key k)) c.in-ComputedKey.is ∙ ap is_proto (property_key_computed_key c.in-ComputedKey.field-0))
