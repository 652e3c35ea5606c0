-- What is seen is told by the next of the slots that are left.
use Rattle.std.proofs.Common.{◌≡◌, ap, sym, ◌∙◌, arith}
use Rattle.std.specs.Prelude.{◌&&◌}
use Rattle.std.specs.Option.{option_map}
use Rattle.js_grammar.specs.View.{plain_slot}
use Rattle.js_stack.specs.Sight as spec
use Rattle.js_stack.proofs.SightLemmas.{any_name_is, property_is, object_is, bound_name_is, item_is}
use Rattle.js_stack.proofs.sight.due.Goals as goal

pub returns : goal.returns
returns c =
    let object : c.if-is_object.result ≡ (spec.is_object c.args.form && spec.property_next (option_map plain_slot c.first-next.result)) = grind arith in
    let item : c.if-is_array.result ≡ (spec.is_array c.args.form && spec.items_next (option_map plain_slot c.first-next.result)) = grind arith in
    λ w ps l fs. (
      c.any_name_next.ensures ∙ (ap (λ next. spec.any_name_next (option_map plain_slot next)) c.first-next.ensures ∙ sym (any_name_is c.args.form w c.args.left.now ps l fs)),
      c.property_next-at_property.ensures ∙ (ap (λ next. spec.property_next (option_map plain_slot next)) c.first-next.ensures ∙ sym (property_is c.args.form w c.args.left.now ps l fs)),
      object ∙ (ap (λ next. spec.is_object c.args.form && spec.property_next (option_map plain_slot next)) c.first-next.ensures ∙ sym (object_is c.args.form w c.args.left.now ps l fs)),
      c.bound_name_next.ensures ∙ (ap (λ next. spec.bound_name_next (option_map plain_slot next)) c.first-next.ensures ∙ sym (bound_name_is c.args.form w c.args.left.now ps l fs)),
      item ∙ (ap (λ next. spec.is_array c.args.form && spec.items_next (option_map plain_slot next)) c.first-next.ensures ∙ sym (item_is c.args.form w c.args.left.now ps l fs)),
      c.is_tight.ensures,
    )
