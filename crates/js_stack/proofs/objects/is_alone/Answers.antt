-- A name is alone where it is no reserved word.
use Rattle.std.proofs.Common.{ap, sym, ◌∙◌}
use Rattle.std.specs.Prelude.{not}
use Rattle.js_tree.specs.Tree.{plain_property_key}
use Rattle.js_tree.proofs.Equations.{property_key_name_key}
use Rattle.js_reading.specs.Kinds.{is_keyword}
use Rattle.js_stack.specs.Objects.{is_alone}
use Rattle.js_stack.proofs.objects.is_alone.Goals as goal

pub returns-in-NameKey : goal.returns-in-NameKey
returns-in-NameKey c =
    ap not (c.is_keyword.ensures ∙ ap is_keyword c.as_str.ensures) ∙ sym (ap is_alone (ap plain_property_key c.in-NameKey.is ∙ property_key_name_key c.in-NameKey.name))
