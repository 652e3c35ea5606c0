-- How high a property is, and the highest of a list.
use Rattle.std.specs.Prelude.{ℕ, List}
use Rattle.js_tree.specs.declared.tree.Property.{Property}
use Rattle.js_tree.specs.Tree.{plain_properties, plain_property}
use Rattle.js_tree.specs.Height.{height_properties, height_property}

abbrev pub property_height : Property → ℕ
property_height p = height_property (plain_property p)

abbrev pub properties_height : List Property → ℕ
properties_height ps = height_properties (plain_properties ps)
