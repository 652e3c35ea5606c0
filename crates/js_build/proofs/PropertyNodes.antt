-- What the plain trees of properties are, and their heights.
use Rattle.std.proofs.Common.{◌≡◌, ◌+◌, max, ℕ, List, Option, ap, ◌∙◌}
use Rattle.js_terms.specs.declared.place.Loc.{Loc}
use Rattle.js_tree.specs.declared.tree.Expr.{Expr}
use Rattle.js_tree.specs.declared.tree.Function.{Function}
use Rattle.js_tree.specs.declared.tree.Property.{roll-Property}
use Rattle.js_tree.specs.declared.tree.PropertyKey.{PropertyKey}
use Rattle.js_tree.specs.declared.tree.PropertyNode.TheVariants as property_node
use Rattle.js_tree.specs.Plain as tree
use Rattle.js_tree.specs.Tree.{plain_expr, plain_function, plain_property, plain_property_key}
use Rattle.js_tree.specs.Height.{height_expr, height_function, height_property, height_property_key}
use Rattle.js_tree.proofs.Equations.{property_rolled, property_shorthand, property_key_value, property_method}

pub shorthand_tree : (w : List ℕ) (l : Option Loc) → plain_property (roll-Property (record { loc = l; node = property_node.Shorthand w })) ≡ tree.Shorthand l w
shorthand_tree w l = property_rolled (record { loc = l; node = property_node.Shorthand w }) ∙ property_shorthand w l

pub value_tree : (k : PropertyKey) (v : Expr) (l : Option Loc) → plain_property (roll-Property (record { loc = l; node = property_node.KeyValue k v })) ≡ tree.KeyValue l (plain_property_key k) (plain_expr v)
value_tree k v l = property_rolled (record { loc = l; node = property_node.KeyValue k v }) ∙ property_key_value k v l

pub method_tree : (k : PropertyKey) (f : Function) (l : Option Loc) → plain_property (roll-Property (record { loc = l; node = property_node.Method k f })) ≡ tree.Method l (plain_property_key k) (plain_function f)
method_tree k f l = property_rolled (record { loc = l; node = property_node.Method k f }) ∙ property_method k f l

pub shorthand_high : (w : List ℕ) (l : Option Loc) → height_property (plain_property (roll-Property (record { loc = l; node = property_node.Shorthand w }))) ≡ 2
shorthand_high w l = ap height_property (shorthand_tree w l)

pub value_high : (k : PropertyKey) (v : Expr) (l : Option Loc) → height_property (plain_property (roll-Property (record { loc = l; node = property_node.KeyValue k v }))) ≡ max (height_property_key (plain_property_key k)) (height_expr (plain_expr v)) + 1
value_high k v l = ap height_property (value_tree k v l)

pub method_high : (k : PropertyKey) (f : Function) (l : Option Loc) → height_property (plain_property (roll-Property (record { loc = l; node = property_node.Method k f }))) ≡ max (height_property_key (plain_property_key k)) (height_function (plain_function f)) + 1
method_high k f l = ap height_property (method_tree k f l)

pub ruleset shorthand_rules = (shorthand_tree, shorthand_high)

pub ruleset value_rules = (value_tree, value_high)

pub ruleset method_rules = (method_tree, method_high)
