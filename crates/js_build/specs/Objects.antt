-- Properties, read one by one from the front (13.2.5).
use Rattle.std.specs.Prelude.{List, ◌∷◌, Option, Some, None, if◌then◌else◌}
use Rattle.js_terms.specs.declared.place.Loc.{Loc}
use Rattle.js_tree.specs.Plain.{Expr, PropertyKey, NameKey, ComputedKey, Properties}
use Rattle.js_tree.specs.Plain as tree
use Rattle.js_tree.specs.Tree.{plain_expr, plain_properties, plain_property, plain_property_key}
use Rattle.js_reading.specs.Spans.{through}
use Rattle.js_reading.specs.Kinds.{is_keyword}
use Rattle.js_reading.specs.Slots.{Piece, AnExpr, AKey, APlace, Missing, IsComputed, IsMethod}
use Rattle.js_reading.specs.Makes.{is_proto, length_of, properties_of}
use Rattle.js_build.specs.declared.operand.Key.{Key}
use Rattle.js_build.specs.declared.properties.Definition.{Definition}
use Rattle.js_build.specs.declared.properties.Definition.TheVariants as code
use Rattle.js_build.specs.declared.properties.MadeProperties.{MadeProperties}
use Rattle.js_build.specs.declared.properties.MadeProperty.{MadeProperty}

-- ---- keys

-- the place that is first, and the pieces after it
abbrev pub first_place : List Piece → Option (Loc × List Piece)
first_place (APlace l ∷ ps) = Some (l, ps)
first_place ps = None

abbrev pub place_taken : Option Loc → List Piece → Option (Loc × List Piece)
place_taken None ps = None
place_taken (Some l) ps = Some (l, ps)

-- a computed key after its mark, with its place, and the pieces after it
abbrev pub computed_of : List Piece → Option ((PropertyKey × Loc) × List Piece)
computed_of (APlace l ∷ AnExpr i e ∷ ps) = Some ((ComputedKey e, l), ps)
computed_of ps = None

-- a key that begins with a piece
abbrev pub key_of : Piece → List Piece → Option ((PropertyKey × Loc) × List Piece)
key_of IsComputed ps = computed_of ps
key_of (AKey k l) ps = Some ((k, l), ps)
key_of p ps = None

abbrev pub key_view : Option (Key × Loc) → List Piece → Option ((PropertyKey × Loc) × List Piece)
key_view None ps = None
key_view (Some x) ps = Some ((plain_property_key x.0.tree, x.1), ps)

-- ---- what stands after a key

-- nothing, a value and its place, or the mark of a method
pub data Defined : Type 0 where
  BySelf : Defined
  ByValue : Expr → Loc → Defined
  ByMethod : Defined

abbrev pub definition_of : List Piece → Option (Defined × List Piece)
definition_of (Missing ∷ ps) = Some (BySelf, ps)
definition_of (AnExpr i v ∷ APlace m ∷ ps) = Some (ByValue v m, ps)
definition_of (IsMethod ∷ ps) = Some (ByMethod, ps)
definition_of ps = None

abbrev pub plain_definition : Definition → Defined
plain_definition code.Shorthand = BySelf
plain_definition (code.Value v m) = ByValue (plain_expr v.tree) m
plain_definition code.Method = ByMethod

abbrev pub definition_view : Option Definition → List Piece → Option (Defined × List Piece)
definition_view None ps = None
definition_view (Some x) ps = Some (plain_definition x, ps)

-- ---- properties

-- a name alone, which is no reserved word
abbrev pub shorthand_of : PropertyKey → Loc → Option tree.Property
shorthand_of (NameKey w) l = if is_keyword w then None else Some (tree.Shorthand (Some l) w)
shorthand_of k l = None

-- a key and a value, but for `__proto__`
abbrev pub key_value_of : PropertyKey → Loc → Expr → Loc → Option tree.Property
key_value_of k l v m = if is_proto k then None else Some (tree.KeyValue (Some (through l m)) k v)

abbrev pub with_rest : Option tree.Property → List Piece → Option (tree.Property × List Piece)
with_rest None ps = None
with_rest (Some p) ps = Some (p, ps)

abbrev pub property_if : Option MadeProperty → Option tree.Property
property_if None = None
property_if (Some x) = Some (plain_property x.tree)

abbrev pub property_view : Option MadeProperty → List Piece → Option (tree.Property × List Piece)
property_view x ps = with_rest (property_if x) ps

-- all properties: each takes a piece at least
unfoldable pub all_properties : List Piece → Option Properties
all_properties ps = properties_of (length_of ps) ps

abbrev pub properties_view : MadeProperties → Properties
properties_view xs = plain_properties xs.items
