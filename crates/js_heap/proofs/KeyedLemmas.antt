-- An object of which no key is an index.
use Rattle.std.proofs.Common.{◌≡◌, ℕ, ◌-◌, ◌^◌, ◌<◌, true, false, map, Some, None, is_some, option_map, position, pos, refl, sym, ap, ◌∙◌, if◌then◌else◌}
use Rattle.std.specs.Str.{bytes_eq}
use Rattle.js_value.specs.Numbers.{decimal_text}
use Rattle.js_value.specs.Objects.{is_array, own_of, own_of_array, property_of}
use Rattle.js_value.proofs.IndexLemmas.{index_read}
use Rattle.js_heap.specs.declared.object.ObjectKind.{ObjectKind}
use Rattle.js_heap.specs.declared.object.ObjectKind.TheVariants as kind
use Rattle.js_heap.specs.declared.object.ObjectRecord.{ObjectRecord}
use Rattle.js_heap.specs.declared.object.Property.{Property}
use Rattle.js_heap.specs.Object.{plain_kind, plain_object, plain_property}
use Rattle.js_heap.specs.private.Keys.{NoIndices}
use Rattle.js_heap.proofs.Lists.{find-map, find-position_none, position-map}

pub not_array : (k : ObjectKind) → (k ≡ kind.Array → ⊥) → is_array (plain_kind k) ≡ false
not_array kind.Plain h = refl
not_array kind.Array h = absurd (h refl)
not_array kind.Error h = refl
not_array kind.RegExp h = refl
not_array (kind.BuiltIn function) h = refl
not_array (kind.Written code environment) h = refl

pub lacks_key : (object : ObjectRecord) (n : ℕ) → is_array (plain_kind object.kind) ≡ false → n < 2 ^ 32 - 1 → NoIndices (map (λ (p : Property). p.key) object.properties.items.items) →
    own_of (plain_object object) (decimal_text (pos n)) ≡ None
lacks_key object n other small none =
    let key = decimal_text (pos n) in
    let ps = object.properties.items.items in
    let nowhere : position (λ k. bytes_eq k key) (map (λ (p : Property). p.key) ps) ≡ None = none key (ap is_some (index_read n small)) in
    ap (λ b. if b then own_of_array (plain_object object) key else property_of (plain_object object).properties key) other
    ∙ find-map (λ p. bytes_eq p.key key) plain_property ps
    ∙ ap (option_map plain_property) (find-position_none (λ (p : Property). bytes_eq p.key key) ps (sym (position-map (λ k. bytes_eq k key) (λ (p : Property). p.key) ps) ∙ nowhere))
