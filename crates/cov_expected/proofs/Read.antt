-- What a heap holds as objects and arrays of their own is read back.
use Rattle.std.proofs.Common.{◌≡◌, ℕ, zero, suc, ◌≤◌, List, [], ◌∷◌, ◌++◌, map, fold, true, false, if◌then◌else◌, Option, Some, None, option_map, pos, negsuc, refl, sym, ap, ◌∙◌, arith, encode_utf8_all}
use Rattle.std.specs.Prelude.{bytes_eq}
use Rattle.std.specs.Char.Utf16.{has_unpaired_surrogate, utf16_lossy_chars}
use Rattle.std.specs.BTreeMap.{insert_entry}
use Rattle.std.specs.Ordering.{nat_cmp, match_ordering}
use Rattle.std.specs.declared.cmp.Ordering.{Ordering}
use Rattle.std.specs.declared.cmp.Ordering.TheVariants.{Less, Equal, Greater}
use Rattle.std.proofs.lemmas.Slice.Eq.{bytes_eq-Decides}
use Rattle.std.proofs.lemmas.Map.Lookups.{exact_bytes}
use Rattle.items.specs.declared.data.Data.{Data as Tree}
use Rattle.items.specs.declared.data.Data.TheVariants as form
use Rattle.items.specs.declared.data.Data.TheFolds.{fold-roll-DataProperty}
use Rattle.items.specs.declared.data.DataProperty.{DataProperty, roll-DataProperty}
use Rattle.serde_json.specs.Data.{Data, null, array, object, item, no_members as nothing}
use Rattle.serde_json.specs.View.{items_of}
use Rattle.cov_object.specs.Json.{by_key}
use Rattle.cov_object.specs.Data as tree
use Rattle.cov_object.proofs.DataForms.{value_null, value_boolean, value_number, value_string, value_array, value_object, depth_null, depth_boolean, depth_number, depth_string, depth_array, depth_object}
use Rattle.js_value.specs.declared.value.Value.{Value}
use Rattle.js_value.specs.declared.key.Key.{Key}
use Rattle.js_value.specs.State.{Property, Heap}
use Rattle.js_value.specs.Key.{index_of, key_of, put_index, indexed, others, ordered_keys}
use Rattle.js_value.specs.Objects.{object_at, own, own_of, keys_of_object, property_of, assigned}
use Rattle.js_value.specs.Copying.{if_enumerable}
use Rattle.js_coverage.specs.Coverage as read
use Rattle.js_counter.specs.Represents.{Json, JsonMembers, no_members, members, Placed, PlacedItems, PlacedMembers, null as placed_null, truth, negative, number, unit_text, array as placed_array, plain, none, item as placed_item, empty, member, json_of, json_items, json_members, value_at, values_of, properties_of, plain_object, plain_array, Holds, HoldsItems, HoldsMembers}
use Rattle.cov_expected.specs.Told.{text_of, value_of, items_value, entries_of, nesting, item_nesting, member_nesting, IsNew, IsTellable, AreTellable, MembersAreTellable}
use Rattle.cov_expected.specs.Laws.{Tells}
use Rattle.cov_expected.proofs.Ordered.{unequal, Away}
use Rattle.cov_expected.proofs.Keys.{Apart, in_key_order, property_entries, entry_of}

-- Keys

other_key : (a b : List ℕ) → (text_of a ≡ text_of b → ⊥) → bytes_eq a b ≡ false
other_key a b other = unequal a b (λ same. other (ap text_of same))

same_key : (a : List ℕ) → bytes_eq a a ≡ true
same_key a = (bytes_eq-Decides a a).1 refl

-- something holds of each of the keys
module _ (P : List ℕ → Type 0) where
  abbrev Each : List Key → Type 0
  Each [] = Unit {0}
  Each (k ∷ ks) = P k.key × Each ks

  abbrev EachSorted : List (ℕ × Key) → Type 0
  EachSorted [] = Unit {0}
  EachSorted (x ∷ xs) = P x.1.key × EachSorted xs

  sorted_by : (o : Ordering) (n : ℕ) (k : Key) (x : ℕ × Key) (xs rest : List (ℕ × Key)) → P k.key → EachSorted (x ∷ xs) → EachSorted rest →
      EachSorted (match_ordering o ((n, k) ∷ x ∷ xs) ((x.0, k) ∷ xs) (x ∷ rest))
  sorted_by Less n k x xs rest p each later = (p, each)
  sorted_by Equal n k x xs rest p each later = (p, each.1)
  sorted_by Greater n k x xs rest p each later = (each.0, later)

  each_inserted : (n : ℕ) (k : Key) (xs : List (ℕ × Key)) → P k.key → EachSorted xs → EachSorted (insert_entry nat_cmp xs n k)
  each_inserted n k [] p each = (p, tt)
  each_inserted n k (x ∷ xs) p each = sorted_by (nat_cmp n x.0) n k x xs (insert_entry nat_cmp xs n k) p each (each_inserted n k xs p each.1)

  put_by : (p : Property) (xs : List (ℕ × Key)) (o : Option ℕ) → P p.key → EachSorted xs → EachSorted (elim o [ None ↦ xs | Some n ↦ insert_entry nat_cmp xs n (key_of p) ])
  put_by p xs None is each = each
  put_by p xs (Some n) is each = each_inserted n (key_of p) xs is each

  each_indexed : (ps : List Property) (xs : List (ℕ × Key)) → Each (map key_of ps) → EachSorted xs → EachSorted (fold put_index xs ps)
  each_indexed [] xs all each = each
  each_indexed (p ∷ ps) xs all each = each_indexed ps (put_index xs p) all.1 (put_by p xs (index_of p.key) all.0 each)

  others_by : (p : Property) (ps : List Property) (o : Option ℕ) → P p.key → Each (others ps) → Each (elim o [ None ↦ key_of p ∷ others ps | Some n ↦ others ps ])
  others_by p ps None is each = (is, each)
  others_by p ps (Some n) is each = each

  each_other : (ps : List Property) → Each (map key_of ps) → Each (others ps)
  each_other [] all = tt
  each_other (p ∷ ps) all = others_by p ps (index_of p.key) all.0 (each_other ps all.1)

  each_append : (xs : List (ℕ × Key)) (ks : List Key) → EachSorted xs → Each ks → Each (map (λ x. x.1) xs ++ ks)
  each_append [] ks first rest = rest
  each_append (x ∷ xs) ks first rest = (first.0, each_append xs ks first.1 rest)

  each_ordered : (ps : List Property) → Each (map key_of ps) → Each (ordered_keys ps)
  each_ordered ps all = each_append (indexed ps) (others ps) (each_indexed ps [] all tt) (each_other ps all)

-- what stands under a key
abbrev found_value : JsonMembers → List ℕ → Data
found_value no_members key = null
found_value (members q x ms) key = if bytes_eq q key then value_of x else found_value ms key

module _ (h : Heap) (n : ℕ) where
  -- a key of these properties and members is read
  record ReadKey (ps : List Property) (ms : JsonMembers) (key : List ℕ) : Type 0 where
    held : Value
    own_is : if_enumerable (property_of ps key) ≡ Some held
    paired : has_unpaired_surrogate key ≡ false
    found : Tree
    is : read.data_within n h held ≡ Some found
    tells : tree.value_of found ≡ found_value ms key
    deep : tree.depth_of found ≤ member_nesting ms

  abbrev EachTells : PlacedMembers → Type 0
  EachTells empty = Unit {0}
  EachTells (member q x ms) = Tells n h (value_at x) (json_of x) × EachTells ms

  later : (q : List ℕ) (x : Placed) (ms : PlacedMembers) (key : List ℕ) → bytes_eq q key ≡ false → ReadKey (properties_of ms) (json_members ms) key →
      ReadKey (properties_of (member q x ms)) (json_members (member q x ms)) key
  later q x ms key other r = record {
    held = r.held;
    own_is = ap (λ b. if_enumerable (if b then Some (assigned q (value_at x)) else property_of (properties_of ms) key)) other ∙ r.own_is;
    paired = r.paired;
    found = r.found;
    is = r.is;
    tells = r.tells ∙ sym (ap (λ b. if b then value_of (json_of x) else found_value (json_members ms) key) other);
    deep = omega (arith, r.deep);
  }

  first : (q : List ℕ) (x : Placed) (ms : PlacedMembers) → has_unpaired_surrogate q ≡ false → Tells n h (value_at x) (json_of x) → ReadKey (properties_of (member q x ms)) (json_members (member q x ms)) q
  first q x ms paired t = record {
    held = value_at x;
    own_is = ap (λ b. if_enumerable (if b then Some (assigned q (value_at x)) else property_of (properties_of ms) q)) (same_key q);
    paired = paired;
    found = t.found;
    is = t.is;
    tells = t.value ∙ sym (ap (λ b. if b then value_of (json_of x) else found_value (json_members ms) q) (same_key q));
    deep = omega (arith, t.deep);
  }

  all_later : (q : List ℕ) (x : Placed) (ms some : PlacedMembers) → IsNew q (json_members some) → Each (ReadKey (properties_of ms) (json_members ms)) (map key_of (properties_of some)) →
      Each (ReadKey (properties_of (member q x ms)) (json_members (member q x ms))) (map key_of (properties_of some))
  all_later q x ms empty new each = tt
  all_later q x ms (member k y some) new each = (later q x ms k (other_key q k new.0) each.0, all_later q x ms some new.1 each.1)

  all_read : (ms : PlacedMembers) → EachTells ms → MembersAreTellable (json_members ms) → Each (ReadKey (properties_of ms) (json_members ms)) (map key_of (properties_of ms))
  all_read empty tell able = tt
  all_read (member q x ms) tell able = (first q x ms able.0 tell.0, all_later q x ms ms able.2 (all_read ms tell.1 able.3))

  -- the properties of an object
  record PropertiesTell (o : ℕ) (ms : JsonMembers) (ks : List Key) : Type 0 where
    list : List DataProperty
    is : read.properties_data (read.data_within n h) h o ks ≡ Some list
    entries : map tree.member_of list ≡ map (entry_of text_of (found_value ms)) ks
    deep : tree.deepest (map tree.property_depth list) ≤ member_nesting ms

  text_is : (key : List ℕ) → has_unpaired_surrogate key ≡ false → read.text_data key ≡ Some (text_of key)
  text_is key paired = ap (λ b. if b then None else Some (encode_utf8_all (utf16_lossy_chars key))) paired

  rolled : (key : List ℕ) (found : Tree) → tree.member_of (roll-DataProperty (record { key = key; value = found })) ≡ (key, tree.value_of found)
  unfolding tree.member_of tree.value_of
  rolled key found = fold-roll-DataProperty Data (List ℕ × Data) tree.value_step tree.member_step (record { key = key; value = found })

  rolled_depth : (key : List ℕ) (found : Tree) → tree.property_depth (roll-DataProperty (record { key = key; value = found })) ≡ tree.depth_of found
  unfolding tree.property_depth tree.depth_of
  rolled_depth key found = fold-roll-DataProperty ℕ ℕ tree.depth_step tree.property_depth_step (record { key = key; value = found })

  module _ (o : ℕ) (ps : List Property) (ms : JsonMembers) (owns : (key : List ℕ) → own h o key ≡ property_of ps key) where
    properties_tell : (ks : List Key) → Each (ReadKey ps ms) ks → PropertiesTell o ms ks
    properties_tell [] each = record { list = []; is = refl; entries = refl; deep = omega arith }
    properties_tell (k ∷ ks) each =
        let r = each.0 in
        let rest = properties_tell ks each.1 in
        let one = roll-DataProperty (record { key = text_of k.key; value = r.found }) in
        record {
          list = one ∷ rest.list;
          is = ap (λ v. read.with_property (read.data_within n h) k.key v (read.properties_data (read.data_within n h) h o ks)) (ap if_enumerable (owns k.key) ∙ r.own_is)
              ∙ ap (λ t. read.with_first (read.property_of t (read.data_within n h r.held)) (read.properties_data (read.data_within n h) h o ks)) (text_is k.key r.paired)
              ∙ ap (λ d. read.with_first (read.property_of (Some (text_of k.key)) d) (read.properties_data (read.data_within n h) h o ks)) r.is
              ∙ ap (λ all. read.with_first (Some one) all) rest.is;
          entries = ap (λ e. e ∷ map tree.member_of rest.list) (rolled (text_of k.key) r.found ∙ ap (λ d. (text_of k.key, d)) r.tells)
              ∙ ap (λ es. (text_of k.key, found_value ms k.key) ∷ es) rest.entries;
          deep = omega (arith, rolled_depth (text_of k.key) r.found, r.deep, rest.deep);
        }

-- an object's members, put by their keys
new_away : (q : List ℕ) (ms : PlacedMembers) (value : List ℕ → Data) → IsNew q (json_members ms) → Away (text_of q) (property_entries text_of value (properties_of ms))
new_away q empty value new = tt
new_away q (member k x ms) value new = ((λ same. new.0 (exact_bytes (text_of q) (text_of k) same)), new_away q ms value new.1)

all_apart : (ms : PlacedMembers) (value : List ℕ → Data) → MembersAreTellable (json_members ms) → Apart text_of value (properties_of ms)
all_apart empty value able = tt
all_apart (member q x ms) value able = (new_away q ms value able.2, all_apart ms value able.3)

passed : (q : List ℕ) (x : Json) (ms : JsonMembers) (some : PlacedMembers) → IsNew q (json_members some) →
    property_entries text_of (found_value (members q x ms)) (properties_of some) ≡ property_entries text_of (found_value ms) (properties_of some)
passed q x ms empty new = refl
passed q x ms (member k y some) new =
    ap (λ b. (text_of k, if b then value_of x else found_value ms k) ∷ property_entries text_of (found_value (members q x ms)) (properties_of some)) (other_key q k new.0)
    ∙ ap (λ es. (text_of k, found_value ms k) ∷ es) (passed q x ms some new.1)

own_entries : (ms : PlacedMembers) → MembersAreTellable (json_members ms) → property_entries text_of (found_value (json_members ms)) (properties_of ms) ≡ entries_of (json_members ms)
own_entries empty able = refl
own_entries (member q x ms) able =
    ap (λ b. (text_of q, if b then value_of (json_of x) else found_value (json_members ms) q) ∷ property_entries text_of (found_value (json_members (member q x ms))) (properties_of ms)) (same_key q)
    ∙ ap (λ es. (text_of q, value_of (json_of x)) ∷ es) (passed q (json_of x) (json_members ms) ms able.2 ∙ own_entries ms able.3)

-- all data
module _ (h : Heap) where
  record ItemsTell (n : ℕ) (xs : PlacedItems) : Type 0 where
    found : List Tree
    is : read.items_data (read.data_within n h) (values_of xs) ≡ Some found
    values : items_of (map tree.value_of found) ≡ items_value (json_items xs)
    deep : tree.deepest (map tree.depth_of found) ≤ item_nesting (json_items xs)

  array_tells : (n o : ℕ) (xs : PlacedItems) → object_at h o ≡ plain_array (values_of xs) → ItemsTell n xs → Tells (suc n) h (value_at (placed_array o xs)) (json_of (placed_array o xs))
  array_tells n o xs is t = record {
    found = form.Array t.found;
    is = ap (λ r. read.object_data (read.data_within n h) h o r.kind) is
        ∙ ap (λ r. option_map form.Array (read.items_data (read.data_within n h) r.elements)) is
        ∙ ap (option_map form.Array) t.is;
    value = value_array t.found ∙ ap array t.values;
    deep = omega (arith, depth_array t.found, t.deep);
  }

  object_tells : (n o : ℕ) (ms : PlacedMembers) → object_at h o ≡ plain_object (properties_of ms) → EachTells h n ms → MembersAreTellable (json_members ms) →
      Tells (suc n) h (value_at (plain o ms)) (json_of (plain o ms))
  object_tells n o ms is each able =
      let ps = properties_of ms in
      let owns : (key : List ℕ) → own h o key ≡ property_of ps key = λ key. ap (λ r. own_of r key) is in
      let t = properties_tell h n o ps (json_members ms) owns (ordered_keys ps) (each_ordered (ReadKey h n ps (json_members ms)) ps (all_read h n ms each able)) in
      record {
        found = form.Object t.list;
        is = ap (λ r. read.object_data (read.data_within n h) h o r.kind) is
            ∙ ap (λ r. option_map form.Object (read.properties_data (read.data_within n h) h o (keys_of_object r))) is
            ∙ ap (option_map form.Object) t.is;
        value = value_object t.list ∙ ap (λ es. object (by_key es)) t.entries
            ∙ ap object (in_key_order text_of (found_value (json_members ms)) ps nothing (all_apart ms (found_value (json_members ms)) able))
            ∙ ap (λ es. object (by_key es)) (own_entries ms able);
        deep = omega (arith, depth_object t.list, t.deep);
      }

  mutual
    pub tells : (n : ℕ) (x : Placed) → Holds h x → IsTellable (json_of x) → nesting (json_of x) ≤ n → Tells n h (value_at x) (json_of x)
    tells n placed_null holds able low = record { found = form.Null; is = refl; value = value_null; deep = omega (arith, depth_null) }
    tells n (truth b) holds able low = record { found = form.Boolean b; is = refl; value = value_boolean b; deep = omega (arith, depth_boolean b) }
    tells n (negative m) holds able low = record { found = form.Number (negsuc m); is = refl; value = value_number (negsuc m); deep = omega (arith, depth_number (negsuc m)) }
    tells n (number m) holds able low = record { found = form.Number (pos m); is = refl; value = value_number (pos m); deep = omega (arith, depth_number (pos m)) }
    tells n (unit_text units) holds able low = record {
      found = form.String (text_of units);
      is = ap (option_map form.String) (text_is h n units able);
      value = value_string (text_of units);
      deep = omega (arith, depth_string (text_of units));
    }
    tells zero (placed_array o xs) holds able low = absurd (omega (arith, low))
    tells (suc n) (placed_array o xs) holds able low = array_tells n o xs holds.0.1 (items_tell n xs holds.1 able (omega (arith, low)))
    tells zero (plain o ms) holds able low = absurd (omega (arith, low))
    tells (suc n) (plain o ms) holds able low = object_tells n o ms holds.0.1 (members_tell n ms holds.1 able (omega (arith, low))) able

    items_tell : (n : ℕ) (xs : PlacedItems) → HoldsItems h xs → AreTellable (json_items xs) → item_nesting (json_items xs) ≤ n → ItemsTell n xs
    items_tell n none holds able low = record { found = []; is = refl; values = refl; deep = omega arith }
    items_tell n (placed_item x xs) holds able low =
        let t = tells n x holds.0 able.0 (omega (arith, low)) in
        let ts = items_tell n xs holds.1 able.1 (omega (arith, low)) in
        record {
          found = t.found ∷ ts.found;
          is = ap (λ d. read.with_first d (read.items_data (read.data_within n h) (values_of xs))) t.is ∙ ap (read.with_first (Some t.found)) ts.is;
          values = ap (λ d. item d (items_of (map tree.value_of ts.found))) t.value ∙ ap (item (value_of (json_of x))) ts.values;
          deep = omega (arith, t.deep, ts.deep);
        }

    members_tell : (n : ℕ) (ms : PlacedMembers) → HoldsMembers h ms → MembersAreTellable (json_members ms) → member_nesting (json_members ms) ≤ n → EachTells h n ms
    members_tell n empty holds able low = tt
    members_tell n (member q x ms) holds able low = (tells n x holds.0 able.1 (omega (arith, low)), members_tell n ms holds.1 able.3 (omega (arith, low)))
