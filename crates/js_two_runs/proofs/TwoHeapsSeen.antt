-- What a built-in function sees of two heaps that are alike.
use Rattle.std.proofs.Common.{◌≡◌, ℕ, zero, suc, ◌<◌, ◌≤◌, ◌-◌, Bool, true, false, List, [], ◌∷◌, ◌++◌, length, if◌then◌else◌, Option, Some, None, refl, subst, ap, ap₂, ◌∙◌, arith, ◌&&◌, not}
use Rattle.std.specs.Prelude.{is_some, option_map, slice_get, fold, map}
use Rattle.std.specs.Str.{bytes_eq}
use Rattle.std.specs.List.{AllZip}
use Rattle.std.specs.Ordering.{nat_cmp}
use Rattle.std.specs.BTreeMap.{insert_entry}
use Rattle.js_value.specs.declared.value.Value.{Value}
use Rattle.js_value.specs.declared.value.Value.TheVariants as value
use Rattle.js_value.specs.declared.value.Object.{Object}
use Rattle.js_value.specs.declared.key.Key.{Key}
use Rattle.js_value.specs.declared.built_in.Place.TheVariants as place
use Rattle.js_value.specs.State.{ObjectKind, Property, ObjectRecord, Heap}
use Rattle.js_value.specs.Objects.{is_array, is_function, array_length, length_property, property_of, assigned, own_of, own, Found, found_in, found, get, index_keys, keys_of_object, next_object}
use Rattle.js_value.specs.Realm.{number_of, built_in_count}
use Rattle.js_value.specs.Key.{index_of, put_index, others, ordered_keys}
use Rattle.js_two_runs.specs.Pairs.{Pairs, Paired}
use Rattle.js_two_runs.specs.TwoRuns.{Related, plain, refs, AllRelated, none, more, InBoth, neither, both, RelatedHeaps}
use Rattle.js_two_runs.specs.TwoHeaps.{AlikeKinds, plains, arrays, errors, patterns, built_ins, functions, AlikePrototypes, no_prototype, prototypes, AlikeProperties, AlikeObjects, AlikeHeaps}
use Rattle.js_two_runs.proofs.PairsLemmas.{same_test}
use Rattle.js_two_runs.proofs.TwoRunsObjects.{length-rel}

pub is_some-both : {A : Type 0} (Rel : A → A → Type 0) (a b : Option A) → InBoth Rel a b → is_some a ≡ is_some b
is_some-both Rel a b neither = refl
is_some-both Rel a b (both x y r) = refl

-- a choice by tests that are equal
pub choice : {A B : Type 0} (Rel : A → B → Type 0) (b c : Bool) (x y : A) (z w : B) → b ≡ c → Rel x z → Rel y w → Rel (if b then x else y) (if c then z else w)
choice {A} {B} Rel b c x y z w e r s = subst (λ (t : Bool). Rel (if b then x else y) (if t then z else w)) e (go b)
  where
    go : (t : Bool) → Rel (if t then x else y) (if t then z else w)
    go true = r
    go false = s

module _ (pairs : Pairs) (F : (code around other_code other_around : ℕ) → Type 0) where
  pub arrays-alike : (a b : ObjectKind) → AlikeKinds pairs F a b → is_array a ≡ is_array b
  arrays-alike a b plains = refl
  arrays-alike a b arrays = refl
  arrays-alike a b errors = refl
  arrays-alike a b patterns = refl
  arrays-alike a b (built_ins n) = refl
  arrays-alike a b (functions c e d f r) = refl

  pub functions-alike : (a b : ObjectKind) → AlikeKinds pairs F a b → is_function a ≡ is_function b
  functions-alike a b plains = refl
  functions-alike a b arrays = refl
  functions-alike a b errors = refl
  functions-alike a b patterns = refl
  functions-alike a b (built_ins n) = refl
  functions-alike a b (functions c e d f r) = refl

  pub chain-alike : (o p : ℕ) (a b : Option ℕ) → AlikePrototypes pairs F o p a b → InBoth (Paired pairs) a b
  chain-alike o p a b no_prototype = neither
  chain-alike o p a b (prototypes r q i lt lt') = both r q i

  -- Own properties

  pub property_of-alike : (ps qs : List Property) (key : List ℕ) → AllZip (AlikeProperties pairs F) ps qs → InBoth (AlikeProperties pairs F) (property_of ps key) (property_of qs key)
  property_of-alike [] [] key rs = neither
  property_of-alike [] (q ∷ qs) key rs = absurd rs
  property_of-alike (p ∷ ps) [] key rs = absurd rs
  property_of-alike (p ∷ ps) (q ∷ qs) key rs =
      choice (InBoth (AlikeProperties pairs F)) _ _ _ _ _ _ (ap (λ k. bytes_eq k key) (rs.0).key) (both p q rs.0) (property_of-alike ps qs key rs.1)

  pub assigned-alike : (key : List ℕ) (v w : Value) → Related (Paired pairs) v w → AlikeProperties pairs F (assigned key v) (assigned key w)
  assigned-alike key v w r = record { key = refl; value = r; enumerable = refl; writable = refl }

  length-alike : (n m : ℕ) → n ≡ m → AlikeProperties pairs F (length_property n) (length_property m)
  length-alike n m e = subst (λ x. AlikeProperties pairs F (length_property n) (length_property x)) e (record { key = refl; value = plain _; enumerable = refl; writable = refl })

  element-alike : (key : List ℕ) (n : ℕ) (vs ws : List Value) → AllRelated (Paired pairs) vs ws →
      InBoth (AlikeProperties pairs F) (option_map (assigned key) (slice_get vs n)) (option_map (assigned key) (slice_get ws n))
  element-alike key n vs ws none = neither
  element-alike key zero vs ws (more v w r vs' ws' rs) = both _ _ (assigned-alike key v w r)
  element-alike key (suc n) vs ws (more v w r vs' ws' rs) = element-alike key n vs' ws' rs

  -- of an array, at the index that a key is, if it is one
  abbrev at_index : ObjectRecord → List ℕ → Option ℕ → Option Property
  at_index x key (Some n) = option_map (assigned key) (slice_get x.elements n)
  at_index x key None = if bytes_eq key array_length then Some (length_property (length x.elements)) else property_of x.properties key

  at_index-alike : (o p : ℕ) (x y : ObjectRecord) (key : List ℕ) (i : Option ℕ) → AlikeObjects pairs F o p x y → InBoth (AlikeProperties pairs F) (at_index x key i) (at_index y key i)
  at_index-alike o p x y key (Some n) r = element-alike key n _ _ r.elements
  at_index-alike o p x y key None r =
      choice (InBoth (AlikeProperties pairs F)) _ _ _ _ _ _ refl (both _ _ (length-alike _ _ (length-rel (Paired pairs) _ _ r.elements))) (property_of-alike _ _ key r.properties)

  pub own_of-alike : (o p : ℕ) (x y : ObjectRecord) (key : List ℕ) → AlikeObjects pairs F o p x y → InBoth (AlikeProperties pairs F) (own_of x key) (own_of y key)
  own_of-alike o p x y key r =
      choice (InBoth (AlikeProperties pairs F)) _ _ _ _ _ _ (arrays-alike _ _ r.kind) (at_index-alike o p x y key (index_of key) r) (property_of-alike _ _ key r.properties)

  -- Keys

  put_index-alike : (sorted : List (ℕ × Key)) (p q : Property) → AlikeProperties pairs F p q → put_index sorted p ≡ put_index sorted q
  put_index-alike sorted p q r =
      let put : List ℕ → Bool → List (ℕ × Key) = λ key enumerable. elim (index_of key) [
        | None ↦ sorted
        | Some n ↦ insert_entry nat_cmp sorted n (record { key = key; enumerable = enumerable })
      ] in
      ap₂ put r.key r.enumerable

  indexed-alike : (sorted : List (ℕ × Key)) (ps qs : List Property) → AllZip (AlikeProperties pairs F) ps qs → fold put_index sorted ps ≡ fold put_index sorted qs
  indexed-alike sorted [] [] rs = refl
  indexed-alike sorted [] (q ∷ qs) rs = absurd rs
  indexed-alike sorted (p ∷ ps) [] rs = absurd rs
  indexed-alike sorted (p ∷ ps) (q ∷ qs) rs = ap (λ s. fold put_index s ps) (put_index-alike sorted p q rs.0) ∙ indexed-alike (put_index sorted q) ps qs rs.1

  others-alike : (ps qs : List Property) → AllZip (AlikeProperties pairs F) ps qs → others ps ≡ others qs
  others-alike [] [] rs = refl
  others-alike [] (q ∷ qs) rs = absurd rs
  others-alike (p ∷ ps) [] rs = absurd rs
  others-alike (p ∷ ps) (q ∷ qs) rs =
      let put : List ℕ → Bool → List Key → List Key = λ key enumerable rest. elim (index_of key) [ None ↦ record { key = key; enumerable = enumerable } ∷ rest | Some n ↦ rest ] in
      ap₂ (λ key enumerable. put key enumerable (others ps)) (rs.0).key (rs.0).enumerable ∙ ap (put q.key q.enumerable) (others-alike ps qs rs.1)

  pub ordered-alike : (ps qs : List Property) → AllZip (AlikeProperties pairs F) ps qs → ordered_keys ps ≡ ordered_keys qs
  ordered-alike ps qs rs = ap₂ (λ (xs : List (ℕ × Key)) (ys : List Key). map (λ x. x.1) xs ++ ys) (indexed-alike [] ps qs rs) (others-alike ps qs rs)

  pub keys_of-alike : (o p : ℕ) (x y : ObjectRecord) → AlikeObjects pairs F o p x y → keys_of_object x ≡ keys_of_object y
  keys_of-alike o p x y r =
      let keys_by : Bool → ℕ → List Key → List Key = λ b n ks. if b then index_keys 0 n ++ record { key = array_length; enumerable = false } ∷ ks else ks in
      ap (λ b. keys_by b (length x.elements) (ordered_keys x.properties)) (arrays-alike _ _ r.kind)
      ∙ ap₂ (keys_by (is_array y.kind)) (length-rel (Paired pairs) _ _ r.elements) (ordered-alike _ _ r.properties)

  -- Properties along prototypes

  -- properties that are found, and the same answer whether they may be written
  pub record AlikeFound (f g : Found) : Type 0 where
    pub property : AlikeProperties pairs F f.property g.property
    pub writable : f.writable ≡ g.writable

  pub found_in-alike : (o p : ℕ) (x y : ObjectRecord) (a b : Property) → AlikeObjects pairs F o p x y → AlikeProperties pairs F a b → AlikeFound (found_in x a) (found_in y b)
  found_in-alike o p x y a b r s = record { property = s; writable = ap₂ (λ w f. w && not f) s.writable r.frozen }

  -- the property of an object itself, or what is found above it
  abbrev own_or : ObjectRecord → Option Property → Option Found → Option Found
  own_or x a above = elim a [ Some p ↦ Some (found_in x p) | None ↦ above ]

  own_or-alike : (o p : ℕ) (x y : ObjectRecord) (a b : Option Property) (above over : Option Found) → AlikeObjects pairs F o p x y → InBoth (AlikeProperties pairs F) a b → InBoth AlikeFound above over →
      InBoth AlikeFound (own_or x a above) (own_or y b over)
  own_or-alike o p x y a b above over r neither t = t
  own_or-alike o p x y a b above over r (both v w s) t = both _ _ (found_in-alike o p x y v w r s)

  none_found : (n : ℕ) (objects : List ObjectRecord) (key : List ℕ) → None ≡ found n objects None key
  none_found zero objects key = refl
  none_found (suc n) objects key = refl

  module _ (h k : Heap) (hk : AlikeHeaps pairs F h k) where
    pub own-alike : (o p : ℕ) (key : List ℕ) → Paired pairs o p → InBoth (AlikeProperties pairs F) (own h o key) (own k p key)
    own-alike o p key i = own_of-alike o p _ _ key (hk.objects.related o p i)

    abbrev FoundBelow : ℕ → ℕ → List ℕ → Type 0
    FoundBelow n m key = (o p : ℕ) → Paired pairs o p → o < n → p < m → InBoth AlikeFound (found n h.objects (Some o) key) (found m k.objects (Some p) key)

    pub above-alike : (n m o p : ℕ) (a b : Option ℕ) (key : List ℕ) → AlikePrototypes pairs F o p a b → o < suc n → p < suc m → FoundBelow n m key → InBoth AlikeFound (found n h.objects a key) (found m k.objects b key)
    above-alike n m o p a b key no_prototype lt lt' below = subst (λ x. InBoth AlikeFound x (found m k.objects None key)) (none_found n h.objects key) (subst (λ x. InBoth AlikeFound None x) (none_found m k.objects key) neither)
    above-alike n m o p a b key (prototypes r q i l l') lt lt' below = below r q i (omega arith) (omega arith)

    pub found-alike : (n m : ℕ) (key : List ℕ) → FoundBelow n m key
    found-alike zero m key o p i lt lt' = absurd (omega arith)
    found-alike (suc n) zero key o p i lt lt' = absurd (omega arith)
    found-alike (suc n) (suc m) key o p i lt lt' =
        let r = hk.objects.related o p i in
        own_or-alike o p _ _ _ _ _ _ r (own-alike o p key i) (above-alike n m o p _ _ key r.prototype lt lt' (found-alike n m key))

    value_of-alike : (a b : Option Found) → InBoth AlikeFound a b → InBoth (Related (Paired pairs)) (option_map (λ f. f.property.value) a) (option_map (λ f. f.property.value) b)
    value_of-alike a b neither = neither
    value_of-alike a b (both f g r) = both _ _ (r.property).value

    pub get-alike : (o p : ℕ) (key : List ℕ) → Paired pairs o p → InBoth (Related (Paired pairs)) (get h o key) (get k p key)
    get-alike o p key i = value_of-alike _ _ (found-alike (suc o) (suc p) key o p i (omega arith) (omega arith))

    pub seen : RelatedHeaps (Paired pairs) h k
    seen = record {
      one_to_one = λ o n p q i j. same_test o n p q
          (λ e. hk.objects.one_right n p q (subst (λ x. Paired pairs x p) e i) j)
          (λ e. hk.objects.one_left o n q (subst (λ x. Paired pairs o x) e i) j);
      arrays = λ o p i. arrays-alike _ _ (hk.objects.related o p i).kind;
      functions = λ o p i. functions-alike _ _ (hk.objects.related o p i).kind;
      frozen = λ o p i. (hk.objects.related o p i).frozen;
      prototypes = λ o p i. chain-alike o p _ _ (hk.objects.related o p i).prototype;
      elements = λ o p i. (hk.objects.related o p i).elements;
      keys = λ o p i. keys_of-alike o p _ _ (hk.objects.related o p i);
      has = λ o p i key. is_some-both _ _ _ (own-alike o p key i);
      gets = λ o p i key. get-alike o p key i;
      object_prototype = hk.built_in (number_of place.ObjectPrototype) (omega arith) (λ e. omega arith);
    }

    -- Bounds

    last-pair : Paired pairs (built_in_count - 1) (built_in_count - 1)
    last-pair = hk.built_in (built_in_count - 1) (omega arith) (λ e. omega arith)

    pub held-left : built_in_count ≤ next_object h
    held-left = let lt = hk.objects.left_bound _ _ last-pair in omega arith

    pub held-right : built_in_count ≤ next_object k
    held-right = let lt = hk.objects.right_bound _ _ last-pair in omega arith

    pub held : (o p : Object) → Related (Paired pairs) (value.Object o) (value.Object p) → (o.index < next_object h) × (p.index < next_object k)
    held o p (refs r q i) = (hk.objects.left_bound r.index q.index i, hk.objects.right_bound r.index q.index i)
