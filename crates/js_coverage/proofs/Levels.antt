-- As many levels as a tree has are enough to find it.
use Rattle.std.proofs.Common.{◌≡◌, ◌≢◌, ℕ, zero, suc, ◌+◌, ◌-◌, ◌≤◌, List, [], ◌∷◌, map, Bool, true, false, nat_le, if◌then◌else◌, Option, None, Some, option_map, Result, Ok, Err, refl, sym, ap, ◌∙◌, arith}
use Rattle.std.proofs.lemmas.Bool.{leb-true}
use Rattle.items.specs.declared.data.Data.{Data}
use Rattle.items.specs.declared.data.Data.TheVariants as form
use Rattle.items.specs.declared.data.Data.TheFolds.{fold-roll-DataProperty}
use Rattle.items.specs.declared.data.DataProperty.{DataProperty, roll-DataProperty}
use Rattle.js_value.specs.declared.value.Value.{Value}
use Rattle.js_value.specs.declared.value.Value.TheVariants as value
use Rattle.js_value.specs.declared.key.Key.{Key}
use Rattle.js_value.specs.State.{ObjectKind, Plain, Array, Error, RegExp, BuiltIn, Written, Property, Heap}
use Rattle.js_value.specs.Objects.{kind_of, elements_of, own, keys}
use Rattle.js_value.specs.Copying.{enumerable_value}
use Rattle.js_value.specs.declared.built_in.Place.TheVariants as place
use Rattle.js_value.specs.Realm.{number_of}
use Rattle.serde_json.specs.Find.{as_object}
use Rattle.serde_json.specs.Read.{max_depth}
use Rattle.cov_object.specs.Data.{value_of, depth_of, depth_step, property_depth, property_depth_step, deepest, coverage_of_data}
use Rattle.cov_object.specs.Read.{files_or_fault}
use Rattle.cov_object.specs.declared.fault.CoverageFault.{CoverageFault}
use Rattle.cov_object.specs.declared.fault.CoverageFault.TheVariants as fault
use Rattle.cov_object.specs.declared.file.FileCoverage.{FileCoverage}
use Rattle.cov_object.proofs.DataForms.{depth_array, depth_object}
use Rattle.js_coverage.specs.Coverage.{text_data, with_first, property_of, items_data, with_property, properties_data, own_data, object_data, value_data, object_within, data_within, property_within, coverage_name, coverage_within, IsData, IsCoverage}

-- ---- what is there, taken apart

record Mapped {A B : Type 0} (f : A → B) (held : Option A) (made : B) : Type 0 where
  inner : A
  is : held ≡ Some inner
  from : made ≡ f inner

mapped : {A B : Type 0} (f : A → B) (held : Option A) (made : B) → option_map f held ≡ Some made → Mapped f held made
mapped f None made e = absurd (cc)
mapped f (Some inner) made e = record { inner = inner; is = refl; from = cc }

record Firsts {T : Type 0} (first : Option T) (rest : Option (List T)) (all : List T) : Type 0 where
  head : T
  tail : List T
  head_is : first ≡ Some head
  tail_is : rest ≡ Some tail
  from : all ≡ head ∷ tail

firsts : {T : Type 0} (first : Option T) (rest : Option (List T)) (all : List T) → with_first first rest ≡ Some all → Firsts first rest all
firsts None rest all e = absurd (cc)
firsts (Some x) None all e = absurd (cc)
firsts (Some x) (Some xs) all e = record { head = x; tail = xs; head_is = refl; tail_is = refl; from = cc }

rolled : (key : List ℕ) (tree : Data) → property_depth (roll-DataProperty (record { key = key; value = tree })) ≡ depth_of tree
unfolding depth_of property_depth
rolled key tree = fold-roll-DataProperty ℕ ℕ depth_step property_depth_step (record { key = key; value = tree })

record Made (key : Option (List ℕ)) (tree : Option Data) (property : DataProperty) : Type 0 where
  inner : Data
  is : tree ≡ Some inner
  deep : property_depth property ≡ depth_of inner

made : (key : Option (List ℕ)) (tree : Option Data) (property : DataProperty) → property_of key tree ≡ Some property → Made key tree property
made None tree property e = absurd (cc)
made (Some text) None property e = absurd (cc)
made (Some text) (Some inner) property e = record {
  inner = inner;
  is = refl;
  deep = let held : property ≡ roll-DataProperty (record { key = text; value = inner }) = cc in ap property_depth held ∙ rolled text inner;
}

-- ---- one level

module _ (h : Heap) (inside more : Value → Option Data) (k : ℕ)
    (enough : (v : Value) (tree : Data) → inside v ≡ Some tree → depth_of tree ≤ k → more v ≡ Some tree) where
  items_enough : (vs : List Value) (trees : List Data) → items_data inside vs ≡ Some trees → deepest (map depth_of trees) ≤ k → items_data more vs ≡ Some trees
  items_enough [] trees e within = e
  items_enough (v ∷ vs) trees e within =
      let f = firsts (inside v) (items_data inside vs) trees e in
      let deep : deepest (map depth_of trees) ≡ deepest (map depth_of (f.head ∷ f.tail)) = ap (λ ts. deepest (map depth_of ts)) f.from in
      ap (λ first. with_first first (items_data more vs)) (enough v f.head f.head_is (omega (arith, deep, within)))
      ∙ ap (with_first (Some f.head)) (items_enough vs f.tail f.tail_is (omega (arith, deep, within)))
      ∙ ap Some (sym f.from)

  property_enough : (key : Option (List ℕ)) (v : Value) (property : DataProperty) → property_of key (inside v) ≡ Some property → property_depth property ≤ k →
      property_of key (more v) ≡ Some property
  property_enough key v property e within =
      let m = made key (inside v) property e in
      let deep = m.deep in
      ap (property_of key) (enough v m.inner m.is (omega (arith, deep, within)) ∙ sym m.is) ∙ e

  with_enough : (key : List ℕ) (held : Option Value) (rest others : Option (List DataProperty)) (properties : List DataProperty) →
      ((tail : List DataProperty) → rest ≡ Some tail → deepest (map property_depth tail) ≤ k → others ≡ Some tail) →
      with_property inside key held rest ≡ Some properties → deepest (map property_depth properties) ≤ k → with_property more key held others ≡ Some properties
  with_enough key None rest others properties later e within = later properties e within
  with_enough key (Some v) rest others properties later e within =
      let f = firsts (property_of (text_data key) (inside v)) rest properties e in
      let deep : deepest (map property_depth properties) ≡ deepest (map property_depth (f.head ∷ f.tail)) = ap (λ ps. deepest (map property_depth ps)) f.from in
      ap (λ first. with_first first others) (property_enough (text_data key) v f.head f.head_is (omega (arith, deep, within)))
      ∙ ap (with_first (Some f.head)) (later f.tail f.tail_is (omega (arith, deep, within)))
      ∙ ap Some (sym f.from)

  properties_enough : (o : ℕ) (ks : List Key) (properties : List DataProperty) → properties_data inside h o ks ≡ Some properties →
      deepest (map property_depth properties) ≤ k → properties_data more h o ks ≡ Some properties
  properties_enough o [] properties e within = e
  properties_enough o (q ∷ ks) properties e within =
      with_enough q.key (enumerable_value h o q.key) (properties_data inside h o ks) (properties_data more h o ks) properties (properties_enough o ks) e within

  own_enough : (o : ℕ) (tree : Data) → own_data inside h o ≡ Some tree → depth_of tree ≤ suc k → own_data more h o ≡ Some tree
  own_enough o tree e within =
      let m = mapped form.Object (properties_data inside h o (keys h o)) tree e in
      let deep : depth_of tree ≡ suc (deepest (map property_depth m.inner)) = ap depth_of m.from ∙ depth_object m.inner in
      ap (option_map form.Object) (properties_enough o (keys h o) m.inner m.is (omega (arith, deep, within))) ∙ ap Some (sym m.from)

  array_enough : (o : ℕ) (tree : Data) → object_data inside h o Array ≡ Some tree → depth_of tree ≤ suc k → object_data more h o Array ≡ Some tree
  array_enough o tree e within =
      let m = mapped form.Array (items_data inside (elements_of h o)) tree e in
      let deep : depth_of tree ≡ suc (deepest (map depth_of m.inner)) = ap depth_of m.from ∙ depth_array m.inner in
      ap (option_map form.Array) (items_enough (elements_of h o) m.inner m.is (omega (arith, deep, within))) ∙ ap Some (sym m.from)

  object_enough : (o : ℕ) (kind : ObjectKind) (tree : Data) → object_data inside h o kind ≡ Some tree → depth_of tree ≤ suc k → object_data more h o kind ≡ Some tree
  object_enough o Plain tree e within = own_enough o tree e within
  object_enough o Array tree e within = array_enough o tree e within
  object_enough o Error tree e within = own_enough o tree e within
  object_enough o RegExp tree e within = own_enough o tree e within
  object_enough o (BuiltIn function) tree e within = absurd (cc)
  object_enough o (Written code environment) tree e within = absurd (cc)

-- an object has a level of its own
module _ (h : Heap) (inside : Value → Option Data) where
  own_deep : (o : ℕ) (tree : Data) → own_data inside h o ≡ Some tree → 1 ≤ depth_of tree
  own_deep o tree e =
      let m = mapped form.Object (properties_data inside h o (keys h o)) tree e in
      let deep : depth_of tree ≡ suc (deepest (map property_depth m.inner)) = ap depth_of m.from ∙ depth_object m.inner in
      omega (arith, deep)

  object_deep : (o : ℕ) (kind : ObjectKind) (tree : Data) → object_data inside h o kind ≡ Some tree → 1 ≤ depth_of tree
  object_deep o Plain tree e = own_deep o tree e
  object_deep o Array tree e =
      let m = mapped form.Array (items_data inside (elements_of h o)) tree e in
      let deep : depth_of tree ≡ suc (deepest (map depth_of m.inner)) = ap depth_of m.from ∙ depth_array m.inner in
      omega (arith, deep)
  object_deep o Error tree e = own_deep o tree e
  object_deep o RegExp tree e = own_deep o tree e
  object_deep o (BuiltIn function) tree e = absurd (cc)
  object_deep o (Written code environment) tree e = absurd (cc)

-- ---- all levels

value_enough : (n k : ℕ → Option Data) (bound : ℕ) → ((o : ℕ) (tree : Data) → n o ≡ Some tree → depth_of tree ≤ bound → k o ≡ Some tree) →
    (v : Value) (tree : Data) → value_data n v ≡ Some tree → depth_of tree ≤ bound → value_data k v ≡ Some tree
value_enough n k bound enough (value.Primitive p) tree e within = e
value_enough n k bound enough (value.Object o) tree e within = enough o.index tree e within

within_enough : (h : Heap) (n k o : ℕ) (tree : Data) → object_within n h o ≡ Some tree → depth_of tree ≤ k → object_within k h o ≡ Some tree
within_enough h zero k o tree e within = absurd (cc)
within_enough h (suc n) zero o tree e within =
    let deep = object_deep h (value_data (object_within n h)) o (kind_of h o) tree e in
    absurd (omega (arith, deep, within))
within_enough h (suc n) (suc k) o tree e within =
    object_enough h (value_data (object_within n h)) (value_data (object_within k h)) k
    (value_enough (object_within n h) (object_within k h) k (within_enough h n k)) o (kind_of h o) tree e within

property_levels : (h : Heap) (n k : ℕ) (held : Option Property) (tree : Data) → property_within n h held ≡ Some tree → depth_of tree ≤ k → property_within k h held ≡ Some tree
property_levels h n k None tree e within = e
property_levels h n k (Some p) tree e within = value_enough (object_within n h) (object_within k h) k (within_enough h n k) p.value tree e within

-- the data of the coverage is found by as many levels as it has, or more
pub levels_enough : (h : Heap) (n k : ℕ) (tree : Data) → coverage_within n h ≡ Some tree → depth_of tree ≤ k → coverage_within k h ≡ Some tree
levels_enough h n k tree e within = property_levels h n k (own h (number_of place.Global) coverage_name) tree e within

-- what a level has, by those below it
pub level_down : (h : Heap) (levels o : ℕ) → levels ≢ 0 → object_data (data_within (levels - 1) h) h o (kind_of h o) ≡ object_within levels h o
level_down h zero o positive = absurd (positive refl)
level_down h (suc n) o positive = ap (λ m. object_data (data_within m h) h o (kind_of h o)) (omega arith)

-- ---- the coverage

fits : (b : Bool) (files : Result (List FileCoverage) CoverageFault) (all : List FileCoverage) → (if b then files else Err fault.BadJson) ≡ Ok all → b ≡ true
fits true files all e = refl
fits false files all e = absurd (cc)

-- what tells coverage is found by the levels that coverage can have
found_by : (h : Heap) (files : List FileCoverage) (c : IsCoverage h files) → coverage_within max_depth h ≡ Some c.tree
found_by h files c =
    let b : nat_le (depth_of c.tree) max_depth ≡ true = fits (nat_le (depth_of c.tree) max_depth) (files_or_fault (as_object (value_of c.tree))) files c.told in
    levels_enough h c.is.levels max_depth c.tree c.is.is (leb-true (depth_of c.tree) max_depth b)

pub covers : (h : Heap) (tree : Data) (files : List FileCoverage) → coverage_within max_depth h ≡ Some tree → coverage_of_data tree ≡ Ok files → IsCoverage h files
covers h tree files e told = record { tree = tree; is = record { levels = max_depth; is = e }; told = told }

pub covers_none : (h : Heap) → coverage_within max_depth h ≡ None → (files : List FileCoverage) → IsCoverage h files → ⊥
covers_none h none files c = let found = found_by h files c in absurd (cc)

pub covers_nothing : (h : Heap) (tree : Data) → coverage_within max_depth h ≡ Some tree → ((files : List FileCoverage) → coverage_of_data tree ≢ Ok files) →
    (files : List FileCoverage) → IsCoverage h files → ⊥
covers_nothing h tree e nothing files c =
    let same : c.tree ≡ tree = let found = found_by h files c in cc in
    nothing files (ap coverage_of_data (sym same) ∙ c.told)

-- there is one tree at most, and one coverage
pub one_tree : (h : Heap) (tree other : Data) → IsData h tree → IsData h other → tree ≡ other
one_tree h tree other d e =
    let bound = depth_of tree + depth_of other in
    let first = levels_enough h d.levels bound tree d.is (omega arith) in
    let second = levels_enough h e.levels bound other e.is (omega arith) in
    cc
