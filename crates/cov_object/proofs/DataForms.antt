-- The value and the depth of each form of a tree, and of a list with one part more.
use Rattle.std.proofs.Common.{◌≡◌, ℕ, zero, suc, ◌+◌, ◌<◌, ◌≤◌, max, ℤ, List, [], ◌∷◌, ◌++◌, length, get_or, take, map, Bool, true, false, nat_le, if◌then◌else◌, None, Result, Err, codes, Ordering, Less, Equal, Greater, refl, sym, ap, ◌∙◌, subst, arith}
use Rattle.std.specs.Ordering.{nat_cmp, match_ordering}
use Rattle.std.specs.Cmp.Lexicographic.{slice_cmp}
use Rattle.std.proofs.lemmas.List.{map-append, take_more}
use Rattle.std.proofs.lemmas.List.Sums.{fold-append}
use Rattle.items.specs.declared.data.Data.{Data as Tree}
use Rattle.items.specs.declared.data.Data.TheVariants as tree
use Rattle.items.specs.declared.data.Data.TheFolds.{fold-Data, fold-DataProperty, fold-roll-Data, fold-roll-DataProperty}
use Rattle.items.specs.declared.data.Data.TheOpen.{Data-F, DataProperty-F}
use Rattle.items.specs.declared.data.Data.TheViews.{the_lemmas, out-DataProperty, roll-out-DataProperty}
use Rattle.items.specs.declared.data.DataProperty.{DataProperty}
use Rattle.serde_json.specs.Data.{Data, null, boolean, number, string, array, object, Members, no_members, member, put, depth, items_depth, members_depth}
use Rattle.serde_json.specs.Find.{of_integer, as_object}
use Rattle.serde_json.specs.Read.{max_depth}
use Rattle.serde_json.specs.View.{items_of}
use Rattle.cov_object.specs.Json.{by_key}
use Rattle.cov_object.specs.Data.{value_of, value_step, member_of, member_step, deepest, depth_of, depth_step, property_depth, property_depth_step, coverage_of_data}
use Rattle.cov_object.specs.Read.{files_or_fault}
use Rattle.cov_object.specs.declared.fault.CoverageFault.{CoverageFault}
use Rattle.cov_object.specs.declared.fault.CoverageFault.TheVariants as fault
use Rattle.cov_object.specs.declared.file.FileCoverage.{FileCoverage}
use Rattle.cov_object.specs.private.ByFile.{answers, all_or_first}
use Rattle.cov_object.proofs.ByFile.{all_or_first-answers}

-- ---- each form

module _ {A B : Type 0} (one : Data-F A B → A) (property_one : DataProperty-F A B → B) where
  abbrev folded : Tree → A
  folded = fold-Data A B one property_one

  abbrev property_folded : DataProperty → B
  property_folded = fold-DataProperty A B one property_one

  null_folded : folded tree.Null ≡ one Data-F.Null
  null_folded = ap folded (sym tree.rolls-Null) ∙ fold-roll-Data A B one property_one Data-F.Null

  boolean_folded : (truth : Bool) → folded (tree.Boolean truth) ≡ one (Data-F.Boolean truth)
  boolean_folded truth = ap folded (sym (tree.rolls-Boolean truth)) ∙ fold-roll-Data A B one property_one (Data-F.Boolean truth)

  number_folded : (n : ℤ) → folded (tree.Number n) ≡ one (Data-F.Number n)
  number_folded n = ap folded (sym (tree.rolls-Number n)) ∙ fold-roll-Data A B one property_one (Data-F.Number n)

  string_folded : (text : List ℕ) → folded (tree.String text) ≡ one (Data-F.String text)
  string_folded text = ap folded (sym (tree.rolls-String text)) ∙ fold-roll-Data A B one property_one (Data-F.String text)

  array_folded : (items : List Tree) → folded (tree.Array items) ≡ one (Data-F.Array (map folded items))
  array_folded items = ap folded (sym (tree.rolls-Array items)) ∙ fold-roll-Data A B one property_one (Data-F.Array items)

  object_folded : (properties : List DataProperty) → folded (tree.Object properties) ≡ one (Data-F.Object (map property_folded properties))
  object_folded properties = ap folded (sym (tree.rolls-Object properties)) ∙ fold-roll-Data A B one property_one (Data-F.Object properties)

  property_made : (property : DataProperty) → property_folded property ≡ property_one (record { key = (out-DataProperty property).key; value = folded (out-DataProperty property).value })
  property_made property = ap property_folded (sym (roll-out-DataProperty property)) ∙ fold-roll-DataProperty A B one property_one (out-DataProperty property)

pub value_null : value_of tree.Null ≡ null
unfolding value_of
value_null = null_folded value_step member_step

pub value_boolean : (truth : Bool) → value_of (tree.Boolean truth) ≡ boolean truth
unfolding value_of
value_boolean truth = boolean_folded value_step member_step truth

pub value_number : (n : ℤ) → value_of (tree.Number n) ≡ number (of_integer n)
unfolding value_of
value_number n = number_folded value_step member_step n

pub value_string : (text : List ℕ) → value_of (tree.String text) ≡ string text
unfolding value_of
value_string text = string_folded value_step member_step text

pub value_array : (items : List Tree) → value_of (tree.Array items) ≡ array (items_of (map value_of items))
unfolding value_of
value_array items = array_folded value_step member_step items

pub value_object : (properties : List DataProperty) → value_of (tree.Object properties) ≡ object (by_key (map member_of properties))
unfolding value_of member_of
value_object properties = object_folded value_step member_step properties

pub member_made : (property : DataProperty) → member_of property ≡ ((out-DataProperty property).key, value_of (out-DataProperty property).value)
unfolding value_of member_of
member_made property = property_made value_step member_step property

pub depth_null : depth_of tree.Null ≡ 0
unfolding depth_of
depth_null = null_folded depth_step property_depth_step

pub depth_boolean : (truth : Bool) → depth_of (tree.Boolean truth) ≡ 0
unfolding depth_of
depth_boolean truth = boolean_folded depth_step property_depth_step truth

pub depth_number : (n : ℤ) → depth_of (tree.Number n) ≡ 0
unfolding depth_of
depth_number n = number_folded depth_step property_depth_step n

pub depth_string : (text : List ℕ) → depth_of (tree.String text) ≡ 0
unfolding depth_of
depth_string text = string_folded depth_step property_depth_step text

pub depth_array : (items : List Tree) → depth_of (tree.Array items) ≡ suc (deepest (map depth_of items))
unfolding depth_of
depth_array items = array_folded depth_step property_depth_step items

pub depth_object : (properties : List DataProperty) → depth_of (tree.Object properties) ≡ suc (deepest (map property_depth properties))
unfolding depth_of property_depth
depth_object properties = object_folded depth_step property_depth_step properties

pub depth_made : (property : DataProperty) → property_depth property ≡ depth_of (out-DataProperty property).value
unfolding depth_of property_depth
depth_made property = property_made depth_step property_depth_step property

-- ---- one part more

pub deepest-more : (depths : List ℕ) (n : ℕ) → deepest (depths ++ n ∷ []) ≡ max (deepest depths) n
deepest-more [] n = omega arith
deepest-more (d ∷ depths) n = ap (max d) (deepest-more depths n) ∙ omega arith

pub items_depth-more : (items : List Data) (d : Data) → items_depth (items_of (items ++ d ∷ [])) ≡ max (items_depth (items_of items)) (depth d)
items_depth-more [] d = omega arith
items_depth-more (first ∷ items) d = ap (max (depth first)) (items_depth-more items d) ∙ omega arith

put-match : (o : Ordering) (k l : List ℕ) (d e : Data) (ms rest : Members) → members_depth rest ≤ max (depth d) (members_depth ms) →
    members_depth (match_ordering o (member k d (member l e ms)) (member l d ms) (member l e rest)) ≤ max (depth d) (max (depth e) (members_depth ms))
put-match Less k l d e ms rest later = omega arith
put-match Equal k l d e ms rest later = omega arith
put-match Greater k l d e ms rest later = omega (arith, later)

pub put-depth : (k : List ℕ) (d : Data) (ms : Members) → members_depth (put k d ms) ≤ max (depth d) (members_depth ms)
put-depth k d no_members = omega arith
put-depth k d (member l e ms) = put-match (slice_cmp nat_cmp k l) k l d e ms (put k d ms) (put-depth k d ms)

pub by_key-more : (members : List (List ℕ × Data)) (key : List ℕ) (value : Data) → by_key (members ++ (key, value) ∷ []) ≡ put key value (by_key members)
by_key-more members key value = fold-append (λ placed (entry : List ℕ × Data). put entry.0 entry.1 placed) no_members members ((key, value) ∷ [])

-- ---- lists, part after part

module _ {T : Type 0} (f : T → ℕ) where
  -- the depths of the parts up to one, with it
  pub deepest-taken : (xs : List T) (i : ℕ) (x : T) → i < length xs → x ≡ get_or xs i x → deepest (map f (take (i + 1) xs)) ≡ max (deepest (map f (take i xs))) (f x)
  deepest-taken xs i x below is =
      ap (λ ys. deepest (map f ys)) (take_more xs i x below)
      ∙ ap deepest (map-append f (take i xs) (get_or xs i x ∷ []))
      ∙ deepest-more (map f (take i xs)) (f (get_or xs i x))
      ∙ ap (λ y. max (deepest (map f (take i xs))) (f y)) (sym is)

  -- no part is deeper than the deepest
  pub deepest-holds : (xs : List T) (i : ℕ) (x : T) → i < length xs → x ≡ get_or xs i x → f x ≤ deepest (map f xs)
  deepest-holds [] i x below is = absurd (omega (arith, below))
  deepest-holds (y ∷ ys) zero x below is = subst (λ z. f z ≤ deepest (map f (y ∷ ys))) (sym is) (omega arith)
  deepest-holds (y ∷ ys) (suc i) x below is = omega (arith, deepest-holds ys i x (omega (arith, below)) is)

module _ {A B : Type 0} (f : A → B) where
  pub map-taken : (xs : List A) (i : ℕ) (x : A) → i < length xs → x ≡ get_or xs i x → map f (take (i + 1) xs) ≡ map f (take i xs) ++ f x ∷ []
  map-taken xs i x below is =
      ap (map f) (take_more xs i x below) ∙ map-append f (take i xs) (get_or xs i x ∷ []) ∙ ap (λ y. map f (take i xs) ++ f y ∷ []) (sym is)

-- ---- what a tree tells that nests no deeper than JSON may

within : (b : Bool) (files : Result (List FileCoverage) CoverageFault) → b ≡ true → (if b then files else Err fault.BadJson) ≡ files
within true files e = refl
within false files e = absurd (cc)

pub coverage_within : (whole : Tree) → nat_le (depth_of whole) max_depth ≡ true → coverage_of_data whole ≡ files_or_fault (as_object (value_of whole))
coverage_within whole e = within (nat_le (depth_of whole) max_depth) (files_or_fault (as_object (value_of whole))) e

-- none that is no object has files
pub coverage_plain : (whole : Tree) (value : Data) → nat_le (depth_of whole) max_depth ≡ true → value_of whole ≡ value → as_object value ≡ None →
    coverage_of_data whole ≡ Err (fault.BadMember [] (codes "file"))
coverage_plain whole value e is plain = coverage_within whole e ∙ ap (λ d. files_or_fault (as_object d)) is ∙ ap files_or_fault plain

-- an object has those that its members tell
pub coverage_members : (whole : Tree) (members : Members) → nat_le (depth_of whole) max_depth ≡ true → value_of whole ≡ object members → coverage_of_data whole ≡ all_or_first (answers members)
coverage_members whole members e is = coverage_within whole e ∙ ap (λ d. files_or_fault (as_object d)) is ∙ sym (all_or_first-answers members)

pub ruleset data_rules = (the_lemmas, value_null, value_boolean, value_number, value_string, value_array, value_object, member_made, depth_null, depth_boolean, depth_number, depth_string, depth_array, depth_object, depth_made)
