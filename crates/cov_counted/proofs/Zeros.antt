-- Where the counts of a file's coverage stand in its data.
use Rattle.std.proofs.Common.{◌≡◌, ℕ, zero, suc, ◌+◌, ◌-◌, ◌^◌, ◌<◌, List, [], ◌∷◌, length, map, fold, Bool, true, false, Option, Some, None, codes, decimal, if◌then◌else◌, refl, sym, ap, ◌∙◌, subst, arith}
use Rattle.std.specs.Prelude.{bytes_eq, slice_get, option_and_then}
use Rattle.std.specs.List.{enumerate_from}
use Rattle.std.specs.Ordering.{match_ordering}
use Rattle.std.specs.declared.cmp.Ordering.{Ordering}
use Rattle.std.specs.declared.cmp.Ordering.TheVariants.{Less, Equal, Greater}
use Rattle.std.specs.Str.{IsUtf8}
use Rattle.std.proofs.lemmas.Slice.Eq.{bytes_eq-Decides}
use Rattle.std.proofs.lemmas.Map.Lookups.{exact_bytes}
use Rattle.std.proofs.lemmas.Str.{IsUtf8-from_ascii}
use Rattle.std.proofs.lemmas.Fmt.{IsAscii-decimal, decimal_injective}
use Rattle.serde_json.specs.Data.{Data, Members, no_members, member, put}
use Rattle.serde_json.specs.View.{items_of}
use Rattle.js_terms.specs.declared.place.Loc.{Loc}
use Rattle.js_value.specs.Functions.{name_units}
use Rattle.js_value.specs.Key.{index_of}
use Rattle.js_counter.specs.Represents.{Number, Items}
use Rattle.js_counter.specs.Steady.{index_key}
use Rattle.js_value.proofs.IndexLemmas.{index_read}
use Rattle.js_counted.specs.Numbers.{json_item, json_member, json_child, number_in}
use Rattle.cov_maps.specs.Zero.{zero_path}
use Rattle.cov_object.specs.Branch.{if_paths, settled_paths}
use Rattle.cov_object.specs.Json.{numbered, count_data}
use Rattle.cov_object.specs.declared.file.PathCoverage.{PathCoverage}
use Rattle.cov_object.specs.declared.location.Location.{Location}
use Rattle.cov_expected.specs.Told.{text_of, json_of, items_json, members_json}
use Rattle.cov_expected.proofs.Texts.{text_back}
use Rattle.cov_expected.proofs.Ordered.{cmp, cmp_same, unequal, Entry, put_entry}
use Rattle.cov_expected.proofs.Changed.{AllMembers, all_fold, decimal_units}

-- ---- what stands under a key, once a member is put

abbrev Keyed : Members → Type 0
Keyed ms = AllMembers (λ k d. IsUtf8 k) ms

keyed_put : (k : List ℕ) (d : Data) (ms : Members) → IsUtf8 k → Keyed ms → Keyed (put k d ms)
keyed_put k d ms utf8 keyed = all_fold (λ k d. IsUtf8 k) ((k, d) ∷ []) ms (utf8, tt) keyed

itself : (k : List ℕ) → bytes_eq k k ≡ true
itself k = (bytes_eq-Decides k k).1 refl

greater_apart : (k l : List ℕ) → cmp k l ≡ Greater → l ≡ k → ⊥
greater_apart k l is same = never (sym (cmp_same k) ∙ subst (λ q. cmp k q ≡ Greater) same is)
  where
    never : Equal ≡ Greater → ⊥
    never e = cc

other_units : (k l : List ℕ) → IsUtf8 k → IsUtf8 l → (l ≡ k → ⊥) → bytes_eq (name_units l) (name_units k) ≡ false
other_units k l utf8 also apart = unequal (name_units l) (name_units k) (λ same. apart (sym (text_back l also) ∙ ap text_of same ∙ text_back k utf8))

here_by : (o : Ordering) (k l : List ℕ) (d e : Data) (ms rest : Members) → cmp k l ≡ o → IsUtf8 k → IsUtf8 l → json_member (members_json rest) (name_units k) ≡ Some (json_of d) →
    json_member (members_json (match_ordering o (member k d (member l e ms)) (member l d ms) (member l e rest))) (name_units k) ≡ Some (json_of d)
here_by Less k l d e ms rest is utf8 also later = ap (λ b. if b then Some (json_of d) else json_member (members_json (member l e ms)) (name_units k)) (itself (name_units k))
here_by Equal k l d e ms rest is utf8 also later =
    ap (λ b. if b then Some (json_of d) else json_member (members_json ms) (name_units k)) ((bytes_eq-Decides (name_units l) (name_units k)).1 (ap name_units (sym (exact_bytes k l is))))
here_by Greater k l d e ms rest is utf8 also later =
    ap (λ b. if b then Some (json_of e) else json_member (members_json rest) (name_units k)) (other_units k l utf8 also (greater_apart k l is)) ∙ later

put_here : (k : List ℕ) (d : Data) (ms : Members) → IsUtf8 k → Keyed ms → json_member (members_json (put k d ms)) (name_units k) ≡ Some (json_of d)
put_here k d no_members utf8 keyed = ap (λ b. if b then Some (json_of d) else None) (itself (name_units k))
put_here k d (member l e ms) utf8 keyed = here_by (cmp k l) k l d e ms (put k d ms) refl utf8 keyed.0 (put_here k d ms utf8 keyed.1)

other_by : (o : Ordering) (k l key : List ℕ) (d e : Data) (ms rest : Members) → cmp k l ≡ o → bytes_eq (name_units k) key ≡ false →
    json_member (members_json rest) key ≡ json_member (members_json ms) key →
    json_member (members_json (match_ordering o (member k d (member l e ms)) (member l d ms) (member l e rest))) key ≡ json_member (members_json (member l e ms)) key
other_by Less k l key d e ms rest is other later = ap (λ b. if b then Some (json_of d) else json_member (members_json (member l e ms)) key) other
other_by Equal k l key d e ms rest is other later =
    let same : bytes_eq (name_units l) key ≡ false = subst (λ q. bytes_eq (name_units q) key ≡ false) (exact_bytes k l is) other in
    ap (λ b. if b then Some (json_of d) else json_member (members_json ms) key) same ∙ sym (ap (λ b. if b then Some (json_of e) else json_member (members_json ms) key) same)
other_by Greater k l key d e ms rest is other later = ap (λ x. if bytes_eq (name_units l) key then Some (json_of e) else x) later

put_other : (k key : List ℕ) (d : Data) (ms : Members) → bytes_eq (name_units k) key ≡ false → json_member (members_json (put k d ms)) key ≡ json_member (members_json ms) key
put_other k key d no_members other = ap (λ b. if b then Some (json_of d) else None) other
put_other k key d (member l e ms) other = other_by (cmp k l) k l key d e ms (put k d ms) refl other (put_other k key d ms other)

-- ---- things under their numbers

decimal_utf8 : (n : ℕ) → n < 2 ^ 64 → IsUtf8 (decimal n)
decimal_utf8 n low = IsUtf8-from_ascii (decimal n) (IsAscii-decimal n low)

other_number : (m n : ℕ) → m < 2 ^ 64 → n < 2 ^ 64 → (m ≡ n → ⊥) → bytes_eq (name_units (decimal m)) (decimal n) ≡ false
other_number m n low small apart =
    ap (λ us. bytes_eq us (decimal n)) (decimal_units m low) ∙ unequal (decimal m) (decimal n) (λ same. apart (decimal_injective m n low small same))

module _ {T : Type 0} (f : T → Data) where
  abbrev entry : ℕ × T → Entry
  entry x = (decimal x.0, f x.1)

  -- things with later numbers leave it
  later_stays : (k n : ℕ) (xs : List T) (ms : Members) → n < k → k + length xs < 2 ^ 64 →
      json_member (members_json (fold put_entry ms (map entry (enumerate_from k xs)))) (decimal n) ≡ json_member (members_json ms) (decimal n)
  later_stays k n [] ms past low = refl
  later_stays k n (x ∷ xs) ms past low =
      later_stays (k + 1) n xs (put (decimal k) (f x) ms) (omega (arith, past)) (omega (arith, low))
      ∙ put_other (decimal k) (decimal n) (f x) ms (other_number k n (omega (arith, low)) (omega (arith, low, past)) (λ same. omega (arith, same, past)))

  found_from : (k n : ℕ) (xs : List T) (ms : Members) (x : T) → slice_get xs n ≡ Some x → k + length xs < 2 ^ 64 → Keyed ms →
      json_member (members_json (fold put_entry ms (map entry (enumerate_from k xs)))) (decimal (k + n)) ≡ Some (json_of (f x))
  found_from k n [] ms x is low keyed = absurd (cc)
  found_from k zero (y ∷ ys) ms x is low keyed =
      let same : y ≡ x = cc in
      let here : k + zero ≡ k = omega arith in
      let small : k < 2 ^ 64 = omega (arith, low) in
      ap (λ m. json_member (members_json (fold put_entry (put (decimal k) (f y) ms) (map entry (enumerate_from (k + 1) ys)))) (decimal m)) here
      ∙ later_stays (k + 1) k ys (put (decimal k) (f y) ms) (omega arith) (omega (arith, low))
      ∙ ap (json_member (members_json (put (decimal k) (f y) ms))) (sym (decimal_units k small))
      ∙ put_here (decimal k) (f y) ms (decimal_utf8 k small) keyed
      ∙ ap (λ z. Some (json_of (f z))) same
  found_from k (suc n) (y ∷ ys) ms x is low keyed =
      let there : k + suc n ≡ k + 1 + n = omega arith in
      ap (λ m. json_member (members_json (fold put_entry (put (decimal k) (f y) ms) (map entry (enumerate_from (k + 1) ys)))) (decimal m)) there
      ∙ found_from (k + 1) n ys (put (decimal k) (f y) ms) x is (omega (arith, low)) (keyed_put (decimal k) (f y) ms (decimal_utf8 k (omega (arith, low))) keyed)

  -- the data of a thing stand under its number
  pub found : (n : ℕ) (xs : List T) (x : T) → slice_get xs n ≡ Some x → length xs < 2 ^ 64 → json_child (index_key n) (json_of (numbered f (enumerate_from 0 xs))) ≡ Some (json_of (f x))
  found n xs x is low =
      let here : n ≡ 0 + n = omega arith in
      ap (λ m. json_member (members_json (fold put_entry no_members (map entry (enumerate_from 0 xs)))) (decimal m)) here
      ∙ found_from 0 n xs no_members x is (omega (arith, low)) tt

-- ---- the paths of a branch

settled_if : (l : Location) (ps : List PathCoverage) → map (λ p. count_data p.count) (if_paths l ps) ≡ map (λ p. count_data p.count) ps
settled_if l [] = refl
settled_if l (a ∷ []) = refl
settled_if l (a ∷ b ∷ []) = refl
settled_if l (a ∷ b ∷ c ∷ ps) = refl

settled_counts : (kind : List ℕ) (l : Location) (ps : List PathCoverage) → map (λ p. count_data p.count) (settled_paths kind l ps) ≡ map (λ p. count_data p.count) ps
settled_counts kind l ps = by (bytes_eq kind (codes "if"))
  where
    by : (b : Bool) → map (λ p. count_data p.count) (if b then if_paths l ps else ps) ≡ map (λ p. count_data p.count) ps
    by true = settled_if l ps
    by false = refl

zero_item : (places : List (Option Loc)) (i : ℕ) → i < length places → json_item (items_json (items_of (map (λ p. count_data p.count) (map zero_path places)))) i ≡ Some (Number 0)
zero_item [] i low = absurd (omega (arith, low))
zero_item (place ∷ places) zero low = refl
zero_item (place ∷ places) (suc i) low = zero_item places i (omega (arith, low))

pub zero_count : (kind : List ℕ) (l : Location) (places : List (Option Loc)) (i : ℕ) → i < length places → i < 2 ^ 32 - 1 →
    number_in (Items (items_json (items_of (map (λ p. count_data p.count) (settled_paths kind l (map zero_path places)))))) (index_key i ∷ []) ≡ Some 0
zero_count kind l places i low small =
    ap (λ ds. option_and_then (λ y. number_in y []) (option_and_then (json_item (items_json (items_of ds))) (index_of (index_key i)))) (settled_counts kind l (map zero_path places))
    ∙ ap (λ o. option_and_then (λ y. number_in y []) (option_and_then (json_item (items_json (items_of (map (λ p. count_data p.count) (map zero_path places))))) o)) (index_read i small)
    ∙ ap (option_and_then (λ y. number_in y [])) (zero_item places i low)
