-- Members whose values are changed by their keys, and a number of data that goes up.
use Rattle.std.proofs.Common.{◌≡◌, ℕ, ◌+◌, ◌-◌, ◌%◌, ◌^◌, ◌<◌, List, [], ◌∷◌, ◌++◌, map, fold, Bool, true, false, if◌then◌else◌, nat_eq, decimal, refl, sym, ap, ◌∙◌, subst, arith}
use Rattle.std.specs.Prelude.{bytes_eq}
use Rattle.std.specs.Ordering.{match_ordering}
use Rattle.std.specs.declared.cmp.Ordering.{Ordering}
use Rattle.std.specs.declared.cmp.Ordering.TheVariants.{Less, Equal, Greater}
use Rattle.std.specs.List.{flat_map}
use Rattle.std.specs.Str.{IsUtf8}
use Rattle.std.specs.Char.Escape.{encode_utf16}
use Rattle.std.proofs.lemmas.Slice.Eq.{bytes_eq-Decides}
use Rattle.std.proofs.lemmas.Map.Lookups.{exact_bytes}
use Rattle.std.proofs.lemmas.Bool.{eq-eqb, eqb-true}
use Rattle.std.proofs.lemmas.Grind.{flat_map-append}
use Rattle.std.proofs.lemmas.Str.{chars-IsAscii, IsUtf8-from_ascii}
use Rattle.std.proofs.lemmas.Fmt.{IsAscii-decimal, decimal_by_steps, decimal_injective}
use Rattle.serde_json.specs.Data.{Data, Members as DataMembers, no_members, member, put}
use Rattle.cov_object.specs.Json.{by_key, numbered}
use Rattle.cov_object.specs.Numbered.{AreSmall}
use Rattle.js_value.specs.Functions.{name_units}
use Rattle.js_counter.specs.Represents.{Members, json_ticked, json_ticked_members, members}
use Rattle.cov_expected.specs.Told.{text_of, json_of, members_json}
use Rattle.cov_expected.proofs.Texts.{text_back, one_unit}
use Rattle.cov_expected.proofs.Ordered.{less_apart, unequal, cmp, Entry, put_entry, Above, AreSorted, sorted_all}

-- ---- values changed by their keys

module _ (change : List ℕ → Data → Data) where
  abbrev pub changed : DataMembers → DataMembers
  changed no_members = no_members
  changed (member k d ms) = member k (change k d) (changed ms)

  changed_by : (o : Ordering) (k : List ℕ) (d : Data) (l : List ℕ) (e : Data) (ms rest : DataMembers) → cmp k l ≡ o →
      changed (match_ordering o (member k d (member l e ms)) (member l d ms) (member l e rest))
      ≡ match_ordering o (member k (change k d) (changed (member l e ms))) (member l (change k d) (changed ms)) (member l (change l e) (changed rest))
  changed_by Less k d l e ms rest is = refl
  changed_by Equal k d l e ms rest is = ap (λ q. member l (change q d) (changed ms)) (sym (exact_bytes k l is))
  changed_by Greater k d l e ms rest is = refl

  changed_put : (k : List ℕ) (d : Data) (ms : DataMembers) → changed (put k d ms) ≡ put k (change k d) (changed ms)
  changed_put k d no_members = refl
  changed_put k d (member l e ms) =
      changed_by (cmp k l) k d l e ms (put k d ms) refl
      ∙ ap (λ rest. match_ordering (cmp k l) (member k (change k d) (changed (member l e ms))) (member l (change k d) (changed ms)) (member l (change l e) rest)) (changed_put k d ms)

  abbrev pub changed_entry : Entry → Entry
  changed_entry e = (e.0, change e.0 e.1)

  changed_all : (es : List Entry) (ms : DataMembers) → changed (fold put_entry ms es) ≡ fold put_entry (changed ms) (map changed_entry es)
  changed_all [] ms = refl
  changed_all (e ∷ es) ms = changed_all es (put e.0 e.1 ms) ∙ ap (λ m. fold put_entry m (map changed_entry es)) (changed_put e.0 e.1 ms)

-- ---- something holds of all members

module _ (P : List ℕ → Data → Type 0) where
  abbrev pub AllMembers : DataMembers → Type 0
  AllMembers no_members = Unit {0}
  AllMembers (member k d ms) = P k d × AllMembers ms

  abbrev pub AllEntries : List Entry → Type 0
  AllEntries [] = Unit {0}
  AllEntries (e ∷ es) = P e.0 e.1 × AllEntries es

  all_by : (o : Ordering) (k : List ℕ) (d : Data) (l : List ℕ) (e : Data) (ms rest : DataMembers) → cmp k l ≡ o → P k d → AllMembers (member l e ms) → AllMembers rest →
      AllMembers (match_ordering o (member k d (member l e ms)) (member l d ms) (member l e rest))
  all_by Less k d l e ms rest is p all later = (p, all)
  all_by Equal k d l e ms rest is p all later = (subst (λ q. P q d) (exact_bytes k l is) p, all.1)
  all_by Greater k d l e ms rest is p all later = (all.0, later)

  all_put : (k : List ℕ) (d : Data) (ms : DataMembers) → P k d → AllMembers ms → AllMembers (put k d ms)
  all_put k d no_members p all = (p, tt)
  all_put k d (member l e ms) p all = all_by (cmp k l) k d l e ms (put k d ms) refl p all (all_put k d ms p all.1)

  pub all_fold : (es : List Entry) (ms : DataMembers) → AllEntries es → AllMembers ms → AllMembers (fold put_entry ms es)
  all_fold [] ms each all = all
  all_fold (e ∷ es) ms each all = all_fold es (put e.0 e.1 ms) each.1 (all_put e.0 e.1 ms each.0 all)

-- ---- the member that a key leads to

module _ (key : List ℕ) (keys : List (List ℕ)) (change : Data → Data) where
  abbrev pub at_key : List ℕ → Data → Data
  at_key k d = if bytes_eq (name_units k) key then change d else d

  -- where the key leads to a member, the change is the tick
  abbrev pub IsTick : List ℕ → Data → Type 0
  IsTick k d = IsUtf8 k × (json_of (change d) ≡ json_ticked (json_of d) keys)

  -- after the member of the key there is no other
  rest_stays : (k : List ℕ) (ms : DataMembers) → IsUtf8 k → name_units k ≡ key → Above k ms → AllMembers IsTick ms → members_json ms ≡ members_json (changed at_key ms)
  rest_stays k no_members utf8 is above all = refl
  rest_stays k (member l e ms) utf8 is above all =
      let other : bytes_eq (name_units l) key ≡ false = unequal (name_units l) key
      (λ same. less_apart k l above.0 (sym (text_back k utf8) ∙ ap text_of (is ∙ sym same) ∙ text_back l all.0.0)) in
      ap (members (name_units l) (json_of e)) (rest_stays k ms utf8 is above.1 all.1)
      ∙ ap (λ b. members (name_units l) (json_of (if b then change e else e)) (members_json (changed at_key ms))) (sym other)

  ticked_by : (b : Bool) (k : List ℕ) (d : Data) (ms : DataMembers) → bytes_eq (name_units k) key ≡ b → AllMembers IsTick (member k d ms) → Above k ms →
      json_ticked_members (members_json ms) key keys ≡ members_json (changed at_key ms) →
      (if b then members (name_units k) (json_ticked (json_of d) keys) (members_json ms) else members (name_units k) (json_of d) (json_ticked_members (members_json ms) key keys))
      ≡ members (name_units k) (json_of (if b then change d else d)) (members_json (changed at_key ms))
  ticked_by true k d ms is all above later =
      ap (λ x. members (name_units k) x (members_json ms)) (sym all.0.1)
      ∙ ap (members (name_units k) (json_of (change d))) (rest_stays k ms all.0.0 ((bytes_eq-Decides (name_units k) key).0 is) above all.1)
  ticked_by false k d ms is all above later = ap (members (name_units k) (json_of d)) later

  pub ticked_members : (ms : DataMembers) → AreSorted ms → AllMembers IsTick ms → json_ticked_members (members_json ms) key keys ≡ members_json (changed at_key ms)
  ticked_members no_members sorted all = refl
  ticked_members (member k d ms) sorted all =
      ticked_by (bytes_eq (name_units k) key) k d ms refl all sorted.0 (ticked_members ms sorted.1 all.1)

-- ---- things under their numbers

appended : (ds : List ℕ) (c : ℕ) → c < 0x1_0000 → flat_map encode_utf16 ds ≡ ds → flat_map encode_utf16 (ds ++ c ∷ []) ≡ ds ++ c ∷ []
appended ds c low is = flat_map-append encode_utf16 ds (c ∷ []) ∙ ap (λ us. us ++ (encode_utf16 c ++ [])) is ∙ ap (λ us. ds ++ (us ++ [])) (one_unit c low)

pub decimal_units : (n : ℕ) → n < 2 ^ 64 → name_units (decimal n) ≡ decimal n
decimal_units n low =
    ap (flat_map encode_utf16) (chars-IsAscii (decimal n) (IsAscii-decimal n low))
    ∙ decimal_by_steps (λ m ds. flat_map encode_utf16 ds ≡ ds)
    (λ m small. appended [] (48 + m) (omega (arith, small)) refl)
    (λ m ds large before. appended ds (48 + m % 10) (omega arith) before) n low

never : true ≡ false → ⊥
never e = cc

same_id : (a b : ℕ) (t : Bool) → a < 2 ^ 64 → b < 2 ^ 64 → nat_eq a b ≡ t → bytes_eq (name_units (decimal a)) (decimal b) ≡ t
same_id a b t low small is = ap (λ us. bytes_eq us (decimal b)) (decimal_units a low) ∙ by t is
  where
    by : (t : Bool) → nat_eq a b ≡ t → bytes_eq (decimal a) (decimal b) ≡ t
    by true is = (bytes_eq-Decides (decimal a) (decimal b)).1 (ap decimal (eqb-true a b is))
    by false is = unequal (decimal a) (decimal b) (λ same. never (sym (eq-eqb a b (decimal_injective a b low small same)) ∙ is))

module _ {T : Type 0} (f : T → Data) (n : ℕ) (small : n < 2 ^ 64) (keys : List (List ℕ)) (change : Data → Data) (more : ℕ × T → ℕ × T)
    (same : (x : ℕ × T) → (more x).0 ≡ x.0) (once : (x : ℕ × T) → f (more x).1 ≡ (if nat_eq x.0 n then change (f x.1) else f x.1))
    (tick : (x : T) → json_of (change (f x)) ≡ json_ticked (json_of (f x)) keys) where
  abbrev entry : ℕ × T → Entry
  entry x = (decimal x.0, f x.1)

  changed_things : (xs : List (ℕ × T)) → AreSmall xs → map (changed_entry (at_key (decimal n) keys change)) (map entry xs) ≡ map entry (map more xs)
  changed_things [] few = refl
  changed_things (x ∷ xs) few =
      ap (λ b. (decimal x.0, if b then change (f x.1) else f x.1) ∷ map (changed_entry (at_key (decimal n) keys change)) (map entry xs))
      (same_id x.0 n (nat_eq x.0 n) (omega (arith, few.0)) small refl)
      ∙ ap (λ d. (decimal x.0, d) ∷ map (changed_entry (at_key (decimal n) keys change)) (map entry xs)) (sym (once x))
      ∙ ap (λ i. (decimal i, f (more x).1) ∷ map (changed_entry (at_key (decimal n) keys change)) (map entry xs)) (sym (same x))
      ∙ ap (λ es. entry (more x) ∷ es) (changed_things xs few.1)

  all_ticks : (xs : List (ℕ × T)) → AreSmall xs → AllEntries (IsTick (decimal n) keys change) (map entry xs)
  all_ticks [] few = tt
  all_ticks (x ∷ xs) few = ((IsUtf8-from_ascii (decimal x.0) (IsAscii-decimal x.0 (omega (arith, few.0))), tick x.1), all_ticks xs few.1)

  -- a tick of the data of numbered things is the data of the things of which the one with the number has changed
  pub numbered_ticked : (xs : List (ℕ × T)) → AreSmall xs → json_ticked (json_of (numbered f xs)) (decimal n ∷ keys) ≡ json_of (numbered f (map more xs))
  numbered_ticked xs few =
      let es = map entry xs in
      ap Members (ticked_members (decimal n) keys change (by_key es) (sorted_all es no_members tt) (all_fold (IsTick (decimal n) keys change) es no_members (all_ticks xs few) tt))
      ∙ ap (λ ms. Members (members_json ms)) (changed_all (at_key (decimal n) keys change) es no_members ∙ ap by_key (changed_things xs few))
