-- The own keys of an object in their order (ECMA-262, 10.1.11.1): put by their keys, members are the same as in the order in which the
-- properties were added.
use Rattle.std.proofs.Common.{◌≡◌, ℕ, ◌+◌, ◌*◌, ◌-◌, ◌/◌, ◌%◌, ◌^◌, ◌<◌, ◌≤◌, ◌&&◌, List, [], ◌∷◌, ◌++◌, map, fold, Bool, true, false, Option, Some, None, if◌then◌else◌, nat_lt, nat_le, nat_eq, decimal, append-nil, append_assoc, refl, sym, ap, ◌∙◌, arith, ltb-true, leb-true}
use Rattle.std.specs.Ordering.{nat_cmp, match_ordering}
use Rattle.std.specs.declared.cmp.Ordering.{Ordering}
use Rattle.std.specs.declared.cmp.Ordering.TheVariants.{Less, Equal, Greater}
use Rattle.std.specs.BTreeMap.{insert_entry}
use Rattle.std.proofs.lemmas.List.{map-append}
use Rattle.std.proofs.lemmas.Bool.{and_parts}
use Rattle.std.proofs.lemmas.Map.Lookups.{exact_unsigned}
use Rattle.std.proofs.lemmas.Fmt.{decimal_digit, decimal_step}
use Rattle.serde_json.specs.Data.{Data, Members, put}
use Rattle.js_value.specs.declared.key.Key.{Key}
use Rattle.js_value.specs.State.{Property}
use Rattle.js_value.specs.Key.{digit_of, digits_after, numeral_of, if_index, index_of, key_of, put_index, indexed, others, ordered_keys}
use Rattle.cov_expected.proofs.Ordered.{cmp, cmp_same, Differ, differ_turned, Entry, put_entry, Away, put_past, fold_append}

-- An index has one numeral

inj : {X : Type 0} {a b : X} → Some a ≡ Some b → a ≡ b
inj e = cc

record Digit (u d : ℕ) : Type 0 where
  low : d < 10
  is : 48 + d ≡ u

digit_by : (u d : ℕ) (b : Bool) → (nat_le 48 u && nat_le u 57) ≡ b → (if b then Some (u - 48) else None) ≡ Some d → Digit u d
digit_by u d false is e = absurd (cc)
digit_by u d true is e =
    let parts = and_parts _ _ is in
    let from = leb-true 48 u parts.0 in
    let to = leb-true u 57 parts.1 in
    let held : u - 48 ≡ d = inj e in
    record { low = omega (arith, from, to, held); is = omega (arith, from, to, held) }

digit : (u d : ℕ) → digit_of u ≡ Some d → Digit u d
digit u d e = digit_by u d _ refl e

-- digits after a number that has some
record More (before : ℕ) (us : List ℕ) (n : ℕ) : Type 0 where
  grows : before ≤ n
  is : n < 2 ^ 64 → decimal n ≡ decimal before ++ us

digits_by : (before u : ℕ) (us : List ℕ) (n : ℕ) → 1 ≤ before → (o : Option ℕ) → digit_of u ≡ o → elim o [ None ↦ None | Some d ↦ digits_after (before * 10 + d) us ] ≡ Some n →
    ((d : ℕ) → digits_after (before * 10 + d) us ≡ Some n → More (before * 10 + d) us n) → More before (u ∷ us) n
digits_by before u us n some None is f rest = absurd (cc)
digits_by before u us n some (Some d) is f rest =
    let one = digit u d is in
    let later = rest d f in
    let tens : (before * 10 + d) / 10 ≡ before = omega (arith, one.low) in
    let ones : (before * 10 + d) % 10 ≡ d = omega (arith, one.low) in
    record {
      grows = omega (arith, later.grows);
      is = λ low. later.is low
          ∙ ap (λ t. t ++ us) (decimal_step (before * 10 + d) (omega (arith, some)) (omega (arith, later.grows, low)) ∙ ap (λ m. decimal m ++ ((48 + (before * 10 + d) % 10) ∷ [])) tens ∙ ap (λ m. decimal before ++ ((48 + m) ∷ [])) ones)
          ∙ append_assoc (decimal before) ((48 + d) ∷ []) us
          ∙ ap (λ c. decimal before ++ c ∷ us) one.is;
    }

more_digits : (before : ℕ) (us : List ℕ) (n : ℕ) → 1 ≤ before → digits_after before us ≡ Some n → More before us n
more_digits before [] n some e =
    let same : before ≡ n = inj e in
    record { grows = omega (arith, same); is = λ low. ap decimal (sym same) ∙ sym (append-nil (decimal before)) }
more_digits before (u ∷ us) n some e = digits_by before u us n some (digit_of u) refl e (λ d grown. more_digits (before * 10 + d) us n (omega (arith, some)) grown)

small_index : (o : Option ℕ) (n : ℕ) → if_index o ≡ Some n → (o ≡ Some n) × (n < 2 ^ 64)
small_index None n e = absurd (cc)
small_index (Some m) n e = by (nat_lt m (2 ^ 32 - 1)) refl e
  where
    by : (b : Bool) → nat_lt m (2 ^ 32 - 1) ≡ b → (if b then Some m else None) ≡ Some n → (Some m ≡ Some n) × (n < 2 ^ 64)
    by false is f = absurd (cc)
    by true is f = let same : m ≡ n = inj f in (f, let low = ltb-true m (2 ^ 32 - 1) is in omega (arith, low, same))

numeral_is : (key : List ℕ) (n : ℕ) → n < 2 ^ 64 → numeral_of key ≡ Some n → key ≡ decimal n
numeral_is [] n low e = absurd (cc)
numeral_is (u ∷ []) n low e =
    let one = digit u n e in
    ap (λ c. c ∷ []) (sym one.is) ∙ sym (decimal_digit n one.low)
numeral_is (u ∷ v ∷ us) n low e = by (nat_eq u 48) refl e
  where
    first : (o : Option ℕ) → digit_of u ≡ o → elim o [ None ↦ None | Some d ↦ digits_after (0 * 10 + d) (v ∷ us) ] ≡ Some n → nat_eq u 48 ≡ false → u ∷ v ∷ us ≡ decimal n
    first None is f other = absurd (cc)
    first (Some d) is f other =
        let one = digit u d is in
        let some : 1 ≤ 0 * 10 + d = grind (arith, other, one.is) in
        let later = more_digits (0 * 10 + d) (v ∷ us) n some f in
        let same : 0 * 10 + d ≡ d = omega arith in
        sym (later.is low ∙ ap (λ m. decimal m ++ v ∷ us) same ∙ ap (λ t. t ++ v ∷ us) (decimal_digit d one.low) ∙ ap (λ c. c ∷ v ∷ us) one.is)

    by : (b : Bool) → nat_eq u 48 ≡ b → (if b then None else digits_after 0 (u ∷ v ∷ us)) ≡ Some n → u ∷ v ∷ us ≡ decimal n
    by true is f = absurd (cc)
    by false is f = first (digit_of u) refl f is

pub index_is : (key : List ℕ) (n : ℕ) → index_of key ≡ Some n → key ≡ decimal n
index_is key n e = let small = small_index (numeral_of key) n e in numeral_is key n small.1 small.0

-- Members by the keys in order

module _ (text : List ℕ → List ℕ) (value : List ℕ → Data) where
  abbrev pub entry_of : Key → Entry
  entry_of k = (text k.key, value k.key)

  abbrev pub entries_of : List Key → List Entry
  entries_of ks = map entry_of ks

  abbrev pub property_entries : List Property → List Entry
  property_entries ps = map (λ p. (text p.key, value p.key)) ps

  abbrev sorted_entries : List (ℕ × Key) → List Entry
  sorted_entries acc = map (λ x. entry_of x.1) acc

  -- no two properties have one text as their keys
  abbrev pub Apart : List Property → Type 0
  Apart [] = Unit {0}
  Apart (p ∷ ps) = Away (text p.key) (property_entries ps) × Apart ps

  -- none of the properties has a key of those
  abbrev Clear : List (ℕ × Key) → List Property → Type 0
  Clear acc [] = Unit {0}
  Clear acc (p ∷ ps) = Away (text p.key) (sorted_entries acc) × Clear acc ps

  -- each stands beside its index
  abbrev Indexed : List (ℕ × Key) → Type 0
  Indexed [] = Unit {0}
  Indexed (x ∷ acc) = (index_of x.1.key ≡ Some x.0) × Indexed acc

  abbrev insert : List (ℕ × Key) → ℕ → Key → List (ℕ × Key)
  insert acc n k = insert_entry nat_cmp acc n k

  -- a list with one key more
  record IsMore (k : Key) (acc all : List (ℕ × Key)) : Type 0 where
    puts : (ms : Members) → fold put_entry ms (sorted_entries all) ≡ put (text k.key) (value k.key) (fold put_entry ms (sorted_entries acc))
    indexed : Indexed all
    away : (key : List ℕ) → Differ key (text k.key) → Away key (sorted_entries acc) → Away key (sorted_entries all)

  module _ (n : ℕ) (k : Key) (is : index_of k.key ≡ Some n) where
    one_more : (x : ℕ × Key) (acc : List (ℕ × Key)) (o : Ordering) → nat_cmp n x.0 ≡ o → Indexed (x ∷ acc) → Away (text k.key) (sorted_entries (x ∷ acc)) →
        IsMore k acc (insert acc n k) → IsMore k (x ∷ acc) (match_ordering o ((n, k) ∷ x ∷ acc) ((x.0, k) ∷ acc) (x ∷ insert acc n k))
    one_more x acc Less at indexed clear later = record {
      puts = λ ms. put_past (text k.key) (value k.key) (sorted_entries (x ∷ acc)) ms clear;
      indexed = (is, indexed);
      away = λ key differ rest. (differ, rest);
    }
    one_more x acc Equal at indexed clear later =
        let same : n ≡ x.0 = exact_unsigned n x.0 at in
        let key : k.key ≡ x.1.key = index_is k.key n is ∙ ap decimal same ∙ sym (index_is x.1.key x.0 indexed.0) in
        absurd (clear.0 (ap (λ q. cmp (text k.key) (text q)) (sym key) ∙ cmp_same (text k.key)))
    one_more x acc Greater at indexed clear later = record {
      puts = λ ms. later.puts (put (text x.1.key) (value x.1.key) ms);
      indexed = (indexed.0, later.indexed);
      away = λ key differ rest. (rest.0, later.away key differ rest.1);
    }

    inserted : (acc : List (ℕ × Key)) → Indexed acc → Away (text k.key) (sorted_entries acc) → IsMore k acc (insert acc n k)
    inserted [] indexed clear = record { puts = λ ms. refl; indexed = (is, tt); away = λ key differ rest. (differ, tt) }
    inserted (x ∷ acc) indexed clear = one_more x acc (nat_cmp n x.0) refl indexed clear (inserted acc indexed.1 clear.1)

  clear_more : (k : Key) (acc all : List (ℕ × Key)) (ps : List Property) → IsMore k acc all → Away (text k.key) (property_entries ps) → Clear acc ps → Clear all ps
  clear_more k acc all [] more away clear = tt
  clear_more k acc all (p ∷ ps) more away clear =
      (more.away (text p.key) (differ_turned (text k.key) (text p.key) away.0) clear.0, clear_more k acc all ps more away.1 clear.1)

  -- the keys that are no indices are among all
  others_by : (p : Property) (ps : List Property) (key : List ℕ) (o : Option ℕ) → Differ key (text p.key) → Away key (entries_of (others ps)) →
      Away key (entries_of (elim o [ None ↦ key_of p ∷ others ps | Some n ↦ others ps ]))
  others_by p ps key None differ rest = (differ, rest)
  others_by p ps key (Some n) differ rest = rest

  others_away : (key : List ℕ) (ps : List Property) → Away key (property_entries ps) → Away key (entries_of (others ps))
  others_away key [] away = tt
  others_away key (p ∷ ps) away = others_by p ps key (index_of p.key) away.0 (others_away key ps away.1)

  -- put in their order, all of them, after some that are indices
  abbrev ordered : List (ℕ × Key) → List Property → Members → Members
  ordered acc ps ms = fold put_entry (fold put_entry ms (sorted_entries (fold put_index acc ps))) (entries_of (others ps))

  abbrev Ordered : List Property → Type 0
  Ordered ps = (acc : List (ℕ × Key)) (ms : Members) → Indexed acc → Clear acc ps → Apart ps → ordered acc ps ms ≡ fold put_entry (fold put_entry ms (sorted_entries acc)) (property_entries ps)

  abbrev putting : List (ℕ × Key) → Property → Option ℕ → List (ℕ × Key)
  putting acc p o = elim o [ None ↦ acc | Some n ↦ insert acc n (key_of p) ]

  abbrev keeping : Property → List Property → Option ℕ → List Key
  keeping p ps o = elim o [ None ↦ key_of p ∷ others ps | Some n ↦ others ps ]

  ordered_by : (p : Property) (ps : List Property) (o : Option ℕ) → index_of p.key ≡ o → Ordered ps → (acc : List (ℕ × Key)) (ms : Members) → Indexed acc → Clear acc (p ∷ ps) → Apart (p ∷ ps) →
      fold put_entry (fold put_entry ms (sorted_entries (fold put_index (putting acc p o) ps))) (entries_of (keeping p ps o))
      ≡ fold put_entry (put (text p.key) (value p.key) (fold put_entry ms (sorted_entries acc))) (property_entries ps)
  ordered_by p ps None is rest acc ms idx clear apart =
      put_past (text p.key) (value p.key) (entries_of (others ps)) (fold put_entry ms (sorted_entries (fold put_index acc ps))) (others_away (text p.key) ps apart.0)
      ∙ ap (put (text p.key) (value p.key)) (rest acc ms idx clear.1 apart.1)
      ∙ sym (put_past (text p.key) (value p.key) (property_entries ps) (fold put_entry ms (sorted_entries acc)) apart.0)
  ordered_by p ps (Some n) is rest acc ms idx clear apart =
      let more = inserted n (key_of p) is acc idx clear.0 in
      rest (insert acc n (key_of p)) ms more.indexed (clear_more (key_of p) acc (insert acc n (key_of p)) ps more apart.0 clear.1) apart.1
      ∙ ap (λ m. fold put_entry m (property_entries ps)) (more.puts ms)

  all_ordered : (ps : List Property) → Ordered ps
  all_ordered [] acc ms idx clear apart = refl
  all_ordered (p ∷ ps) acc ms idx clear apart = ordered_by p ps (index_of p.key) refl (all_ordered ps) acc ms idx clear apart

  all_clear : (ps : List Property) → Clear [] ps
  all_clear [] = tt
  all_clear (p ∷ ps) = (tt, all_clear ps)

  values_of : (acc : List (ℕ × Key)) → entries_of (map (λ x. x.1) acc) ≡ sorted_entries acc
  values_of [] = refl
  values_of (x ∷ acc) = ap (λ es. entry_of x.1 ∷ es) (values_of acc)

  -- put in the order of keys, members are as if put in the order of the properties
  pub in_key_order : (ps : List Property) (ms : Members) → Apart ps → fold put_entry ms (entries_of (ordered_keys ps)) ≡ fold put_entry ms (property_entries ps)
  in_key_order ps ms apart =
      ap (fold put_entry ms) (map-append entry_of (map (λ x. x.1) (indexed ps)) (others ps))
      ∙ fold_append (entries_of (map (λ x. x.1) (indexed ps))) (entries_of (others ps)) ms
      ∙ ap (λ es. fold put_entry (fold put_entry ms es) (entries_of (others ps))) (values_of (indexed ps))
      ∙ all_ordered ps [] ms tt (all_clear ps) apart
