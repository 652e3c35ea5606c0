-- Each number of a file's data grows by the entries of its mark.
use Rattle.std.proofs.Common.{◌≡◌, ◌≢◌, ℕ, zero, suc, ◌+◌, ◌-◌, ◌^◌, ◌<◌, Bool, true, false, List, [], ◌∷◌, Option, Some, None, refl, sym, ap, ◌∙◌, subst, ⊎_elim, ◌⊎◌, inl, inr, arith, codes, if◌then◌else◌}
use Rattle.std.specs.Prelude.{option_map, option_and_then, nat_eq, flat_map}
use Rattle.std.specs.Char.Escape.{encode_utf16}
use Rattle.std.specs.Str.{bytes_eq, IsAscii}
use Rattle.std.proofs.lemmas.Bool.{cases_eq}
use Rattle.std.proofs.lemmas.Bool.Decides.{nat_tests}
use Rattle.std.proofs.lemmas.Slice.Eq.{bytes_eq-Decides}
use Rattle.std.proofs.lemmas.Str.{chars-IsAscii}
use Rattle.js_terms.specs.Mark.{Mark}
use Rattle.js_tree.specs.Marked.{is_mark, same_kind, one_if, times}
use Rattle.js_terms.specs.declared.construct.ConstructKind.{ConstructKind}
use Rattle.js_terms.specs.declared.construct.ConstructKind.TheVariants as construct_kind
use Rattle.js_value.specs.Key.{index_of}
use Rattle.js_value.specs.Functions.{name_units}
use Rattle.js_counter.specs.Represents.{Json, JsonItems, JsonMembers, Null, Truth, Negative, Number, Text, Items, Members, no_items, items, no_members, members, json_ticked, json_ticked_items, json_ticked_members}
use Rattle.js_counter.specs.Steady.{index_key}
use Rattle.js_counter.proofs.Decimals.{index_read, keys_differ}
use Rattle.js_counted.specs.Files.{kind_key, number_keys, way, counted_once}
use Rattle.js_counted.specs.Numbers.{json_item, json_member, json_child, own_number, number_in, IsOnePath, IsCountable, EntriesCounted}

-- One more at the end of a way

item_ticked : (xs : JsonItems) (i : ℕ) (keys : List (List ℕ)) → json_item (json_ticked_items xs i keys) i ≡ option_map (λ y. json_ticked y keys) (json_item xs i)
item_ticked no_items i keys = refl
item_ticked (items x xs) zero keys = refl
item_ticked (items x xs) (suc i) keys = item_ticked xs i keys

pub member_ticked : (ms : JsonMembers) (key : List ℕ) (keys : List (List ℕ)) → json_member (json_ticked_members ms key keys) key ≡ option_map (λ y. json_ticked y keys) (json_member ms key)
member_ticked no_members key keys = refl
member_ticked (members q x ms) key keys = by (bytes_eq q key) refl (member_ticked ms key keys)
  where
    by : (b : Bool) → bytes_eq q key ≡ b → json_member (json_ticked_members ms key keys) key ≡ option_map (λ y. json_ticked y keys) (json_member ms key) →
        json_member (if b then members q (json_ticked x keys) ms else members q x (json_ticked_members ms key keys)) key ≡ option_map (λ y. json_ticked y keys) (if b then Some x else json_member ms key)
    by true e rest = ap (λ b. if b then Some (json_ticked x keys) else json_member ms key) e
    by false e rest = ap (λ b. if b then Some x else json_member (json_ticked_members ms key keys) key) e ∙ rest

pub child_ticked : (x : Json) (key : List ℕ) (keys : List (List ℕ)) → json_child key (json_ticked x (key ∷ keys)) ≡ option_map (λ y. json_ticked y keys) (json_child key x)
child_ticked Null key keys = refl
child_ticked (Truth b) key keys = refl
child_ticked (Negative n) key keys = refl
child_ticked (Number n) key keys = refl
child_ticked (Text units) key keys = refl
child_ticked (Members ms) key keys = member_ticked ms key keys
child_ticked (Items xs) key keys = by (index_of key) refl
  where
    by : (o : Option ℕ) → index_of key ≡ o →
        json_child key (elim o [ None ↦ Items xs | Some i ↦ Items (json_ticked_items xs i keys) ]) ≡ option_map (λ y. json_ticked y keys) (option_and_then (json_item xs) o)
    by None e = ap (option_and_then (json_item xs)) e
    by (Some i) e = ap (option_and_then (json_item (json_ticked_items xs i keys))) e ∙ item_ticked xs i keys

-- and nothing else changes

abbrev pub KeysApart : List ℕ → List ℕ → Type 0
KeysApart k l = (bytes_eq k l ≡ false) × ((i j : ℕ) → index_of k ≡ Some i → index_of l ≡ Some j → i ≢ j)

abbrev WaysApart : List (List ℕ) → List (List ℕ) → Type 0
WaysApart (k ∷ ks) (l ∷ ls) = KeysApart k l ⊎ ((k ≡ l) × WaysApart ks ls)
WaysApart _ _ = ⊥

item_other : (xs : JsonItems) (i j : ℕ) (keys : List (List ℕ)) → i ≢ j → json_item (json_ticked_items xs i keys) j ≡ json_item xs j
item_other no_items i j keys ne = refl
item_other (items x xs) zero zero keys ne = absurd (ne refl)
item_other (items x xs) zero (suc j) keys ne = refl
item_other (items x xs) (suc i) zero keys ne = refl
item_other (items x xs) (suc i) (suc j) keys ne = item_other xs i j keys (λ e. ne (ap (λ n. suc n) e))

pub member_other : (ms : JsonMembers) (key other : List ℕ) (keys : List (List ℕ)) → bytes_eq key other ≡ false → json_member (json_ticked_members ms key keys) other ≡ json_member ms other
member_other no_members key other keys ne = refl
member_other (members q x ms) key other keys ne = by (bytes_eq q key) refl (member_other ms key other keys ne)
  where
    by : (b : Bool) → bytes_eq q key ≡ b → json_member (json_ticked_members ms key keys) other ≡ json_member ms other →
        json_member (if b then members q (json_ticked x keys) ms else members q x (json_ticked_members ms key keys)) other ≡ (if bytes_eq q other then Some x else json_member ms other)
    by true e rest =
        let not : bytes_eq q other ≡ false = ap (λ k. bytes_eq k other) ((bytes_eq-Decides q key).0 e) ∙ ne in
        ap (λ b. if b then Some (json_ticked x keys) else json_member ms other) not ∙ sym (ap (λ b. if b then Some x else json_member ms other) not)
    by false e rest = ap (λ r. if bytes_eq q other then Some x else r) rest

pub child_other : (x : Json) (key other : List ℕ) (keys : List (List ℕ)) → KeysApart key other → json_child other (json_ticked x (key ∷ keys)) ≡ json_child other x
child_other Null key other keys a = refl
child_other (Truth b) key other keys a = refl
child_other (Negative n) key other keys a = refl
child_other (Number n) key other keys a = refl
child_other (Text units) key other keys a = refl
child_other (Members ms) key other keys a = member_other ms key other keys a.0
child_other (Items xs) key other keys a = by (index_of key) refl
  where
    further : (i : ℕ) → index_of key ≡ Some i → (p : Option ℕ) → index_of other ≡ p → option_and_then (json_item (json_ticked_items xs i keys)) p ≡ option_and_then (json_item xs) p
    further i e None f = refl
    further i e (Some j) f = item_other xs i j keys (a.1 i j e f)

    by : (o : Option ℕ) → index_of key ≡ o → json_child other (elim o [ None ↦ Items xs | Some i ↦ Items (json_ticked_items xs i keys) ]) ≡ option_and_then (json_item xs) (index_of other)
    by None e = refl
    by (Some i) e = further i e (index_of other) refl

-- numbers

own_ticked : (x : Json) (n : ℕ) → own_number x ≡ Some n → own_number (json_ticked x []) ≡ Some (n + 1)
own_ticked (Number m) n e = ap (option_map (λ k. k + 1)) e
own_ticked Null n e = absurd cc
own_ticked (Truth b) n e = absurd cc
own_ticked (Negative m) n e = absurd cc
own_ticked (Text units) n e = absurd cc
own_ticked (Items xs) n e = absurd cc
own_ticked (Members ms) n e = absurd cc

pub number_ticked : (keys : List (List ℕ)) (x : Json) (n : ℕ) → number_in x keys ≡ Some n → number_in (json_ticked x keys) keys ≡ Some (n + 1)
number_ticked [] x n e = own_ticked x n e
number_ticked (key ∷ keys) x n e =
    ap (option_and_then (λ y. number_in y keys)) (child_ticked x key keys) ∙ by (json_child key x) e (λ y. number_ticked keys y n)
  where
    by : (o : Option Json) → option_and_then (λ y. number_in y keys) o ≡ Some n → ((y : Json) → number_in y keys ≡ Some n → number_in (json_ticked y keys) keys ≡ Some (n + 1)) →
        option_and_then (λ y. number_in y keys) (option_map (λ y. json_ticked y keys) o) ≡ Some (n + 1)
    by None f rest = absurd (let z = f in cc)
    by (Some y) f rest = rest y f

number_other : (keys others : List (List ℕ)) (x : Json) → WaysApart keys others → number_in (json_ticked x keys) others ≡ number_in x others
number_other [] others x a = absurd a
number_other (k ∷ ks) [] x a = absurd a
number_other (k ∷ ks) (l ∷ ls) x (inl a) = ap (option_and_then (λ y. number_in y ls)) (child_other x k l ks a)
number_other (k ∷ ks) (l ∷ ls) x (inr a) =
    subst (λ m. number_in (json_ticked x (k ∷ ks)) (m ∷ ls) ≡ number_in x (m ∷ ls)) a.0
    (ap (option_and_then (λ y. number_in y ls)) (child_ticked x k ks) ∙ by (json_child k x) (λ y. number_other ks ls y a.1))
  where
    by : (o : Option Json) → ((y : Json) → number_in (json_ticked y ks) ls ≡ number_in y ls) → option_and_then (λ y. number_in y ls) (option_map (λ y. json_ticked y ks) o) ≡ option_and_then (λ y. number_in y ls) o
    by None rest = refl
    by (Some y) rest = rest y

-- Marks

same_index : (m n i j : ℕ) → m < 2 ^ 32 - 1 → n < 2 ^ 32 - 1 → m ≢ n → index_of (index_key m) ≡ Some i → index_of (index_key n) ≡ Some j → i ≢ j
same_index m n i j lm ln ne e f z =
    let a : Some m ≡ Some i = sym (index_read m lm) ∙ e in
    let b : Some n ≡ Some j = sym (index_read n ln) ∙ f in
    let c : m ≡ i = cc in
    let d : n ≡ j = cc in
    ne (c ∙ z ∙ sym d)

numbers_apart : (m n : ℕ) → m < 2 ^ 32 - 1 → n < 2 ^ 32 - 1 → m ≢ n → KeysApart (index_key m) (index_key n)
numbers_apart m n lm ln ne = (keys_differ m n (omega (arith, lm)) (omega (arith, ln)) ne, λ i j. same_index m n i j lm ln ne)

no_index : (key : List ℕ) → index_of key ≡ None → (other : List ℕ) → (i j : ℕ) → index_of key ≡ Some i → index_of other ≡ Some j → i ≢ j
no_index key e other i j f g = absurd (let z : None ≡ Some i = sym e ∙ f in cc)

letter_apart : (key other : List ℕ) → bytes_eq key other ≡ false → index_of key ≡ None → KeysApart key other
letter_apart key other e f = (e, no_index key f other)

-- the letters of the kinds, in units
one_ascii : (c : ℕ) → c < 128 → IsAscii (c ∷ [])
one_ascii c low zero = low
one_ascii c low (suc i) = omega arith

units_of : (c : ℕ) → c < 128 → name_units (c ∷ []) ≡ flat_map encode_utf16 (c ∷ [])
units_of c low = ap (flat_map encode_utf16) (chars-IsAscii (c ∷ []) (one_ascii c low))

abbrev pub letter : ConstructKind → List ℕ
letter construct_kind.Statement = codes "s"
letter construct_kind.Function = codes "f"
letter construct_kind.Branch = codes "b"

pub kind_letter : (k : ConstructKind) → kind_key k ≡ letter k
kind_letter construct_kind.Statement = units_of 0x73 (omega arith)
kind_letter construct_kind.Function = units_of 0x66 (omega arith)
kind_letter construct_kind.Branch = units_of 0x62 (omega arith)

kinds_apart : (k l : ConstructKind) → bytes_eq (letter k) (letter l) ≡ false → index_of (letter k) ≡ None → KeysApart (kind_key k) (kind_key l)
kinds_apart k l e f = subst (λ x. KeysApart x (kind_key l)) (sym (kind_letter k)) (subst (λ y. KeysApart (letter k) y) (sym (kind_letter l)) (letter_apart (letter k) (letter l) e f))

other_number : (m n : Mark) → is_mark m n ≡ false → m.file ≡ n.file → same_kind m.kind n.kind ≡ true → m.path ≡ n.path → m.number ≢ n.number
other_number m n e f k p z = grind (arith, nat_tests, e, f, k, p, z)

ways_apart : (m n : Mark) → IsCountable m → IsCountable n → is_mark m n ≡ false → m.file ≡ n.file → WaysApart (way n) (way m)
ways_apart m n a b e f = by m.kind n.kind refl refl a.one_path b.one_path
  where
    by : (k l : ConstructKind) → m.kind ≡ k → n.kind ≡ l → IsOnePath k m.path → IsOnePath l n.path → WaysApart (kind_key l ∷ number_keys l n.number n.path) (kind_key k ∷ number_keys k m.number m.path)
    by construct_kind.Statement construct_kind.Statement s t u v =
        let z : m.number ≢ n.number = other_number m n e f (ap (λ k. same_kind k n.kind) s ∙ ap (same_kind construct_kind.Statement) t) (u ∙ sym v) in
        inr (refl, inl (numbers_apart n.number m.number b.number_low a.number_low (λ y. z (sym y))))
    by construct_kind.Function construct_kind.Function s t u v =
        let z : m.number ≢ n.number = other_number m n e f (ap (λ k. same_kind k n.kind) s ∙ ap (same_kind construct_kind.Function) t) (u ∙ sym v) in
        inr (refl, inl (numbers_apart n.number m.number b.number_low a.number_low (λ y. z (sym y))))
    by construct_kind.Branch construct_kind.Branch s t u v = ⊎_elim
        (λ (p : m.path ≡ n.path).
        let z : m.number ≢ n.number = other_number m n e f (ap (λ k. same_kind k n.kind) s ∙ ap (same_kind construct_kind.Branch) t) p in
        inr (refl, inl (numbers_apart n.number m.number b.number_low a.number_low (λ y. z (sym y)))))
        (λ (p : m.path ≡ n.path → ⊥). ⊎_elim
        (λ (i : m.number ≡ n.number). inr (refl, inr (ap index_key (sym i), inl (numbers_apart n.path m.path b.path_low a.path_low (λ y. p (sym y))))))
        (λ (i : m.number ≡ n.number → ⊥). inr (refl, inl (numbers_apart n.number m.number b.number_low a.number_low (λ y. i (sym y)))))
        (cases_eq m.number n.number))
        (cases_eq m.path n.path)
    by construct_kind.Statement construct_kind.Function s t u v = inl (kinds_apart construct_kind.Function construct_kind.Statement refl refl)
    by construct_kind.Statement construct_kind.Branch s t u v = inl (kinds_apart construct_kind.Branch construct_kind.Statement refl refl)
    by construct_kind.Function construct_kind.Statement s t u v = inl (kinds_apart construct_kind.Statement construct_kind.Function refl refl)
    by construct_kind.Function construct_kind.Branch s t u v = inl (kinds_apart construct_kind.Branch construct_kind.Function refl refl)
    by construct_kind.Branch construct_kind.Statement s t u v = inl (kinds_apart construct_kind.Statement construct_kind.Branch refl refl)
    by construct_kind.Branch construct_kind.Function s t u v = inl (kinds_apart construct_kind.Function construct_kind.Branch refl refl)

same_kinds : (k l : ConstructKind) → same_kind k l ≡ true → k ≡ l
same_kinds construct_kind.Statement construct_kind.Statement e = refl
same_kinds construct_kind.Function construct_kind.Function e = refl
same_kinds construct_kind.Branch construct_kind.Branch e = refl
same_kinds construct_kind.Statement construct_kind.Function e = absurd cc
same_kinds construct_kind.Statement construct_kind.Branch e = absurd cc
same_kinds construct_kind.Function construct_kind.Statement e = absurd cc
same_kinds construct_kind.Function construct_kind.Branch e = absurd cc
same_kinds construct_kind.Branch construct_kind.Statement e = absurd cc
same_kinds construct_kind.Branch construct_kind.Function e = absurd cc

same_way : (m n : Mark) → is_mark m n ≡ true → (m.file ≡ n.file) × (way m ≡ way n)
same_way m n e =
    let k : same_kind m.kind n.kind ≡ true = grind (arith, e) in
    let f : m.file ≡ n.file = grind (arith, nat_tests, e) in
    let i : m.number ≡ n.number = grind (arith, nat_tests, e) in
    let j : m.path ≡ n.path = grind (arith, nat_tests, e) in (
      f,
      ap (λ k. kind_key k ∷ number_keys k m.number m.path) (same_kinds m.kind n.kind k)
          ∙ ap (λ i. kind_key n.kind ∷ number_keys n.kind i m.path) i
          ∙ ap (λ j. kind_key n.kind ∷ number_keys n.kind n.number j) j,
    )

other_file : (m n : Mark) (file : ℕ) → m.file ≡ file → nat_eq n.file file ≡ false → is_mark m n ≡ false
other_file m n file e f = grind (arith, nat_tests, e, f)

-- one entry
once : (file : ℕ) (n : Mark) (x : Json) (m : Mark) (k : ℕ) → IsCountable n → IsCountable m → m.file ≡ file → number_in x (way m) ≡ Some k →
    number_in (counted_once file n x) (way m) ≡ Some (k + one_if (is_mark m n))
once file n x m k b a f e = by_file (nat_eq n.file file) refl
  where
    by_mark : (t : Bool) → is_mark m n ≡ t → n.file ≡ file → number_in (json_ticked x (way n)) (way m) ≡ Some (k + one_if t)
    by_mark true t g = subst (λ w. number_in (json_ticked x w) (way m) ≡ Some (k + 1)) (same_way m n t).1 (number_ticked (way m) x k e)
    by_mark false t g = number_other (way n) (way m) x (ways_apart m n a b t (f ∙ sym g)) ∙ e ∙ ap (λ i. Some i) (let z : k ≡ k + 0 = omega arith in z)

    by_file : (t : Bool) → nat_eq n.file file ≡ t → number_in (if t then json_ticked x (way n) else x) (way m) ≡ Some (k + one_if (is_mark m n))
    by_file true t = by_mark (is_mark m n) refl (grind (arith, nat_tests, t))
    by_file false t = e ∙ ap (λ i. Some i) (let z : k ≡ k + 0 = omega arith in z) ∙ ap (λ b. Some (k + one_if b)) (sym (other_file m n file f t))

pub entries_counted : EntriesCounted
entries_counted file [] x mark n all a f e = e ∙ ap (λ i. Some i) (let z : n ≡ n + 0 = omega arith in z)
entries_counted file (m ∷ log) x mark n all a f e =
    entries_counted file log (counted_once file m x) mark (n + one_if (is_mark mark m)) all.1 a f (once file m x mark n all.0 a f e)
    ∙ ap (λ i. Some i) (let z : n + one_if (is_mark mark m) + times mark log ≡ n + (one_if (is_mark mark m) + times mark log) = omega arith in z)
