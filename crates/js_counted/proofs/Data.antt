-- The data of files under their paths, and ways in them.
use Rattle.std.proofs.Common.{◌≡◌, ◌≢◌, ℕ, zero, suc, Bool, true, false, ◌||◌, List, [], ◌∷◌, ◌++◌, Option, Some, None, refl, sym, ap, ◌∙◌, subst, ⊎_elim, arith, if◌then◌else◌}
use Rattle.std.specs.Prelude.{option_map, option_and_then, nat_eq}
use Rattle.std.specs.Str.{bytes_eq}
use Rattle.std.proofs.lemmas.Bool.{cases_eq}
use Rattle.std.proofs.lemmas.Bool.Decides.{nat_tests}
use Rattle.std.proofs.lemmas.Slice.Eq.{bytes_eq-Decides}
use Rattle.js_terms.specs.Mark.{Mark}
use Rattle.js_value.specs.Key.{index_of}
use Rattle.js_value.specs.Running.{stands_in}
use Rattle.js_counter.specs.Represents.{Json, members, json_ticked, json_ticked_members, Placed, PlacedItems, PlacedMembers, null, truth, negative, number, unit_text, array, plain, none, item, empty, member, json_of, json_items, json_members, value_at, item_at, member_at, child, Within, ticked, ticked_members}
use Rattle.js_counter.specs.Literals.{data_of}
use Rattle.js_counter.proofs.Data.{ticked_value}
use Rattle.js_counted.specs.Files.{FileCounters, way, counted_once, counted_by, expected}
use Rattle.js_counted.specs.Numbers.{json_item, json_member, json_child, own_number, number_in, AllCountable, IsCountable}
use Rattle.js_counted.specs.Holds.{EachOnce, AllStarted}

some_same : {X : Type 0} {a b : X} → Some a ≡ Some b → a ≡ b
some_same e = cc

pub same_key : (key : List ℕ) → bytes_eq key key ≡ true
same_key key = (bytes_eq-Decides key key).1 refl

-- What is placed, and its JSON

item_json : (xs : PlacedItems) (i : ℕ) → option_map json_of (item_at xs i) ≡ json_item (json_items xs) i
item_json none i = refl
item_json (item x xs) zero = refl
item_json (item x xs) (suc i) = item_json xs i

pub member_json : (ms : PlacedMembers) (key : List ℕ) → option_map json_of (member_at ms key) ≡ json_member (json_members ms) key
member_json empty key = refl
member_json (member q x ms) key = by (bytes_eq q key) (member_json ms key)
  where
    by : (b : Bool) → option_map json_of (member_at ms key) ≡ json_member (json_members ms) key →
        option_map json_of (if b then Some x else member_at ms key) ≡ (if b then Some (json_of x) else json_member (json_members ms) key)
    by true rest = refl
    by false rest = rest

child_json : (key : List ℕ) (x : Placed) → option_map json_of (child key x) ≡ json_child key (json_of x)
child_json key null = refl
child_json key (truth b) = refl
child_json key (negative n) = refl
child_json key (number n) = refl
child_json key (unit_text units) = refl
child_json key (plain o ms) = member_json ms key
child_json key (array o xs) = by (index_of key)
  where
    by : (i : Option ℕ) → option_map json_of (option_and_then (item_at xs) i) ≡ option_and_then (json_item (json_items xs)) i
    by None = refl
    by (Some i) = item_json xs i

-- A way to a number

abbrev pub last_key : List ℕ → List (List ℕ) → List ℕ
last_key key [] = key
last_key key (next ∷ keys) = last_key next keys

pub record Reached (x : Placed) (key : List ℕ) (keys : List (List ℕ)) (n : ℕ) : Type 0 where
  pub at : Placed
  pub within : Within x key keys at (last_key key keys) n

number_json : (x : Placed) (n : ℕ) → own_number (json_of x) ≡ Some n → x ≡ number n
number_json (number m) n e = ap number (some_same e)
number_json null n e = absurd cc
number_json (truth b) n e = absurd cc
number_json (negative m) n e = absurd cc
number_json (unit_text units) n e = absurd cc
number_json (array o xs) n e = absurd cc
number_json (plain o ms) n e = absurd cc

pub reaches : (keys : List (List ℕ)) (x : Placed) (key : List ℕ) (n : ℕ) → number_in (json_of x) (key ∷ keys) ≡ Some n → Reached x key keys n
reaches [] x key n e = by (child key x) refl (ap (option_and_then own_number) (child_json key x) ∙ e)
  where
    by : (o : Option Placed) → child key x ≡ o → option_and_then own_number (option_map json_of o) ≡ Some n → Reached x key [] n
    by None f g = absurd (let z = g in cc)
    by (Some y) f g = record { at = x; within = (refl, refl, f ∙ ap (λ z. Some z) (number_json y n g)) }
reaches (next ∷ keys) x key n e = by (child key x) refl (ap (option_and_then (λ y. number_in y (next ∷ keys))) (child_json key x) ∙ e) (λ y g. reaches keys y next n g)
  where
    by : (o : Option Placed) → child key x ≡ o → option_and_then (λ y. number_in y (next ∷ keys)) (option_map json_of o) ≡ Some n →
        ((y : Placed) → number_in (json_of y) (next ∷ keys) ≡ Some n → Reached y next keys n) → Reached x key (next ∷ keys) n
    by None f g rest = absurd (let z = g in cc)
    by (Some y) f g rest = let r = rest y g in record { at = r.at; within = (y, f, r.within) }

-- Members, after one of them has one more

pub record SameValue (o : Option Placed) (x : Placed) : Type 0 where
  pub after : Placed
  pub is : o ≡ Some after
  pub value : value_at after ≡ value_at x

pub member_after : (ms : PlacedMembers) (key next : List ℕ) (keys : List (List ℕ)) (other : List ℕ) (x : Placed) → member_at ms other ≡ Some x → SameValue (member_at (ticked_members ms key (next ∷ keys)) other) x
member_after empty key next keys other x e = absurd cc
member_after (member q y ms) key next keys other x e = by (bytes_eq q key) e (λ f. member_after ms key next keys other x f)
  where
    here : (b : Bool) → (if b then Some y else member_at ms other) ≡ Some x → SameValue (if b then Some (ticked y (next ∷ keys)) else member_at ms other) x
    here true f = record { after = ticked y (next ∷ keys); is = refl; value = ticked_value y next keys ∙ ap value_at (some_same f) }
    here false f = record { after = x; is = f; value = refl }

    there : (b : Bool) → (if b then Some y else member_at ms other) ≡ Some x → (member_at ms other ≡ Some x → SameValue (member_at (ticked_members ms key (next ∷ keys)) other) x) →
        SameValue (if b then Some y else member_at (ticked_members ms key (next ∷ keys)) other) x
    there true f rest = record { after = x; is = f; value = refl }
    there false f rest = rest f

    by : (b : Bool) → (if bytes_eq q other then Some y else member_at ms other) ≡ Some x → (member_at ms other ≡ Some x → SameValue (member_at (ticked_members ms key (next ∷ keys)) other) x) →
        SameValue (member_at (if b then member q (ticked y (next ∷ keys)) ms else member q y (ticked_members ms key (next ∷ keys))) other) x
    by true f rest = here (bytes_eq q other) f
    by false f rest = there (bytes_eq q other) f rest

-- Logs

counted_more : (file : ℕ) (log : List Mark) (mark : Mark) (x : Json) → counted_by file (log ++ mark ∷ []) x ≡ counted_once file mark (counted_by file log x)
counted_more file [] mark x = refl
counted_more file (m ∷ log) mark x = counted_more file log mark (counted_once file m x)

same_file : (m n : ℕ) → m ≡ n → nat_eq m n ≡ true
same_file m n e = grind (arith, nat_tests, e)

other_file : (m n : ℕ) → m ≢ n → nat_eq m n ≡ false
other_file m n ne = by (nat_eq m n) refl
  where
    by : (b : Bool) → nat_eq m n ≡ b → b ≡ false
    by true e = absurd (ne (grind (arith, nat_tests, e)))
    by false e = refl

counted_here : (file : ℕ) (log : List Mark) (mark : Mark) (x : Json) → mark.file ≡ file → counted_by file (log ++ mark ∷ []) x ≡ json_ticked (counted_by file log x) (way mark)
counted_here file log mark x e = counted_more file log mark x ∙ ap (λ b. if b then json_ticked (counted_by file log x) (way mark) else counted_by file log x) (same_file mark.file file e)

counted_elsewhere : (file : ℕ) (log : List Mark) (mark : Mark) (x : Json) → mark.file ≢ file → counted_by file (log ++ mark ∷ []) x ≡ counted_by file log x
counted_elsewhere file log mark x ne = counted_more file log mark x ∙ ap (λ b. if b then json_ticked (counted_by file log x) (way mark) else counted_by file log x) (other_file mark.file file ne)

pub countable_more : (log : List Mark) (mark : Mark) → AllCountable log → IsCountable mark → AllCountable (log ++ mark ∷ [])
countable_more [] mark all a = (a, tt)
countable_more (m ∷ log) mark all a = (all.0, countable_more log mark all.1 a)

pub entered_more : (started : List ℕ) (log : List Mark) (mark : Mark) → AllStarted started log → stands_in mark.file started ≡ true → AllStarted started (log ++ mark ∷ [])
entered_more started [] mark all a = (a, tt)
entered_more started (m ∷ log) mark all a = (all.0, entered_more started log mark all.1 a)

-- Files started

pub either : (m n : ℕ) (b : Bool) → (nat_eq m n || b) ≡ true → m ≢ n → b ≡ true
either m n b e ne = ap (λ t. t || b) (sym (other_file m n ne)) ∙ e

pub neither : (m n : ℕ) (b : Bool) → (nat_eq m n || b) ≡ false → (m ≢ n) × (b ≡ false)
neither m n b e = (λ z. absurd (clash (ap (λ t. t || b) (sym (same_file m n z)) ∙ e)), by (nat_eq m n) e)
  where
    clash : true ≡ false → ⊥
    clash f = cc

    by : (t : Bool) → (t || b) ≡ false → b ≡ false
    by true f = absurd (let z = f in cc)
    by false f = f

module _ (files : ℕ → FileCounters) (counted : ℕ → Bool) (paths : (i j : ℕ) → i ≢ j → counted i ≡ true → counted j ≡ true → bytes_eq (files i).path.units (files j).path.units ≡ false) where
  abbrev path : ℕ → List ℕ
  path file = (files file).path.units

  -- what stands under the path of one
  pub expected_at : (started : List ℕ) (log : List Mark) (file : ℕ) → EachOnce counted started → counted file ≡ true → stands_in file started ≡ true →
      json_member (expected files started log) (path file) ≡ Some (counted_by file log (data_of (files file).zero))
  expected_at [] log file once is there = absurd (let z = there in cc)
  expected_at (f ∷ started) log file once is there = ⊎_elim
      (λ (e : file ≡ f).
      subst (λ g. json_member (expected files (g ∷ started) log) (path file) ≡ Some (counted_by file log (data_of (files file).zero))) e
      (ap (λ b. if b then Some (counted_by file log (data_of (files file).zero)) else json_member (expected files started log) (path file)) (same_key (path file))))
      (λ (ne : file ≡ f → ⊥).
      ap (λ b. if b then Some (counted_by f log (data_of (files f).zero)) else json_member (expected files started log) (path file)) (paths f file (λ z. ne (sym z)) once.0 is)
      ∙ expected_at started log file once.2 is (either file f (stands_in file started) there ne))
      (cases_eq file f)

  -- no other one has an entry more
  expected_elsewhere : (started : List ℕ) (log : List Mark) (mark : Mark) → stands_in mark.file started ≡ false → expected files started (log ++ mark ∷ []) ≡ expected files started log
  expected_elsewhere [] log mark out = refl
  expected_elsewhere (f ∷ started) log mark out =
      let z = neither mark.file f (stands_in mark.file started) out in
      ap (λ x. members (path f) x (expected files started (log ++ mark ∷ []))) (counted_elsewhere f log mark (data_of (files f).zero) z.0)
      ∙ ap (λ ms. members (path f) (counted_by f log (data_of (files f).zero)) ms) (expected_elsewhere started log mark z.1)

  pub expected_more : (started : List ℕ) (log : List Mark) (mark : Mark) → EachOnce counted started → counted mark.file ≡ true → stands_in mark.file started ≡ true →
      json_ticked_members (expected files started log) (path mark.file) (way mark) ≡ expected files started (log ++ mark ∷ [])
  expected_more [] log mark once is there = absurd (let z = there in cc)
  expected_more (f ∷ started) log mark once is there = ⊎_elim
      (λ (e : mark.file ≡ f).
      ap (λ b. if b then members (path f) (json_ticked (counted_by f log (data_of (files f).zero)) (way mark)) (expected files started log)
      else members (path f) (counted_by f log (data_of (files f).zero)) (json_ticked_members (expected files started log) (path mark.file) (way mark)))
      (ap (λ g. bytes_eq (path f) (path g)) e ∙ same_key (path f))
      ∙ ap (λ x. members (path f) x (expected files started log)) (sym (counted_here f log mark (data_of (files f).zero) e))
      ∙ ap (λ ms. members (path f) (counted_by f (log ++ mark ∷ []) (data_of (files f).zero)) ms) (sym (expected_elsewhere started log mark (subst (λ g. stands_in g started ≡ false) (sym e) once.1))))
      (λ (ne : mark.file ≡ f → ⊥).
      ap (λ b. if b then members (path f) (json_ticked (counted_by f log (data_of (files f).zero)) (way mark)) (expected files started log)
      else members (path f) (counted_by f log (data_of (files f).zero)) (json_ticked_members (expected files started log) (path mark.file) (way mark)))
      (paths f mark.file (λ z. ne (sym z)) once.0 is)
      ∙ ap (λ ms. members (path f) (counted_by f log (data_of (files f).zero)) ms) (expected_more started log mark once.2 is (either mark.file f (stands_in mark.file started) there ne))
      ∙ ap (λ x. members (path f) x (expected files started (log ++ mark ∷ []))) (sym (counted_elsewhere f log mark (data_of (files f).zero) ne)))
      (cases_eq mark.file f)
