-- What is told of a file that starts: nothing of it was entered before, or its data are there.
use Rattle.std.proofs.Common.{◌≡◌, ◌≢◌, ℕ, zero, suc, Bool, true, false, ◌||◌, List, [], ◌∷◌, ◌++◌, codes, Option, Some, None, refl, sym, ap, ◌∙◌, subst, arith, if◌then◌else◌}
use Rattle.std.specs.Prelude.{option_map, option_and_then, nat_eq, flat_map}
use Rattle.std.specs.Char.Escape.{encode_utf16}
use Rattle.std.specs.Str.{bytes_eq, IsAscii}
use Rattle.std.proofs.lemmas.Bool.Decides.{nat_tests}
use Rattle.std.proofs.lemmas.Str.{chars-IsAscii}
use Rattle.js_terms.specs.Mark.{Mark}
use Rattle.js_terms.specs.declared.construct.ConstructKind.{ConstructKind}
use Rattle.js_terms.specs.declared.construct.ConstructKind.TheVariants as construct_kind
use Rattle.js_value.specs.Key.{index_of}
use Rattle.js_value.specs.Functions.{name_units}
use Rattle.js_value.specs.Running.{stands_in, once}
use Rattle.js_counter.specs.Represents.{Json, Text, members, json_ticked, Placed, PlacedMembers, null, truth, negative, number, unit_text, array, plain, json_of, member_at}
use Rattle.js_counter.specs.Literals.{data_of}
use Rattle.js_counter.specs.First.{hash_}
use Rattle.js_counter.specs.Preamble.{json_put}
use Rattle.js_counted.specs.Files.{FileCounters, kind_key, way, counted_once, counted_by, expected}
use Rattle.js_counted.specs.Numbers.{json_member, json_child}
use Rattle.js_counted.specs.Holds.{EachOnce, AllStarted}
use Rattle.js_counted.proofs.Numbers.{KeysApart, child_other, letter, kind_letter}
use Rattle.js_counted.proofs.Data.{member_json, neither}

-- The hash stays

hash_ascii : IsAscii (codes "hash")
hash_ascii zero = omega arith
hash_ascii (suc zero) = omega arith
hash_ascii (suc (suc zero)) = omega arith
hash_ascii (suc (suc (suc zero))) = omega arith
hash_ascii (suc (suc (suc (suc i)))) = omega arith

hash_units : name_units hash_ ≡ codes "hash"
hash_units = ap (flat_map encode_utf16) (chars-IsAscii (codes "hash") hash_ascii)

hash_apart : (k : ConstructKind) → KeysApart (kind_key k) (name_units hash_)
hash_apart k = subst (λ x. KeysApart x (name_units hash_)) (sym (kind_letter k)) (subst (λ y. KeysApart (letter k) y) (sym hash_units) (by k))
  where
    none : (key : List ℕ) → index_of key ≡ None → (i j : ℕ) → index_of key ≡ Some i → index_of (codes "hash") ≡ Some j → i ≢ j
    none key e i j f g = absurd (let z : None ≡ Some i = sym e ∙ f in cc)

    by : (k : ConstructKind) → KeysApart (letter k) (codes "hash")
    by construct_kind.Statement = (refl, none (codes "s") refl)
    by construct_kind.Function = (refl, none (codes "f") refl)
    by construct_kind.Branch = (refl, none (codes "b") refl)

hash_once : (file : ℕ) (mark : Mark) (x : Json) → json_child (name_units hash_) (counted_once file mark x) ≡ json_child (name_units hash_) x
hash_once file mark x = by (nat_eq mark.file file)
  where
    by : (b : Bool) → json_child (name_units hash_) (if b then json_ticked x (way mark) else x) ≡ json_child (name_units hash_) x
    by true = child_other x (kind_key mark.kind) (name_units hash_) _ (hash_apart mark.kind)
    by false = refl

pub hash_stays : (file : ℕ) (log : List Mark) (x : Json) → json_child (name_units hash_) (counted_by file log x) ≡ json_child (name_units hash_) x
hash_stays file [] x = refl
hash_stays file (mark ∷ log) x = hash_stays file log (counted_once file mark x) ∙ hash_once file mark x

-- data with a hash

pub record Hashed (y : Placed) (units : List ℕ) : Type 0 where
  pub o : ℕ
  pub fs : PlacedMembers
  pub is : y ≡ plain o fs
  pub has : member_at fs (name_units hash_) ≡ Some (unit_text units)

text_json : (x : Placed) (units : List ℕ) → json_of x ≡ Text units → x ≡ unit_text units
text_json (unit_text us) units e = ap unit_text (let z : us ≡ units = cc in z)
text_json null units e = absurd cc
text_json (truth b) units e = absurd cc
text_json (negative n) units e = absurd cc
text_json (number n) units e = absurd cc
text_json (array o xs) units e = absurd cc
text_json (plain o ms) units e = absurd cc

no_index : index_of (name_units hash_) ≡ None
no_index = ap index_of hash_units

pub hashed : (y : Placed) (units : List ℕ) → json_child (name_units hash_) (json_of y) ≡ Some (Text units) → Hashed y units
hashed (plain o ms) units e = record { o = o; fs = ms; is = refl; has = by (member_at ms (name_units hash_)) refl (member_json ms (name_units hash_) ∙ e) }
  where
    by : (m : Option Placed) → member_at ms (name_units hash_) ≡ m → option_map json_of m ≡ Some (Text units) → member_at ms (name_units hash_) ≡ Some (unit_text units)
    by None f g = absurd (let z = g in cc)
    by (Some x) f g = f ∙ ap (λ z. Some z) (text_json x units (let z : json_of x ≡ Text units = cc in z))
hashed (array o xs) units e = absurd (let z : None ≡ Some (Text units) = sym (ap (option_and_then _) no_index) ∙ e in cc)
hashed null units e = absurd cc
hashed (truth b) units e = absurd cc
hashed (negative n) units e = absurd cc
hashed (number n) units e = absurd cc
hashed (unit_text us) units e = absurd cc

-- A file that hasn't started has no entries

clash : true ≡ false → ⊥
clash e = cc

pub not_entered : (file : ℕ) (started : List ℕ) (log : List Mark) (x : Json) → AllStarted started log → stands_in file started ≡ false → counted_by file log x ≡ x
not_entered file started [] x all out = refl
not_entered file started (mark ∷ log) x all out =
    ap (counted_by file log) (by (nat_eq mark.file file) refl) ∙ not_entered file started log x all.1 out
  where
    by : (b : Bool) → nat_eq mark.file file ≡ b → (if b then json_ticked x (way mark) else x) ≡ x
    by false e = refl
    by true e = absurd (clash (sym all.0 ∙ ap (λ f. stands_in f started) (let z : mark.file ≡ file = grind (arith, nat_tests, e) in z) ∙ out))

module _ (files : ℕ → FileCounters) (counted : ℕ → Bool) (paths : (i j : ℕ) → i ≢ j → counted i ≡ true → counted j ≡ true → bytes_eq (files i).path.units (files j).path.units ≡ false) where
  abbrev path : ℕ → List ℕ
  path file = (files file).path.units

  pub expected_none : (started : List ℕ) (log : List Mark) (file : ℕ) → EachOnce counted started → counted file ≡ true → stands_in file started ≡ false → json_member (expected files started log) (path file) ≡ None
  expected_none [] log file once is out = refl
  expected_none (f ∷ started) log file once is out =
      let z = neither file f (stands_in file started) out in
      ap (λ b. if b then Some (counted_by f log (data_of (files f).zero)) else json_member (expected files started log) (path file)) (paths f file (λ y. z.0 (sym y)) once.0 is)
      ∙ expected_none started log file once.2 is z.1

  pub expected_put : (started : List ℕ) (log : List Mark) (file : ℕ) → EachOnce counted started → counted file ≡ true → stands_in file started ≡ false →
      json_put (path file) (counted_by file log (data_of (files file).zero)) (expected files started log) ≡ expected files (started ++ file ∷ []) log
  expected_put [] log file once is out = refl
  expected_put (f ∷ started) log file once is out =
      let z = neither file f (stands_in file started) out in
      ap (λ b. if b then members (path f) (counted_by file log (data_of (files file).zero)) (expected files started log)
      else members (path f) (counted_by f log (data_of (files f).zero)) (json_put (path file) (counted_by file log (data_of (files file).zero)) (expected files started log)))
      (paths f file (λ y. z.0 (sym y)) once.0 is)
      ∙ ap (members (path f) (counted_by f log (data_of (files f).zero))) (expected_put started log file once.2 is z.1)

-- Files started, with one more

pub stands_more : (x file : ℕ) (started : List ℕ) → stands_in x started ≡ true → stands_in x (started ++ file ∷ []) ≡ true
stands_more x file [] e = absurd (let z = e in cc)
stands_more x file (f ∷ started) e = by (nat_eq x f) e (stands_more x file started)
  where
    by : (b : Bool) → (b || stands_in x started) ≡ true → (stands_in x started ≡ true → stands_in x (started ++ file ∷ []) ≡ true) → (b || stands_in x (started ++ file ∷ [])) ≡ true
    by true f rest = refl
    by false f rest = rest f

pub stands_last : (file : ℕ) (started : List ℕ) → stands_in file (started ++ file ∷ []) ≡ true
stands_last file [] = let e : nat_eq file file ≡ true = grind (arith, nat_tests) in ap (λ b. b || false) e
stands_last file (f ∷ started) = by (nat_eq file f) (stands_last file started)
  where
    by : (b : Bool) → stands_in file (started ++ file ∷ []) ≡ true → (b || stands_in file (started ++ file ∷ [])) ≡ true
    by true e = refl
    by false e = e

stands_other : (x file : ℕ) (started : List ℕ) → x ≢ file → stands_in x started ≡ false → stands_in x (started ++ file ∷ []) ≡ false
stands_other x file [] ne e = by (nat_eq x file) refl
  where
    by : (b : Bool) → nat_eq x file ≡ b → (b || false) ≡ false
    by true f = absurd (ne (grind (arith, nat_tests, f)))
    by false f = refl
stands_other x file (f ∷ started) ne e = by (nat_eq x f) e (stands_other x file started ne)
  where
    by : (b : Bool) → (b || stands_in x started) ≡ false → (stands_in x started ≡ false → stands_in x (started ++ file ∷ []) ≡ false) → (b || stands_in x (started ++ file ∷ [])) ≡ false
    by true f rest = absurd (let z = f in cc)
    by false f rest = rest f

pub once_more : (counted : ℕ → Bool) (file : ℕ) (started : List ℕ) → EachOnce counted started → counted file ≡ true → stands_in file started ≡ false → EachOnce counted (started ++ file ∷ [])
once_more counted file [] all is out = (is, refl, tt)
once_more counted file (f ∷ started) all is out =
    let z = neither file f (stands_in file started) out in
    (all.0, stands_other f file started (λ e. z.0 (sym e)) all.1, once_more counted file started all.2 is z.1)

pub started_more : (file : ℕ) (started : List ℕ) (log : List Mark) → AllStarted started log → AllStarted (started ++ file ∷ []) log
started_more file started [] all = tt
started_more file started (mark ∷ log) all = (stands_more mark.file file started all.0, started_more file started log all.1)
