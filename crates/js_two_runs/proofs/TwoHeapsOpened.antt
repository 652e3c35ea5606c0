-- Every object of the opening heap refers to built-in objects alone, and to none that is the global one.
use Rattle.std.proofs.Common.{◌≡◌, ◌≢◌, ℕ, zero, suc, ◌<◌, ◌+◌, ◌==◌, ◌&&◌, not, nat_lt, Bool, true, false, List, [], ◌∷◌, length, get_or, Option, Some, None, refl, sym, subst, ◌∙◌, ⊎_elim, arith, if◌then◌else◌}
use Rattle.std.specs.List.{AllZip, list_all}
use Rattle.js_value.specs.declared.value.Value.{Value}
use Rattle.js_value.specs.declared.value.Value.TheVariants as value
use Rattle.js_value.specs.declared.built_in.Place.TheVariants as place
use Rattle.js_value.specs.State.{ObjectKind, Plain, Array, Error, RegExp, BuiltIn, Written, Property, ObjectRecord}
use Rattle.js_value.specs.Objects.{no_object}
use Rattle.js_value.specs.Realm as realm
use Rattle.js_value.specs.Realm.{number_of, built_in_count, opening}
use Rattle.js_two_runs.specs.Pairs.{Paired, here, there, Corresponds}
use Rattle.js_two_runs.specs.TwoRuns.{Related, plain, refs, AllRelated, none, more}
use Rattle.js_two_runs.specs.TwoHeaps.{AlikeKinds, plains, arrays, errors, patterns, built_ins, AlikePrototypes, no_prototype, prototypes, AlikeProperties, AlikeObjects, AlikeHeaps}
use Rattle.js_two_runs.specs.TwoHeaps.{themselves}
use Rattle.std.proofs.lemmas.Bool.{cases_eq, false_from_ne_true, eqb-true}
use Rattle.js_two_runs.proofs.PairsLemmas.{newest}

-- a number below a bound that isn't that of the global object
abbrev is_own : ℕ → ℕ → Bool
is_own n o = nat_lt o n && not (o == number_of place.Global)

own-from : (n o : ℕ) → o < n → o ≢ number_of place.Global → is_own n o ≡ true
own-from n o lt ne = grind arith

own-low : (n o : ℕ) → is_own n o ≡ true → (o < n) × (o ≢ number_of place.Global)
own-low n o e = (grind arith, λ f. grind arith)

-- the pairs of such numbers
themselves-from : (n o : ℕ) → o < n → o ≢ number_of place.Global → Paired (themselves n) o o
themselves-from zero o lt ne = absurd (omega arith)
themselves-from (suc n) o lt ne =
    ⊎_elim
    (λ (e : o ≡ n). subst (λ (m : ℕ). Paired (themselves (suc m)) o o) e (newest o ne))
    (λ (f : o ≢ n). older n (themselves-from n o (omega (arith, f)) ne))
    (cases_eq o n)
  where
    newest : (m : ℕ) → m ≢ number_of place.Global → Paired (themselves (suc m)) m m
    newest m f = subst (λ (b : Bool). Paired (if b then themselves m else (m, m) ∷ themselves m) m m) (sym (false_from_ne_true (m == number_of place.Global) (λ e. f (eqb-true m (number_of place.Global) e)))) here

    older : (m : ℕ) → Paired (themselves m) o o → Paired (themselves (suc m)) o o
    older m i = elim (m == number_of place.Global) as (λ b. Paired (if b then themselves m else (m, m) ∷ themselves m) o o) [ true ↦ i | false ↦ there i ]

same-next : (n o p : ℕ) (b : Bool) → (Paired (themselves n) o p → (o ≡ p) × (o < n)) → Paired (if b then themselves n else (n, n) ∷ themselves n) o p → (o ≡ p) × (o < suc n)
same-next n o p true before i = let r = before i in (r.0, omega (arith, r.1))
same-next n o p false before i = ⊎_elim (λ e. (e.0 ∙ sym e.1, omega (arith, e.0))) (λ j. (let r = before j in (r.0, omega (arith, r.1)))) (newest i)

themselves-same : (n o p : ℕ) → Paired (themselves n) o p → (o ≡ p) × (o < n)
themselves-same zero o p i = elim i [ ]
themselves-same (suc n) o p i = same-next n o p (n == number_of place.Global) (themselves-same n o p) i

-- What an object refers to

abbrev pub is_own_value : ℕ → Value → Bool
is_own_value n (value.Primitive p) = true
is_own_value n (value.Object o) = is_own n o.index

-- no function of a program
abbrev is_of_host : ObjectKind → Bool
is_of_host (Written c e) = false
is_of_host _ = true

abbrev is_older : ℕ → ℕ → Option ℕ → Bool
is_older n o None = true
is_older n o (Some r) = nat_lt r o && is_own n r

-- the object of a number, of values below a bound
abbrev is_closed : ℕ → ℕ → ObjectRecord → Bool
is_closed n o x = is_of_host x.kind && (is_older n o x.prototype && (list_all (is_own_value n) x.elements && list_all (λ p. is_own_value n p.value) x.properties))

-- the objects of a list, where so many stand before it
abbrev are_closed : ℕ → ℕ → List ObjectRecord → Bool
are_closed n o [] = true
are_closed n o (x ∷ xs) = is_closed n o x && are_closed n (suc o) xs

pub opening-closed : are_closed built_in_count 0 opening.objects ≡ true
unfolding realm.opening realm.each realm.freeze_all realm.rows realm.named_errors realm.named_objects
opening-closed = refl

pub opening-size : length opening.objects ≡ built_in_count
unfolding realm.opening realm.each realm.freeze_all realm.rows realm.named_errors realm.named_objects
opening-size = refl

both-left : (a b : Bool) → (a && b) ≡ true → a ≡ true
both-left a b e = grind arith

both-right : (a b : Bool) → (a && b) ≡ true → b ≡ true
both-right a b e = grind arith

each_of : (a b c d : Bool) → (a && (b && (c && d))) ≡ true → (a ≡ true) × (b ≡ true) × (c ≡ true) × (d ≡ true)
each_of a b c d e = (grind arith, grind arith, grind arith, grind arith)

module _ (n : ℕ) (F : (code around other_code other_around : ℕ) → Type 0) where
  pub value-itself : (v : Value) → is_own_value n v ≡ true → Related (Paired (themselves n)) v v
  value-itself (value.Primitive p) e = plain p
  value-itself (value.Object o) e = let r = own-low n o.index e in refs o o (themselves-from n o.index r.0 r.1)

  values-themselves : (vs : List Value) → list_all (is_own_value n) vs ≡ true → AllRelated (Paired (themselves n)) vs vs
  values-themselves [] e = none
  values-themselves (v ∷ vs) e = more v v (value-itself v (both-left _ _ e)) vs vs (values-themselves vs (both-right _ _ e))

  properties-themselves : (ps : List Property) → list_all (λ p. is_own_value n p.value) ps ≡ true → AllZip (AlikeProperties (themselves n) F) ps ps
  properties-themselves [] e = tt
  properties-themselves (p ∷ ps) e = (record { key = refl; value = value-itself p.value (both-left _ _ e); enumerable = refl; writable = refl }, properties-themselves ps (both-right _ _ e))

  kind-itself : (a : ObjectKind) → is_of_host a ≡ true → AlikeKinds (themselves n) F a a
  kind-itself Plain e = plains
  kind-itself Array e = arrays
  kind-itself Error e = errors
  kind-itself RegExp e = patterns
  kind-itself (BuiltIn f) e = built_ins f
  kind-itself (Written c d) e = absurd (grind arith)

  prototype-itself : (o : ℕ) (a : Option ℕ) → is_older n o a ≡ true → AlikePrototypes (themselves n) F o o a a
  prototype-itself o None e = no_prototype
  prototype-itself o (Some r) e =
      let s = own-low n r (both-right (nat_lt r o) (is_own n r) e) in
      let low = both-left (nat_lt r o) (is_own n r) e in
      let lt : r < o = grind arith in
      prototypes r r (themselves-from n r s.0 s.1) lt lt

  object-itself : (o : ℕ) (x : ObjectRecord) → is_closed n o x ≡ true → AlikeObjects (themselves n) F o o x x
  object-itself o x e =
      let r = each_of (is_of_host x.kind) (is_older n o x.prototype) (list_all (is_own_value n) x.elements) (list_all (λ p. is_own_value n p.value) x.properties) e in
      record { kind = kind-itself x.kind r.0; prototype = prototype-itself o x.prototype r.1; frozen = refl; elements = values-themselves x.elements r.2; properties = properties-themselves x.properties r.3 }

  objects-themselves : (o i : ℕ) (xs : List ObjectRecord) → are_closed n o xs ≡ true → i < length xs → AlikeObjects (themselves n) F (o + i) (o + i) (get_or xs i no_object) (get_or xs i no_object)
  objects-themselves o i [] e lt = absurd (omega arith)
  objects-themselves o zero (x ∷ xs) e lt = subst (λ m. AlikeObjects (themselves n) F m m x x) (omega arith) (object-itself o x (both-left _ _ e))
  objects-themselves o (suc i) (x ∷ xs) e lt =
      subst (λ m. AlikeObjects (themselves n) F m m (get_or xs i no_object) (get_or xs i no_object)) (omega arith) (objects-themselves (suc o) i xs (both-right _ _ e) (omega arith))

  -- a list of such objects is related to itself
  list-itself : (xs : List ObjectRecord) → are_closed n 0 xs ≡ true → length xs ≡ n → Corresponds (AlikeObjects (themselves n) F) no_object (themselves n) xs xs
  list-itself xs e l = record {
    related = λ o p i.
        let r = themselves-same n o p i in
        subst (λ m. AlikeObjects (themselves n) F o m (get_or xs o no_object) (get_or xs m no_object)) r.0
        (subst (λ m. AlikeObjects (themselves n) F m m (get_or xs o no_object) (get_or xs o no_object)) (omega arith) (objects-themselves 0 o xs e (omega (arith, r.1, l))));
    left_bound = λ o p i. let r = themselves-same n o p i in omega (arith, r.1, l);
    right_bound = λ o p i. let r = themselves-same n o p i in omega (arith, r.0, r.1, l);
    one_right = λ o p q i j. sym (themselves-same n o p i).0 ∙ (themselves-same n o q j).0;
    one_left = λ o m p i j. (themselves-same n o p i).0 ∙ sym (themselves-same n m p j).0;
  }

pub opening-alike : (F : (code around other_code other_around : ℕ) → Type 0) → AlikeHeaps (themselves built_in_count) F opening opening
opening-alike F = record {
  objects = list-itself built_in_count F opening.objects opening-closed opening-size;
  built_in = λ n lt ne. themselves-from built_in_count n lt ne;
}
