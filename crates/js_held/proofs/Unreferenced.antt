-- Where a function was held for its name, nothing refers to the object that held it.
use Rattle.std.proofs.Common.{◌≡◌, ℕ, zero, suc, ◌<◌, ◌≤◌, ◌==◌, ◌&&◌, nat_lt, not, Bool, true, false, List, [], ◌∷◌, ◌++◌, length, get_or, set, Option, Some, None, refl, sym, ap, ◌∙◌, subst, arith, codes, if◌then◌else◌}
use Rattle.std.specs.List.{list_all}
use Rattle.std.specs.Str.{bytes_eq}
use Rattle.std.proofs.lemmas.List.{length-set, length_push}
use Rattle.js_value.specs.declared.value.Value.{Value}
use Rattle.js_value.specs.declared.value.Value.TheVariants as value
use Rattle.js_value.specs.declared.built_in.Place.TheVariants as place
use Rattle.js_value.specs.State.{ObjectKind, Plain, Written, Property, ObjectRecord, Heap}
use Rattle.js_value.specs.Objects.{no_object, object_at, next_object, new_object, count_value, define, with_property, assigned}
use Rattle.js_value.specs.Realm as realm
use Rattle.js_value.specs.Realm.{number_of, object, text, fixed, hidden, built_in_count}
use Rattle.js_value.specs.Functions.{with_constructor, function_made, constructor_made}
use Rattle.js_meaning.specs.Scopes.{Shape, closed}
use Rattle.js_meaning.specs.Shapes.{holder_made, held_made}
use Rattle.js_two_runs.proofs.TwoHeapsOpened.{opening-size}
use Rattle.js_held.specs.Unreferenced.{value_passes, prototype_passes, object_passes, content_passes, references_pass, OpeningIsClosed, HolderUnreferenced}

both : {a b : Bool} → a ≡ true → b ≡ true → (a && b) ≡ true
both p q = grind arith

left : (a b : Bool) → (a && b) ≡ true → a ≡ true
left a b e = grind arith

right : (a b : Bool) → (a && b) ≡ true → b ≡ true
right a b e = grind arith

-- Lists

module _ {A : Type 0} (test : A → Bool) where
  all_pushed : (xs : List A) (x : A) → list_all test xs ≡ true → test x ≡ true → list_all test (xs ++ x ∷ []) ≡ true
  all_pushed [] x e t = both t refl
  all_pushed (y ∷ xs) x e t = both (left _ _ e) (all_pushed xs x (right _ _ e) t)

  all_set : (xs : List A) (i : ℕ) (x : A) → list_all test xs ≡ true → test x ≡ true → list_all test (set xs i x) ≡ true
  all_set [] i x e t = refl
  all_set (y ∷ xs) zero x e t = both t (right _ _ e)
  all_set (y ∷ xs) (suc i) x e t = both (left _ _ e) (all_set xs i x (right _ _ e) t)

  all_at : (xs : List A) (i : ℕ) (d : A) → list_all test xs ≡ true → test d ≡ true → test (get_or xs i d) ≡ true
  all_at [] i d e t = t
  all_at (y ∷ xs) zero d e t = left _ _ e
  all_at (y ∷ xs) (suc i) d e t = all_at xs i d (right _ _ e) t

all_weaker : {A : Type 0} (f g : A → Bool) → ((x : A) → f x ≡ true → g x ≡ true) → (xs : List A) → list_all f xs ≡ true → list_all g xs ≡ true
all_weaker f g more [] e = refl
all_weaker f g more (x ∷ xs) e = both (more x (left _ _ e)) (all_weaker f g more xs (right _ _ e))

-- A weaker test

module _ (f g : ℕ → Bool) (more : (o : ℕ) → f o ≡ true → g o ≡ true) where
  value_weaker : (v : Value) → value_passes f v ≡ true → value_passes g v ≡ true
  value_weaker (value.Primitive p) e = refl
  value_weaker (value.Object o) e = more o.index e

  prototype_weaker : (o : Option ℕ) → prototype_passes f o ≡ true → prototype_passes g o ≡ true
  prototype_weaker None e = refl
  prototype_weaker (Some o) e = more o e

  object_weaker : (x : ObjectRecord) → object_passes f x ≡ true → object_passes g x ≡ true
  object_weaker x e =
      both (prototype_weaker x.prototype (left _ _ e))
      (both (all_weaker _ _ value_weaker x.elements (left _ _ (right _ _ e))) (all_weaker _ _ (λ p. value_weaker p.value) x.properties (right _ _ (right _ _ e))))

  content_weaker : (v : Option Value) → content_passes f v ≡ true → content_passes g v ≡ true
  content_weaker None e = refl
  content_weaker (Some v) e = value_weaker v e

  references_weaker : (h : Heap) → references_pass f h ≡ true → references_pass g h ≡ true
  references_weaker h e =
      both (all_weaker _ _ object_weaker h.objects (left _ _ e)) (all_weaker _ _ (λ x. all_weaker _ _ (λ b. content_weaker b.value) x.bindings) h.environments (right _ _ e))

-- What makes and changes objects

module _ (test : ℕ → Bool) where
  new_passes : (kind : ObjectKind) (prototype : Option ℕ) (h : Heap) → references_pass test h ≡ true → prototype_passes test prototype ≡ true → references_pass test (new_object kind prototype h) ≡ true
  new_passes kind prototype h e t = both (all_pushed (object_passes test) h.objects _ (left _ _ e) (both t refl)) (right _ _ e)

  property_passes : (p : Property) (ps : List Property) → list_all (λ q. value_passes test q.value) ps ≡ true → value_passes test p.value ≡ true → list_all (λ q. value_passes test q.value) (with_property p ps) ≡ true
  property_passes p [] e t = both t refl
  property_passes p (q ∷ qs) e t = elim (bytes_eq q.key p.key) as (λ b. list_all (λ r. value_passes test r.value) (if b then p ∷ qs else q ∷ with_property p qs) ≡ true) [
    | true ↦ both t (right _ _ e)
    | false ↦ both (left _ _ e) (property_passes p qs (right _ _ e) t)
  ]

  define_passes : (o : ℕ) (p : Property) (h : Heap) → references_pass test h ≡ true → value_passes test p.value ≡ true → references_pass test (define o p h) ≡ true
  define_passes o p h e t =
      let x = all_at (object_passes test) h.objects o no_object (left _ _ e) refl in
      both (all_set (object_passes test) h.objects o _ (left _ _ e) (both (left _ _ x) (both (left _ _ (right _ _ x)) (property_passes p (object_at h o).properties (right _ _ (right _ _ x)) t)))) (right _ _ e)

  function_passes : (code env : ℕ) (name : List ℕ) (n : ℕ) (h : Heap) → references_pass test h ≡ true → test (number_of place.FunctionPrototype) ≡ true → references_pass test (function_made code env name n h) ≡ true
  function_passes code env name n h e t =
      let made = new_object (Written code env) (Some (number_of place.FunctionPrototype)) h in
      let counted = define (next_object h) (fixed (codes "length") (count_value n)) made in
      define_passes (next_object h) (fixed (codes "name") (text name)) counted
      (define_passes (next_object h) (fixed (codes "length") (count_value n)) made
      (new_passes (Written code env) (Some (number_of place.FunctionPrototype)) h e t) refl) refl

  constructor_passes : (f : ℕ) (h : Heap) → references_pass test h ≡ true → test (number_of place.ObjectPrototype) ≡ true → test f ≡ true → test (next_object h) ≡ true → references_pass test (constructor_made f h) ≡ true
  constructor_passes f h e t s u =
      let made = new_object Plain (Some (number_of place.ObjectPrototype)) h in
      let named = define (next_object h) (hidden (codes "constructor") (object f)) made in
      define_passes f (hidden (codes "prototype") (object (next_object h))) named
      (define_passes (next_object h) (hidden (codes "constructor") (object f)) made
      (new_passes Plain (Some (number_of place.ObjectPrototype)) h e t) s) u

  closed_passes : (f : Shape) (name : List ℕ) (env : ℕ) (h : Heap) → references_pass test h ≡ true → test (number_of place.FunctionPrototype) ≡ true → test (number_of place.ObjectPrototype) ≡ true →
      test (next_object h) ≡ true → (f.constructs ≡ true → test (next_object (function_made f.number env name f.length h)) ≡ true) → references_pass test (closed f name env h) ≡ true
  closed_passes f name env h e t s u v = by f.constructs refl
    where
      m : references_pass test (function_made f.number env name f.length h) ≡ true
      m = function_passes f.number env name f.length h e t

      by : (c : Bool) → f.constructs ≡ c → references_pass test (record h { objects = (with_constructor c (next_object h) (function_made f.number env name f.length h)).objects }) ≡ true
      by true is = constructor_passes (next_object h) (function_made f.number env name f.length h) m s u (v is)
      by false is = m

-- How many objects there are

new_size : (kind : ObjectKind) (prototype : Option ℕ) (h : Heap) → next_object (new_object kind prototype h) ≡ suc (next_object h)
new_size kind prototype h = let l = length_push h.objects (record { kind = kind; prototype = prototype; frozen = false; elements = []; properties = [] }) in omega (arith, l)

define_size : (o : ℕ) (p : Property) (h : Heap) → next_object (define o p h) ≡ next_object h
define_size o p h = length-set h.objects o (record (object_at h o) { properties = with_property p (object_at h o).properties })

pub made_size : (code env : ℕ) (name : List ℕ) (n : ℕ) (h : Heap) → next_object (function_made code env name n h) ≡ suc (next_object h)
made_size code env name n h =
    let made = new_object (Written code env) (Some (number_of place.FunctionPrototype)) h in
    let counted = define (next_object h) (fixed (codes "length") (count_value n)) made in
    define_size (next_object h) (fixed (codes "name") (text name)) counted
    ∙ (define_size (next_object h) (fixed (codes "length") (count_value n)) made ∙ new_size (Written code env) (Some (number_of place.FunctionPrototype)) h)

constructed_size : (f : ℕ) (h : Heap) → next_object (constructor_made f h) ≡ suc (next_object h)
constructed_size f h =
    let made = new_object Plain (Some (number_of place.ObjectPrototype)) h in
    let named = define (next_object h) (hidden (codes "constructor") (object f)) made in
    define_size f (hidden (codes "prototype") (object (next_object h))) named
    ∙ (define_size (next_object h) (hidden (codes "constructor") (object f)) made ∙ new_size Plain (Some (number_of place.ObjectPrototype)) h)

pub holder_size : (h : Heap) → next_object (holder_made h) ≡ suc (next_object h)
holder_size h = new_size Plain (Some (number_of place.ObjectPrototype)) h

-- What is held

module _ (test : ℕ → Bool) (shape : Shape) (name : List ℕ) (env : ℕ) (h : Heap) where
  held_passes : references_pass test h ≡ true → test (number_of place.FunctionPrototype) ≡ true → test (number_of place.ObjectPrototype) ≡ true →
      test (suc (next_object h)) ≡ true → (shape.constructs ≡ true → test (suc (suc (next_object h))) ≡ true) → references_pass test (held_made shape name env h) ≡ true
  held_passes e t s u v =
      define_passes test (next_object h) (assigned name (object (next_object (holder_made h)))) (closed shape name env (holder_made h)) (closed_passes test shape name env (holder_made h) (new_passes test Plain (Some (number_of place.ObjectPrototype)) h e s) t s first second) first
    where
      first : test (next_object (holder_made h)) ≡ true
      first = subst (λ n. test n ≡ true) (sym (holder_size h)) u

      second : shape.constructs ≡ true → test (next_object (function_made shape.number env name shape.length (holder_made h))) ≡ true
      second is = subst (λ n. test n ≡ true) (sym (made_size shape.number env name shape.length (holder_made h) ∙ ap suc (holder_size h))) (v is)

-- with an object for `prototype` or without
abbrev added : Bool → ℕ → ℕ
added true n = suc n
added false n = n

held_size : (shape : Shape) (name : List ℕ) (env : ℕ) (h : Heap) → next_object (held_made shape name env h) ≡ added shape.constructs (suc (suc (next_object h)))
held_size shape name env h = define_size (next_object h) (assigned name (object (next_object (holder_made h)))) (closed shape name env (holder_made h)) ∙ by shape.constructs
  where
    k : Heap
    k = function_made shape.number env name shape.length (holder_made h)

    size : next_object k ≡ suc (suc (next_object h))
    size = made_size shape.number env name shape.length (holder_made h) ∙ ap suc (holder_size h)

    by : (c : Bool) → length (with_constructor c (next_object (holder_made h)) k).objects ≡ added c (suc (suc (next_object h)))
    by true = constructed_size (next_object (holder_made h)) k ∙ ap suc size
    by false = size

below_added : (c : Bool) (n : ℕ) → n ≤ added c n
below_added true n = omega arith
below_added false n = omega arith

lt-true : (a b : ℕ) → a < b → nat_lt a b ≡ true
lt-true a b lt = grind arith

true-lt : (a b : ℕ) → nat_lt a b ≡ true → a < b
true-lt a b e = grind arith

apart-true : (a b : ℕ) → a < b → not (a == b) ≡ true
apart-true a b lt = grind arith

above-true : (a b : ℕ) → b < a → not (a == b) ≡ true
above-true a b lt = grind arith

pub holder_unreferenced : HolderUnreferenced
holder_unreferenced shape name env h c = (
  held_passes (λ o. not (o == next_object h)) shape name env h
      (references_weaker _ _ (λ o e. apart-true o (next_object h) (true-lt o (next_object h) e)) h c.references)
      (apart-true (number_of place.FunctionPrototype) (next_object h) (omega (arith, function_low, c.built_in)))
      (apart-true (number_of place.ObjectPrototype) (next_object h) (omega (arith, object_low, c.built_in)))
      (above-true (suc (next_object h)) (next_object h) (omega arith))
      (λ is. above-true (suc (suc (next_object h))) (next_object h) (omega arith)),
  record {
    built_in = omega (arith, c.built_in, size, more);
    references = held_passes (λ o. nat_lt o (next_object made)) shape name env h
        (references_weaker _ _ (λ o e. (let lt = true-lt o (next_object h) e in lt-true o (next_object made) (omega (arith, lt, size, more)))) h c.references)
        (lt-true (number_of place.FunctionPrototype) (next_object made) (omega (arith, function_low, c.built_in, size, more)))
        (lt-true (number_of place.ObjectPrototype) (next_object made) (omega (arith, object_low, c.built_in, size, more)))
        (lt-true (suc (next_object h)) (next_object made) (omega (arith, size, more)))
        (λ is. lt-true (suc (suc (next_object h))) (next_object made) (let l = size ∙ ap (λ b. added b (suc (suc (next_object h)))) is in omega (arith, l)));
  },
)
  where
    made : Heap
    made = held_made shape name env h

    size : next_object made ≡ added shape.constructs (suc (suc (next_object h)))
    size = held_size shape name env h

    more : suc (suc (next_object h)) ≤ added shape.constructs (suc (suc (next_object h)))
    more = below_added shape.constructs (suc (suc (next_object h)))

    function_low : number_of place.FunctionPrototype < built_in_count
    function_low = omega arith

    object_low : number_of place.ObjectPrototype < built_in_count
    object_low = omega arith

-- The heap that stands when a program begins

opening_passes : references_pass (λ o. nat_lt o built_in_count) realm.opening ≡ true
unfolding realm.opening realm.each realm.freeze_all realm.rows realm.named_errors realm.named_objects
opening_passes = refl

pub opening_closed : OpeningIsClosed
opening_closed = record {
  built_in = omega (arith, opening-size);
  references = subst (λ n. references_pass (λ o. nat_lt o n) realm.opening ≡ true) (sym opening-size) opening_passes;
}
