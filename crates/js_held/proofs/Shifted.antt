-- A run in which a function is held for its name goes beside one in which the function is made by that name alone.
use Rattle.std.proofs.Common.{ℕ, suc, ◌<◌, Bool, true, false, List, ◌∷◌, length, Some, refl, ◌∙◌, subst, ⊎_elim, arith, if◌then◌else◌}
use Rattle.js_value.specs.declared.built_in.Place.TheVariants as place
use Rattle.js_value.specs.State.{Plain, Written, Heap}
use Rattle.js_value.specs.Objects.{next_object}
use Rattle.js_value.specs.Realm.{number_of}
use Rattle.js_value.specs.Functions.{with_constructor, function_made, constructor_made}
use Rattle.js_meaning.specs.Scopes.{Shape, closed}
use Rattle.js_meaning.specs.Shapes.{holder_made}
use Rattle.js_two_runs.specs.Pairs.{Pairs, Paired, here, there}
use Rattle.js_two_runs.specs.TwoRuns.{plain, refs, both}
use Rattle.js_two_runs.specs.TwoHeaps.{plains, functions, AlikeHeaps, By}
use Rattle.js_two_runs.proofs.TwoHeapsLater.{heaps-grown_alone, heaps-written_alone, define-alike}
use Rattle.js_two_runs.proofs.TwoOperationsLemmas.{new_objects-alike}
use Rattle.js_two_runs.proofs.PairsLemmas.{newest}
use Rattle.js_lockstep.proofs.Holder.{then_keeps, new_keeps, define_keeps, closed_keeps, less}
use Rattle.js_held.proofs.Unreferenced.{made_size, holder_size}
use Rattle.js_held.specs.Shifted.{closure_pairs, HoldShifts}

module _ (test : ℕ → ℕ → ℕ → ℕ → Bool) (shape : Shape) (name : List ℕ) (env around : ℕ) where
  abbrev F : ℕ → ℕ → ℕ → ℕ → Type 0
  F = By test

  -- the closure is made in both
  made_alike : (pairs : Pairs) (h k : Heap) → AlikeHeaps pairs F h k → F shape.number env shape.number around →
      AlikeHeaps ((next_object h, next_object k) ∷ pairs) F (function_made shape.number env name shape.length h) (function_made shape.number around name shape.length k)
  made_alike pairs h k x r =
      let ps = (next_object h, next_object k) ∷ pairs in
      let m = new_objects-alike pairs F h k (Written shape.number env) (Written shape.number around) _ _ x (functions shape.number env shape.number around r) (both _ _ (x.built_in (number_of place.FunctionPrototype) (omega arith) (λ e. omega arith))) in
      let m2 = define-alike ps F _ _ (next_object h) (next_object k) m here _ _ (record { key = refl; value = plain _; enumerable = refl; writable = refl }) in
      define-alike ps F _ _ (next_object h) (next_object k) m2 here _ _ (record { key = refl; value = plain _; enumerable = refl; writable = refl })

  -- and the object of its `prototype`
  constructed_alike : (pairs : Pairs) (h k : Heap) (f g : ℕ) → AlikeHeaps pairs F h k → Paired pairs f g → AlikeHeaps ((next_object h, next_object k) ∷ pairs) F (constructor_made f h) (constructor_made g k)
  constructed_alike pairs h k f g x i =
      let ps = (next_object h, next_object k) ∷ pairs in
      let m = new_objects-alike pairs F h k Plain Plain _ _ x plains (both _ _ (x.built_in (number_of place.ObjectPrototype) (omega arith) (λ e. omega arith))) in
      let m2 = define-alike ps F _ _ (next_object h) (next_object k) m here _ _ (record { key = refl; value = refs _ _ (there i); enumerable = refl; writable = refl }) in
      define-alike ps F _ _ f g m2 (there i) _ _ (record { key = refl; value = refs _ _ here; enumerable = refl; writable = refl })

  abbrev with_prototype : Bool → Pairs → ℕ → ℕ → Pairs
  with_prototype constructs pairs f g = if constructs then (suc f, suc g) ∷ (f, g) ∷ pairs else (f, g) ∷ pairs

  closed_alike : (pairs : Pairs) (h k : Heap) → AlikeHeaps pairs F h k → F shape.number env shape.number around →
      AlikeHeaps (with_prototype shape.constructs pairs (next_object h) (next_object k)) F (closed shape name env h) (closed shape name around k)
  closed_alike pairs h k x r = by shape.constructs
    where
      m : AlikeHeaps ((next_object h, next_object k) ∷ pairs) F (function_made shape.number env name shape.length h) (function_made shape.number around name shape.length k)
      m = made_alike pairs h k x r

      by : (c : Bool) → AlikeHeaps (with_prototype c pairs (next_object h) (next_object k)) F
          (record h { objects = (with_constructor c (next_object h) (function_made shape.number env name shape.length h)).objects })
          (record k { objects = (with_constructor c (next_object k) (function_made shape.number around name shape.length k)).objects })
      by false = m
      by true =
          subst (λ n. AlikeHeaps ((n, suc (next_object k)) ∷ (next_object h, next_object k) ∷ pairs) F (constructor_made (next_object h) (function_made shape.number env name shape.length h)) (constructor_made (next_object k) (function_made shape.number around name shape.length k))) (made_size shape.number env name shape.length h)
          (subst (λ n. AlikeHeaps ((next_object (function_made shape.number env name shape.length h), n) ∷ (next_object h, next_object k) ∷ pairs) F (constructor_made (next_object h) (function_made shape.number env name shape.length h)) (constructor_made (next_object k) (function_made shape.number around name shape.length k))) (made_size shape.number around name shape.length k)
          (constructed_alike ((next_object h, next_object k) ∷ pairs) _ _ (next_object h) (next_object k) m here))

-- the pairs of before are below what is made
apart_from : (constructs : Bool) (pairs : Pairs) (f g q : ℕ) → q < g → ((o : ℕ) → Paired pairs o q → ⊥) → (o : ℕ) → Paired (if constructs then (suc f, suc g) ∷ (f, g) ∷ pairs else (f, g) ∷ pairs) o q → ⊥
apart_from false pairs f g q lt apart o i = ⊎_elim (λ e. less lt e.1) (apart o) (newest i)
apart_from true pairs f g q lt apart o i =
    ⊎_elim (λ e. omega (arith, lt, e.1)) (λ j. ⊎_elim (λ e. less lt e.1) (apart o) (newest j)) (newest i)

pub hold_shifts : HoldShifts
hold_shifts pairs test shape name env around h k x r = record {
  heaps = heaps-written_alone (closure_pairs shape pairs h k) (By test) (closed shape name env h) (closed shape name around (holder_made k)) (next_object k) _
      (closed_alike test shape name env around pairs h (holder_made k) (heaps-grown_alone pairs (By test) h k _ x) r) apart;
  closures = refs _ _ (first shape.constructs);
  apart = apart;
  before = λ o lt. (
      let a = new_keeps Plain (Some (number_of place.ObjectPrototype)) k o lt in
      let b = then_keeps a (closed_keeps shape name around (holder_made k) o a.bound) in
      (define_keeps (next_object k) _ (closed shape name around (holder_made k)) o (less lt) b.bound).same ∙ b.same);
  environments = refl;
}
  where
    beside : (o : ℕ) → Paired pairs o (next_object k) → ⊥
    beside o i = let l = x.objects.right_bound o (next_object k) i in omega (arith, l)

    apart : (o : ℕ) → Paired (closure_pairs shape pairs h k) o (next_object k) → ⊥
    apart = apart_from shape.constructs pairs (next_object h) (next_object (holder_made k)) (next_object k) (let l = holder_size k in omega (arith, l)) beside

    first : (c : Bool) → Paired (if c then (suc (next_object h), suc (next_object (holder_made k))) ∷ (next_object h, next_object (holder_made k)) ∷ pairs else (next_object h, next_object (holder_made k)) ∷ pairs) (next_object h) (next_object (holder_made k))
    first true = there here
    first false = here
